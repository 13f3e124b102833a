use Rattle.std.proofs.Common.{◌≡◌, ◌+◌, ◌*◌, ◌++◌, take}
use Rattle.vmx_shared_area.specs.Layout.{mac_bytes}
use Rattle.vmx_shared_area.proofs.writing.write_macs.Given as goal
use Rattle.vmx_shared_area.specs.declared.offsets.TheConstants.{MAC_SIZE, MACS}

abbrev pub invariant-loop-i : goal.invariant-loop-i
invariant-loop-i l = take (MACS + MAC_SIZE * l.i) l.bytes ≡ take MACS l.fn.bytes ++ mac_bytes (take l.i l.table.macs)
