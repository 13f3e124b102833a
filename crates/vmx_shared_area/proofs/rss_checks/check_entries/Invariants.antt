use Rattle.std.proofs.Common.{◌≡◌, ◌-◌}
use Rattle.vmx_shared_area.specs.Checks.{first_fault, entry_fault}
use Rattle.vmx_shared_area.proofs.rss_checks.check_entries.Given as goal
use Rattle.vmx_shared_area.specs.declared.offsets.TheConstants.{TABLE_SIZE}

abbrev pub invariant-loop-i : goal.invariant-loop-i
invariant-loop-i l = first_fault (entry_fault l.bytes l.rx_queues) l.i (TABLE_SIZE - l.i) ≡ first_fault (entry_fault l.bytes l.rx_queues) 0 TABLE_SIZE
