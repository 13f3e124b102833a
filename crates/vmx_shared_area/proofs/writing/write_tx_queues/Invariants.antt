use Rattle.std.proofs.Common.{◌≡◌, ◌+◌, ◌*◌, ◌++◌, take}
use Rattle.vmx_shared_area.specs.Layout.{queues, tx_queue}
use Rattle.vmx_shared_area.proofs.writing.write_tx_queues.Given as goal
use Rattle.vmx_shared_area.specs.declared.offsets.TheConstants.{DESCRIPTORS, DESCRIPTOR_SIZE}

abbrev pub invariant-loop-q : goal.invariant-loop-q
invariant-loop-q l = take (DESCRIPTORS + DESCRIPTOR_SIZE * l.q) l.bytes ≡ take DESCRIPTORS l.fn.bytes ++ queues (tx_queue l.setup) l.q
