use Rattle.std.proofs.Common.{◌≡◌, ◌+◌, ◌*◌, ◌++◌, take}
use Rattle.vmx_shared_area.specs.Layout.{queues, rx_queue}
use Rattle.vmx_shared_area.proofs.writing.write_rx_queues.Given as goal
use Rattle.vmx_shared_area.specs.declared.offsets.TheConstants.{DESCRIPTORS, DESCRIPTOR_SIZE}

abbrev pub invariant-loop-q : goal.invariant-loop-q
invariant-loop-q l =
    take (DESCRIPTORS + DESCRIPTOR_SIZE * l.setup.tx_queues + DESCRIPTOR_SIZE * l.q) l.bytes ≡ take (DESCRIPTORS + DESCRIPTOR_SIZE * l.setup.tx_queues) l.fn.bytes ++ queues (rx_queue l.setup) l.q
