use Rattle.std.proofs.Common.{◌≡◌, ◌+◌, ◌*◌, add-one, append_assoc, refl, arith}
use Rattle.vmx_shared_area.proofs.writing.write_tx_queues.Goals as goal
use Rattle.vmx_shared_area.specs.declared.offsets.TheConstants.{DESCRIPTORS, DESCRIPTOR_SIZE}

pub loop-q-preserved : goal.loop-q-preserved
loop-q-preserved c =
    let at : DESCRIPTORS + DESCRIPTOR_SIZE * (c.loop-q.q + 1) ≡ DESCRIPTORS + DESCRIPTOR_SIZE * c.loop-q.q + DESCRIPTOR_SIZE = omega arith in
    rw (at, add-one, c.write_tx_queue.ensures.written, c.loop-q.invariant, append_assoc) refl
