use Rattle.std.proofs.Common.{◌∙◌, ap, sym}
use Rattle.vmx_serial_queues.specs.Walks.{stand_of, outcome_of}
use Rattle.vmx_serial_queues.proofs.Walks.{takes_few}
use Rattle.vmx_serial_queues.proofs.rx.RxQueue.deliver.Goals as goal

pub invariant_of-delivered : goal.invariant_of-delivered
invariant_of-delivered c = let a = c.args in
    record { few = takes_few a.self.now _ c.in-Takes.passed (stand_of c.in-Takes.end) c.requires.bytes (ap outcome_of (sym c.in-Takes.is) ∙ c.in_ok-passed.ensures.outcome) }
