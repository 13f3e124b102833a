use Rattle.std.proofs.Common.{◌∙◌, arith}
use Rattle.std.proofs.lemmas.Result.{IfOk-weaker}
use Rattle.vmx_ends.specs.ReceiveClauses.{made_of}
use Rattle.vmx_serial_queues.specs.Walks.{stand_of}
use Rattle.vmx_serial_queues.proofs.Walks.{goes_on}
use Rattle.vmx_serial_queues.proofs.walk.+goes.Goals as goal

pub returns : goal.returns
returns t c = let a = c.args in
    record { goes = IfOk-weaker c.goes.result _ _ (λ s e. e ∙ goes_on (made_of a.shape.now) a.posted1 a.posted2 a.n (stand_of a.stand) (stand_of c.in_ok-then.then) (omega arith) c.in_ok-then.ensures.further (omega arith)) c.goes.ensures.goes }
