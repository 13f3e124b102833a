use Rattle.std.proofs.Common.{Some, ap, arith}
use Rattle.vmx_layout.specs.RegisterLaws.{same_queue}
use Rattle.vmx_layout.proofs.register.QueueIndex.at.Goals as goal

pub returns-then-number-lt-MAX_QUEUES-clause-unique : goal.returns-then-number-lt-MAX_QUEUES-clause-unique
returns-then-number-lt-MAX_QUEUES-clause-unique c q e = ap Some (same_queue _ q (omega arith))
