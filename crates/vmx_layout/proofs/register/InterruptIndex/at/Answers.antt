use Rattle.std.proofs.Common.{Some, ap, arith}
use Rattle.vmx_layout.specs.RegisterLaws.{same_interrupt}
use Rattle.vmx_layout.proofs.register.InterruptIndex.at.Goals as goal

pub returns-then-number-lt-MAX_INTERRUPTS-clause-unique : goal.returns-then-number-lt-MAX_INTERRUPTS-clause-unique
returns-then-number-lt-MAX_INTERRUPTS-clause-unique c i e = ap Some (same_interrupt _ i (omega arith))
