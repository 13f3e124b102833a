use Rattle.vmx_regs.specs.Masks.{AreFirst}
use Rattle.vmx_regs.proofs.ends.life.first_words.Given as goal

abbrev pub invariant-loop-i : goal.invariant-loop-i
invariant-loop-i l = AreFirst l.interrupts l.i l.words.items
