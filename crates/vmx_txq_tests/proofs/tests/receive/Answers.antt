use Rattle.std.proofs.Common.{length, refl, sym, ap, ◌∙◌, arith}
use Rattle.vmx_ends.specs.Transmit.{found_in}
use Rattle.vmx_txq_tests.proofs.tests.receive.Goals as goal

pub loop-tries-init : goal.loop-tries-init
loop-tries-init c = let f = c.requires.fresh in let none = ap length f.0 in let zero = ap found_in f.0 in let r = f.1 in
    record { kept = (refl, refl, refl, refl); idle = f.1 ∙ sym none; taken = omega arith; found = omega arith; number = omega arith; same = omega arith; room = c.requires.room }
