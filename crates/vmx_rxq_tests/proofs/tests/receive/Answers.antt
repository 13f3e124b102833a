use Rattle.std.proofs.Common.{length, refl, ap, arith}
use Rattle.vmx_ends.specs.Receive.{used, pieces_of}
use Rattle.vmx_rxq_tests.proofs.tests.receive.Goals as goal

pub loop-tries-init : goal.loop-tries-init
loop-tries-init c = let f = c.requires.fresh in let a = ap length f.0 in let b = ap (used pieces_of) f.0 in
    record { key = refl; given = refl; heard = refl; full = f.1; received = omega arith; read = omega arith; number = omega arith; same = omega arith; room = c.requires.room }
