use Rattle.std.proofs.Common.{rules, length, refl, ap, arith}
use Rattle.vmx_ends.specs.Receive.{used, pieces_of, took1, took2}
use Rattle.vmx_ring_samples.proofs.rx.passes.Goals as goal

pub loop-number-init : goal.loop-number-init
loop-number-init c = let s = c.requires.driver in let d = c.requires.device in let none = ap length s.0 in let zero = ap (used pieces_of) s.0 in
    let a = ap length d.0 in let b = ap length d.1 in let one = ap (used took1) d.0 in let two = ap (used took2) d.0 in
    record { keys = (refl, refl); made = refl; full = s.1; delivered = omega arith; refused = omega arith; one = omega arith; two = omega arith; received = omega arith; read = omega arith; room = search rules }
