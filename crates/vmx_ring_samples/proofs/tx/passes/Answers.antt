use Rattle.std.proofs.Common.{rules, length, refl, sym, ap, ◌∙◌, arith}
use Rattle.vmx_ends.specs.Transmit.{descriptors, found_in}
use Rattle.vmx_txq.specs.Ends.{driver_view}
use Rattle.vmx_ring_samples.proofs.tx.passes.Goals as goal

pub loop-number-init : goal.loop-number-init
loop-number-init c = let s = c.requires.driver in let d = c.requires.device in let none = ap length s.0 in let zero = ap (descriptors (driver_view c.args.driver.now).made) s.0 in let r = s.1 in
    let took = ap length d.0 in let found = ap found_in d.0 in
    record { keys = (refl, refl); made = refl; idle = d.1 ∙ sym took; sent = omega arith; posted_most = omega arith; reaped = omega arith; taken = omega arith; found = omega arith; room = search rules }
