use Rattle.std.proofs.Common.{length, sym, ap, ◌∙◌, arith}
use Rattle.vmx_ends.specs.Transmit.{descriptors, found_in}
use Rattle.vmx_txq.specs.Ends.{driver_view}
use Rattle.vmx_queue_bench.proofs.tx_queue.one_by_one.Goals as goal

pub loop-done-init : goal.loop-done-init
loop-done-init c = let s = c.requires.driver in let d = c.requires.device in let none = ap length s.0 in let zero = ap (descriptors (driver_view c.args.driver).made) s.0 in let r = s.1 in
    let took = ap length d.0 in let found = ap found_in d.0 in
    record { idle = d.1 ∙ sym took; sent = omega arith; posted_most = omega arith; reaped = omega arith; taken = omega arith; found = omega arith; room = c.requires.room }
