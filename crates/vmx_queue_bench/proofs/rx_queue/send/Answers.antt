use Rattle.std.proofs.Common.{length, ap, arith}
use Rattle.vmx_ends.specs.Receive.{used, took1, took2}
use Rattle.vmx_queue_bench.proofs.rx_queue.send.Goals as goal

pub loop-tries-init : goal.loop-tries-init
loop-tries-init c = let f = c.requires.fresh in let a = ap length f.0 in let b = ap length f.1 in let one = ap (used took1) f.0 in let two = ap (used took2) f.0 in
    record { delivered = omega arith; refused = omega arith; one = omega arith; two = omega arith; number = omega arith }
