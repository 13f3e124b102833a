use Rattle.std.proofs.Common.{length, ap, arith}
use Rattle.vmx_ends.specs.Transmit.{descriptors}
use Rattle.vmx_txq.specs.Ends.{driver_view}
use Rattle.vmx_queue_bench.proofs.tx_queue.send.Goals as goal

pub loop-tries-init : goal.loop-tries-init
loop-tries-init c = let f = c.requires.fresh in let none = ap length f.0 in let zero = ap (descriptors (driver_view c.args.driver).made) f.0 in let r = f.1 in
    record { sent = omega arith; posted_most = omega arith; reaped = omega arith; number = omega arith }
