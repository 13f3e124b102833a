use Rattle.std.proofs.Common.{length, ap, arith}
use Rattle.vmx_ends.specs.Receive.{used, pieces_of}
use Rattle.vmx_queue_bench.proofs.rx_queue.receive.Goals as goal

pub loop-tries-init : goal.loop-tries-init
loop-tries-init c = let f = c.requires.fresh in let a = ap length f.0 in let b = ap (used pieces_of) f.0 in
    record { full = f.1; received = omega arith; read = omega arith; number = omega arith; room = c.requires.room }
