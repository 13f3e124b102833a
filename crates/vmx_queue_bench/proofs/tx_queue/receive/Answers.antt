use Rattle.std.proofs.Common.{length, sym, ap, ◌∙◌, arith}
use Rattle.vmx_ends.specs.Transmit.{found_in}
use Rattle.vmx_queue_bench.proofs.tx_queue.receive.Goals as goal

pub loop-tries-init : goal.loop-tries-init
loop-tries-init c = let f = c.requires.fresh in let none = ap length f.0 in let zero = ap found_in f.0 in
    record { idle = f.1 ∙ sym none; taken = omega arith; found = omega arith; number = omega arith; room = c.requires.room }
