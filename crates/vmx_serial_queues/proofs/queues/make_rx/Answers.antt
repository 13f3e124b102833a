use Rattle.std.proofs.Common.{map}
use Rattle.vmx_model.specs.Serial.{new_rx}
use Rattle.vmx_serial_queues.specs.Queues.{rx_core}
use Rattle.vmx_serial_queues.proofs.Made.{made_next}
use Rattle.vmx_serial_queues.proofs.queues.make_rx.Goals as goal

pub loop-queue-preserved : goal.loop-queue-preserved
loop-queue-preserved c = let a = c.args in made_next rx_core (new_rx a.port a.plan.now a.activation) (map rx_core a.queues.now) c.loop-queue.queues c.push.new.self c.rx_of.result c.loop-queue.queue c.loop-queue.invariant c.in_ok-push.ensures.ok c.rx_of.ensures.made
