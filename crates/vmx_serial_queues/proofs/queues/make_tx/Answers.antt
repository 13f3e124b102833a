use Rattle.std.proofs.Common.{map}
use Rattle.vmx_model.specs.Serial.{new_tx}
use Rattle.vmx_serial_queues.specs.Queues.{tx_core}
use Rattle.vmx_serial_queues.proofs.Made.{made_next}
use Rattle.vmx_serial_queues.proofs.queues.make_tx.Goals as goal

pub loop-queue-preserved : goal.loop-queue-preserved
loop-queue-preserved c = let a = c.args in made_next tx_core (new_tx a.port a.plan.now a.activation) (map tx_core a.queues.now) c.loop-queue.queues c.push.new.self c.tx_of.result c.loop-queue.queue c.loop-queue.invariant c.in_ok-push.ensures.ok c.tx_of.ensures.made
