use Rattle.std.proofs.Common.{◌≡◌, ◌++◌, map}
use Rattle.vmx_model.specs.Lists.{upto}
use Rattle.vmx_model.specs.Serial.{new_tx}
use Rattle.vmx_serial_queues.specs.Queues.{tx_core}
use Rattle.vmx_serial_queues.proofs.queues.make_tx.Given as goal

abbrev pub invariant-loop-queue : goal.invariant-loop-queue
invariant-loop-queue l = map tx_core l.queues ≡ map tx_core l.fn.queues ++ map (new_tx l.port l.plan l.activation) (upto 0 l.queue)
