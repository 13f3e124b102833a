use Rattle.std.proofs.Common.{◌≡◌, ◌++◌, map}
use Rattle.vmx_model.specs.Lists.{upto}
use Rattle.vmx_model.specs.Serial.{new_rx}
use Rattle.vmx_serial_queues.specs.Queues.{rx_core}
use Rattle.vmx_serial_queues.proofs.queues.make_rx.Given as goal

abbrev pub invariant-loop-queue : goal.invariant-loop-queue
invariant-loop-queue l = map rx_core l.queues ≡ map rx_core l.fn.queues ++ map (new_rx l.port l.plan l.activation) (upto 0 l.queue)
