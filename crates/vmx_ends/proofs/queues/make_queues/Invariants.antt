use Rattle.std.proofs.Common.{◌≡◌, ◌++◌, List, length, map}
use Rattle.vmx_ends.specs.Transmit.{TxDriverView, TxDeviceView}
use Rattle.vmx_ends.specs.Queues.{queue_name, made_tx, AreNewQueues}
use Rattle.vmx_ends.proofs.queues.make_queues.Given as goal

abbrev pub invariant-loop-queue : goal.invariant-loop-queue
invariant-loop-queue g l = record {
  count : length l.drivers ≡ l.queue;
  goes_on : (ds : List TxDriverView) (es : List TxDeviceView) → AreNewQueues (λ q. made_tx (queue_name l.fn.guest l.fn.activation q) l.fn.size l.fn.piece l.fn.with_data) l.queue ds es → AreNewQueues (λ q. made_tx (queue_name l.fn.guest l.fn.activation q) l.fn.size l.fn.piece l.fn.with_data) 0 (map g.F.TxDriver.TxDriver.view l.drivers ++ ds) (map g.F.TxDevice.TxDevice.view l.devices ++ es);
}
