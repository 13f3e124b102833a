use Rattle.std.proofs.Common.{◌≡◌, ◌++◌, ℕ, List, length, map}
use Rattle.vmx_ends.specs.Receive.{RxDriverView, RxDeviceView}
use Rattle.vmx_ends.specs.ReceiveClauses.{made_rx}
use Rattle.vmx_ends.specs.Queues.{queue_name, AreNewRxQueues}
use Rattle.vmx_ends.proofs.rx_queues.make_rx_queues.Given as goal

abbrev pub invariant-loop-queue : goal.invariant-loop-queue
invariant-loop-queue g l = let made = λ (q : ℕ). made_rx (queue_name l.fn.guest l.fn.activation q) l.fn.size1 l.fn.size2 l.fn.bodies l.fn.count l.fn.with_data in record {
  count : length l.drivers ≡ l.queue;
  goes_on : (ds : List RxDriverView) (es : List RxDeviceView) → AreNewRxQueues made l.queue ds es → AreNewRxQueues made 0 (map g.F.RxDriver.RxDriver.view l.drivers ++ ds) (map g.F.RxDevice.RxDevice.view l.devices ++ es);
}
