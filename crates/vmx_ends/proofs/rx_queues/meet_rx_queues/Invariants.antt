use Rattle.std.proofs.Common.{◌≡◌, ◌+◌, ◌++◌, ◌≤◌, List, length, map}
use Rattle.vmx_ends.specs.Receive.{RxView}
use Rattle.vmx_ends.specs.Queues.{MayMeetRx, AreRxFactsOf, MetRx}
use Rattle.vmx_ends.proofs.rx_queues.meet_rx_queues.Given as goal

abbrev pub invariant-loop-driver : goal.invariant-loop-driver
invariant-loop-driver g l = let d = g.F.RxDriver.RxDriver.view in let e = g.F.RxDevice.RxDevice.view in let f = g.F.RxFacts.RxFacts.view in record {
  meet : MayMeetRx (map d l.drivers) (map e l.devices);
  room : length l.drivers ≤ l.facts.1;
  left : l.facts.1 + length l.fn.drivers ≡ l.fn.facts.1 + length l.drivers;
  goes_on : (fs : List RxView) → AreRxFactsOf fs (map d l.drivers) (map e l.devices) → MetRx (map f l.fn.facts.0) (map f l.facts.0 ++ fs) (map d l.fn.drivers) (map e l.fn.devices);
}

abbrev pub decreases-loop-driver : goal.decreases-loop-driver
decreases-loop-driver g l = length l.drivers
