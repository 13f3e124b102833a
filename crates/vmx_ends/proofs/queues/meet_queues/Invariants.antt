use Rattle.std.proofs.Common.{◌≡◌, ◌+◌, ◌++◌, ◌≤◌, List, length, map}
use Rattle.vmx_ends.specs.Transmit.{TxView}
use Rattle.vmx_ends.specs.Queues.{MayMeet, AreFactsOf, Met}
use Rattle.vmx_ends.proofs.queues.meet_queues.Given as goal

abbrev pub invariant-loop-driver : goal.invariant-loop-driver
invariant-loop-driver g l = let d = g.F.TxDriver.TxDriver.view in let e = g.F.TxDevice.TxDevice.view in let f = g.F.TxFacts.TxFacts.view in record {
  meet : MayMeet (map d l.drivers) (map e l.devices);
  room : length l.drivers ≤ l.facts.1;
  left : l.facts.1 + length l.fn.drivers ≡ l.fn.facts.1 + length l.drivers;
  goes_on : (fs : List TxView) → AreFactsOf fs (map d l.drivers) (map e l.devices) → Met (map f l.fn.facts.0) (map f l.facts.0 ++ fs) (map d l.fn.drivers) (map e l.fn.devices);
}

abbrev pub decreases-loop-driver : goal.decreases-loop-driver
decreases-loop-driver g l = length l.drivers
