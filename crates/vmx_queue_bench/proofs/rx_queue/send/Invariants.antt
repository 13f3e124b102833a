use Rattle.std.proofs.Common.{◌≤◌, ◌*◌, length}
use Rattle.vmx_ends.specs.Receive.{consumed1, consumed2}
use Rattle.vmx_rxq.specs.Ends.{device_view}
use Rattle.vmx_queue_bench.proofs.rx_queue.send.Given as goal

abbrev pub invariant-loop-tries : goal.invariant-loop-tries
invariant-loop-tries l = record {
  delivered : length (device_view l.device).delivered ≤ l.tries;
  refused : length (device_view l.device).refused ≤ l.tries;
  one : consumed1 (device_view l.device) ≤ 16 * l.tries;
  two : consumed2 (device_view l.device) ≤ 16 * l.tries;
  number : l.number ≤ l.count;
}
