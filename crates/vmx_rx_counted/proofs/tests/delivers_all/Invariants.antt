use Rattle.std.proofs.Common.{◌≡◌, ◌≤◌, ◌+◌, ◌*◌, length}
use Rattle.vmx_ends.specs.Receive.{consumed1, consumed2}
use Rattle.vmx_rx_counted.specs.Ends.{device_view}
use Rattle.vmx_rx_counted.proofs.tests.delivers_all.Given as goal

abbrev pub invariant-loop-place : goal.invariant-loop-place
invariant-loop-place l = record {
  key : (device_view l.device).key ≡ (device_view l.initial.device).key;
  delivered : length (device_view l.device).delivered ≤ 1000 + l.place;
  refused : length (device_view l.device).refused ≤ 1000 + l.place;
  one : consumed1 (device_view l.device) ≤ 1000 + 16 * l.place;
  two : consumed2 (device_view l.device) ≤ 1000 + 16 * l.place;
}
