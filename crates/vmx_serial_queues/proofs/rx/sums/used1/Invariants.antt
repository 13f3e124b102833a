use Rattle.std.proofs.Common.{◌≡◌, ◌≤◌, ◌*◌, map, take}
use Rattle.vmx_ends.specs.Receive.{used, took1}
use Rattle.vmx_serial_queues.specs.Queues.{delivery_of}
use Rattle.vmx_serial_queues.proofs.rx.sums.used1.Given as goal

abbrev pub invariant-loop-frame : goal.invariant-loop-frame
invariant-loop-frame l = record {
  sum : l.sum ≡ used took1 (map delivery_of (take l.frame-index l.frames));
  few : l.sum ≤ 4099 * l.frame-index;
}
