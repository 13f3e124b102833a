use Rattle.std.proofs.Common.{◌≡◌, ◌≤◌, ◌+◌, drop}
use Rattle.vmx_ends.specs.Receive.{in_ring}
use Rattle.vmx_serial_queues.proofs.rx.in_ring.Given as goal

abbrev pub invariant-loop-spot : goal.invariant-loop-spot
invariant-loop-spot l = record {
  pieces : l.pieces + in_ring l.ring (drop l.spot-index l.chain) ≡ in_ring l.ring l.chain;
  few : l.pieces ≤ l.spot-index;
}
