use Rattle.std.proofs.Common.{◌≡◌, ◌+◌, ◌≤◌, [], ◌∷◌, ◌++◌, length, vec_capacity}
use Rattle.vmx_tx_ring.specs.Pieces.{Closes, ending, joined}
use Rattle.vmx_tx_ring.specs.Seats.{device_seen}
use Rattle.vmx_tx_ring.proofs.reader.TxReader.finish.Given as goal

abbrev pub invariant-loop : goal.invariant-loop
invariant-loop g l = record {
  key : l.self.seat.table_id ≡ l.initial.self.seat.table_id;
  made : l.self.made ≡ l.initial.self.made;
  seen : device_seen [] l.self.seat.me.0 ≡ device_seen [] l.initial.self.seat.me.0;
  closes : Closes (ending l.last ∷ l.self.seat.me.0.device.at.ahead);
  few : length l.self.seat.me.0.device.at.ahead + l.counter ≤ 16;
  whole : l.into.items ++ joined l.self.seat.me.0.device.at.ahead ≡ l.initial.into.items ++ joined l.initial.self.seat.me.0.device.at.ahead;
  room : vec_capacity l.initial.into ≤ vec_capacity l.into;
  small : l.self.read ≤ l.initial.self.read + l.counter;
}
