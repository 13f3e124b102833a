use Rattle.std.proofs.Common.{◌≡◌, ◌+◌, ◌-◌, take, drop}
use Rattle.vmx_ends.specs.Frames.{sent_as}
use Rattle.vmx_tx_ring.specs.Pieces.{first_piece, first_size, cut, TagFits}
use Rattle.vmx_tx_ring.proofs.Driving.{staging}
use Rattle.vmx_tx_ring.proofs.writer.TxWriter.send.Given as goal

abbrev pub invariant-loop-place : goal.invariant-loop-place
invariant-loop-place g l = record {
  key : l.self.seat.table_id ≡ l.fn.self.seat.table_id;
  staged : l.self.seat.me.0 ≡ staging l.fn.self.seat.me.0 (first_piece l.fn.self.seat.me.0.made (l.count - 1) (sent_as l.frame l.mark)) (take l.place (cut l.fn.self.seat.me.0.made.piece (l.count - 1) (drop (first_size l.fn.self.seat.me.0.made) l.frame)));
  made : l.self.made ≡ l.fn.self.made;
  returned : l.self.returned ≡ l.fn.self.returned;
  posted : l.self.posted ≡ l.fn.self.posted + 1 + l.place;
  place : l.self.place ≡ l.fn.self.place;
  tag : TagFits l.mark.tci;
}
