use Rattle.std.proofs.Common.{◌≡◌, ◌<◌, length}
use Rattle.vmx_ends.specs.declared.frames.Sent.{Sent}
use Rattle.vmx_ends.specs.Transmit.{need}
use Rattle.vmx_tx_counted.specs.Tells.{ComesNext}
use Rattle.vmx_tx_counted.proofs.reaping.descriptors_of.Given as goal

abbrev pub invariant-loop-before : goal.invariant-loop-before
invariant-loop-before l = record {
  key : l.seat.table_id ≡ l.initial.seat.table_id;
  me : l.seat.me ≡ l.initial.seat.me;
  within : (s : Sent) → ComesNext l.initial.seat.me.0 s → l.before < need l.initial.seat.me.0.made (length s.frame);
}
