use Rattle.vmx_note_laws.proofs.Queues.{takes_next, none_left_tx, reaps_all}
use Rattle.vmx_note_laws.proofs.laws.transmit_ends_do_what_is_next.Goals as goal

pub returns : goal.returns
returns c = record { none = none_left_tx; takes = takes_next; reaps = reaps_all }
