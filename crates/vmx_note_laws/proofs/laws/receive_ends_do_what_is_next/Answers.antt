use Rattle.vmx_note_laws.proofs.Queues.{receives_next, none_left_rx, delivers_as_core, refuses_as_core}
use Rattle.vmx_note_laws.proofs.laws.receive_ends_do_what_is_next.Goals as goal

pub returns : goal.returns
returns c = record { none = none_left_rx; receives = receives_next; delivers = delivers_as_core; refuses = refuses_as_core }
