use Rattle.vmx_note_laws.proofs.Links.{pulls_next, none_left_link, full_is_full}
use Rattle.vmx_note_laws.proofs.laws.link_ends_do_what_is_next.Goals as goal

pub returns : goal.returns
returns c = record { none = none_left_link; pulls = pulls_next; full = full_is_full }
