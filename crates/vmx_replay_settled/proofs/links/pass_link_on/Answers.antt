use Rattle.std.proofs.Common.{◌∙◌}
use Rattle.vmx_replay_settled.proofs.Link.{sender_has, receiver_fits, receiver_has, sender_fits, passed_on}
use Rattle.vmx_replay_settled.proofs.links.pass_link_on.Goals as goal

pub note_at-pushed-requires-clause-link : goal.note_at-pushed-requires-clause-link
note_at-pushed-requires-clause-link g c κs within = sender_has _ _ _ c.requires.link

pub hear_at-requires-clause-fits : goal.hear_at-requires-clause-fits
hear_at-requires-clause-fits g c κs within = receiver_fits _ _ _ c.requires.link _ _ c.note_at-pushed.ensures.notes

pub note_at-pulled-requires-clause-link : goal.note_at-pulled-requires-clause-link
note_at-pulled-requires-clause-link g c κs within = receiver_has _ _ _ c.requires.link _ _ c.note_at-pushed.ensures.notes _ c.hear_at.ensures.hears

pub hear_at-requires-2-clause-fits : goal.hear_at-requires-2-clause-fits
hear_at-requires-2-clause-fits g c κs within = sender_fits _ _ _ c.requires.link _ _ c.note_at-pushed.ensures.notes _ c.hear_at.ensures.hears _ _ c.note_at-pulled.ensures.notes

pub returns : goal.returns
returns g c = record {
  passed = passed_on _ _ _ c.requires.link _ _ c.note_at-pushed.ensures.notes _ c.hear_at.ensures.hears _ _ c.note_at-pulled.ensures.notes _ c.hear_at-2.ensures.hears;
  drivers = c.hear_at-2.ensures.drivers ∙ c.note_at-pulled.ensures.drivers ∙ c.hear_at.ensures.drivers ∙ c.note_at-pushed.ensures.drivers;
}
