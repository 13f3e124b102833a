use Rattle.std.proofs.Common.{refl}
use Rattle.vmx_link.specs.Ends.{note_view}
use Rattle.vmx_replay_settled.proofs.Link.{below, has_other, noted, view_same}
use Rattle.vmx_replay_settled.proofs.links.note_at.Goals as goal

pub at_mut-guest-requires : goal.at_mut-guest-requires
at_mut-guest-requires g c = record { within = below (λ x. x.device) c.args.guests.now c.args.port c.requires.link.device c.requires.link.at }

pub note_link-note-requires-clause-other : goal.note_link-note-requires-clause-other
note_link-note-requires-clause-other g c κs within =
    let gs = c.args.guests.now in let port = c.args.port in let lt = below (λ x. x.device) gs port c.requires.link.device c.requires.link.at in
    has_other (λ x. x.device) gs port c.args.side c.args.other c.at_mut-guest.result.now lt c.at_mut-guest.ensures.value c.requires.link

pub returns : goal.returns
returns g c =
    let gs = c.args.guests.now in let port = c.args.port in let x = c.at_mut-guest.result.now in let is = c.at_mut-guest.ensures.value in
    let lt = below (λ x. x.device) gs port c.requires.link.device c.requires.link.at in let y = record x { device = c.note_link-note.new.self } in record {
      notes = noted (λ x. x.device) gs port c.args.side c.args.other x lt is y (note_view c.note_link-note.result) c.note_link-note.ensures.notes c.keep.ensures.keeps.device;
      drivers = view_same (λ x. x.driver) gs port x lt is y refl;
    }
