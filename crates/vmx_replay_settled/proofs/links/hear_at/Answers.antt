use Rattle.std.proofs.Common.{refl}
use Rattle.vmx_link.specs.Ends.{note_view}
use Rattle.vmx_replay_settled.proofs.Link.{below, fit_other, fit_note, heard, view_same}
use Rattle.vmx_replay_settled.proofs.links.hear_at.Goals as goal

pub at_mut-guest-requires : goal.at_mut-guest-requires
at_mut-guest-requires g c = record { within = below (λ x. x.device) c.args.guests.now c.args.port c.requires.fits.device c.requires.fits.at }

pub hear_link-requires-clause-other : goal.hear_link-requires-clause-other
hear_link-requires-clause-other g c κs within =
    let gs = c.args.guests.now in let port = c.args.port in let lt = below (λ x. x.device) gs port c.requires.fits.device c.requires.fits.at in
    fit_other (λ x. x.device) gs port c.args.side c.args.other c.at_mut-guest.result.now lt c.at_mut-guest.ensures.value (note_view c.args.note) c.requires.fits

pub hear_link-requires-clause-fits : goal.hear_link-requires-clause-fits
hear_link-requires-clause-fits g c κs within =
    let gs = c.args.guests.now in let port = c.args.port in let lt = below (λ x. x.device) gs port c.requires.fits.device c.requires.fits.at in
    fit_note (λ x. x.device) gs port c.args.side c.args.other c.at_mut-guest.result.now lt c.at_mut-guest.ensures.value (note_view c.args.note) c.requires.fits

pub returns : goal.returns
returns g c =
    let gs = c.args.guests.now in let port = c.args.port in let x = c.at_mut-guest.result.now in let is = c.at_mut-guest.ensures.value in
    let lt = below (λ x. x.device) gs port c.requires.fits.device c.requires.fits.at in let y = record x { device = c.hear_link.new.self } in record {
      hears = heard (λ x. x.device) gs port c.args.side c.args.other x lt is y (note_view c.args.note) c.hear_link.ensures.hears c.keep.ensures.keeps.device;
      drivers = view_same (λ x. x.driver) gs port x lt is y refl;
    }
