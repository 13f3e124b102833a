use Rattle.vmx_link.specs.Ends.{note_view}
use Rattle.vmx_replay_guests.proofs.PassLink.{is_target, is_source, fits_in, is_still_source, is_still_target, fits_out, passed_link}
use Rattle.vmx_replay_guests.proofs.links.pass_link.Goals as goal

pub note_link-pushed-requires-clause-other : goal.note_link-pushed-requires-clause-other
note_link-pushed-requires-clause-other g c κs within = is_target c.args.sender.now c.args.receiver.now c.requires.link c.port-from.result c.port-to.result c.port-from.ensures.port c.port-to.ensures.port

pub hear_link-requires-clause-other : goal.hear_link-requires-clause-other
hear_link-requires-clause-other g c κs within = is_source c.args.sender.now c.args.receiver.now c.requires.link c.port-from.result c.port-to.result c.port-from.ensures.port c.port-to.ensures.port

pub hear_link-requires-clause-fits : goal.hear_link-requires-clause-fits
hear_link-requires-clause-fits g c κs within = fits_in c.args.sender.now c.args.receiver.now c.requires.link c.port-from.result c.port-to.result c.port-from.ensures.port c.port-to.ensures.port (note_view c.note_link-pushed.result) c.note_link-pushed.new.self c.note_link-pushed.ensures.notes

pub note_link-pulled-requires-clause-other : goal.note_link-pulled-requires-clause-other
note_link-pulled-requires-clause-other g c κs within =
    is_still_source c.args.sender.now c.args.receiver.now c.requires.link c.port-from.result c.port-to.result c.port-from.ensures.port c.port-to.ensures.port (note_view c.note_link-pushed.result) c.note_link-pushed.new.self c.note_link-pushed.ensures.notes c.hear_link.new.self c.hear_link.ensures.hears

pub hear_link-requires-2-clause-other : goal.hear_link-requires-2-clause-other
hear_link-requires-2-clause-other g c κs within =
    is_still_target c.args.sender.now c.args.receiver.now c.requires.link c.port-from.result c.port-to.result c.port-from.ensures.port c.port-to.ensures.port (note_view c.note_link-pushed.result) c.note_link-pushed.new.self c.note_link-pushed.ensures.notes c.hear_link.new.self c.hear_link.ensures.hears
    (note_view c.note_link-pulled.result) c.note_link-pulled.new.self c.note_link-pulled.ensures.notes

pub hear_link-requires-2-clause-fits : goal.hear_link-requires-2-clause-fits
hear_link-requires-2-clause-fits g c κs within =
    fits_out c.args.sender.now c.args.receiver.now c.requires.link c.port-from.result c.port-to.result c.port-from.ensures.port c.port-to.ensures.port (note_view c.note_link-pushed.result) c.note_link-pushed.new.self c.note_link-pushed.ensures.notes c.hear_link.new.self c.hear_link.ensures.hears
    (note_view c.note_link-pulled.result) c.note_link-pulled.new.self c.note_link-pulled.ensures.notes

pub returns : goal.returns
returns g c = record {
  passed = passed_link c.args.sender.now c.args.receiver.now c.requires.link c.port-from.result c.port-to.result c.port-from.ensures.port c.port-to.ensures.port (note_view c.note_link-pushed.result) c.note_link-pushed.new.self c.note_link-pushed.ensures.notes c.hear_link.new.self c.hear_link.ensures.hears
      (note_view c.note_link-pulled.result) c.note_link-pulled.new.self c.note_link-pulled.ensures.notes c.hear_link-2.new.self c.hear_link-2.ensures.hears;
}
