use Rattle.vmx_link.specs.Ends.{note_view}
use Rattle.vmx_device.proofs.LinkEnds.{in_below, key_in, hears_in}
use Rattle.vmx_device.proofs.linking.hear_in.Goals as goal

pub at_mut-requires : goal.at_mut-requires
at_mut-requires c = record { within = in_below c.args.input.now c.args.index (note_view c.args.note) c.requires.fits }

pub hear-requires-clause-key : goal.hear-requires-clause-key
hear-requires-clause-key c = key_in c.args.input.now c.args.index c.at_mut.result.now (in_below c.args.input.now c.args.index (note_view c.args.note) c.requires.fits) c.at_mut.ensures.value (note_view c.args.note) c.requires.fits

pub returns : goal.returns
returns c = record { hears = hears_in c.args.input.now c.args.index c.at_mut.result.now (in_below c.args.input.now c.args.index (note_view c.args.note) c.requires.fits) c.at_mut.ensures.value c.hear.new.self (note_view c.args.note) c.hear.ensures.same c.hear.ensures.pushed c.hear.ensures.as_long }
