use Rattle.vmx_link.specs.Ends.{note_view}
use Rattle.vmx_device.proofs.LinkEnds.{out_below, key_out, hears_out}
use Rattle.vmx_device.proofs.linking.hear_out.Goals as goal

pub at_mut-requires : goal.at_mut-requires
at_mut-requires c = record { within = out_below c.args.out.now c.args.index (note_view c.args.note) c.requires.fits }

pub hear-requires-clause-key : goal.hear-requires-clause-key
hear-requires-clause-key c = key_out c.args.out.now c.args.index c.at_mut.result.now (out_below c.args.out.now c.args.index (note_view c.args.note) c.requires.fits) c.at_mut.ensures.value (note_view c.args.note) c.requires.fits

pub returns : goal.returns
returns c = record { hears = hears_out c.args.out.now c.args.index c.at_mut.result.now (out_below c.args.out.now c.args.index (note_view c.args.note) c.requires.fits) c.at_mut.ensures.value c.hear.new.self (note_view c.args.note) c.hear.ensures.same c.hear.ensures.pulled c.hear.ensures.as_long }
