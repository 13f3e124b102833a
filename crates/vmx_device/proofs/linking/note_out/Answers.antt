use Rattle.vmx_link.specs.Ends.{note_view}
use Rattle.vmx_device.proofs.LinkEnds.{notes_out}
use Rattle.vmx_device.proofs.linking.note_out.Goals as goal

pub returns : goal.returns
returns c = record { notes = notes_out c.args.out.now c.args.index c.at_mut.result.now c.requires.index c.at_mut.ensures.value c.note.new.self (note_view c.note.result) c.note.ensures.same c.note.ensures.note }
