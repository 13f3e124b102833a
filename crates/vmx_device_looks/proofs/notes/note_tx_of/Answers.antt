use Rattle.vmx_device_looks.proofs.EndViews.{notes_tx}
use Rattle.vmx_device_looks.proofs.notes.note_tx_of.Goals as goal

pub returns : goal.returns
returns g c = record { notes = notes_tx g.F.TxDevice.TxDevice.view g.F.RxDevice.RxDevice.view c.args.machine.now c.in-Some.ends.now.tx c.in-Some.ends.now.rx c.in-Some.ensures.ends c.args.queue c.requires.here c.at_mut-end.result.now c.at_mut-end.ensures.value (g.F.TxNote.TxNote.view c.note.result) c.note.new.self c.note.ensures.notes }
