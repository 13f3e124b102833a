use Rattle.vmx_device_looks.proofs.EndViews.{hears_tx}
use Rattle.vmx_device_looks.proofs.notes.hear_tx_at.Goals as goal

pub returns : goal.returns
returns g c = record { hears = hears_tx g.F.TxDevice.TxDevice.view g.F.RxDevice.RxDevice.view c.args.machine.now c.in-Some.ends.now.tx c.in-Some.ends.now.rx c.in-Some.ensures.ends c.args.queue c.requires.fits.here c.at_mut-end.result.now c.at_mut-end.ensures.value (g.F.TxNote.TxNote.view c.args.note) c.hear.new.self c.hear.ensures.hears }
