use Rattle.vmx_device_looks.proofs.EndViews.{delivers_as}
use Rattle.vmx_device_looks.proofs.ends.deliver_as.Goals as goal

pub returns : goal.returns
returns g c = record { delivers = delivers_as g.F.TxDevice.TxDevice.view g.F.RxDevice.RxDevice.view c.args.machine.now c.in-Some.ends.now.tx c.in-Some.ends.now.rx c.in-Some.ensures.ends c.args.queue c.requires.ready.here c.at_mut-end.result.now c.at_mut-end.ensures.value (record { frame = c.args.frame.now; meta = c.args.meta.now }) c.deliver.result c.deliver.new.self c.deliver.ensures.delivers c.deliver.ensures.grows }
