use Rattle.vmx_device_looks.proofs.EndViews.{takes_one, takes_none, takes_bad}
use Rattle.vmx_device_looks.proofs.ends.take_from.Goals as goal

pub returns-in-Frame-clause-found : goal.returns-in-Frame-clause-found
returns-in-Frame-clause-found g c = takes_one g.F.TxDevice.TxDevice.view g.F.RxDevice.RxDevice.view c.args.machine.now c.in-Some.ends.now.tx c.in-Some.ends.now.rx c.in-Some.ensures.ends c.args.queue c.requires.ready.here c.at_mut-end.result.now c.at_mut-end.ensures.value c.in-Frame.place c.take.new.into.items c.in-Frame.mark (g.F.TxDevice.TxDevice.view c.take.new.self) c.complete.new.self c.in-Frame.ensures.takes c.complete.ensures.completes

pub returns-in-Empty-clause-found : goal.returns-in-Empty-clause-found
returns-in-Empty-clause-found g c = takes_none g.F.TxDevice.TxDevice.view g.F.RxDevice.RxDevice.view c.args.machine.now c.in-Some.ends.now.tx c.in-Some.ends.now.rx c.in-Some.ensures.ends c.args.queue c.requires.ready.here c.at_mut-end.result.now c.at_mut-end.ensures.value c.in-Empty.word c.take.new.self c.in-Empty.ensures.takes.1

pub returns-in-Bad-clause-found : goal.returns-in-Bad-clause-found
returns-in-Bad-clause-found g c = takes_bad g.F.TxDevice.TxDevice.view g.F.RxDevice.RxDevice.view c.args.machine.now c.in-Some.ends.now.tx c.in-Some.ends.now.rx c.in-Some.ensures.ends c.args.queue c.requires.ready.here c.at_mut-end.result.now c.at_mut-end.ensures.value c.in-Bad.words c.in-Bad.fault c.take.new.self c.in-Bad.ensures.takes.1
