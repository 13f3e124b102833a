use Rattle.std.proofs.Common.{rules, ◌≡◌, length, true, false, ap}
use Rattle.std.specs.Prelude.{Ok, is_some, option_map}
use Rattle.std.proofs.lemmas.List.{length-map}
use Rattle.vmx_shared_area.specs.Tells.{Reads}
use Rattle.vmx_device_state.specs.DeviceState.{Active}
use Rattle.vmx_device_state.specs.Agree.{setup_agrees}
use Rattle.vmx_machine_state.specs.Views.{ends_view}
use Rattle.vmx_machine_state.proofs.Activations.{is_idle, answered}
use Rattle.vmx_activated.proofs.activated.activate.Goals as goal

pub returns-then-not-has_counts-clause-answer : goal.returns-then-not-has_counts-clause-answer
returns-then-not-has_counts-clause-answer g c =
    let none : is_some c.args.held.now ≡ false = search rules in
    let reads : Reads c.args.bag.image (Ok c.in-Ok.setup) = (c.in-Ok.ensures.sound, c.in-Ok.ensures.found) in
    answered _ c.args.bag.image c.in-Ok.setup _ _ (is_idle _ c.args.held.now none) reads (ap (option_map (ends_view g.F.TxDevice.TxDevice.view g.F.RxDevice.RxDevice.view)) c.in-Some.is)
    (length c.in-Some.ends.tx) (length c.in-Some.ends.rx) (length-map c.in-Some.ends.tx g.F.TxDevice.TxDevice.view) (length-map c.in-Some.ends.rx g.F.RxDevice.RxDevice.view) c.has_counts.result false c.has_counts.ensures.counts (search rules)

pub returns-else-not-has_counts-clause-answer : goal.returns-else-not-has_counts-clause-answer
returns-else-not-has_counts-clause-answer g c =
    let none : is_some c.args.held.now ≡ false = search rules in
    let reads : Reads c.args.bag.image (Ok c.in-Ok.setup) = (c.in-Ok.ensures.sound, c.in-Ok.ensures.found) in
    answered _ c.args.bag.image c.in-Ok.setup _ _ (is_idle _ c.args.held.now none) reads (ap (option_map (ends_view g.F.TxDevice.TxDevice.view g.F.RxDevice.RxDevice.view)) c.in-Some.is)
    (length c.in-Some.ends.tx) (length c.in-Some.ends.rx) (length-map c.in-Some.ends.tx g.F.TxDevice.TxDevice.view) (length-map c.in-Some.ends.rx g.F.RxDevice.RxDevice.view) c.has_counts.result true c.has_counts.ensures.counts (search rules)

pub returns-else-not-has_counts-clause-state : goal.returns-else-not-has_counts-clause-state
returns-else-not-has_counts-clause-state g c = ap Active (setup_agrees c.args.bag.image c.in-Ok.setup (c.in-Ok.ensures.sound, c.in-Ok.ensures.found))
