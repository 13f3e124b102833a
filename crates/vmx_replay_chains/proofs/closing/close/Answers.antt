use Rattle.std.proofs.Common.{ap, sym, subst}
use Rattle.vmx_device_laws.specs.Views.{DeviceView}
use Rattle.vmx_replay_settled.specs.Linked.{HasLinksIn}
use Rattle.vmx_replay_chains.specs.Views.{guest_view}
use Rattle.vmx_replay_chains.specs.Chains.{ToldClosed}
use Rattle.vmx_replay_chains.proofs.Ons.{port_below, paired_here, closable_here, changed, paired_after, devices_stay, as_few_entries, as_few_commands, set_few, stay_paired}
use Rattle.vmx_replay_chains.proofs.closing.close.Goals as goal

pub at_mut-requires : goal.at_mut-requires
at_mut-requires g c = record { within = port_below guest_view c.args.guests.now c.args.port _ _ c.requires.pair }

pub tell_closed-requires-clause-pair : goal.tell_closed-requires-clause-pair
tell_closed-requires-clause-pair g c κs within = paired_here guest_view c.args.guests.now c.args.port c.at_mut.result.now (port_below guest_view c.args.guests.now c.args.port _ _ c.requires.pair) c.at_mut.ensures.value _ _ c.requires.pair

pub tell_closed-requires-clause-due : goal.tell_closed-requires-clause-due
tell_closed-requires-clause-due g c κs within = closable_here guest_view c.args.guests.now c.args.port c.at_mut.result.now (port_below guest_view c.args.guests.now c.args.port _ _ c.requires.pair) c.at_mut.ensures.value c.requires.due

pub quiesce-requires-clause-pair : goal.quiesce-requires-clause-pair
quiesce-requires-clause-pair g c κs within =
    let gs = c.args.guests.now in let port = c.args.port in let x = c.at_mut.result.now in let y = c.tell_closed.new.guest in
    let lt = port_below guest_view gs port _ _ c.requires.pair in let is = c.at_mut.ensures.value in let same = c.tell_closed.ensures.device in
    paired_after guest_view gs port x lt is y _ _ c.tell_closed.ensures.pair
    (as_few_entries guest_view gs port x lt is _ _ c.requires.pair y.device (ap (λ (d : DeviceView). d.entries) same)) (as_few_commands guest_view gs port x lt is _ _ c.requires.pair y.device (ap (λ (d : DeviceView). d.calls.served) same))

pub quiesce-requires-clause-links : goal.quiesce-requires-clause-links
quiesce-requires-clause-links g c κs within =
    let gs = c.args.guests.now in let port = c.args.port in let lt = port_below guest_view gs port _ _ c.requires.pair in
    subst (HasLinksIn port) (sym (devices_stay guest_view gs port c.at_mut.result.now lt c.at_mut.ensures.value c.tell_closed.new.guest c.tell_closed.ensures.device)) c.requires.links

pub quiesce-requires-clause-few : goal.quiesce-requires-clause-few
quiesce-requires-clause-few g c κs within = set_few c.args.guests.now c.args.port c.tell_closed.new.guest _ c.requires.few

pub returns : goal.returns
returns g c =
    let gs = c.args.guests.now in let port = c.args.port in let x = c.at_mut.result.now in let y = c.tell_closed.new.guest in
    let lt = port_below guest_view gs port _ _ c.requires.pair in let is = c.at_mut.ensures.value in record {
      closes = record {
        told = _;
        tells = changed guest_view gs port x lt is y ToldClosed (record { driver = c.tell_closed.ensures.closes; device = c.tell_closed.ensures.device }) c.tell_closed.ensures.keeps;
        quiesces = c.in_ok-quiesce.ensures.quiesces;
      };
      paired = λ all. c.in_ok-quiesce.ensures.paired (stay_paired guest_view gs port x lt is y c.tell_closed.ensures.pair all);
    }
