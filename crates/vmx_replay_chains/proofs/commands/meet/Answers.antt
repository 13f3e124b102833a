use Rattle.std.proofs.Common.{subst}
use Rattle.vmx_device_laws.specs.Views.{DeviceView}
use Rattle.vmx_replay_settled.specs.Settled.{Settles}
use Rattle.vmx_replay_settled.proofs.Noted.{entries_stay}
use Rattle.vmx_replay_chains.specs.Views.{guest_view}
use Rattle.vmx_replay_chains.specs.Chains.{Meets}
use Rattle.vmx_replay_chains.proofs.Ons.{port_below, paired_here, changed, paired_after, as_few_entries, as_few_commands, stay_paired}
use Rattle.vmx_replay_chains.proofs.commands.meet.Goals as goal

pub at_mut-guest-requires : goal.at_mut-guest-requires
at_mut-guest-requires g c = record { within = port_below guest_view c.args.guests.now c.args.port _ _ c.requires.pair }

pub meet_all-requires-clause-pair : goal.meet_all-requires-clause-pair
meet_all-requires-clause-pair g c κs within = paired_here guest_view c.args.guests.now c.args.port c.at_mut-guest.result.now (port_below guest_view c.args.guests.now c.args.port _ _ c.requires.pair) c.at_mut-guest.ensures.value _ _ c.requires.pair

pub settle-requires-clause-pair : goal.settle-requires-clause-pair
settle-requires-clause-pair g c κs within = c.in_ok-meet_all.ensures.pair

pub returns : goal.returns
returns g c =
    let gs = c.args.guests.now in let port = c.args.port in let x = c.at_mut-guest.result.now in let m = c.meet_all.new.guest in let y = c.settle.new.guest in
    let lt = port_below guest_view gs port _ _ c.requires.pair in let is = c.at_mut-guest.ensures.value in let here = c.in_ok-meet_all.ensures.device in
    let settles = subst (λ (d : DeviceView). Settles m.driver.driver d y.driver.driver y.device) here c.settle.ensures.settles in
    let same = entries_stay m.driver.driver x.device y.driver.driver y.device settles in record {
      meets = changed guest_view gs port x lt is y Meets (record { last = m.driver.driver; met = c.in_ok-meet_all.ensures.meets; settles = settles }) c.settle.ensures.keeps;
      pair = λ n k p. paired_after guest_view gs port x lt is y n k c.settle.ensures.pair
          (as_few_entries guest_view gs port x lt is n k p y.device same.0) (as_few_commands guest_view gs port x lt is n k p y.device same.1);
      paired = stay_paired guest_view gs port x lt is y c.settle.ensures.pair;
    }
