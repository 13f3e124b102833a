use Rattle.vmx_driver.specs.declared.driver.Act.{Act}
use Rattle.vmx_replay_worlds.specs.Guests.{GuestView}
use Rattle.vmx_replay_settled.specs.Settled.{ActsSettled}
use Rattle.vmx_replay_settled.proofs.Noted.{entries_stay}
use Rattle.vmx_replay_chains.specs.Views.{guest_view}
use Rattle.vmx_replay_chains.proofs.Ons.{port_below, paired_here, changed, paired_after, as_few_entries, as_few_commands, stay_paired}
use Rattle.vmx_replay_chains.proofs.guests.act_on.Goals as goal

pub at_mut-requires : goal.at_mut-requires
at_mut-requires g c = record { within = port_below guest_view c.args.guests.now c.args.port _ _ c.requires.pair }

pub act-requires-clause-pair : goal.act-requires-clause-pair
act-requires-clause-pair g c κs within = paired_here guest_view c.args.guests.now c.args.port c.at_mut.result.now (port_below guest_view c.args.guests.now c.args.port _ _ c.requires.pair) c.at_mut.ensures.value _ _ c.requires.pair

pub returns : goal.returns
returns g c =
    let gs = c.args.guests.now in let port = c.args.port in let x = c.at_mut.result.now in let y = c.act.new.guest in
    let lt = port_below guest_view gs port _ _ c.requires.pair in let is = c.at_mut.ensures.value in let s = c.in_ok-act.ensures.acts in
    let same = entries_stay s.acted x.device y.driver.driver y.device s.settles in record {
      acts = changed guest_view gs port x lt is y (λ (r r' : GuestView). (a : Act) × ActsSettled r.driver r.device a r'.driver r'.device) (_, s) c.in_ok-act.ensures.keeps;
      pair = λ n m p. paired_after guest_view gs port x lt is y n m c.in_ok-act.ensures.pair
          (as_few_entries guest_view gs port x lt is n m p y.device same.0) (as_few_commands guest_view gs port x lt is n m p y.device same.1);
      paired = stay_paired guest_view gs port x lt is y c.in_ok-act.ensures.pair;
    }
