use Rattle.std.proofs.Common.{set}
use Rattle.vmx_replay_worlds.specs.Guests.{GuestView}
use Rattle.vmx_replay_settled.specs.Settled.{ArePaired, PollsSettled, BothKeep}
use Rattle.vmx_replay_chains.specs.Views.{guest_view, guest_views}
use Rattle.vmx_replay_chains.specs.Chains.{AllPaired, PollsOn}
use Rattle.vmx_replay_chains.proofs.Ons.{port_below, paired_here, alike_here, changed, if_ok_with, stay_paired, on_ok_with}
use Rattle.vmx_replay_chains.proofs.guests.poll_on.Goals as goal

pub at_mut-requires : goal.at_mut-requires
at_mut-requires g c = record { within = port_below guest_view c.args.guests.now c.args.port _ _ c.requires.pair.2 }

pub poll-requires-clause-pair : goal.poll-requires-clause-pair
poll-requires-clause-pair g c κs within = paired_here guest_view c.args.guests.now c.args.port c.at_mut.result.now (port_below guest_view c.args.guests.now c.args.port _ _ c.requires.pair.2) c.at_mut.ensures.value _ _ c.requires.pair.2

pub poll-requires-clause-alike : goal.poll-requires-clause-alike
poll-requires-clause-alike g c κs within = alike_here guest_view c.args.guests.now c.args.port c.at_mut.result.now (port_below guest_view c.args.guests.now c.args.port _ _ c.requires.pair.2) c.at_mut.ensures.value c.requires.alike

pub returns : goal.returns
returns g c =
    let gs = c.args.guests.now in let port = c.args.port in let x = c.at_mut.result.now in let y = c.poll.new.guest in
    let lt = port_below guest_view gs port _ _ c.requires.pair.2 in let is = c.at_mut.ensures.value in record {
      polls = if_ok_with c.poll.result (λ n. PollsSettled x.driver.driver x.device n y.driver.driver y.device) (BothKeep y.driver.driver y.device)
          (λ n. PollsOn port n (guest_views gs) (guest_views (set gs port y)))
          (λ n s k. changed guest_view gs port x lt is y (λ (r r' : GuestView). PollsSettled r.driver r.device n r'.driver r'.device) s k)
          c.poll.ensures.polls c.poll.ensures.keeps;
      paired = on_ok_with c.poll.result (ArePaired y.driver.driver y.device) (AllPaired (guest_views gs) → AllPaired (guest_views (set gs port y))) (stay_paired guest_view gs port x lt is y) c.poll.ensures.pair;
    }
