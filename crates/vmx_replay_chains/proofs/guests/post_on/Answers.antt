use Rattle.vmx_driver.specs.declared.driver.Act.{Act}
use Rattle.vmx_replay_worlds.specs.Guests.{GuestView}
use Rattle.vmx_replay_settled.specs.Settled.{PostsSettled}
use Rattle.vmx_replay_settled.proofs.Noted.{entries_passed}
use Rattle.vmx_replay_chains.specs.Views.{guest_view}
use Rattle.vmx_replay_chains.proofs.Ons.{port_below, paired_here, alike_here, due_alike, changed, paired_after, as_few_entries, as_few_commands, stay_paired}
use Rattle.vmx_replay_chains.proofs.guests.post_on.Goals as goal

pub at_mut-requires : goal.at_mut-requires
at_mut-requires g c = record { within = port_below guest_view c.args.guests.now c.args.port _ _ c.requires.pair }

pub post-requires-clause-pair : goal.post-requires-clause-pair
post-requires-clause-pair g c κs within = paired_here guest_view c.args.guests.now c.args.port c.at_mut.result.now (port_below guest_view c.args.guests.now c.args.port _ _ c.requires.pair) c.at_mut.ensures.value _ _ c.requires.pair

pub post-requires-clause-alike : goal.post-requires-clause-alike
post-requires-clause-alike g c κs within = alike_here guest_view c.args.guests.now c.args.port c.at_mut.result.now (port_below guest_view c.args.guests.now c.args.port _ _ c.requires.pair) c.at_mut.ensures.value c.requires.alike

pub post-requires-clause-due : goal.post-requires-clause-due
post-requires-clause-due g c κs within = due_alike guest_view c.args.guests.now c.args.port c.at_mut.result.now (port_below guest_view c.args.guests.now c.args.port _ _ c.requires.pair) c.at_mut.ensures.value c.requires.alike c.requires.due

pub returns : goal.returns
returns g c =
    let gs = c.args.guests.now in let port = c.args.port in let x = c.at_mut.result.now in let y = c.post.new.guest in
    let lt = port_below guest_view gs port _ _ c.requires.pair in let is = c.at_mut.ensures.value in let s = c.in_ok-post.ensures.posts in
    let same = entries_passed s.acted x.device y.driver.driver y.device s.passed in record {
      posts = changed guest_view gs port x lt is y (λ (r r' : GuestView). (a : Act) × PostsSettled r.driver r.device a r'.driver r'.device) (_, s) c.in_ok-post.ensures.keeps;
      pair = λ n m p. paired_after guest_view gs port x lt is y n m c.in_ok-post.ensures.pair
          (as_few_entries guest_view gs port x lt is n m p y.device same.0) (as_few_commands guest_view gs port x lt is n m p y.device same.1);
      paired = stay_paired guest_view gs port x lt is y c.in_ok-post.ensures.pair;
    }
