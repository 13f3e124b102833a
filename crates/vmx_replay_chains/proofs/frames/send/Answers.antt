use Rattle.std.proofs.Common.{arith, ◌∙◌}
use Rattle.vmx_replay_chains.specs.Views.{guest_view}
use Rattle.vmx_replay_chains.proofs.Paired.{links_paired}
use Rattle.vmx_replay_chains.proofs.Ons.{few_on, paired_more}
use Rattle.vmx_replay_chains.proofs.Stays.{posts_links, turns_links, long_on}
use Rattle.vmx_replay_chains.proofs.frames.send.Goals as goal

pub post_on-requires-clause-pair : goal.post_on-requires-clause-pair
post_on-requires-clause-pair g c κs within = paired_more _ _ _ _ _ _ c.requires.pair (omega arith) (omega arith)

pub turn_on-requires-clause-pair : goal.turn_on-requires-clause-pair
turn_on-requires-clause-pair g c κs within = paired_more _ _ _ _ _ _ (c.in_ok-post_on.ensures.pair _ _ c.requires.pair) (omega arith) (omega arith)

pub tell_all-requires-clause-links : goal.tell_all-requires-clause-links
tell_all-requires-clause-links g c κs within = turns_links _ _ _ c.in_ok-turn_on.ensures.turns (posts_links _ _ _ c.in_ok-post_on.ensures.posts c.requires.links)

pub tell_all-requires-clause-few : goal.tell_all-requires-clause-few
tell_all-requires-clause-few g c κs within =
    few_on guest_view c.args.guests.now c.turn_on.new.guests _ (long_on _ _ _ _ c.in_ok-turn_on.ensures.turns ∙ long_on _ _ _ _ c.in_ok-post_on.ensures.posts) c.requires.few

pub returns : goal.returns
returns g c = record {
  sends = record {
    posted = _;
    posts = c.in_ok-post_on.ensures.posts;
    turned = _;
    turns = c.in_ok-turn_on.ensures.turns;
    links = c.tell_all.ensures.tells;
  };
  paired = λ all. links_paired _ _ _ c.tell_all.ensures.tells (c.in_ok-turn_on.ensures.paired (c.in_ok-post_on.ensures.paired all));
}
