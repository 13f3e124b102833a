use Rattle.std.proofs.Common.{arith, ◌∙◌}
use Rattle.vmx_replay_chains.specs.Views.{guest_view}
use Rattle.vmx_replay_chains.proofs.Ons.{few_on, paired_more}
use Rattle.vmx_replay_chains.proofs.Stays.{acts_links, meets_links, long_on}
use Rattle.vmx_replay_chains.proofs.AsMany.{answers_links, answers_long}
use Rattle.vmx_replay_chains.proofs.commands.follow.Goals as goal

pub act_on-requires-clause-pair : goal.act_on-requires-clause-pair
act_on-requires-clause-pair g c κs within = paired_more _ _ _ _ _ _ c.requires.pair (omega arith) (omega arith)

pub answer-requires-clause-pair : goal.answer-requires-clause-pair
answer-requires-clause-pair g c κs within = paired_more _ _ _ _ _ _ (c.in_ok-act_on.ensures.pair _ _ c.requires.pair) (omega arith) (omega arith)

pub answer-requires-clause-links : goal.answer-requires-clause-links
answer-requires-clause-links g c κs within = acts_links _ _ _ c.in_ok-act_on.ensures.acts c.requires.links

pub answer-requires-clause-few : goal.answer-requires-clause-few
answer-requires-clause-few g c κs within = few_on guest_view c.args.guests.now c.act_on.new.guests _ (long_on _ _ _ _ c.in_ok-act_on.ensures.acts) c.requires.few

pub meet-requires-clause-pair : goal.meet-requires-clause-pair
meet-requires-clause-pair g c κs within = paired_more _ _ _ _ _ _ (c.in_ok-answer.ensures.pair _ _ (c.in_ok-act_on.ensures.pair _ _ c.requires.pair)) (omega arith) (omega arith)

pub renew-requires-clause-pair : goal.renew-requires-clause-pair
renew-requires-clause-pair g c κs within = paired_more _ _ _ _ _ _ (c.in_ok-meet.ensures.pair _ _ (c.in_ok-answer.ensures.pair _ _ (c.in_ok-act_on.ensures.pair _ _ c.requires.pair))) (omega arith) (omega arith)

pub renew-requires-clause-links : goal.renew-requires-clause-links
renew-requires-clause-links g c κs within = meets_links _ _ _ c.in_ok-meet.ensures.meets (answers_links _ _ _ c.in_ok-answer.ensures.answers (acts_links _ _ _ c.in_ok-act_on.ensures.acts c.requires.links))

pub renew-requires-clause-few : goal.renew-requires-clause-few
renew-requires-clause-few g c κs within =
    few_on guest_view c.args.guests.now c.meet.new.guests _ (long_on _ _ _ _ c.in_ok-meet.ensures.meets ∙ answers_long _ _ _ c.in_ok-answer.ensures.answers ∙ long_on _ _ _ _ c.in_ok-act_on.ensures.acts) c.requires.few

pub returns : goal.returns
returns g c = record {
  follows = record {
    asked = _;
    acts = c.in_ok-act_on.ensures.acts;
    answered = _;
    answers = c.in_ok-answer.ensures.answers;
    met = _;
    meets = c.in_ok-meet.ensures.meets;
    renews = c.in_ok-renew.ensures.renews;
  };
  paired = λ all. c.in_ok-renew.ensures.paired (c.in_ok-meet.ensures.paired (c.in_ok-answer.ensures.paired (c.in_ok-act_on.ensures.paired all)));
}
