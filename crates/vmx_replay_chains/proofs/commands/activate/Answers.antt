use Rattle.std.proofs.Common.{arith}
use Rattle.vmx_replay_chains.specs.Views.{guest_view}
use Rattle.vmx_replay_chains.proofs.Ons.{few_on, paired_more}
use Rattle.vmx_replay_chains.proofs.Stays.{acts_links, long_on}
use Rattle.vmx_replay_chains.proofs.commands.activate.Goals as goal

pub act_on-requires-clause-pair : goal.act_on-requires-clause-pair
act_on-requires-clause-pair g c κs within = paired_more _ _ _ _ _ _ c.requires.pair (omega arith) (omega arith)

pub answer-requires-clause-pair : goal.answer-requires-clause-pair
answer-requires-clause-pair g c κs within = c.in_ok-act_on.ensures.pair _ _ c.requires.pair

pub answer-requires-clause-links : goal.answer-requires-clause-links
answer-requires-clause-links g c κs within = acts_links _ _ _ c.in_ok-act_on.ensures.acts c.requires.links

pub answer-requires-clause-few : goal.answer-requires-clause-few
answer-requires-clause-few g c κs within = few_on guest_view c.args.guests.now c.act_on.new.guests _ (long_on _ _ _ _ c.in_ok-act_on.ensures.acts) c.requires.few

pub returns : goal.returns
returns g c = record { renews = (_, c.in_ok-act_on.ensures.acts, c.in_ok-answer.ensures.answers); paired = λ all. c.in_ok-answer.ensures.paired (c.in_ok-act_on.ensures.paired all) }
