use Rattle.std.proofs.Common.{arith}
use Rattle.vmx_replay_chains.specs.Views.{guest_view}
use Rattle.vmx_replay_chains.proofs.Paired.{links_paired}
use Rattle.vmx_replay_chains.proofs.Ons.{few_on, paired_more}
use Rattle.vmx_replay_chains.proofs.Stays.{turns_links, long_on}
use Rattle.vmx_replay_chains.proofs.Told.{paired_told}
use Rattle.vmx_replay_chains.proofs.commands.answer.Goals as goal

pub turn_on-requires-clause-pair : goal.turn_on-requires-clause-pair
turn_on-requires-clause-pair g c κs within = paired_more _ _ _ _ _ _ c.requires.pair (omega arith) (omega arith)

pub tell_all-requires-clause-links : goal.tell_all-requires-clause-links
tell_all-requires-clause-links g c κs within = turns_links _ _ _ c.in_ok-turn_on.ensures.turns c.requires.links

pub tell_all-requires-clause-few : goal.tell_all-requires-clause-few
tell_all-requires-clause-few g c κs within = few_on guest_view c.args.guests.now c.turn_on.new.guests _ (long_on _ _ _ _ c.in_ok-turn_on.ensures.turns) c.requires.few

pub act_on-requires-clause-pair : goal.act_on-requires-clause-pair
act_on-requires-clause-pair g c κs within = paired_more _ _ _ _ _ _ (paired_told _ _ _ _ _ c.tell_all.ensures.tells (c.in_ok-turn_on.ensures.pair _ _ c.requires.pair)) (omega arith) (omega arith)

pub returns : goal.returns
returns g c = record {
  answers = record { turned = _; turns = c.in_ok-turn_on.ensures.turns; told = _; links = c.tell_all.ensures.tells; acts = c.in_ok-act_on.ensures.acts };
  pair = λ n m p. c.in_ok-act_on.ensures.pair _ _ (paired_told _ _ _ _ _ c.tell_all.ensures.tells (c.in_ok-turn_on.ensures.pair n m p));
  paired = λ all. c.in_ok-act_on.ensures.paired (links_paired _ _ _ c.tell_all.ensures.tells (c.in_ok-turn_on.ensures.paired all));
}
