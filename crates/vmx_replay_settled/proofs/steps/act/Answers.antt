use Rattle.std.proofs.Common.{◌∙◌}
use Rattle.vmx_replay_settled.proofs.Keys.{acts_key}
use Rattle.vmx_replay_settled.proofs.steps.act.Goals as goal

pub act-requires-clause-even : goal.act-requires-clause-even
act-requires-clause-even g c κs within = c.requires.pair.even

pub settle-requires-clause-pair : goal.settle-requires-clause-pair
settle-requires-clause-pair g c κs within = record {
  key = acts_key c.args.guest.now.driver.driver c.in_ok-act.act c.act.new.self.driver c.in_ok-act.ensures.acts ∙ c.requires.pair.key;
  even = c.act.ensures.even;
  whole = c.requires.pair.whole;
}

pub returns : goal.returns
returns g c = record {
  acts = record { acted = c.act.new.self.driver; acts = c.in_ok-act.ensures.acts; keeps = c.keep.ensures.keeps.driver; settles = c.settle.ensures.settles };
  pair = c.settle.ensures.pair;
  keeps = c.settle.ensures.keeps;
}
