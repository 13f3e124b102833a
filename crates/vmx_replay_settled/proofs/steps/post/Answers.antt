use Rattle.std.proofs.Common.{◌∙◌}
use Rattle.vmx_replay_settled.specs.Settled.{ArePaired}
use Rattle.vmx_replay_settled.proofs.Keys.{acts_key, posts_alike}
use Rattle.vmx_replay_settled.proofs.Noted.{paired_queues}
use Rattle.vmx_replay_settled.proofs.steps.post.Goals as goal

pub act-requires-clause-even : goal.act-requires-clause-even
act-requires-clause-even g c κs within = c.requires.pair.even

pub pass_alike-requires-clause-alike : goal.pass_alike-requires-clause-alike
pass_alike-requires-clause-alike g c κs within =
    posts_alike c.args.guest.now.driver.driver c.in_ok-act.act c.act.new.self.driver c.args.guest.now.device c.requires.due c.in_ok-act.ensures.acts c.requires.alike

pub returns : goal.returns
returns g c =
    let v = c.args.guest.now.driver.driver in let d = c.args.guest.now.device in let w = c.act.new.self.driver in let acts = c.in_ok-act.ensures.acts in
    let pair : ArePaired w d = record { key = acts_key v c.in_ok-act.act w acts ∙ c.requires.pair.key; even = c.act.ensures.even; whole = c.requires.pair.whole } in record {
      posts = record { acted = w; acts = acts; keeps = c.pass_alike.ensures.kept; passed = c.pass_alike.ensures.passed };
      pair = paired_queues w d c.pass_alike.new.guest.driver.driver c.pass_alike.new.guest.device c.pass_alike.ensures.passed pair;
      keeps = c.keep.ensures.keeps;
    }
