use Rattle.std.proofs.Common.{◌∙◌}
use Rattle.vmx_replay_settled.specs.Settled.{ArePaired}
use Rattle.vmx_replay_settled.proofs.Keys.{polls_key, polls_alike}
use Rattle.vmx_replay_settled.proofs.Noted.{paired_queues}
use Rattle.vmx_replay_settled.proofs.steps.poll.Goals as goal

pub pass_alike-requires-clause-alike : goal.pass_alike-requires-clause-alike
pass_alike-requires-clause-alike g c κs within = polls_alike c.args.guest.now.driver.driver c.in_ok-count.count c.poll.new.self.driver c.args.guest.now.device c.in_ok-count.ensures.polls c.requires.alike

pub returns : goal.returns
returns g c =
    let v = c.args.guest.now.driver.driver in let d = c.args.guest.now.device in let w = c.poll.new.self.driver in let polls = c.in_ok-count.ensures.polls in
    let pair : ArePaired w d = record { key = polls_key v c.in_ok-count.count w polls ∙ c.requires.pair.key; even = c.poll.ensures.even c.requires.pair.even; whole = c.requires.pair.whole } in record {
      polls = record { polled = w; polls = polls; keeps = c.pass_alike.ensures.kept; passed = c.pass_alike.ensures.passed };
      pair = paired_queues w d c.pass_alike.new.guest.driver.driver c.pass_alike.new.guest.device c.pass_alike.ensures.passed pair;
      keeps = c.keep.ensures.keeps;
    }
