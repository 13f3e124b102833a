use Rattle.vmx_replay_settled.proofs.Noted.{holds_queues}
use Rattle.vmx_replay_settled.proofs.settling.pass_alike.Goals as goal

pub pass_queues-requires-clause-queues : goal.pass_queues-requires-clause-queues
pass_queues-requires-clause-queues g c κs within = holds_queues c.args.guest.now.driver.driver c.args.guest.now.device c.keep.ensures.keeps c.requires.alike

pub returns : goal.returns
returns g c = record { passed = c.pass_queues.ensures.passed; kept = c.keep.ensures.keeps.driver }
