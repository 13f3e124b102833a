use Rattle.std.proofs.Common.{sym, ◌∙◌}
use Rattle.vmx_replay_settled.proofs.Noted.{none_by}
use Rattle.vmx_replay_settled.proofs.settling.pass_where_alike.Goals as goal

pub pass_alike-requires-clause-alike : goal.pass_alike-requires-clause-alike
pass_alike-requires-clause-alike g c κs within = c.requires.alike (none_by c.args.guest.now.driver.driver.calls.asked (sym c.outstanding.ensures.outstanding ∙ c.if-not-outstanding.true))
