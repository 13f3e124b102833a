use Rattle.std.proofs.Common.{◌≡◌, ◌∙◌, ap, sym, subst, length}
use Rattle.vmx_model.specs.declared.plan.Plan.{Plan}
use Rattle.vmx_replay_worlds.specs.Worlds.{world_of}
use Rattle.vmx_replay_gather.specs.Ending.{AreOver}
use Rattle.vmx_replay.proofs.replay.serial.Goals as goal

pub new-requires-clause-run : goal.new-requires-clause-run
new-requires-clause-run g c κs within = ap world_of c.guests.ensures.guests ∙ c.in_ok-run-2.ensures.run

pub new-requires-clause-over : goal.new-requires-clause-over
new-requires-clause-over g c κs within = let e = c.in_ok-run-2.ensures in
    subst AreOver (sym c.guests.ensures.guests) (c.guests.ensures.over (e.closed ∙ ap (λ (p : Plan). length p.guests) (sym e.plan)))
