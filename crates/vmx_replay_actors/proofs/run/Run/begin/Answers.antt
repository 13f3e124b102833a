use Rattle.std.proofs.Common.{◌≡◌, ℕ, length, replicate, ap, ◌∙◌}
use Rattle.vmx_replay_actors.proofs.Beginning.{at_start, none_reached, run_begins}
use Rattle.vmx_replay_actors.proofs.run.Run.begin.Goals as goal

pub invariant_of-result : goal.invariant_of-result
invariant_of-result g c =
    let zeros : c.in_ok-passed.passed ≡ replicate (length c.args.plan.now.guests) 0 = c.in_ok-passed.ensures.zeros ∙ ap (λ (n : ℕ). replicate n 0) c.len.ensures.len in
    let none : c.in_ok-arrived.arrived ≡ replicate (length c.args.plan.now.guests) 0 = c.in_ok-arrived.ensures.zeros ∙ ap (λ (n : ℕ). replicate n 0) c.len-2.ensures.len in
    run_begins _ _ c.in_ok-guests.ensures.begun _ _ zeros none

pub returns-clause-at_start : goal.returns-clause-at_start
returns-clause-at_start g c = at_start _ _ c.in_ok-guests.ensures.begun

pub returns-clause-none_reached : goal.returns-clause-none_reached
returns-clause-none_reached g c = λ h. none_reached _ _ c.in_ok-guests.ensures.begun h
