use Rattle.std.proofs.Common.{◌+◌, ◌*◌, ◌<◌, ◌∙◌, arith, ℕ, false, ap, sym, subst, refl, length, Option}
use Rattle.std.specs.List.{slice_get}
use Rattle.vmx_model.specs.declared.plan.Plan.{Plan}
use Rattle.vmx_model.specs.declared.guest.GuestPlan.{GuestPlan}
use Rattle.vmx_model.specs.Turns.{IsReady}
use Rattle.vmx_replay_runs.specs.Runs.{RunView}
use Rattle.vmx_replay_order.proofs.Actions.{acting_in, rest_begins, rest_ends, within_begins, within_ends, next_less, next_keeps, acting_few, acts_short}
use Rattle.vmx_replay_runs.specs.Short.{ENTRIES_AT_TURN, MOST_ENTRIES}
use Rattle.vmx_replay_order.proofs.Short.{short_more}
use Rattle.vmx_replay_actors.specs.Runs.{run_view}
use Rattle.vmx_replay_order.proofs.order.act_all.Goals as goal

pub loop-run-init : goal.loop-run-init
loop-run-init g c = let a = c.args in let r : RunView = run_view a.run in let o : Option GuestPlan = slice_get r.plan.guests a.port in record {
  left = rest_begins a.port a.number (r.reached a.port) o r.world c.requires.stands.begun;
  within = within_begins a.number (r.reached a.port) o c.requires.stands.begun;
  others = record { plan = refl; reached = λ h away. refl; passed = refl; closings = refl };
  short = short_more ENTRIES_AT_TURN (ENTRIES_AT_TURN + 2 * r.reached a.port) r.world (omega arith) c.requires.short;
  ready = c.requires.ready;
}

pub is_acting-requires-clause-port : goal.is_acting-requires-clause-port
is_acting-requires-clause-port g c κs within =
    let a = c.args in let o = c.loop-run.invariant.others in subst (λ (plan : Plan). a.port < length plan.guests) (sym o.plan) c.requires.port

pub is_acting-requires-clause-passed : goal.is_acting-requires-clause-passed
is_acting-requires-clause-passed g c κs within =
    let a = c.args in let o = c.loop-run.invariant.others in ap (λ (f : ℕ → ℕ). f a.port) o.passed ∙ c.requires.stands.passed

pub act-requires-clause-port : goal.act-requires-clause-port
act-requires-clause-port g c κs within =
    let a = c.args in let i = c.loop-run.invariant in subst (λ (plan : Plan). a.port < length plan.guests) (sym i.others.plan) c.requires.port

pub act-requires-clause-passed : goal.act-requires-clause-passed
act-requires-clause-passed g c κs within =
    let a = c.args in let i = c.loop-run.invariant in ap (λ (f : ℕ → ℕ). f a.port) i.others.passed ∙ c.requires.stands.passed

pub act-requires-clause-acting : goal.act-requires-clause-acting
act-requires-clause-acting g c κs within =
    let a = c.args in let i = c.loop-run.invariant in sym c.is_acting.ensures.acting ∙ c.loop-run-test.true

pub act-requires-clause-short : goal.act-requires-clause-short
act-requires-clause-short g c κs within =
    let a = c.args in let i = c.loop-run.invariant in short_more (ENTRIES_AT_TURN + 2 * (run_view c.loop-run.run).reached a.port) MOST_ENTRIES (run_view c.loop-run.run).world (let few = acting_few a.port a.number (run_view c.loop-run.run) (sym c.is_acting.ensures.acting ∙ c.loop-run-test.true) in omega arith) i.short

pub act-requires-clause-ready : goal.act-requires-clause-ready
act-requires-clause-ready g c κs within =
    let a = c.args in let i = c.loop-run.invariant in subst (λ (plan : Plan). IsReady plan (run_view c.loop-run.run).world) (sym i.others.plan) i.ready

pub loop-run-smaller : goal.loop-run-smaller
loop-run-smaller g c = let a = c.args in let i = c.loop-run.invariant in
    next_less a.port a.number (run_view a.run) (run_view c.loop-run.run) (run_view c.in_ok-run.run') i.others.plan (sym c.is_acting.ensures.acting ∙ c.loop-run-test.true) c.in_ok-run.ensures.acts

pub loop-run-preserved : goal.loop-run-preserved
loop-run-preserved g c = let a = c.args in let i = c.loop-run.invariant in
    let k = next_keeps a.port a.number (run_view a.run) (run_view c.loop-run.run) (run_view c.in_ok-run.run') i.left i.within i.others i.ready (sym c.is_acting.ensures.acting ∙ c.loop-run-test.true) c.in_ok-run.ensures.acts in
    record { left = k.left; within = k.within; others = k.others; short = acts_short ENTRIES_AT_TURN a.port (run_view c.loop-run.run) (run_view c.in_ok-run.run') c.in_ok-run.ensures.acts i.short; ready = k.ready }

pub returns-clause-acted : goal.returns-clause-acted
returns-clause-acted g c = let a = c.args in let i = c.loop-run.invariant in let r : RunView = run_view a.run in let s : RunView = run_view c.loop-run.run in
    sym (rest_ends a.port a.number (s.reached a.port) (slice_get r.plan.guests a.port) s.world i.within (acting_in a.port a.number r s i.others.plan false (sym c.is_acting.ensures.acting ∙ c.loop-run-test.false))) ∙ i.left

pub returns-clause-begun : goal.returns-clause-begun
returns-clause-begun g c = let a = c.args in let i = c.loop-run.invariant in let r : RunView = run_view a.run in let s : RunView = run_view c.loop-run.run in
    λ p is. within_ends a.number (s.reached a.port) (slice_get r.plan.guests a.port) i.within (acting_in a.port a.number r s i.others.plan false (sym c.is_acting.ensures.acting ∙ c.loop-run-test.false)) p (ap (λ (plan : Plan). slice_get plan.guests a.port) (sym i.others.plan) ∙ is)
