use Rattle.std.proofs.Common.{◌≡◌, ◌+◌, ◌<◌, ◌∙◌, ℕ, ap, sym, subst, arith, length}
use Rattle.std.specs.List.{slice_get}
use Rattle.vmx_model.specs.declared.plan.Plan.{Plan}
use Rattle.vmx_model.specs.Serial.{turn}
use Rattle.vmx_model.specs.Turns.{IsReady}
use Rattle.vmx_replay_runs.specs.Runs.{RunView}
use Rattle.vmx_replay_runs.specs.Standing.{Stands, OthersStand}
use Rattle.vmx_replay_order.proofs.Returned.{returned}
use Rattle.vmx_replay_order.proofs.Actions.{ready_acted}
use Rattle.vmx_replay_order.proofs.Turning.{turned_is, turned_stands, turned_others}
use Rattle.vmx_replay_runs.specs.Short.{AreShort, ENTRIES_OF_ACTIONS, ENTRIES_AT_TURN, ENTRIES_AT_FRAME}
use Rattle.vmx_replay_order.proofs.Short.{short_more, short_acted}
use Rattle.vmx_replay_actors.specs.Runs.{run_view}
use Rattle.vmx_replay_order.proofs.order.turn.Goals as goal

pub send-requires-clause-port : goal.send-requires-clause-port
send-requires-clause-port g c κs within =
    let a = c.args in let r : RunView = run_view a.run in let e = c.in_ok-run.ensures in let s : RunView = run_view c.in_ok-run.run' in subst (λ (p : Plan). a.port < length p.guests) (sym e.others.plan) c.requires.port

pub send-requires-clause-passed : goal.send-requires-clause-passed
send-requires-clause-passed g c κs within =
    let a = c.args in let r : RunView = run_view a.run in let e = c.in_ok-run.ensures in let s : RunView = run_view c.in_ok-run.run' in ap (λ (f : ℕ → ℕ). f a.port) e.others.passed ∙ c.requires.stands.passed

pub send-requires-clause-begun : goal.send-requires-clause-begun
send-requires-clause-begun g c κs within =
    let a = c.args in let r : RunView = run_view a.run in let e = c.in_ok-run.ensures in let s : RunView = run_view c.in_ok-run.run' in e.begun

pub send-requires-clause-short : goal.send-requires-clause-short
send-requires-clause-short g c κs within =
    let a = c.args in let r : RunView = run_view a.run in let e = c.in_ok-run.ensures in let s : RunView = run_view c.in_ok-run.run' in short_more (ENTRIES_AT_TURN + ENTRIES_OF_ACTIONS) ENTRIES_AT_FRAME s.world (omega arith) (subst (AreShort (ENTRIES_AT_TURN + ENTRIES_OF_ACTIONS)) (sym e.acted) (short_acted ENTRIES_AT_TURN a.port a.number (slice_get r.plan.guests a.port) r.world c.requires.short))

pub send-requires-clause-ready : goal.send-requires-clause-ready
send-requires-clause-ready g c κs within =
    let a = c.args in let r : RunView = run_view a.run in let e = c.in_ok-run.ensures in let s : RunView = run_view c.in_ok-run.run' in subst (λ (p : Plan). IsReady p s.world) (sym e.others.plan) (subst (IsReady r.plan) (sym e.acted) (ready_acted r.plan a.port a.number (slice_get r.plan.guests a.port) r.world c.requires.ready))

pub returns-clause-turn : goal.returns-clause-turn
returns-clause-turn g c =
    let a = c.args in let r : RunView = run_view a.run in let e = c.in_ok-run.ensures in let s : RunView = run_view c.in_ok-run.run' in returned c.send.result run_view (λ t. t.world ≡ turn r.plan a.number a.port r.world) (λ t. turned_is a.port a.number r s t e.others e.acted) c.send.ensures.sends

pub returns-clause-stands : goal.returns-clause-stands
returns-clause-stands g c =
    let a = c.args in let r : RunView = run_view a.run in let e = c.in_ok-run.ensures in let s : RunView = run_view c.in_ok-run.run' in returned c.send.result run_view (Stands (a.number + 1) a.port) (λ t. turned_stands a.port a.number r s t e.others e.begun c.requires.stands.passed) c.send.ensures.sends

pub returns-clause-others : goal.returns-clause-others
returns-clause-others g c =
    let a = c.args in let r : RunView = run_view a.run in let e = c.in_ok-run.ensures in let s : RunView = run_view c.in_ok-run.run' in returned c.send.result run_view (OthersStand a.port r) (λ t. turned_others a.port a.number r s t e.others) c.send.ensures.sends
