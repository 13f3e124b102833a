use Rattle.std.proofs.Common.{ℕ, ◌+◌, ◌<◌, ◌∙◌, ap, sym, arith, subst, length}
use Rattle.vmx_model.specs.Turns.{IsReady}
use Rattle.vmx_model.proofs.Ready.{closed_to}
use Rattle.vmx_replay_runs.specs.Runs.{RunView}
use Rattle.vmx_replay_runs.specs.Standing.{IsOver}
use Rattle.vmx_replay_order.proofs.Closing.{closed_next, closed_ready, closed_whole}
use Rattle.vmx_replay_runs.specs.Short.{AreShort, ENTRIES_AT_CLOSE, MOST_ENTRIES}
use Rattle.vmx_replay_order.proofs.Short.{short_more, short_closed}
use Rattle.vmx_replay_actors.specs.Runs.{run_view}
use Rattle.vmx_replay_order.proofs.order.close_all.Goals as goal

pub loop-port-init : goal.loop-port-init
loop-port-init g c = let r : RunView = run_view c.args.run in ap (λ (k : ℕ). record r { closings = k }) c.requires.unclosed

pub close-requires-clause-port : goal.close-requires-clause-port
close-requires-clause-port g c κs within =
    let a = c.args in let l = c.loop-port in let r : RunView = run_view a.run in let e = l.invariant in
    let low : l.port < length r.plan.guests = (let n = c.requires.guests in omega arith) in subst (λ (x : RunView). l.port < length x.plan.guests) (sym e) low

pub close-requires-clause-next : goal.close-requires-clause-next
close-requires-clause-next g c κs within =
    let a = c.args in let l = c.loop-port in let r : RunView = run_view a.run in let e = l.invariant in
    let low : l.port < length r.plan.guests = (let n = c.requires.guests in omega arith) in ap (λ (x : RunView). x.closings) e

pub close-requires-clause-over : goal.close-requires-clause-over
close-requires-clause-over g c κs within =
    let a = c.args in let l = c.loop-port in let r : RunView = run_view a.run in let e = l.invariant in
    let low : l.port < length r.plan.guests = (let n = c.requires.guests in omega arith) in subst (λ (x : RunView). IsOver l.port x) (sym e) (c.requires.over l.port low)

pub close-requires-clause-ready : goal.close-requires-clause-ready
close-requires-clause-ready g c κs within =
    let a = c.args in let l = c.loop-port in let r : RunView = run_view a.run in let e = l.invariant in
    let low : l.port < length r.plan.guests = (let n = c.requires.guests in omega arith) in subst (λ (x : RunView). IsReady x.plan x.world) (sym e) (closed_ready r.plan l.port r.world c.requires.ready)

pub close-requires-clause-short : goal.close-requires-clause-short
close-requires-clause-short g c κs within =
    let a = c.args in let l = c.loop-port in let r : RunView = run_view a.run in let e = l.invariant in
    let low : l.port < length r.plan.guests = (let n = c.requires.guests in omega arith) in subst (λ (x : RunView). AreShort MOST_ENTRIES x.world) (sym e) (short_more (ENTRIES_AT_CLOSE + l.port) MOST_ENTRIES (record r.world { seats = closed_to l.port r.world.seats }) (omega arith) (short_closed ENTRIES_AT_CLOSE l.port r.world c.requires.short))

pub loop-port-preserved : goal.loop-port-preserved
loop-port-preserved g c = let l = c.loop-port in closed_next l.port (run_view c.args.run) (run_view l.run) (run_view c.in_ok-run.run') l.invariant c.in_ok-run.ensures.closes

pub returns : goal.returns
returns g c = let l = c.loop-port in let r : RunView = run_view c.args.run in
    record { closed = l.invariant ∙ closed_whole l.port r (let n = c.requires.guests in let s = c.requires.ready.seats in omega arith) (let n = c.requires.guests in omega arith) }
