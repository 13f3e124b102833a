use Rattle.std.proofs.Common.{◌+◌, ◌*◌, ◌<◌, ◌∙◌, ap, sym, arith, subst, length, refl}
use Rattle.vmx_model.specs.declared.plan.Plan.{Plan}
use Rattle.vmx_model.specs.Serial.{turn}
use Rattle.vmx_model.specs.SerialSteps.{turns_none, turns_more}
use Rattle.vmx_model.specs.Turns.{IsReady}
use Rattle.vmx_model.proofs.Ready.{ready_turns}
use Rattle.vmx_replay_runs.specs.Runs.{RunView}
use Rattle.vmx_replay_order.proofs.Closing.{from_next, below_next}
use Rattle.vmx_replay_runs.specs.Short.{AreShort, ENTRIES_OF_TURN, ENTRIES_AT_ROUND, ENTRIES_AT_TURN}
use Rattle.vmx_replay_order.proofs.Short.{short_more, short_turns}
use Rattle.vmx_replay_actors.specs.Runs.{run_view}
use Rattle.vmx_replay_order.proofs.order.round.Goals as goal

pub loop-port-init : goal.loop-port-init
loop-port-init g c = let a = c.args in let r : RunView = run_view a.run in record {
  world = sym (turns_none r.plan a.number r.world);
  plan = refl;
  closings = refl;
  ahead = λ h le lt. c.requires.stand h lt;
  behind = λ h lt. absurd (omega (arith, lt));
}

pub turn-requires-clause-port : goal.turn-requires-clause-port
turn-requires-clause-port g c κs within =
    let a = c.args in let l = c.loop-port in let r : RunView = run_view a.run in let e = l.invariant in
    let low : l.port < length (run_view l.run).plan.guests = subst (λ (p : Plan). l.port < length p.guests) (sym e.plan) (let n = c.requires.guests in omega arith) in low

pub turn-requires-clause-stands : goal.turn-requires-clause-stands
turn-requires-clause-stands g c κs within =
    let a = c.args in let l = c.loop-port in let r : RunView = run_view a.run in let e = l.invariant in
    let low : l.port < length (run_view l.run).plan.guests = subst (λ (p : Plan). l.port < length p.guests) (sym e.plan) (let n = c.requires.guests in omega arith) in e.ahead l.port (omega arith) low

pub turn-requires-clause-short : goal.turn-requires-clause-short
turn-requires-clause-short g c κs within =
    let a = c.args in let l = c.loop-port in let r : RunView = run_view a.run in let e = l.invariant in
    let low : l.port < length (run_view l.run).plan.guests = subst (λ (p : Plan). l.port < length p.guests) (sym e.plan) (let n = c.requires.guests in omega arith) in short_more (ENTRIES_AT_ROUND + ENTRIES_OF_TURN * l.port) ENTRIES_AT_TURN (run_view l.run).world (omega arith) (subst (AreShort (ENTRIES_AT_ROUND + ENTRIES_OF_TURN * l.port)) (sym e.world) (short_turns ENTRIES_AT_ROUND r.plan a.number l.port r.world c.requires.short))

pub turn-requires-clause-ready : goal.turn-requires-clause-ready
turn-requires-clause-ready g c κs within =
    let a = c.args in let l = c.loop-port in let r : RunView = run_view a.run in let e = l.invariant in
    let low : l.port < length (run_view l.run).plan.guests = subst (λ (p : Plan). l.port < length p.guests) (sym e.plan) (let n = c.requires.guests in omega arith) in subst (λ (p : Plan). IsReady p (run_view l.run).world) (sym e.plan) (subst (IsReady r.plan) (sym e.world) (ready_turns r.plan a.number l.port r.world c.requires.ready))

pub loop-port-preserved : goal.loop-port-preserved
loop-port-preserved g c = let a = c.args in let l = c.loop-port in let r : RunView = run_view a.run in let i = l.invariant in let e = c.in_ok-run.ensures in
    let s : RunView = run_view l.run in let t : RunView = run_view c.in_ok-run.run' in record {
      world = e.turn ∙ ap (λ (p : Plan). turn p a.number l.port s.world) i.plan ∙ ap (turn r.plan a.number l.port) i.world ∙ sym (turns_more r.plan a.number l.port r.world);
      plan = e.others.plan ∙ i.plan;
      closings = e.others.closings ∙ i.closings;
      ahead = from_next a.number l.port s t e.others i.ahead;
      behind = below_next (a.number + 1) l.port s t e.others e.stands i.behind;
    }

pub returns-clause-stand : goal.returns-clause-stand
returns-clause-stand g c = let a = c.args in let l = c.loop-port in λ h lt. l.invariant.behind h (let n = c.requires.guests in let m = subst (λ (p : Plan). h < length p.guests) l.invariant.plan lt in omega arith)
