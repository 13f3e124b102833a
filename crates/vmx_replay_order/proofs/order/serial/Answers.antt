use Rattle.std.proofs.Common.{◌≡◌, ◌+◌, ◌*◌, ◌<◌, ◌∙◌, ℕ, ap, sym, arith, subst, length}
use Rattle.vmx_model.specs.declared.plan.Plan.{Plan}
use Rattle.vmx_model.specs.Serial.{turns, rounds, start, last_number, serial_run}
use Rattle.vmx_model.specs.SerialSteps.{rounds_none, rounds_more}
use Rattle.vmx_model.specs.Turns.{IsReady}
use Rattle.vmx_model.proofs.Ready.{ready_rounds, ready_start}
use Rattle.vmx_replay_runs.specs.Runs.{RunView}
use Rattle.vmx_replay_order.proofs.Returned.{returned}
use Rattle.vmx_replay_order.proofs.Closing.{at_first, over_last, run_is}
use Rattle.vmx_replay_runs.specs.Short.{AreShort, ENTRIES_OF_ROUND, ENTRIES_AT_ROUND, ENTRIES_AT_CLOSE}
use Rattle.vmx_replay_order.proofs.Short.{short_more, short_rounds}
use Rattle.vmx_replay_actors.specs.Runs.{run_view}
use Rattle.vmx_replay_order.proofs.order.serial.Goals as goal

pub loop-number-init : goal.loop-number-init
loop-number-init g c = let a = c.args in record {
  world = c.requires.start ∙ sym (rounds_none a.plan.now (start a.plan.now));
  plan = c.requires.plan;
  unclosed = c.requires.unclosed;
  stand = λ h lt. let f = c.requires.fresh h (subst (λ (p : Plan). h < length p.guests) c.requires.plan lt) in record { begun = λ p is. at_first p _ f.0; passed = f.1 };
}

pub round-requires-clause-guests : goal.round-requires-clause-guests
round-requires-clause-guests g c κs within =
    let a = c.args in let l = c.loop-number in let i = l.invariant in c.len-guests.ensures.len ∙ ap (λ (p : Plan). length p.guests) (sym i.plan)

pub round-requires-clause-stand : goal.round-requires-clause-stand
round-requires-clause-stand g c κs within =
    let a = c.args in let l = c.loop-number in let i = l.invariant in i.stand

pub round-requires-clause-short : goal.round-requires-clause-short
round-requires-clause-short g c κs within =
    let a = c.args in let l = c.loop-number in let i = l.invariant in short_more (1 + ENTRIES_OF_ROUND * l.number) ENTRIES_AT_ROUND (run_view l.run).world (omega arith) (subst (AreShort (1 + ENTRIES_OF_ROUND * l.number)) (sym i.world) (short_rounds a.plan.now l.number))

pub round-requires-clause-ready : goal.round-requires-clause-ready
round-requires-clause-ready g c κs within =
    let a = c.args in let l = c.loop-number in let i = l.invariant in subst (λ (p : Plan). IsReady p (run_view l.run).world) (sym i.plan) (subst (IsReady a.plan.now) (sym i.world) (ready_rounds a.plan.now l.number (start a.plan.now) (ready_start a.plan.now)))

pub loop-number-preserved : goal.loop-number-preserved
loop-number-preserved g c = let a = c.args in let l = c.loop-number in let i = l.invariant in let e = c.in_ok-run.ensures in let s : RunView = run_view l.run in record {
  world = e.turns ∙ ap (λ (p : Plan). turns p l.number c.len-guests.result s.world) i.plan ∙ ap (λ (n : ℕ). turns a.plan.now l.number n s.world) c.len-guests.ensures.len ∙ ap (turns a.plan.now l.number (length a.plan.now.guests)) i.world ∙ sym (rounds_more a.plan.now l.number (start a.plan.now));
  plan = e.plan ∙ i.plan;
  unclosed = e.closings ∙ i.unclosed;
  stand = e.stand;
}

pub close_all-requires-clause-guests : goal.close_all-requires-clause-guests
close_all-requires-clause-guests g c κs within =
    let a = c.args in let l = c.loop-number in let i = l.invariant in
    let ended : l.number ≡ last_number a.plan.now.guests = omega arith in c.len-guests.ensures.len ∙ ap (λ (p : Plan). length p.guests) (sym i.plan)

pub close_all-requires-clause-unclosed : goal.close_all-requires-clause-unclosed
close_all-requires-clause-unclosed g c κs within =
    let a = c.args in let l = c.loop-number in let i = l.invariant in
    let ended : l.number ≡ last_number a.plan.now.guests = omega arith in i.unclosed

pub close_all-requires-clause-over : goal.close_all-requires-clause-over
close_all-requires-clause-over g c κs within =
    let a = c.args in let l = c.loop-number in let i = l.invariant in
    let ended : l.number ≡ last_number a.plan.now.guests = omega arith in λ h lt. over_last l.number h (run_view l.run) (ended ∙ ap (λ (p : Plan). last_number p.guests) (sym i.plan)) (i.stand h lt)

pub close_all-requires-clause-short : goal.close_all-requires-clause-short
close_all-requires-clause-short g c κs within =
    let a = c.args in let l = c.loop-number in let i = l.invariant in
    let ended : l.number ≡ last_number a.plan.now.guests = omega arith in short_more (1 + ENTRIES_OF_ROUND * l.number) ENTRIES_AT_CLOSE (run_view l.run).world (omega arith) (subst (AreShort (1 + ENTRIES_OF_ROUND * l.number)) (sym i.world) (short_rounds a.plan.now l.number))

pub close_all-requires-clause-ready : goal.close_all-requires-clause-ready
close_all-requires-clause-ready g c κs within =
    let a = c.args in let l = c.loop-number in let i = l.invariant in
    let ended : l.number ≡ last_number a.plan.now.guests = omega arith in subst (λ (p : Plan). IsReady p (run_view l.run).world) (sym i.plan) (subst (IsReady a.plan.now) (sym i.world) (ready_rounds a.plan.now l.number (start a.plan.now) (ready_start a.plan.now)))

pub returns-clause-run : goal.returns-clause-run
returns-clause-run g c =
    let a = c.args in let l = c.loop-number in let i = l.invariant in
    let ended : l.number ≡ last_number a.plan.now.guests = omega arith in returned c.close_all.result run_view (λ t. t.world ≡ serial_run a.plan.now) (λ t e. ap (λ (x : RunView). x.world) e ∙ run_is a.plan.now (run_view l.run).world (i.world ∙ ap (λ (n : ℕ). rounds a.plan.now n (start a.plan.now)) ended)) c.close_all.ensures.closed

pub returns-clause-plan : goal.returns-clause-plan
returns-clause-plan g c =
    let a = c.args in let l = c.loop-number in let i = l.invariant in
    let ended : l.number ≡ last_number a.plan.now.guests = omega arith in returned c.close_all.result run_view (λ t. t.plan ≡ a.plan.now) (λ t e. ap (λ (x : RunView). x.plan) e ∙ i.plan) c.close_all.ensures.closed

pub returns-clause-closed : goal.returns-clause-closed
returns-clause-closed g c =
    let a = c.args in let l = c.loop-number in let i = l.invariant in
    let ended : l.number ≡ last_number a.plan.now.guests = omega arith in returned c.close_all.result run_view (λ t. t.closings ≡ length a.plan.now.guests) (λ t e. ap (λ (x : RunView). x.closings) e ∙ ap (λ (p : Plan). length p.guests) i.plan) c.close_all.ensures.closed
