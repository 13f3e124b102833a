use Rattle.std.proofs.Common.{◌≡◌, ◌<◌, ◌++◌, length, map, ap, sym, ◌∙◌, subst, append-nil, arith, List, Some}
use Rattle.std.specs.List.{slice_get}
use Rattle.vmx_model.specs.declared.guest.GuestPlan.{GuestPlan}
use Rattle.vmx_model.specs.declared.journal.Entry.{Entry}
use Rattle.vmx_model.specs.PlanSteps.{there}
use Rattle.vmx_copies.specs.Join.{AreInOrder, guest_rows, rows_from}
use Rattle.vmx_copies.proofs.Steps.{guests_next}
use Rattle.vmx_copies.proofs.Tables.{has_port, none_left, records_few}
use Rattle.vmx_copies.proofs.join.all_rows.Goals as goal

pub rows_of-requires-clause-port : goal.rows_of-requires-clause-port
rows_of-requires-clause-port c = let a = c.args in subst (λ (w : _). c.loop-port.port < length w.macs) (sym c.requires.switch) (has_port a.plan.now.guests c.loop-port.port (omega arith))

pub rows_of-requires-clause-few : goal.rows_of-requires-clause-few
rows_of-requires-clause-few c = let a = c.args in records_few a.plan.now c.loop-port.port c.at.result.now (there a.plan.now.guests c.loop-port.port c.at.result.now (omega arith) c.at.ensures.value)

pub loop-port-preserved : goal.loop-port-preserved
loop-port-preserved c = λ ord.
    let a = c.args in let gs = a.plan.now.guests in let l = c.loop-port in let p = c.at.result.now in let js = map (λ j. j.now) a.journals.now in
    let at : slice_get gs l.port ≡ Some p = there gs l.port p (omega arith) c.at.ensures.value in
    let order : AreInOrder p c.journal_at.result.now = subst (AreInOrder p) (sym c.journal_at.ensures.entries) (ord.each l.port p at) in
    guests_next a.switch.now a.arrivals.now js gs l.port p l.rows c.rows_of.new.rows _ (omega arith) c.at.ensures.value (l.invariant ord)
    (c.in_ok-rows_of.ensures.rows order ∙ ap (λ (es : List Entry). l.rows ++ guest_rows a.switch.now a.arrivals.now es l.port p) c.journal_at.ensures.entries)

pub returns : goal.returns
returns c = let a = c.args in let js = map (λ j. j.now) a.journals.now in let l = c.loop-port in record {
  rows = λ ord. sym (append-nil l.rows) ∙ ap (λ (gs : List GuestPlan). l.rows ++ rows_from a.switch.now a.arrivals.now js l.port gs) (sym (none_left a.plan.now.guests l.port (omega arith))) ∙ l.invariant ord;
}
