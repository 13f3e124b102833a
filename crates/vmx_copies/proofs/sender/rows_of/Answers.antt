use Rattle.std.proofs.Common.{◌≡◌, ◌<◌, ◌≤◌, ◌+◌, ◌*◌, ◌++◌, ◌∙◌, ap, sym, subst, append-nil, arith, replicate, ℕ, List, length, take}
use Rattle.std.specs.List.{flat_map}
use Rattle.std.proofs.lemmas.List.{take_all, length-replicate}
use Rattle.vmx_verdicts.specs.Walks.{Walk}
use Rattle.vmx_model.specs.Plan.{Captured, captured}
use Rattle.vmx_model.proofs.Sends.{some_there, captured_long}
use Rattle.vmx_copies.specs.Join.{IsPassed, frame_rows}
use Rattle.vmx_copies.proofs.Steps.{passed_none, frames_next}
use Rattle.vmx_copies.proofs.sender.rows_of.Goals as goal

pub loop-number-init : goal.loop-number-init
loop-number-init c = let a = c.args in let s = a.sender.now in
    let none : c.in_ok-passed.passed.items ≡ replicate ((c.len.result + 1) * 8) 0 = c.in_ok-passed.ensures.items_if_clones_equal (λ y h. cc h) in record {
      walk = c.new-walk.ensures.new;
      cursors = ap length none ∙ length-replicate {A = ℕ} ((c.len.result + 1) * 8) 0;
      passed = λ ord. subst (IsPassed s.guest.now s.entries.now 0) (sym none) (passed_none s.guest.now s.entries.now ((c.len.result + 1) * 8));
      rows = λ ord. sym (append-nil a.rows.now);
    }

pub loop-number-preserved : goal.loop-number-preserved
loop-number-preserved c = let a = c.args in let s = a.sender.now in let l = c.loop-number in let inv = l.invariant in let p = s.guest.now in
    let lt : l.number < length p.capture.records = omega arith in
    let r = some_there p.capture.records l.number lt in record {
      walk = c.next-sending.ensures.on ∙ ap (λ (w : Walk). record w { next = w.next + 1 }) inv.walk;
      cursors = c.frame_copies.ensures.cursors ∙ inv.cursors;
      passed = λ ord. c.in_ok-frame_copies.ensures.passed ord (inv.passed ord);
      rows = λ ord. frames_next (frame_rows s.switch.now s.arrivals.now s.entries.now s.port p) p l.number r.0 a.rows.now l.rows c.frame_copies.new.rows r.1 (inv.rows ord) (c.in_ok-frame_copies.ensures.rows r.0 r.1 ord (inv.passed ord));
    }

pub returns : goal.returns
returns c = let a = c.args in let s = a.sender.now in let l = c.loop-number in let p = s.guest.now in
    let long = captured_long p in
    let le : length (captured p) ≤ l.number = omega (arith, long) in record {
      rows = λ ord. l.invariant.rows ord ∙ ap (λ (cs : List Captured). a.rows.now ++ flat_map (frame_rows s.switch.now s.arrivals.now s.entries.now s.port p) cs) (take_all l.number (captured p) le);
    }
