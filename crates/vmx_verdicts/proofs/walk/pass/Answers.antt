use Rattle.std.proofs.Common.{◌≡◌, ◌+◌, true, false, not, List, [], ◌∷◌, get_or, ap, sym, ◌∙◌, subst, arith}
use Rattle.std.specs.List.{slice_get}
use Rattle.vmx_model.specs.declared.deeds.Action.{Action}
use Rattle.vmx_model.specs.Deeds.{begins, quiet_after}
use Rattle.vmx_verdicts.specs.Ordered.{is_later}
use Rattle.vmx_verdicts.proofs.Passing.{due_within, pass_step, pass_few}
use Rattle.vmx_verdicts.proofs.walk.pass.Goals as goal

pub pass_one-requires : goal.pass_one-requires
pass_one-requires c = let s = c.loop-standing.standing in
    let due : not (is_later c.args.next (slice_get c.args.guest.now.script s.done)) ≡ true = sym c.is_due.ensures.due ∙ c.loop-standing-test.true in
    let is = c.index-as_slice-standing.is ∙ ap (λ (xs : List Action). get_or xs s.done c.index-as_slice-standing.result) c.as_slice.ensures.items in
    record { few = pass_few c.args.guest.now c.args.next s.done s.quiet s.activation s.counts c.index-as_slice-standing.result c.loop-standing.invariant due is }

pub loop-standing-smaller : goal.loop-standing-smaller
loop-standing-smaller c = let s = c.loop-standing.standing in
    let due : not (is_later c.args.next (slice_get c.args.guest.now.script s.done)) ≡ true = sym c.is_due.ensures.due ∙ c.loop-standing-test.true in
    let lt = due_within c.args.next s.done c.args.guest.now.script due in let on = c.pass_one.ensures.done in omega (arith, lt, on)

pub loop-standing-preserved : goal.loop-standing-preserved
loop-standing-preserved c = let s = c.loop-standing.standing in let t = c.pass_one.new.standing in let e = c.pass_one.ensures in
    let x = c.index-as_slice-standing.result in let at_x = c.index-as_slice-standing.is in
    let due : not (is_later c.args.next (slice_get c.args.guest.now.script s.done)) ≡ true = sym c.is_due.ensures.due ∙ c.loop-standing-test.true in
    let is = at_x ∙ ap (λ (xs : List Action). get_or xs s.done x) c.as_slice.ensures.items in
    let quiet = e.quiet ∙ ap (λ (a : Action). quiet_after s.quiet a.deed) (sym at_x) in
    let same = subst (λ (a : Action). begins a.deed ≡ false → (t.activation ≡ s.activation) × (t.counts ≡ s.counts)) (sym at_x) e.same in
    let new = subst (λ (a : Action). begins a.deed ≡ true → (t.activation ≡ s.activation + 1) × (t.counts ≡ 0 ∷ 0 ∷ 0 ∷ 0 ∷ 0 ∷ 0 ∷ 0 ∷ 0 ∷ [])) (sym at_x) e.begins in
    pass_step c.args.guest.now c.args.next s.done s.quiet s.activation s.counts x t.done t.quiet t.activation t.counts c.loop-standing.invariant due is e.done quiet same new
