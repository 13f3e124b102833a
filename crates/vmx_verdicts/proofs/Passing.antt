-- A walk over the actions of a frame.
use Rattle.std.proofs.lemmas.Bool.Decides.{nat_tests}
use Rattle.std.proofs.Common.{◌≡◌, ℕ, ◌+◌, ◌<◌, ◌≤◌, Bool, true, false, not, true≢false, List, [], ◌∷◌, length, get_or, refl, sym, subst, arith, Option, Some, None, nat_lt}
use Rattle.std.specs.List.{slice_get}
use Rattle.std.proofs.lemmas.Option.{slice_get_within, slice_get_read}
use Rattle.vmx_model.specs.declared.limits.TheConstants.{MAX_ACTIONS}
use Rattle.vmx_model.specs.declared.guest.GuestPlan.{GuestPlan}
use Rattle.vmx_model.specs.declared.deeds.Action.{Action}
use Rattle.vmx_model.specs.Deeds.{begins, quiet_after}
use Rattle.vmx_verdicts.specs.Ordered.{is_later}
use Rattle.vmx_verdicts.specs.Walks.{IsWalk, acts_on, few_done}

due_low : (n : ℕ) (o : Option Action) (a : Action) → o ≡ Some a → not (is_later n o) ≡ true → a.at ≤ n
due_low n o a e due = low (subst (λ (o : Option Action). not (is_later n o) ≡ true) e due)
  where
    low : not (nat_lt n a.at) ≡ true → a.at ≤ n
    low d = grind (arith, nat_tests, d)

-- an action that is due is there
pub due_within : (n i : ℕ) (acts : List Action) → not (is_later n (slice_get acts i)) ≡ true → i < length acts
due_within n i acts due = by_option (slice_get acts i) refl
  where
    by_option : (o : Option Action) → slice_get acts i ≡ o → i < length acts
    by_option None e = absurd (true≢false (sym (subst (λ (o : Option Action). not (is_later n o) ≡ true) e due)))
    by_option (Some a) e = slice_get_within acts i a e

-- one action on
pub pass_step : (g : GuestPlan) (next done : ℕ) (quiet : Bool) (activation : ℕ) (counts : List ℕ) (a : Action) (done' : ℕ) (quiet' : Bool) (activation' : ℕ) (counts' : List ℕ)
    → IsWalk g next done quiet activation counts → not (is_later next (slice_get g.script done)) ≡ true → a ≡ get_or g.script done a
    → done' ≡ done + 1 → quiet' ≡ quiet_after quiet a.deed
    → (begins a.deed ≡ false → (activation' ≡ activation) × (counts' ≡ counts)) → (begins a.deed ≡ true → (activation' ≡ activation + 1) × (counts' ≡ 0 ∷ 0 ∷ 0 ∷ 0 ∷ 0 ∷ 0 ∷ 0 ∷ 0 ∷ []))
    → IsWalk g next done' quiet' activation' counts'
pass_step g next done quiet activation counts a done' quiet' activation' counts' w due is more after same new = subst (λ (d : ℕ). IsWalk g next d quiet' activation' counts') (sym more)
    (subst (λ (q : Bool). IsWalk g next (done + 1) q activation' counts') (sym after) (acts_on g next done quiet activation counts a w there low activation' counts' same new))
  where
    there : slice_get g.script done ≡ Some a
    there = slice_get_read g.script (length g.script) done a refl (due_within next done g.script due) is

    low : a.at ≤ next
    low = due_low next (slice_get g.script done) a there due

-- an action that is due is one of few
pub pass_few : (g : GuestPlan) (next done : ℕ) (quiet : Bool) (activation : ℕ) (counts : List ℕ) (a : Action) → IsWalk g next done quiet activation counts
    → not (is_later next (slice_get g.script done)) ≡ true → a ≡ get_or g.script done a → (done < MAX_ACTIONS) × (activation < MAX_ACTIONS)
pass_few g next done quiet activation counts a w due is = few_done g next done quiet activation counts a w (slice_get_read g.script (length g.script) done a refl (due_within next done g.script due) is)
