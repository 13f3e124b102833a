-- The last number of a plan, one guest at a time.
use Rattle.std.proofs.Common.{◌≡◌, ℕ, zero, suc, ◌+◌, ◌<◌, ◌≤◌, max, List, [], ◌∷◌, length, drop, get_or, Some, sym, ap, ◌∙◌, subst, arith}
use Rattle.std.specs.List.{slice_get}
use Rattle.std.proofs.Math.Nat.{le-max_left, le-max_right}
use Rattle.std.proofs.lemmas.List.{at_drop_more}
use Rattle.vmx_model.specs.declared.guest.GuestPlan.{GuestPlan}
use Rattle.vmx_model.specs.Serial.{last_number}
use Rattle.vmx_model.specs.Totals.{records_of}
use Rattle.vmx_plan_bounds.specs.Numbers.{last_of}

-- a guest has at most all records
pub records_at : (gs : List GuestPlan) (i : ℕ) (g : GuestPlan) → i < length gs → g ≡ get_or gs i g → length g.capture.records ≤ records_of gs
records_at [] i g lt is = absurd (omega arith)
records_at (h ∷ hs) zero g lt is = let e = ap (λ (x : GuestPlan). length x.capture.records) is in omega arith
records_at (h ∷ hs) (suc i) g lt is = let r = records_at hs i g (omega arith) is in omega arith

-- one guest further
pub last_next : (gs : List GuestPlan) (i : ℕ) (g : GuestPlan) → i < length gs → g ≡ get_or gs i g → last_number (drop i gs) ≡ max (last_of g) (last_number (drop (i + 1) gs))
last_next gs i g lt is = at_drop_more last_number gs i g lt ∙ ap (λ (x : GuestPlan). max (last_of x) (last_number (drop (i + 1) gs))) (sym is)

same_item : {X : Type 0} (x y : X) → Some x ≡ Some y → x ≡ y
same_item x y e = cc e

none_there : {X : Type 0} (i : ℕ) (x : X) → slice_get [] i ≡ Some x → ⊥
none_there i x e = absurd (cc e)

-- the last number of a plan is no less than that of each guest
pub last_behind : (gs : List GuestPlan) (i : ℕ) (g : GuestPlan) → slice_get gs i ≡ Some g → last_of g ≤ last_number gs
last_behind [] i g is = absurd (none_there i g is)
last_behind (h ∷ hs) zero g is = subst (λ (x : GuestPlan). last_of x ≤ max (last_of h) (last_number hs)) (same_item h g is) (le-max_left (last_of h) (last_number hs))
last_behind (h ∷ hs) (suc i) g is = rises (last_of g) (last_number hs) (max (last_of h) (last_number hs)) (last_behind hs i g is) (le-max_right (last_of h) (last_number hs))
  where
    rises : (a b c : ℕ) → a ≤ b → b ≤ c → a ≤ c
    rises a b c low high = omega (arith, low, high)
