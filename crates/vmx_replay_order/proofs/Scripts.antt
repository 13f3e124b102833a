-- The actions of a number, one by one, as a driver that counts the actions begun makes them.
use Rattle.std.proofs.Common.{◌≡◌, ℕ, zero, suc, ◌<◌, true, false, List, [], ◌∷◌, take, drop, refl, ap, ◌∙◌, arith, nat_eq, Some}
use Rattle.std.specs.List.{fold, filter, slice_get, AllByRecursion}
use Rattle.std.proofs.lemmas.Bool.Decides.{nat_tests}
use Rattle.vmx_model.specs.declared.guest.GuestPlan.{GuestPlan}
use Rattle.vmx_model.specs.declared.deeds.Action.{Action}
use Rattle.vmx_model.specs.Serial.{Seat, acted, done}
use Rattle.vmx_plan_bounds.specs.Numbers.{InOrder}
use Rattle.vmx_replay_runs.specs.Standing.{AreBefore}

-- the actions of a number among those left, in order
abbrev pub acts_left : ℕ → GuestPlan → ℕ → List Action → Seat → Seat
acts_left port g n rest s = fold (λ s (a : Action). done port g a.deed s) s (filter (λ (a : Action). nat_eq a.at n) rest)

skip : (n k : ℕ) (acts : List Action) → AreBefore n (take k acts) → filter (λ (a : Action). nat_eq a.at n) acts ≡ filter (λ (a : Action). nat_eq a.at n) (drop k acts)
skip n zero acts h = refl
skip n (suc k) [] h = refl
skip n (suc k) (a ∷ acts) h = let lt = h.0 in let no : nat_eq a.at n ≡ false = grind (arith, nat_tests) in rw no (skip n k acts h.1)

-- a turn begins with the actions that are left
pub acted_is : (port : ℕ) (g : GuestPlan) (n k : ℕ) (s : Seat) → AreBefore n (take k g.script) → acted port g n s ≡ acts_left port g n (drop k g.script) s
acted_is port g n k s h = ap (fold (λ s (a : Action). done port g a.deed s) s) (skip n k g.script h)

drop_next : {X : Type 0} (xs : List X) (k : ℕ) (x : X) → slice_get xs k ≡ Some x → drop k xs ≡ x ∷ drop (suc k) xs
drop_next [] k x h = absurd (cc h)
drop_next (y ∷ ys) zero x h = let e : y ≡ x = cc h in ap (λ z. z ∷ ys) e
drop_next (y ∷ ys) (suc k) x h = drop_next ys k x h

-- an action of this number is done, and the rest is left
pub acts_next : (port : ℕ) (g : GuestPlan) (n k : ℕ) (a : Action) (s : Seat) → slice_get g.script k ≡ Some a → a.at ≡ n → acts_left port g n (drop k g.script) s ≡ acts_left port g n (drop (suc k) g.script) (done port g a.deed s)
acts_next port g n k a s there_ at =
    let yes : nat_eq a.at n ≡ true = grind (arith, nat_tests) in
    ap (λ (acts : List Action). acts_left port g n acts s) (drop_next g.script k a there_) ∙ rw yes refl

none_of : (n : ℕ) (acts : List Action) → AllByRecursion (λ (a : Action). n < a.at) acts → filter (λ (a : Action). nat_eq a.at n) acts ≡ []
none_of n [] h = refl
none_of n (a ∷ acts) h = let lt = h.0 in let no : nat_eq a.at n ≡ false = grind (arith, nat_tests) in rw no (none_of n acts h.1)

-- where those left are of later numbers, nothing is left to be done
pub acts_over : (port : ℕ) (g : GuestPlan) (n : ℕ) (acts : List Action) (s : Seat) → AllByRecursion (λ (a : Action). n < a.at) acts → acts_left port g n acts s ≡ s
acts_over port g n acts s h = ap (fold (λ s (a : Action). done port g a.deed s) s) (none_of n acts h)

-- what is left of a script in order is in order
pub drop_order : (k : ℕ) (acts : List Action) → InOrder acts → InOrder (drop k acts)
drop_order zero acts h = h
drop_order (suc k) [] h = h
drop_order (suc k) (a ∷ acts) h = drop_order k acts h.1
