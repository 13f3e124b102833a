-- The actions up to a captured number are the first of a script.
use Rattle.std.proofs.lemmas.Bool.Decides.{nat_tests}
use Rattle.std.proofs.Common.{◌≡◌, ℕ, zero, suc, ◌<◌, ◌≤◌, Bool, true, false, List, [], ◌∷◌, take, refl, ap, arith, Option, Some, None, nat_le, nat_lt}
use Rattle.std.specs.List.{slice_get, AllByRecursion}
use Rattle.vmx_model.specs.declared.deeds.Action.{Action}
use Rattle.vmx_model.specs.Deeds.{quiet_after}
use Rattle.vmx_model.specs.Ranges.{fits_from}
use Rattle.vmx_model.specs.Plan.{past}
use Rattle.vmx_plan_bounds.proofs.Scripts.{ordered}

-- no action comes before the frame of this number
abbrev pub is_later : ℕ → Option Action → Bool
is_later n None = true
is_later n (Some a) = nat_lt n a.at

module _ (queues : ℕ) (rss : Bool) where
  none_past : (quiet : Bool) (at i : ℕ) (acts : List Action) → fits_from queues rss quiet at acts ≡ true → i < at → past i acts ≡ []
  none_past quiet at i [] e lt = refl
  none_past quiet at i (a ∷ rest) e lt =
      let o = ordered queues rss quiet at a rest e in let low = o.0 in
      let out : nat_le a.at i ≡ false = grind (arith, nat_tests) in
      rw out (none_past (quiet_after quiet a.deed) a.at i rest o.2 (omega (arith, low, lt)))

  -- the actions up to a number are the first k, where these are up to it and the next is later
  pub past_from : (quiet : Bool) (at i : ℕ) (script : List Action) (k : ℕ) → fits_from queues rss quiet at script ≡ true → AllByRecursion (λ (a : Action). a.at ≤ i) (take k script) → is_later i (slice_get script k) ≡ true → past i script ≡ take k script
  past_from quiet at i [] zero e all later = refl
  past_from quiet at i [] (suc k) e all later = refl
  past_from quiet at i (a ∷ rest) zero e all later =
      let o = ordered queues rss quiet at a rest e in
      let lt : i < a.at = grind (arith, nat_tests) in
      let out : nat_le a.at i ≡ false = grind (arith, nat_tests) in
      rw out (none_past (quiet_after quiet a.deed) a.at i rest o.2 lt)
  past_from quiet at i (a ∷ rest) (suc k) e all later =
      let o = ordered queues rss quiet at a rest e in let le : a.at ≤ i = all.0 in
      let here : nat_le a.at i ≡ true = grind (arith, nat_tests) in
      rw here (ap (λ (xs : List Action). a ∷ xs) (past_from (quiet_after quiet a.deed) a.at i rest k o.2 all.1 later))
