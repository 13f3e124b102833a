-- The actions of a script stand in the order of their numbers, and these are few.
use Rattle.std.proofs.Common.{◌≡◌, ℕ, ◌≤◌, Bool, true, false, List, [], ◌∷◌, nat_le, arith}
use Rattle.std.specs.List.{AllByRecursion}
use Rattle.std.proofs.lemmas.List.Elements.{All-nil, All-cons}
use Rattle.std.proofs.lemmas.Bool.{and_parts, leb-true}
use Rattle.vmx_model.specs.declared.limits.TheConstants.{MAX_NUMBER}
use Rattle.vmx_model.specs.declared.guest.GuestPlan.{GuestPlan}
use Rattle.vmx_model.specs.declared.deeds.Action.{Action}
use Rattle.vmx_model.specs.Deeds.{quiet_after}
use Rattle.vmx_model.specs.Ranges.{fits_deed, fits_from, is_within, is_in_turn}
use Rattle.vmx_plan_bounds.specs.Numbers.{AreEarly, InOrder}

module _ (queues : ℕ) (rss : Bool) where
  -- an action's number is no less than the one before it, and no more than the greatest; the rest of the script fits behind it
  pub ordered : (quiet : Bool) (at : ℕ) (a : Action) (rest : List Action) → fits_from queues rss quiet at (a ∷ rest) ≡ true → (at ≤ a.at) × (a.at ≤ MAX_NUMBER) × (fits_from queues rss (quiet_after quiet a.deed) a.at rest ≡ true)
  ordered quiet at a rest e =
      let all = and_parts (is_within at MAX_NUMBER a.at) _ e in
      let range = and_parts (nat_le at a.at) (nat_le a.at MAX_NUMBER) all.0 in
      let turn = and_parts (fits_deed queues rss a.deed) _ all.1 in
      (leb-true _ _ range.0, leb-true _ _ range.1, (and_parts (is_in_turn quiet a.deed) _ turn.1).1)

  early : (quiet : Bool) (at : ℕ) (script : List Action) → fits_from queues rss quiet at script ≡ true → AreEarly script
  early quiet at [] e = All-nil (λ (a : Action). a.at ≤ MAX_NUMBER)
  early quiet at (a ∷ rest) e = let o = ordered quiet at a rest e in All-cons (λ (a : Action). a.at ≤ MAX_NUMBER) a rest o.1 (early (quiet_after quiet a.deed) a.at rest o.2)

  from_all : (quiet : Bool) (low at : ℕ) (script : List Action) → low ≤ at → fits_from queues rss quiet at script ≡ true → AllByRecursion (λ (b : Action). low ≤ b.at) script
  from_all quiet low at [] le e = tt
  from_all quiet low at (a ∷ rest) le e =
      let o = ordered quiet at a rest e in let up = o.0 in
      let here : low ≤ a.at = omega (arith, le, up) in (here, from_all (quiet_after quiet a.deed) low a.at rest here o.2)

  in_order : (quiet : Bool) (at : ℕ) (script : List Action) → fits_from queues rss quiet at script ≡ true → InOrder script
  in_order quiet at [] e = tt
  in_order quiet at (a ∷ rest) e =
      let o = ordered quiet at a rest e in
      (from_all (quiet_after quiet a.deed) a.at a.at rest (omega arith) o.2, in_order (quiet_after quiet a.deed) a.at rest o.2)

-- no action of a guest has a number above the greatest
pub script_early : (g : GuestPlan) → AreEarly g.script
script_early g = early g.setup.rx_queues _ false 0 g.script g.script_fits

-- a guest's script is in order
pub script_in_order : (g : GuestPlan) → InOrder g.script
script_in_order g = in_order g.setup.rx_queues _ false 0 g.script g.script_fits
