-- The copies of a frame that cross their links one by one leave what they leave in two turns.
use Rattle.std.proofs.Common.{◌≡◌, ◌≢◌, ℕ, zero, suc, List, [], ◌∷◌, length, refl, ap, ap₂, sym, ◌∙◌, true, false, Bool, if◌then◌else◌}
use Rattle.std.specs.List.{fold, AllByRecursion}
use Rattle.vmx_model.specs.declared.journal.Entry.TheVariants as entry
use Rattle.vmx_model.specs.declared.journal.Way.TheVariants as way
use Rattle.vmx_model.specs.Types.{Plan, Tag}
use Rattle.vmx_model.specs.Serial.{Carried, Wire, World, Seat, where_it, is_wire, at_number, noted, arrived, mac_of, pushed_on, carried, reaches}
use Rattle.vmx_model.specs.Turns.{pushes, pulls, pulled_on, put_out, taken_in, IsEmptied, AreEmptied}
use Rattle.vmx_model.proofs.Folds.{where_all, carried_even}

at_both : {X : Type 0} (n m : ℕ) (f h : X → X) (xs : List X) → n ≢ m → at_number n f (at_number m h xs) ≡ at_number m h (at_number n f xs)
at_both n m f h [] other = refl
at_both zero zero f h (x ∷ xs) other = absurd (other refl)
at_both zero (suc m) f h (x ∷ xs) other = refl
at_both (suc n) zero f h (x ∷ xs) other = refl
at_both (suc n) (suc m) f h (x ∷ xs) other = ap (λ (ys : List _). x ∷ ys) (at_both n m f h xs (λ e. other (ap suc e)))

-- ------------------------------------------------------------ links

module _ (p : Carried) (from to : ℕ) where
  one_carried : (b : Bool) (l : Wire) → is_wire from to l ≡ b → (if is_wire from to (if b then pushes p l else l) then pulls p (if b then pushes p l else l) else (if b then pushes p l else l)) ≡ (if b then carried p l else l)
  one_carried true l e = rw e refl
  one_carried false l e = rw e refl

  -- pushed and then pulled, it is carried
  both_carried : (ws : List Wire) → where_it (is_wire from to) (pulls p) (where_it (is_wire from to) (pushes p) ws) ≡ where_it (is_wire from to) (carried p) ws
  both_carried [] = refl
  both_carried (l ∷ ws) = ap₂ (λ (x : Wire) (xs : List Wire). x ∷ xs) (one_carried (is_wire from to l) l refl) (both_carried ws)

  -- where all was pulled, as many were pulled after a push as were pushed before
  pulled_then : (ws : List Wire) → AllByRecursion IsEmptied ws → pulled_on (where_it (is_wire from to) (pushes p) ws) from to ≡ pushed_on ws from to
  pulled_then [] h = refl
  pulled_then (l ∷ ws) h = step (is_wire from to l) refl (pulled_then ws h.1)
    where
      step : (b : Bool) → is_wire from to l ≡ b → pulled_on (where_it (is_wire from to) (pushes p) ws) from to ≡ pushed_on ws from to → pulled_on (where_it (is_wire from to) (pushes p) (l ∷ ws)) from to ≡ pushed_on (l ∷ ws) from to
      step true e ih = rw (e, e) (ap length h.0)
      step false e ih = rw (e, e) ih

  -- a pull changes no number of pushed ones, and a push none of pulled ones
  pushed_still : (to' : ℕ) (ws : List Wire) → pushed_on (where_it (is_wire from to) (pulls p) ws) from to' ≡ pushed_on ws from to'
  pushed_still to' [] = refl
  pushed_still to' (l ∷ ws) = step (is_wire from to l) (is_wire from to' l) refl refl (pushed_still to' ws)
    where
      step : (b c : Bool) → is_wire from to l ≡ b → is_wire from to' l ≡ c → pushed_on (where_it (is_wire from to) (pulls p) ws) from to' ≡ pushed_on ws from to' → pushed_on (where_it (is_wire from to) (pulls p) (l ∷ ws)) from to' ≡ pushed_on (l ∷ ws) from to'
      step true true e k ih = rw (e, k) refl
      step true false e k ih = rw (e, k) ih
      step false true e k ih = rw (e, k) refl
      step false false e k ih = rw (e, k) ih

  pulled_still : (to' : ℕ) (ws : List Wire) → pulled_on (where_it (is_wire from to) (pushes p) ws) from to' ≡ pulled_on ws from to'
  pulled_still to' [] = refl
  pulled_still to' (l ∷ ws) = step (is_wire from to l) (is_wire from to' l) refl refl (pulled_still to' ws)
    where
      step : (b c : Bool) → is_wire from to l ≡ b → is_wire from to' l ≡ c → pulled_on (where_it (is_wire from to) (pushes p) ws) from to' ≡ pulled_on ws from to' → pulled_on (where_it (is_wire from to) (pushes p) (l ∷ ws)) from to' ≡ pulled_on (l ∷ ws) from to'
      step true true e k ih = rw (e, k) refl
      step true false e k ih = rw (e, k) ih
      step false true e k ih = rw (e, k) refl
      step false false e k ih = rw (e, k) ih

  -- a push and a pull come in either order
  either_order : (to' : ℕ) (ws : List Wire) → where_it (is_wire from to') (pushes p) (where_it (is_wire from to) (pulls p) ws) ≡ where_it (is_wire from to) (pulls p) (where_it (is_wire from to') (pushes p) ws)
  either_order to' [] = refl
  either_order to' (l ∷ ws) = ap₂ (λ (x : Wire) (xs : List Wire). x ∷ xs) (step (is_wire from to l) (is_wire from to' l) refl refl) (either_order to' ws)
    where
      step : (b c : Bool) → is_wire from to l ≡ b → is_wire from to' l ≡ c → (if is_wire from to' (if is_wire from to l then pulls p l else l) then pushes p (if is_wire from to l then pulls p l else l) else (if is_wire from to l then pulls p l else l)) ≡ (if is_wire from to (if is_wire from to' l then pushes p l else l) then pulls p (if is_wire from to' l then pushes p l else l) else (if is_wire from to' l then pushes p l else l))
      step true true e k = rw (e, k) (rw e refl)
      step true false e k = rw (e, k) (rw e refl)
      step false true e k = rw (e, k) (rw e refl)
      step false false e k = rw (e, k) (rw e refl)

-- ------------------------------------------------------------ copies

module _ (plan : Plan) (t : Tag) (f : List ℕ) where
  abbrev packet : Carried
  packet = record { tag = t; frame = f }

  abbrev comes : ℕ → ℕ → Seat → Seat
  comes to place = arrived plan.poll_every (mac_of plan to) t.guest place f

  abbrev goes : ℕ → ℕ → Seat → Seat
  goes to place = noted (entry.Out t to (way.Link place))

  -- one copy in two turns
  pub one_copy : (w : World) (to : ℕ) → AllByRecursion IsEmptied w.wires → reaches plan t f w to ≡ taken_in plan t f (put_out t f w to) to
  one_copy w to h =
      let place : pushed_on w.wires t.guest to ≡ pulled_on (put_out t f w to).wires t.guest to = sym (pulled_then packet t.guest to w.wires h) in
      let wires : where_it (is_wire t.guest to) (carried packet) w.wires ≡ (taken_in plan t f (put_out t f w to) to).wires = sym (both_carried packet t.guest to w.wires) in
      λ i. record { seats = at_number to (comes to (place i)) (put_out t f w to).seats; wires = wires i }

  -- a copy leaves its link emptied
  pub reaches_empties : (w : World) (to : ℕ) → AreEmptied w → AreEmptied (reaches plan t f w to)
  reaches_empties w to h = where_all IsEmptied (is_wire t.guest to) (carried packet) (carried_even packet) w.wires h

  -- a copy that is taken before another one is given out, or after
  one_later : (w : World) (to to' : ℕ) → t.guest ≢ to → put_out t f (taken_in plan t f w to) to' ≡ taken_in plan t f (put_out t f w to') to
  one_later w to to' other =
      let given = pushed_still packet t.guest to to' w.wires in
      let had : pulled_on w.wires t.guest to ≡ pulled_on (put_out t f w to').wires t.guest to = sym (pulled_still packet t.guest to' to w.wires) in
      let seats : (put_out t f (taken_in plan t f w to) to').seats ≡ (taken_in plan t f (put_out t f w to') to).seats =
      ap (λ (n : ℕ). at_number t.guest (goes to' n) (taken_in plan t f w to).seats) given
      ∙ at_both t.guest to (goes to' (pushed_on w.wires t.guest to')) (comes to (pulled_on w.wires t.guest to)) w.seats other
      ∙ ap (λ (n : ℕ). at_number to (comes to n) (put_out t f w to').seats) had in
      λ i. record { seats = seats i; wires = either_order packet t.guest to to' w.wires i }

  pub all_later : (w : World) (to : ℕ) (tos : List ℕ) → t.guest ≢ to → fold (put_out t f) (taken_in plan t f w to) tos ≡ taken_in plan t f (fold (put_out t f) w tos) to
  all_later w to [] other = refl
  all_later w to (x ∷ xs) other = ap (λ (v : World). fold (put_out t f) v xs) (one_later w to x other) ∙ all_later (put_out t f w x) to xs other

  -- all copies
  pub in_turns : (tos : List ℕ) (w : World) → AllByRecursion (λ to. t.guest ≢ to) tos → AllByRecursion IsEmptied w.wires → fold (reaches plan t f) w tos ≡ fold (taken_in plan t f) (fold (put_out t f) w tos) tos
  in_turns [] w others h = refl
  in_turns (to ∷ tos) w others h =
      in_turns tos (reaches plan t f w to) others.1 (where_all IsEmptied (is_wire t.guest to) (carried packet) (carried_even packet) w.wires h)
      ∙ ap (λ (v : World). fold (taken_in plan t f) (fold (put_out t f) v tos) tos) (one_copy w to h)
      ∙ ap (λ (v : World). fold (taken_in plan t f) v tos) (all_later (put_out t f w to) to tos others.0)
