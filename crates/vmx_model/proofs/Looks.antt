-- A target's device takes the next packet of a link: with the copies put out, looks come to what the serial run does.
use Rattle.std.proofs.Common.{◌≡◌, ◌≢◌, ℕ, Bool, true, false, true≢false, List, [], ◌∷◌, ◌++◌, length, refl, ap, sym, ◌∙◌, arith, nat_eq, Some, if◌then◌else◌}
use Rattle.std.specs.Prelude.{◌&&◌, ◌%◌}
use Rattle.std.specs.Option.{option_and_then}
use Rattle.std.specs.List.{fold, find, slice_get, AllByRecursion}
use Rattle.std.proofs.lemmas.Bool.Decides.{nat_tests}
use Rattle.vmx_model.specs.Types.{Plan, Tag}
use Rattle.vmx_model.specs.Serial.{World, Wire, Carried, Seat, where_it, is_wire, carried, arrived, polled_if, reaches}
use Rattle.vmx_model.specs.Turns.{pushes, put_out, IsEmptied, AreEmptied, HasWire, AreApart, next_in, next_on, takes_by, takes_next, comes_in}
use Rattle.vmx_model.proofs.Turns.{one_copy, all_later, reaches_empties}

-- an arrival is the device's part and then, where they are due, the driver's polls
pub arrived_is : (every : ℕ) (mac : List ℕ) (from place : ℕ) (frame : List ℕ) (s : Seat) → arrived every mac from place frame s ≡ polled_if (nat_eq ((comes_in mac from place frame s).seen % every) 0) (comes_in mac from place frame s)
arrived_is every mac from place frame s = refl

-- ------------------------------------------------------------ links

pub and_both : (a b : Bool) → (a && b) ≡ true → (a ≡ true) × (b ≡ true)
and_both true b e = (refl, e)
and_both false b e = absurd (true≢false (sym e))

same_to : (from a b : ℕ) (l : Wire) → is_wire from a l ≡ true → is_wire from b l ≡ true → b ≡ a
same_to from a b l x y =
    let p = (and_both (nat_eq l.from from) (nat_eq l.to a) x).1 in
    let q = (and_both (nat_eq l.from from) (nat_eq l.to b) y).1 in
    grind (arith, nat_tests)

-- a packet for another port leaves the next one as it is
pub next_other : (from a b : ℕ) (p : Carried) → (b ≡ a → ⊥) → (ls : List Wire) → next_on (where_it (is_wire from b) (pushes p) ls) from a ≡ next_on ls from a
next_other from a b p apart [] = refl
next_other from a b p apart (l ∷ ls) = one (is_wire from b l) (is_wire from a l) refl refl (next_other from a b p apart ls)
  where
    one : (x y : Bool) → is_wire from b l ≡ x → is_wire from a l ≡ y → next_on (where_it (is_wire from b) (pushes p) ls) from a ≡ next_on ls from a
        → option_and_then next_in (find (is_wire from a) ((if x then pushes p l else l) ∷ where_it (is_wire from b) (pushes p) ls)) ≡ option_and_then next_in (find (is_wire from a) (l ∷ ls))
    one true true e h ih = absurd (apart (same_to from a b l h e))
    one true false e h ih = rw h ih
    one false true e h ih = rw h refl
    one false false e h ih = rw h ih

pub next_behind : {X : Type 0} (xs : List X) (x : X) → slice_get (xs ++ x ∷ []) (length xs) ≡ Some x
next_behind [] x = refl
next_behind (y ∷ ys) x = next_behind ys x

-- in an emptied link a pushed packet is the next one
pub next_here : (from a : ℕ) (p : Carried) (ls : List Wire) → AllByRecursion IsEmptied ls → HasWire from ls a → next_on (where_it (is_wire from a) (pushes p) ls) from a ≡ Some p
next_here from a p [] even has = absurd (true≢false (sym has))
next_here from a p (l ∷ ls) even has = one (is_wire from a l) refl has (next_here from a p ls even.1)
  where
    one : (x : Bool) → is_wire from a l ≡ x → HasWire from (l ∷ ls) a → (HasWire from ls a → next_on (where_it (is_wire from a) (pushes p) ls) from a ≡ Some p)
        → option_and_then next_in (find (is_wire from a) ((if x then pushes p l else l) ∷ where_it (is_wire from a) (pushes p) ls)) ≡ Some p
    one true e h ih = rw (e, even.0) (next_behind l.pushed p)
    one false e h ih = rw e (ih (rw e at h))

-- a change that leaves the ports leaves the links there
pub has_kept : (from a : ℕ) (test : Wire → Bool) (p : Carried) (ls : List Wire) → HasWire from ls a → HasWire from (where_it test (carried p) ls) a
has_kept from a test p [] has = has
has_kept from a test p (l ∷ ls) has = one (test l) (is_wire from a l) refl has (has_kept from a test p ls)
  where
    one : (x y : Bool) → is_wire from a l ≡ y → HasWire from (l ∷ ls) a → (HasWire from ls a → HasWire from (where_it test (carried p) ls) a) → HasWire from ((if x then carried p l else l) ∷ where_it test (carried p) ls) a
    one true true e h ih = rw e refl
    one true false e h ih = rw e (ih (rw e at h))
    one false true e h ih = rw e refl
    one false false e h ih = rw e (ih (rw e at h))

pub all_has_kept : (from : ℕ) (test : Wire → Bool) (p : Carried) (ls : List Wire) (tos : List ℕ) → AllByRecursion (HasWire from ls) tos → AllByRecursion (HasWire from (where_it test (carried p) ls)) tos
all_has_kept from test p ls [] h = tt
all_has_kept from test p ls (a ∷ tos) h = (has_kept from a test p ls h.0, all_has_kept from test p ls tos h.1)

-- ------------------------------------------------------------ the copies of a frame

pub next_outs : (t : Tag) (f : List ℕ) (a : ℕ) (tos : List ℕ) (w : World) → AllByRecursion (λ (b : ℕ). b ≡ a → ⊥) tos → next_on (fold (put_out t f) w tos).wires t.guest a ≡ next_on w.wires t.guest a
next_outs t f a [] w apart = refl
next_outs t f a (b ∷ tos) w apart = next_outs t f a tos (put_out t f w b) apart.1 ∙ next_other t.guest a b (record { tag = t; frame = f }) apart.0 w.wires

-- the sender's device puts all copies out in one turn, and each target's device then takes what comes next from the sender: the fold's copies reach them one by one
pub spread_by_looks : (plan : Plan) (t : Tag) (f : List ℕ) (tos : List ℕ) (w : World) → AreEmptied w → AllByRecursion (HasWire t.guest w.wires) tos → AllByRecursion (λ (to : ℕ). t.guest ≢ to) tos → AreApart tos
    → fold (takes_next plan t.guest) (fold (put_out t f) w tos) tos ≡ fold (reaches plan t f) w tos
spread_by_looks plan t f [] w even has away apart = refl
spread_by_looks plan t f (a ∷ tos) w even has away apart =
    let p : Carried = record { tag = t; frame = f } in
    let out : World = fold (put_out t f) (put_out t f w a) tos in
    let next : next_on out.wires t.guest a ≡ Some p = next_outs t f a tos (put_out t f w a) apart.0 ∙ next_here t.guest a p w.wires even has.0 in
    let here : takes_next plan t.guest out a ≡ fold (put_out t f) (reaches plan t f w a) tos =
    ap (takes_by plan out a) next ∙ sym (all_later plan t f (put_out t f w a) a tos away.0) ∙ ap (λ (x : World). fold (put_out t f) x tos) (sym (one_copy plan t f w a even)) in
    ap (λ (x : World). fold (takes_next plan t.guest) x tos) here
    ∙ spread_by_looks plan t f tos (reaches plan t f w a) (reaches_empties plan t f w a even) (all_has_kept t.guest (is_wire t.guest a) p w.wires tos has.1) away.1 apart.1
