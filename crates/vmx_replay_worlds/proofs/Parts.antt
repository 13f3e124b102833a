-- Wires are made of the parts of links' ends that the world has: no keys, no looks, no notes.
use Rattle.std.proofs.Common.{◌≡◌, ◌≢◌, ℕ, zero, suc, Bool, true, false, true≢false, List, [], ◌∷◌, ◌++◌, map, refl, ap, ap₂, sym, ◌∙◌, arith, nat_eq, Option, Some, None, if◌then◌else◌, inl, inr, ◌⊎◌}
use Rattle.std.specs.Prelude.{◌&&◌, is_some}
use Rattle.std.specs.Option.{option_map}
use Rattle.std.proofs.lemmas.Bool.Decides.{eqb_tells, nat_tests}
use Rattle.std.specs.List.{find, flat_map, slice_get}
use Rattle.vmx_ends.specs.declared.packet.Packet.{Packet}
use Rattle.vmx_link.specs.Views.{LinkOutView, LinkInView}
use Rattle.vmx_model.specs.Record.{carried_of}
use Rattle.vmx_model.specs.Serial.{Wire, Carried, at_number, where_it, is_wire}
use Rattle.vmx_model.specs.Turns.{pulls}
use Rattle.vmx_replay_worlds.specs.Worlds.{wire_by, wires_by, comes_from, input_by, pulled_by, OutPart, InPart, out_part, in_part}
use Rattle.vmx_replay_worlds.specs.Moves.{part_pulls}
use Rattle.vmx_replay_worlds.proofs.Lists.{get_map}
use Rattle.vmx_replay_worlds.proofs.Queues.{where_append}

-- the end of a receiver from this port
abbrev pub part_from : ℕ → InPart → Bool
part_from from i = nat_eq i.from from

abbrev pub pulled_in : Option InPart → List Carried
pulled_in None = []
pulled_in (Some i) = i.pulled

abbrev pub part_in : ℕ → Option (List InPart) → Option InPart
part_in from None = None
part_in from (Some is) = find (part_from from) is

abbrev pub wire_in : List (List InPart) → OutPart → Wire
wire_in ins o = record { from = o.from; to = o.to; pushed = o.pushed; pulled = pulled_in (part_in o.from (slice_get ins o.to)) }

abbrev pub wires_in : List (List OutPart) → List (List InPart) → List Wire
wires_in outs ins = flat_map (map (wire_in ins)) outs

-- ------------------------------------------------------------ wires are made of these parts alone

pub find_part : (from : ℕ) (is : List LinkInView) → find (part_from from) (map in_part is) ≡ option_map in_part (find (comes_from from) is)
find_part from [] = refl
find_part from (i ∷ is) = one (nat_eq i.from from) refl (find_part from is)
  where
    one : (b : Bool) → nat_eq i.from from ≡ b → find (part_from from) (map in_part is) ≡ option_map in_part (find (comes_from from) is) → find (part_from from) (map in_part (i ∷ is)) ≡ option_map in_part (find (comes_from from) (i ∷ is))
    one true e ih = rw e refl
    one false e ih = rw e ih

pulled_part : (from : ℕ) (o : Option (List LinkInView)) → pulled_in (part_in from (option_map (map in_part) o)) ≡ map carried_of (pulled_by (input_by from o))
pulled_part from None = refl
pulled_part from (Some is) = ap pulled_in (find_part from is) ∙ by_find (find (comes_from from) is)
  where
    by_find : (o : Option LinkInView) → pulled_in (option_map in_part o) ≡ map carried_of (pulled_by o)
    by_find None = refl
    by_find (Some i) = refl

wire_part : (ins : List (List LinkInView)) (o : LinkOutView) → wire_by ins o ≡ wire_in (map (map in_part) ins) (out_part o)
wire_part ins o = ap (λ (ps : List Carried). record { from = o.from; to = o.to; pushed = map carried_of o.pushed; pulled = ps }) (sym (pulled_part o.from (slice_get ins o.to)) ∙ sym (ap (λ x. pulled_in (part_in o.from x)) (get_map (map in_part) ins o.to)))

wires_row : (ins : List (List LinkInView)) (os : List LinkOutView) → map (wire_by ins) os ≡ map (wire_in (map (map in_part) ins)) (map out_part os)
wires_row ins [] = refl
wires_row ins (o ∷ os) = ap₂ (λ (w : Wire) (ws : List Wire). w ∷ ws) (wire_part ins o) (wires_row ins os)

pub wires_parts : (ins : List (List LinkInView)) (outs : List (List LinkOutView)) → wires_by outs ins ≡ wires_in (map (map out_part) outs) (map (map in_part) ins)
wires_parts ins [] = refl
wires_parts ins (os ∷ outs) = ap₂ (λ (xs ys : List Wire). xs ++ ys) (wires_row ins os) (wires_parts ins outs)

-- ------------------------------------------------------------ a pull

get_other : {X : Type 0} (n m : ℕ) (f : X → X) (xs : List X) → (n ≡ m → ⊥) → slice_get (at_number n f xs) m ≡ slice_get xs m
get_other n m f [] away = refl
get_other zero zero f (x ∷ xs) away = absurd (away refl)
get_other zero (suc m) f (x ∷ xs) away = refl
get_other (suc n) zero f (x ∷ xs) away = refl
get_other (suc n) (suc m) f (x ∷ xs) away = get_other n m f xs (λ e. away (ap suc e))

get_here : {X : Type 0} (n : ℕ) (f : X → X) (xs : List X) → slice_get (at_number n f xs) n ≡ option_map f (slice_get xs n)
get_here n f [] = refl
get_here zero f (x ∷ xs) = refl
get_here (suc n) f (x ∷ xs) = get_here n f xs

module _ (g to : ℕ) (p : Packet) where
  abbrev c : Carried
  c = carried_of p

  find_own : (is : List InPart) → find (part_from g) (where_it (part_from g) (part_pulls p) is) ≡ option_map (part_pulls p) (find (part_from g) is)
  find_own [] = refl
  find_own (i ∷ is) = one (nat_eq i.from g) refl (find_own is)
    where
      one : (b : Bool) → nat_eq i.from g ≡ b → find (part_from g) (where_it (part_from g) (part_pulls p) is) ≡ option_map (part_pulls p) (find (part_from g) is) → find (part_from g) ((if nat_eq i.from g then part_pulls p i else i) ∷ where_it (part_from g) (part_pulls p) is) ≡ option_map (part_pulls p) (find (part_from g) (i ∷ is))
      one true e ih = rw (e, e) refl
      one false e ih = rw (e, e) ih

  find_else : (from : ℕ) → (from ≡ g → ⊥) → (is : List InPart) → find (part_from from) (where_it (part_from g) (part_pulls p) is) ≡ find (part_from from) is
  find_else from away [] = refl
  find_else from away (i ∷ is) = one (nat_eq i.from g) (nat_eq i.from from) refl refl (find_else from away is)
    where
      one : (b d : Bool) → nat_eq i.from g ≡ b → nat_eq i.from from ≡ d → find (part_from from) (where_it (part_from g) (part_pulls p) is) ≡ find (part_from from) is → find (part_from from) ((if b then part_pulls p i else i) ∷ where_it (part_from g) (part_pulls p) is) ≡ find (part_from from) (i ∷ is)
      one true true e h ih = absurd (away (let x : i.from ≡ g = grind (arith, nat_tests) in let y : i.from ≡ from = grind (arith, nat_tests) in sym y ∙ x))
      one true false e h ih = rw h ih
      one false true e h ih = rw h refl
      one false false e h ih = rw h ih

  -- the link is there at its receiver
  abbrev pub IsThere : List (List InPart) → Type 0
  IsThere ins = is_some (part_in g (slice_get ins to)) ≡ true

  pulled_own : (o : Option (List InPart)) → is_some (part_in g o) ≡ true → pulled_in (part_in g (option_map (where_it (part_from g) (part_pulls p)) o)) ≡ pulled_in (part_in g o) ++ c ∷ []
  pulled_own None h = absurd (true≢false (sym h))
  pulled_own (Some is) h = ap pulled_in (find_own is) ∙ by_find (find (part_from g) is) h
    where
      by_find : (o : Option InPart) → is_some o ≡ true → pulled_in (option_map (part_pulls p) o) ≡ pulled_in o ++ c ∷ []
      by_find None h = absurd (true≢false (sym h))
      by_find (Some i) h = refl

  pulled_else : (from : ℕ) → (from ≡ g → ⊥) → (o : Option (List InPart)) → pulled_in (part_in from (option_map (where_it (part_from g) (part_pulls p)) o)) ≡ pulled_in (part_in from o)
  pulled_else from away None = refl
  pulled_else from away (Some is) = ap pulled_in (find_else from away is)

  abbrev after : List (List InPart) → List (List InPart)
  after ins = at_number to (where_it (part_from g) (part_pulls p)) ins

  wire_pull : (ins : List (List InPart)) (o : OutPart) → IsThere ins → wire_in (after ins) o ≡ (if is_wire g to (wire_in ins o) then pulls c (wire_in ins o) else wire_in ins o)
  wire_pull ins o there_ = by_ends (eqb_tells o.from g) (eqb_tells o.to to)
    where
      with_pulled : List Carried → Wire
      with_pulled ps = record { from = o.from; to = o.to; pushed = o.pushed; pulled = ps }

      picked : (b d : Bool) → nat_eq o.from g ≡ b → nat_eq o.to to ≡ d → (if b && d then pulls c (wire_in ins o) else wire_in ins o) ≡ (if is_wire g to (wire_in ins o) then pulls c (wire_in ins o) else wire_in ins o)
      picked b d e h = rw (e, h) refl

      by_ends : (((nat_eq o.from g ≡ true) × (o.from ≡ g)) ⊎ ((nat_eq o.from g ≡ false) × (o.from ≢ g))) → (((nat_eq o.to to ≡ true) × (o.to ≡ to)) ⊎ ((nat_eq o.to to ≡ false) × (o.to ≢ to))) → wire_in (after ins) o ≡ (if is_wire g to (wire_in ins o) then pulls c (wire_in ins o) else wire_in ins o)
      by_ends (inl x) (inl y) =
          ap with_pulled (
          ap (λ (n : ℕ). pulled_in (part_in o.from (slice_get (after ins) n))) y.1 ∙ ap (λ z. pulled_in (part_in o.from z)) (get_here to (where_it (part_from g) (part_pulls p)) ins)
          ∙ ap (λ (n : ℕ). pulled_in (part_in n (option_map (where_it (part_from g) (part_pulls p)) (slice_get ins to)))) x.1
          ∙ pulled_own (slice_get ins to) there_
          ∙ ap₂ (λ (n m : ℕ). pulled_in (part_in n (slice_get ins m)) ++ c ∷ []) (sym x.1) (sym y.1)
          ) ∙ picked true true x.0 y.0
      by_ends (inl x) (inr y) = ap (λ z. with_pulled (pulled_in (part_in o.from z))) (get_other to o.to (where_it (part_from g) (part_pulls p)) ins (λ e. y.1 (sym e))) ∙ picked true false x.0 y.0
      by_ends (inr x) (inr y) = ap (λ z. with_pulled (pulled_in (part_in o.from z))) (get_other to o.to (where_it (part_from g) (part_pulls p)) ins (λ e. y.1 (sym e))) ∙ picked false false x.0 y.0
      by_ends (inr x) (inl y) =
          ap with_pulled (
          ap (λ (n : ℕ). pulled_in (part_in o.from (slice_get (after ins) n))) y.1 ∙ ap (λ z. pulled_in (part_in o.from z)) (get_here to (where_it (part_from g) (part_pulls p)) ins)
          ∙ pulled_else o.from x.1 (slice_get ins to)
          ∙ ap (λ (m : ℕ). pulled_in (part_in o.from (slice_get ins m))) (sym y.1)
          ) ∙ picked false true x.0 y.0

  row_pull : (ins : List (List InPart)) (os : List OutPart) → IsThere ins → map (wire_in (after ins)) os ≡ where_it (is_wire g to) (pulls c) (map (wire_in ins) os)
  row_pull ins [] h = refl
  row_pull ins (o ∷ os) h = ap₂ (λ (w : Wire) (ws : List Wire). w ∷ ws) (wire_pull ins o h) (row_pull ins os h)

  -- a packet that the target's device pulls is pulled in the world
  pub wires_pull : (outs : List (List OutPart)) (ins : List (List InPart)) → IsThere ins → wires_in outs (after ins) ≡ where_it (is_wire g to) (pulls c) (wires_in outs ins)
  wires_pull [] ins h = refl
  wires_pull (os ∷ outs) ins h = ap₂ (λ (xs ys : List Wire). xs ++ ys) (row_pull ins os h) (wires_pull outs ins h) ∙ sym (where_append (is_wire g to) (pulls c) (map (wire_in ins) os) (wires_in outs ins))
