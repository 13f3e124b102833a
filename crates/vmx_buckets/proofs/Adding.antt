-- One entry more, and what it adds to the lists by key.
use Rattle.std.proofs.Common.{◌≡◌, ◌≢◌, ℕ, zero, suc, ◌+◌, ◌*◌, ◌<◌, ◌≤◌, Bool, true, false, nat_eq, ◌&&◌, if◌then◌else◌, List, [], ◌∷◌, ◌++◌, length, get_or, set, take, refl, ap, sym, ◌∙◌, subst, arith, Option, Some, None, append-nil, inl, inr}
use Rattle.std.specs.List.{filter_map, cons_option}
use Rattle.std.specs.Option.{option_to_list}
use Rattle.std.proofs.lemmas.Bool.Decides.{eqb_tells, nat_tests}
use Rattle.std.proofs.lemmas.List.{take_more, length-set, get_or-set_same, get_or-set_other}
use Rattle.std.proofs.lemmas.List.Elements.{filter_map-append}
use Rattle.vmx_layout.specs.declared.register.TheConstants.{MAX_QUEUES}
use Rattle.vmx_ends.specs.declared.packet.Tag.{Tag}
use Rattle.vmx_model.specs.declared.journal.Entry.{Entry}
use Rattle.vmx_model.specs.declared.journal.Fate.{Fate}
use Rattle.vmx_model.specs.declared.journal.Entry.TheVariants as entry
use Rattle.vmx_buckets.specs.declared.sends.Switched.{Switched}
use Rattle.vmx_buckets.specs.declared.sends.Toward.{Toward}
use Rattle.vmx_buckets.specs.Buckets.{key, at_key, toward_of, switched_in, switched_on, HasSwitched, AddsTo, Adds, came_in, came_from, HasArrivals, Comes}

-- one list without an item more
pub all_empty : {X : Type 0} (xs : List (List X)) → ((k : ℕ) → at_key xs k ≡ []) → (k : ℕ) → at_key (xs ++ [] ∷ []) k ≡ []
all_empty [] h zero = refl
all_empty [] h (suc k) = refl
all_empty (x ∷ xs) h zero = h zero
all_empty (x ∷ xs) h (suc k) = all_empty xs (λ j. h (suc j)) k

-- a frame of another queue
other : (a q : ℕ) (tag : Tag) (to : Option Toward) → (tag.activation ≡ a → tag.queue ≡ q → ⊥) → toward_of a q tag to ≡ None
other a q tag to ne = elim (eqb_tells tag.activation a) [
  | inl x ↦ elim (eqb_tells tag.queue q) [
    | inl y ↦ absurd (ne x.1 y.1)
    | inr y ↦ rw (x.0, y.0) refl
  ]
  | inr x ↦ rw x.0 refl
]

same : (a q : ℕ) (tag : Tag) (to : Option Toward) → tag.activation ≡ a → tag.queue ≡ q → toward_of a q tag to ≡ Some (record { place = tag.place; to = to })
same a q tag to e f = elim (eqb_tells tag.activation a) [
  | inl x ↦ elim (eqb_tells tag.queue q) [
    | inl y ↦ rw (x.0, y.0) refl
    | inr y ↦ absurd (y.1 f)
  ]
  | inr x ↦ absurd (x.1 e)
]

-- where there is no list for a queue, nothing is added
pub adds_none : (tag : Tag) (to : Option Toward) (lists : List (List Switched)) → ((a q : ℕ) → q < MAX_QUEUES → key a q < length lists → tag.activation ≡ a → tag.queue ≡ q → ⊥) → AddsTo tag to lists lists
adds_none tag to lists none = record { long = refl; each = λ a q low lt. sym (ap (λ (o : Option Switched). at_key lists (key a q) ++ option_to_list o) (other a q tag to (none a q low lt)) ∙ append-nil (at_key lists (key a q))) }

-- else the frame is added to its queue's
pub adds_one : (tag : Tag) (to : Option Toward) (old new : List (List Switched)) → tag.queue < MAX_QUEUES → key tag.activation tag.queue < length old
    → new ≡ set old (key tag.activation tag.queue) (at_key old (key tag.activation tag.queue) ++ record { place = tag.place; to = to } ∷ []) → AddsTo tag to old new
adds_one tag to old new low within is = record { long = ap length is ∙ length-set old at more; each = each }
  where
    at : ℕ
    at = key tag.activation tag.queue

    more : List Switched
    more = at_key old (key tag.activation tag.queue) ++ record { place = tag.place; to = to } ∷ []

    here : (a q : ℕ) → tag.activation ≡ a → tag.queue ≡ q → at_key new (key a q) ≡ at_key old (key a q) ++ option_to_list (toward_of a q tag to)
    here a q e f = rw (← e, ← f) (ap (λ (xs : List (List Switched)). at_key xs (key tag.activation tag.queue)) is ∙ get_or-set_same old (key tag.activation tag.queue) more [] within ∙ sym (ap (λ (o : Option Switched). at_key old (key tag.activation tag.queue) ++ option_to_list o) (same tag.activation tag.queue tag to refl refl)))

    there : (a q : ℕ) → q < MAX_QUEUES → (tag.activation ≡ a → tag.queue ≡ q → ⊥) → at_key new (key a q) ≡ at_key old (key a q) ++ option_to_list (toward_of a q tag to)
    there a q lt ne =
        let apart : key a q ≢ key tag.activation tag.queue = λ e. ne (omega (arith, e, lt, low)) (omega (arith, e, lt, low)) in
        ap (λ (xs : List (List Switched)). at_key xs (key a q)) is ∙ get_or-set_other old (key tag.activation tag.queue) (key a q) more [] apart
        ∙ sym (ap (λ (o : Option Switched). at_key old (key a q) ++ option_to_list o) (other a q tag to ne) ∙ append-nil (at_key old (key a q)))

    each : (a q : ℕ) → q < MAX_QUEUES → key a q < length old → at_key new (key a q) ≡ at_key old (key a q) ++ option_to_list (toward_of a q tag to)
    each a q lt k = elim (eqb_tells tag.activation a) [
      | inl x ↦ elim (eqb_tells tag.queue q) [
        | inl y ↦ here a q x.1 y.1
        | inr y ↦ there a q lt (λ e f. y.1 f)
      ]
      | inr x ↦ there a q lt (λ e f. x.1 e)
    ]

alone : {X Y : Type 0} (f : X → Option Y) (x : X) → filter_map f (x ∷ []) ≡ option_to_list (f x)
alone {X} {Y} f x = step (f x)
  where
    step : (o : Option Y) → cons_option o [] ≡ option_to_list o
    step None = refl
    step (Some y) = refl

-- an entry more
pub switched_grows : (es : List Entry) (e : Entry) (count : ℕ) (old new : List (List Switched)) → HasSwitched es count old → Adds e old new → HasSwitched (es ++ e ∷ []) count new
switched_grows es e count old new h k = record {
  long = k.long ∙ h.long;
  each = λ a q low lt. let l = h.long in k.each a q low (omega (arith, lt, l)) ∙ ap (λ (xs : List Switched). xs ++ option_to_list (switched_in a q e)) (h.each a q low lt) ∙ sym (filter_map-append (switched_in a q) es (e ∷ []) ∙ ap (λ (xs : List Switched). switched_on a q es ++ xs) (alone (switched_in a q) e));
}

pub arrivals_grow : (es : List Entry) (e : Entry) (ports : ℕ) (old new : List (List Fate)) → HasArrivals es ports old → Comes e old new → HasArrivals (es ++ e ∷ []) ports new
arrivals_grow es e ports old new h k = record {
  long = k.long ∙ h.long;
  each = λ port lt. let l = h.long in k.each port (omega (arith, lt, l)) ∙ ap (λ (xs : List Fate). xs ++ option_to_list (came_in port e)) (h.each port lt) ∙ sym (filter_map-append (came_in port) es (e ∷ []) ∙ ap (λ (xs : List Fate). came_from port es ++ xs) (alone (came_in port) e));
}

-- the entry at an index
pub switched_step : (es : List Entry) (i : ℕ) (d : Entry) (count : ℕ) (old new : List (List Switched)) → i < length es → HasSwitched (take i es) count old → Adds (get_or es i d) old new → HasSwitched (take (i + 1) es) count new
switched_step es i d count old new lt h k = subst (λ (xs : List Entry). HasSwitched xs count new) (sym (take_more es i d lt)) (switched_grows (take i es) (get_or es i d) count old new h k)

pub arrivals_step : (es : List Entry) (i : ℕ) (d : Entry) (ports : ℕ) (old new : List (List Fate)) → i < length es → HasArrivals (take i es) ports old → Comes (get_or es i d) old new → HasArrivals (take (i + 1) es) ports new
arrivals_step es i d ports old new lt h k = subst (λ (xs : List Entry). HasArrivals xs ports new) (sym (take_more es i d lt)) (arrivals_grow (take i es) (get_or es i d) ports old new h k)

-- a frame of a queue past the eighth, or of one without list
pub adds_past : (tag : Tag) (to : Option Toward) (lists : List (List Switched)) → MAX_QUEUES ≤ tag.queue → AddsTo tag to lists lists
adds_past tag to lists high = adds_none tag to lists (λ a q low lt e f. omega (arith, low, f, high))

pub adds_beyond : (tag : Tag) (to : Option Toward) (lists : List (List Switched)) → length lists ≤ key tag.activation tag.queue → AddsTo tag to lists lists
adds_beyond tag to lists high = adds_none tag to lists (λ a q low lt e f. omega (arith, lt, e, f, high))

-- an arrival more, or an entry without one
pub comes_none : (e : Entry) (lists : List (List Fate)) → ((port : ℕ) → port < length lists → came_in port e ≡ None) → Comes e lists lists
comes_none e lists none = record { long = refl; each = λ port lt. sym (ap (λ (o : Option Fate). at_key lists port ++ option_to_list o) (none port lt) ∙ append-nil (at_key lists port)) }

pub comes_beyond : (from place : ℕ) (f : Fate) (lists : List (List Fate)) → length lists ≤ from → Comes (entry.In from place f) lists lists
comes_beyond from place f lists high = comes_none (entry.In from place f) lists (λ port lt. let e : nat_eq from port ≡ false = grind (arith, nat_tests, lt, high) in rw e refl)

pub comes_one : (from place : ℕ) (f : Fate) (old new : List (List Fate)) → from < length old → new ≡ set old from (at_key old from ++ f ∷ []) → Comes (entry.In from place f) old new
comes_one from place f old new within is = record { long = ap length is ∙ length-set old from (at_key old from ++ f ∷ []); each = each }
  where
    each : (port : ℕ) → port < length old → at_key new port ≡ at_key old port ++ option_to_list (came_in port (entry.In from place f))
    each port lt = elim (eqb_tells from port) [
      | inl x ↦ ap (λ (xs : List (List Fate)). at_key xs port) is ∙ subst (λ (n : ℕ). at_key (set old from (at_key old from ++ f ∷ [])) n ≡ at_key old n ++ f ∷ []) x.1 (get_or-set_same old from (at_key old from ++ f ∷ []) [] within) ∙ sym (ap (λ (b : Bool). at_key old port ++ option_to_list (if b then Some f else None)) x.0)
      | inr x ↦ ap (λ (xs : List (List Fate)). at_key xs port) is ∙ get_or-set_other old from port (at_key old from ++ f ∷ []) [] (λ e. x.1 (sym e)) ∙ sym (ap (λ (b : Bool). at_key old port ++ option_to_list (if b then Some f else None)) x.0 ∙ append-nil (at_key old port))
    ]
