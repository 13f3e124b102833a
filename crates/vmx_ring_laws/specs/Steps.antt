-- Two steps that each rule allows: a load that changes nothing, and the plain exchange of the slot that a seat holds.
use Rattle.std.specs.Prelude.{◌≡◌, ℕ, List, [], ◌∷◌, length, slice_index}
use Rattle.std.proofs.Common.{sym, ◌∙◌, subst}
use Rattle.std.proofs.lemmas.List.{set-get_or}
use mathlib.Core.Option.{some}
use lib.ListN.{get_elem?}
use Rattle.atomic_table.specs.Table.{State, Me, rest, keeps, Allows}
use Rattle.atomic_table.proofs.Lists.{set_again}

module _ {S V : Type 0} where
  -- a load that leaves the view keeps the rule, and tells what the rule says of the seat and the loaded word
  pub stays : (holds : State S V → Type 0) (slots seat : ℕ) (me : Me S V) (k : ℕ) (then : ℕ → Me S V → Type 0)
      → ((s : State S V) → holds s → length s.homes ≡ slots → get_elem? s.views seat ≡ some me.0 → then (slice_index s.words k) me) → Allows holds slots seat me k (λ x. x) then
  stays holds slots seat me k then fact s l wide at _ = (
    me.0,
    keeps,
    tt,
    subst (λ (z : List ℕ × List V). holds record { words = z.0; homes = s.homes; views = z.1 }) (λ i. (sym (set-get_or s.words k 0) i, sym (set_again s.views seat me.0 at) i)) l,
    fact s l wide at,
  )

  -- what the seat has after the exchange of its one slot
  pub swaps_out : (k : ℕ) (v : V) (y z : S) (i : ℕ) (m m' : Me S V) → m ≡ (v, (i, y) ∷ []) → k ≡ i → m' ≡ (m.0, (k, z) ∷ rest m.1) → m' ≡ (v, (i, z) ∷ [])
  swaps_out k v y z i m m' was here now = now ∙ (λ q. ((was q).0, (here q, z) ∷ rest (was q).1))
