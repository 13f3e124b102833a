-- Bytes of a table.
use Rattle.std.proofs.lemmas.Bool.Decides.{eqb_tells}
use Rattle.std.proofs.Common.{◌≡◌, ℕ, ◌<◌, List, [], length, set, get_or, ap, sym, subst, inl, inr, Option, Some, None}
use Rattle.std.specs.Prelude.{slice_index}
use Rattle.std.proofs.lemmas.List.{get_or-set_same, get_or-set_other}
use Rattle.vmx_shared_area.specs.declared.rss.Rss.{Rss}

-- what is below a bound stays so where a number below it is written
pub below_set : (bound : ℕ) (xs : List ℕ) (i x : ℕ) → i < length xs → x < bound → ((k : ℕ) → get_or xs k 0 < bound) → (k : ℕ) → get_or (set xs i x) k 0 < bound
below_set bound xs i x lt new all k = elim (eqb_tells k i) [
  | inl e ↦ subst (λ (j : ℕ). get_or (set xs i x) j 0 < bound) (sym e.1) (subst (λ (n : ℕ). n < bound) (sym (get_or-set_same xs i x 0 lt)) new)
  | inr e ↦ subst (λ (n : ℕ). n < bound) (sym (get_or-set_other xs i k x 0 e.1)) (all k)
]

table_in : Option Rss → List ℕ
table_in None = []
table_in (Some r) = r.table

-- the entries of a setting that names so many queues
pub entries_below : (queues : ℕ) (o : Rss) → ((i : ℕ) → slice_index o.table i < queues) → (r : Rss) → Some o ≡ Some r → (i : ℕ) → i < r.size → slice_index r.table i < queues
unfolding table_in
entries_below queues o low r is i lt = subst (λ (xs : List ℕ). slice_index xs i < queues) (ap table_in is) (low i)
