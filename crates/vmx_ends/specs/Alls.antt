-- One item more for which a fact holds.
use Rattle.std.proofs.Common.{zero, suc, List, [], ◌∷◌, ◌++◌, arith}
use Rattle.std.specs.Prelude.{All}
use Rattle.std.proofs.lemmas.List.Elements.{All-append}

module _ {A : Type 0} (P : A → Type 0) where
  all_one : (x : A) → P x → All P (x ∷ [])
  all_one x p zero d less = p
  all_one x p (suc k) d less = absurd (omega arith)

  pub all_more : (xs : List A) (x : A) → All P xs → P x → All P (xs ++ x ∷ [])
  all_more xs x all p = All-append P xs (x ∷ []) all (all_one x p)
