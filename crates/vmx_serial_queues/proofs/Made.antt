-- Lists that grow by one element after another.
use Rattle.std.proofs.Common.{◌≡◌, ℕ, zero, suc, ◌+◌, List, [], ◌∷◌, ◌++◌, map, sym, ap, ap₂, ◌∙◌, arith, append_assoc, add-one}
use Rattle.std.proofs.lemmas.List.{map-append}
use Rattle.vmx_model.specs.Lists.{upto}

upto_suc : (from n : ℕ) → upto from (suc n) ≡ upto from n ++ (from + n) ∷ []
upto_suc from zero = let e : from ≡ from + 0 = omega arith in ap (λ (k : ℕ). k ∷ []) e
upto_suc from (suc n) = let e : from + 1 + n ≡ from + suc n = omega arith in ap (λ (ks : List ℕ). from ∷ ks) (upto_suc (from + 1) n ∙ ap (λ (k : ℕ). upto (from + 1) n ++ k ∷ []) e)

pub upto_more : (n : ℕ) → upto 0 (n + 1) ≡ upto 0 n ++ n ∷ []
upto_more n = let e : 0 + n ≡ n = omega arith in rw add-one (upto_suc 0 n ∙ ap (λ (k : ℕ). upto 0 n ++ k ∷ []) e)

-- one element more of those that are numbered
pub made_next : {E V : Type 0} (view : E → V) (new : ℕ → V) (old : List V) (xs ys : List E) (item : E) (n : ℕ) → map view xs ≡ old ++ map new (upto 0 n) → ys ≡ xs ++ item ∷ [] → view item ≡ new n → map view ys ≡ old ++ map new (upto 0 (n + 1))
made_next {E} {V} view new old xs ys item n h is e =
    ap (map view) is ∙ map-append view xs (item ∷ []) ∙ ap₂ (λ (a : List V) (v : V). a ++ v ∷ []) h e ∙ append_assoc old (map new (upto 0 n)) (new n ∷ [])
    ∙ ap (λ (vs : List V). old ++ vs) (sym (map-append new (upto 0 n) (n ∷ []))) ∙ ap (λ (ks : List ℕ). old ++ map new ks) (sym (upto_more n))
