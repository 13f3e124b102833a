-- One queue more between whose ends notes went both ways.
use Rattle.std.proofs.Common.{◌≡◌, ℕ, zero, suc, ◌+◌, List, [], ◌∷◌, length, set, refl, ap, sym, ◌∙◌, subst, arith, add-one, Some}
use Rattle.std.specs.List.{slice_get}
use Rattle.vmx_model.specs.Bags.{Pairwise}
use Rattle.vmx_note_laws.specs.Each.{EachPasses}
use Rattle.vmx_note_laws.specs.UpTo.{PassedUpTo}

pair_long : {D E : Type 0} (P : D → E → Type 0) (ds : List D) (es : List E) → Pairwise P ds es → length ds ≡ length es
pair_long P [] [] h = refl
pair_long P [] (e ∷ es) h = absurd h
pair_long P (d ∷ ds) [] h = absurd h
pair_long P (d ∷ ds) (e ∷ es) h = ap suc (pair_long P ds es h.1)

module _ {D E : Type 0} (P : D → E → Type 0) (R : D → E → D → E → Type 0) where
  -- as many ends as before, and as many on both sides
  pub passed_long : (q : ℕ) (ds : List D) (es : List E) (ds' : List D) (es' : List E) → PassedUpTo P R q ds es ds' es' → (length ds' ≡ length es') × (length es' ≡ length es)
  passed_long zero ds es ds' es' h = (ap length h.0 ∙ pair_long P ds es h.2 ∙ sym (ap length h.1), ap length h.1)
  passed_long (suc q) [] [] [] [] h = (refl, refl)
  passed_long (suc q) [] [] [] (y' ∷ es') h = absurd h
  passed_long (suc q) [] [] (x' ∷ ds') es' h = absurd h
  passed_long (suc q) [] (y ∷ es) ds' es' h = absurd h
  passed_long (suc q) (x ∷ ds) [] ds' es' h = absurd h
  passed_long (suc q) (x ∷ ds) (y ∷ es) [] es' h = absurd h
  passed_long (suc q) (x ∷ ds) (y ∷ es) (x' ∷ ds') [] h = absurd h
  passed_long (suc q) (x ∷ ds) (y ∷ es) (x' ∷ ds') (y' ∷ es') h = let more = passed_long q ds es ds' es' h.1 in (ap suc more.0, ap suc more.1)

  -- at the q-th queue the two ends are still as they were
  pub behind_there : (q : ℕ) (ds : List D) (es : List E) (ds' : List D) (es' : List E) (d : D) (e : E) → PassedUpTo P R q ds es ds' es' → slice_get ds' q ≡ Some d → slice_get es' q ≡ Some e → P d e
  behind_there q ds es [] es' d e h a b = absurd (cc a)
  behind_there q ds es (x' ∷ ds') [] d e h a b = absurd (cc b)
  behind_there zero [] es (x' ∷ ds') (y' ∷ es') d e h a b = let l = ap length h.0 in absurd (omega arith)
  behind_there zero (x ∷ ds) [] (x' ∷ ds') (y' ∷ es') d e h a b = let l = ap length h.1 in absurd (omega arith)
  behind_there zero (x ∷ ds) (y ∷ es) (x' ∷ ds') (y' ∷ es') d e h a b =
      let sx : x' ≡ x = cc h.0 in let sy : y' ≡ y = cc h.1 in let dx : x' ≡ d = cc a in let ey : y' ≡ e = cc b in
      subst (λ (z : D × E). P z.0 z.1) (λ i. ((sym sx ∙ dx) i, (sym sy ∙ ey) i)) h.2.0
  behind_there (suc q) [] [] (x' ∷ ds') (y' ∷ es') d e h a b = absurd h
  behind_there (suc q) [] (y ∷ es) (x' ∷ ds') (y' ∷ es') d e h a b = absurd h
  behind_there (suc q) (x ∷ ds) [] (x' ∷ ds') (y' ∷ es') d e h a b = absurd h
  behind_there (suc q) (x ∷ ds) (y ∷ es) (x' ∷ ds') (y' ∷ es') d e h a b = behind_there q ds es ds' es' d e h.1 a b

  one_passed : (q : ℕ) (ds : List D) (es : List E) (ds' : List D) (es' : List E) (d d' : D) (e e' : E) → PassedUpTo P R q ds es ds' es' → slice_get ds' q ≡ Some d → slice_get es' q ≡ Some e → R d e d' e' → PassedUpTo P R (suc q) ds es (set ds' q d') (set es' q e')
  one_passed q ds es [] es' d d' e e' h a b p = absurd (cc a)
  one_passed q ds es (x' ∷ ds') [] d d' e e' h a b p = absurd (cc b)
  one_passed zero [] es (x' ∷ ds') (y' ∷ es') d d' e e' h a b p = let l = ap length h.0 in absurd (omega arith)
  one_passed zero (x ∷ ds) [] (x' ∷ ds') (y' ∷ es') d d' e e' h a b p = let l = ap length h.1 in absurd (omega arith)
  one_passed zero (x ∷ ds) (y ∷ es) (x' ∷ ds') (y' ∷ es') d d' e e' h a b p =
      let sx : x' ≡ x = cc h.0 in let sy : y' ≡ y = cc h.1 in let tx : ds' ≡ ds = cc h.0 in let ty : es' ≡ es = cc h.1 in
      let dx : d ≡ x' = cc a in let ey : e ≡ y' = cc b in
      (subst (λ (z : D × E). R z.0 z.1 d' e') (λ i. ((dx ∙ sx) i, (ey ∙ sy) i)) p, (tx, ty, h.2.1))
  one_passed (suc q) [] [] (x' ∷ ds') (y' ∷ es') d d' e e' h a b p = absurd h
  one_passed (suc q) [] (y ∷ es) (x' ∷ ds') (y' ∷ es') d d' e e' h a b p = absurd h
  one_passed (suc q) (x ∷ ds) [] (x' ∷ ds') (y' ∷ es') d d' e e' h a b p = absurd h
  one_passed (suc q) (x ∷ ds) (y ∷ es) (x' ∷ ds') (y' ∷ es') d d' e e' h a b p = (h.0, one_passed q ds es ds' es' d d' e e' h.1 a b p)

  pub one_more_passed : (q : ℕ) (ds : List D) (es : List E) (ds' : List D) (es' : List E) (d d' : D) (e e' : E) → PassedUpTo P R q ds es ds' es' → slice_get ds' q ≡ Some d → slice_get es' q ≡ Some e → R d e d' e' → PassedUpTo P R (q + 1) ds es (set ds' q d') (set es' q e')
  one_more_passed q ds es ds' es' d d' e e' h a b p = rw (add-one q) (one_passed q ds es ds' es' d d' e e' h a b p)

  -- all of them
  pub all_passed : (q : ℕ) (ds : List D) (es : List E) (ds' : List D) (es' : List E) → length es' ≡ q → PassedUpTo P R q ds es ds' es' → EachPasses R ds es ds' es'
  all_passed zero ds es ds' (y' ∷ es') e h = absurd (omega (arith, e))
  all_passed zero ds (y ∷ es) ds' [] e h = let l = ap length h.1 in absurd (omega arith)
  all_passed zero (x ∷ ds) [] ds' [] e h = absurd h.2
  all_passed zero [] [] [] [] e h = tt
  all_passed zero [] [] (x' ∷ ds') [] e h = let l = ap length h.0 in absurd (omega arith)
  all_passed (suc q) ds es ds' [] e h = absurd (omega (arith, e))
  all_passed (suc q) [] [] [] (y' ∷ es') e h = absurd h
  all_passed (suc q) [] [] (x' ∷ ds') (y' ∷ es') e h = absurd h
  all_passed (suc q) [] (y ∷ es) [] (y' ∷ es') e h = absurd h
  all_passed (suc q) [] (y ∷ es) (x' ∷ ds') (y' ∷ es') e h = absurd h
  all_passed (suc q) (x ∷ ds) [] [] (y' ∷ es') e h = absurd h
  all_passed (suc q) (x ∷ ds) [] (x' ∷ ds') (y' ∷ es') e h = absurd h
  all_passed (suc q) (x ∷ ds) (y ∷ es) [] (y' ∷ es') e h = absurd h
  all_passed (suc q) (x ∷ ds) (y ∷ es) (x' ∷ ds') (y' ∷ es') e h = (h.0, all_passed q ds es ds' es' (omega (arith, e)) h.1)
