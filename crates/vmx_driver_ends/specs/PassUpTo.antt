-- Notes went both ways between the first so many queues' ends.
use Rattle.std.proofs.Common.{◌≡◌, ℕ, zero, suc, ◌+◌, ◌<◌, List, [], ◌∷◌, length, map, get_or, set, ap, sym, ◌∙◌, subst, arith, add-one}
use Rattle.std.proofs.lemmas.List.{map-set, length-map}
use Rattle.vmx_io.specs.Views.{viewed}
use Rattle.vmx_ends.specs.Transmit.{TxDriverView, TxDeviceView}
use Rattle.vmx_model.specs.Bags.{Pairwise}
use Rattle.vmx_driver_steps.specs.Driver.{AreOneTx}
use Rattle.vmx_driver_steps.specs.Queues.{PassedTx, PassedAllTx}

-- the first q are passed, the others are as they were and of one queue
abbrev pub PassUpTo : ℕ → List TxDriverView → List TxDeviceView → List TxDriverView → List TxDeviceView → Type 0
PassUpTo zero ds es ds' es' = (ds' ≡ ds) × (es' ≡ es) × Pairwise AreOneTx ds es
PassUpTo (suc q) [] [] [] [] = Unit {0}
PassUpTo (suc q) (d ∷ ds) (e ∷ es) (d' ∷ ds') (e' ∷ es') = PassedTx d e d' e' × PassUpTo q ds es ds' es'
PassUpTo (suc q) ds es ds' es' = ⊥

-- at the q-th queue the two ends are still as they were, and of one queue
pub one_there : (q : ℕ) (ds : List TxDriverView) (es : List TxDeviceView) (ds' : List TxDriverView) (es' : List TxDeviceView) (d : TxDriverView) (e : TxDeviceView) → PassUpTo q ds es ds' es' → q < length ds' → q < length es' → d ≡ get_or ds' q d → e ≡ get_or es' q e → AreOneTx d e
one_there q ds es [] es' d e h lt lt' a b = absurd (omega (arith, lt))
one_there q ds es (x' ∷ ds') [] d e h lt lt' a b = absurd (omega (arith, lt'))
one_there zero [] es (x' ∷ ds') (y' ∷ es') d e h lt lt' a b = let l = ap length h.0 in absurd (omega arith)
one_there zero (x ∷ ds) [] (x' ∷ ds') (y' ∷ es') d e h lt lt' a b = let l = ap length h.1 in absurd (omega arith)
one_there zero (x ∷ ds) (y ∷ es) (x' ∷ ds') (y' ∷ es') d e h lt lt' a b = let sx : x' ≡ x = cc h.0 in let sy : y' ≡ y = cc h.1 in
    subst (λ (z : TxDriverView × TxDeviceView). AreOneTx z.0 z.1) (λ i. (sym (a ∙ sx) i, sym (b ∙ sy) i)) h.2.0
one_there (suc q) [] [] (x' ∷ ds') (y' ∷ es') d e h lt lt' a b = absurd h
one_there (suc q) [] (y ∷ es) (x' ∷ ds') (y' ∷ es') d e h lt lt' a b = absurd h
one_there (suc q) (x ∷ ds) [] (x' ∷ ds') (y' ∷ es') d e h lt lt' a b = absurd h
one_there (suc q) (x ∷ ds) (y ∷ es) (x' ∷ ds') (y' ∷ es') d e h lt lt' a b = one_there q ds es ds' es' d e h.1 (omega (arith, lt)) (omega (arith, lt')) a b

-- one more queue
next : (q : ℕ) (ds : List TxDriverView) (es : List TxDeviceView) (ds' : List TxDriverView) (es' : List TxDeviceView) (d d' : TxDriverView) (e e' : TxDeviceView) → PassUpTo q ds es ds' es' → q < length ds' → q < length es' → d ≡ get_or ds' q d → e ≡ get_or es' q e → PassedTx d e d' e' → PassUpTo (suc q) ds es (set ds' q d') (set es' q e')
next q ds es [] es' d d' e e' h lt lt' a b p = absurd (omega (arith, lt))
next q ds es (x' ∷ ds') [] d d' e e' h lt lt' a b p = absurd (omega (arith, lt'))
next zero [] es (x' ∷ ds') (y' ∷ es') d d' e e' h lt lt' a b p = let l = ap length h.0 in absurd (omega arith)
next zero (x ∷ ds) [] (x' ∷ ds') (y' ∷ es') d d' e e' h lt lt' a b p = let l = ap length h.1 in absurd (omega arith)
next zero (x ∷ ds) (y ∷ es) (x' ∷ ds') (y' ∷ es') d d' e e' h lt lt' a b p =
    let sx : x' ≡ x = cc h.0 in let sy : y' ≡ y = cc h.1 in let tx : ds' ≡ ds = cc h.0 in let ty : es' ≡ es = cc h.1 in
    (subst (λ (z : TxDriverView × TxDeviceView). PassedTx z.0 z.1 d' e') (λ i. ((a ∙ sx) i, (b ∙ sy) i)) p, (tx, ty, h.2.1))
next (suc q) [] [] (x' ∷ ds') (y' ∷ es') d d' e e' h lt lt' a b p = absurd h
next (suc q) [] (y ∷ es) (x' ∷ ds') (y' ∷ es') d d' e e' h lt lt' a b p = absurd h
next (suc q) (x ∷ ds) [] (x' ∷ ds') (y' ∷ es') d d' e e' h lt lt' a b p = absurd h
next (suc q) (x ∷ ds) (y ∷ es) (x' ∷ ds') (y' ∷ es') d d' e e' h lt lt' a b p = (h.0, next q ds es ds' es' d d' e e' h.1 (omega (arith, lt)) (omega (arith, lt')) a b p)

module _ {D E : Type 0} (view : D → TxDriverView) (see : E → TxDeviceView) where
  pub one_more : (q : ℕ) (ds : List TxDriverView) (es : List TxDeviceView) (xs : List D) (ys : List E) (x x' : D) (y y' : E) → PassUpTo q ds es (map view xs) (map see ys) → q < length xs → q < length ys → x ≡ get_or xs q x → y ≡ get_or ys q y → PassedTx (view x) (see y) (view x') (see y')
      → PassUpTo (q + 1) ds es (map view (set xs q x')) (map see (set ys q y'))
  one_more q ds es xs ys x x' y y' h lt lt' a b p =
      rw (map-set view xs q x', map-set see ys q y', add-one q) (next q ds es (map view xs) (map see ys) (view x) (view x') (see y) (see y') h (rw length-map lt) (rw length-map lt') (sym (viewed view xs q x lt a)) (sym (viewed see ys q y lt' b)) p)

  pub still_one : (q : ℕ) (ds : List TxDriverView) (es : List TxDeviceView) (xs : List D) (ys : List E) (x : D) (y : E) → PassUpTo q ds es (map view xs) (map see ys) → q < length xs → q < length ys → x ≡ get_or xs q x → y ≡ get_or ys q y → AreOneTx (view x) (see y)
  still_one q ds es xs ys x y h lt lt' a b = one_there q ds es (map view xs) (map see ys) (view x) (see y) h (rw length-map lt) (rw length-map lt') (sym (viewed view xs q x lt a)) (sym (viewed see ys q y lt' b))

-- all of them
pub all_passed : (q : ℕ) (ds : List TxDriverView) (es : List TxDeviceView) (ds' : List TxDriverView) (es' : List TxDeviceView) → length ds' ≡ q → PassUpTo q ds es ds' es' → PassedAllTx ds es ds' es'
all_passed zero ds es (x ∷ ds') es' e h = absurd (omega (arith, e))
all_passed zero (x ∷ ds) es [] es' e h = let l = ap length h.0 in absurd (omega arith)
all_passed zero [] [] [] [] e h = tt
all_passed zero [] (y ∷ es) [] es' e h = absurd h.2
all_passed zero [] [] [] (y ∷ es') e h = let l = ap length h.1 in absurd (omega arith)
all_passed (suc q) ds es [] es' e h = absurd (omega (arith, e))
all_passed (suc q) [] [] (x ∷ ds') [] e h = absurd h
all_passed (suc q) [] [] (x ∷ ds') (y ∷ es') e h = absurd h
all_passed (suc q) [] (y ∷ es) (x ∷ ds') [] e h = absurd h
all_passed (suc q) [] (y ∷ es) (x ∷ ds') (y' ∷ es') e h = absurd h
all_passed (suc q) (z ∷ ds) [] (x ∷ ds') [] e h = absurd h
all_passed (suc q) (z ∷ ds) [] (x ∷ ds') (y' ∷ es') e h = absurd h
all_passed (suc q) (z ∷ ds) (y ∷ es) (x ∷ ds') [] e h = absurd h
all_passed (suc q) (z ∷ ds) (y ∷ es) (x ∷ ds') (y' ∷ es') e h = (h.0, all_passed q ds es ds' es' (omega (arith, e)) h.1)
