-- Notes went both ways between the first so many queues' ends.
use Rattle.std.proofs.Common.{◌≡◌, ℕ, zero, suc, ◌+◌, ◌<◌, List, [], ◌∷◌, length, map, get_or, set, ap, sym, ◌∙◌, subst, arith, add-one}
use Rattle.std.proofs.lemmas.List.{map-set, length-map}
use Rattle.vmx_io.specs.Views.{viewed}
use Rattle.vmx_ends.specs.Receive.{RxDriverView, RxDeviceView}
use Rattle.vmx_model.specs.Bags.{Pairwise}
use Rattle.vmx_driver_steps.specs.Driver.{AreOneRx}
use Rattle.vmx_driver_steps.specs.Queues.{PassedRx, PassedAllRx}

-- the first q are passed, the others are as they were and of one queue
abbrev pub PassUpToRx : ℕ → List RxDriverView → List RxDeviceView → List RxDriverView → List RxDeviceView → Type 0
PassUpToRx zero ds es ds' es' = (ds' ≡ ds) × (es' ≡ es) × Pairwise AreOneRx ds es
PassUpToRx (suc q) [] [] [] [] = Unit {0}
PassUpToRx (suc q) (d ∷ ds) (e ∷ es) (d' ∷ ds') (e' ∷ es') = PassedRx d e d' e' × PassUpToRx q ds es ds' es'
PassUpToRx (suc q) ds es ds' es' = ⊥

-- at the q-th queue the two ends are still as they were, and of one queue
pub one_there : (q : ℕ) (ds : List RxDriverView) (es : List RxDeviceView) (ds' : List RxDriverView) (es' : List RxDeviceView) (d : RxDriverView) (e : RxDeviceView) → PassUpToRx q ds es ds' es' → q < length ds' → q < length es' → d ≡ get_or ds' q d → e ≡ get_or es' q e → AreOneRx d e
one_there q ds es [] es' d e h lt lt' a b = absurd (omega (arith, lt))
one_there q ds es (x' ∷ ds') [] d e h lt lt' a b = absurd (omega (arith, lt'))
one_there zero [] es (x' ∷ ds') (y' ∷ es') d e h lt lt' a b = let l = ap length h.0 in absurd (omega arith)
one_there zero (x ∷ ds) [] (x' ∷ ds') (y' ∷ es') d e h lt lt' a b = let l = ap length h.1 in absurd (omega arith)
one_there zero (x ∷ ds) (y ∷ es) (x' ∷ ds') (y' ∷ es') d e h lt lt' a b = let sx : x' ≡ x = cc h.0 in let sy : y' ≡ y = cc h.1 in
    subst (λ (z : RxDriverView × RxDeviceView). AreOneRx z.0 z.1) (λ i. (sym (a ∙ sx) i, sym (b ∙ sy) i)) h.2.0
one_there (suc q) [] [] (x' ∷ ds') (y' ∷ es') d e h lt lt' a b = absurd h
one_there (suc q) [] (y ∷ es) (x' ∷ ds') (y' ∷ es') d e h lt lt' a b = absurd h
one_there (suc q) (x ∷ ds) [] (x' ∷ ds') (y' ∷ es') d e h lt lt' a b = absurd h
one_there (suc q) (x ∷ ds) (y ∷ es) (x' ∷ ds') (y' ∷ es') d e h lt lt' a b = one_there q ds es ds' es' d e h.1 (omega (arith, lt)) (omega (arith, lt')) a b

-- one more queue
next : (q : ℕ) (ds : List RxDriverView) (es : List RxDeviceView) (ds' : List RxDriverView) (es' : List RxDeviceView) (d d' : RxDriverView) (e e' : RxDeviceView) → PassUpToRx q ds es ds' es' → q < length ds' → q < length es' → d ≡ get_or ds' q d → e ≡ get_or es' q e → PassedRx d e d' e' → PassUpToRx (suc q) ds es (set ds' q d') (set es' q e')
next q ds es [] es' d d' e e' h lt lt' a b p = absurd (omega (arith, lt))
next q ds es (x' ∷ ds') [] d d' e e' h lt lt' a b p = absurd (omega (arith, lt'))
next zero [] es (x' ∷ ds') (y' ∷ es') d d' e e' h lt lt' a b p = let l = ap length h.0 in absurd (omega arith)
next zero (x ∷ ds) [] (x' ∷ ds') (y' ∷ es') d d' e e' h lt lt' a b p = let l = ap length h.1 in absurd (omega arith)
next zero (x ∷ ds) (y ∷ es) (x' ∷ ds') (y' ∷ es') d d' e e' h lt lt' a b p =
    let sx : x' ≡ x = cc h.0 in let sy : y' ≡ y = cc h.1 in let tx : ds' ≡ ds = cc h.0 in let ty : es' ≡ es = cc h.1 in
    (subst (λ (z : RxDriverView × RxDeviceView). PassedRx z.0 z.1 d' e') (λ i. ((a ∙ sx) i, (b ∙ sy) i)) p, (tx, ty, h.2.1))
next (suc q) [] [] (x' ∷ ds') (y' ∷ es') d d' e e' h lt lt' a b p = absurd h
next (suc q) [] (y ∷ es) (x' ∷ ds') (y' ∷ es') d d' e e' h lt lt' a b p = absurd h
next (suc q) (x ∷ ds) [] (x' ∷ ds') (y' ∷ es') d d' e e' h lt lt' a b p = absurd h
next (suc q) (x ∷ ds) (y ∷ es) (x' ∷ ds') (y' ∷ es') d d' e e' h lt lt' a b p = (h.0, next q ds es ds' es' d d' e e' h.1 (omega (arith, lt)) (omega (arith, lt')) a b p)

module _ {D E : Type 0} (view : D → RxDriverView) (see : E → RxDeviceView) where
  pub one_more : (q : ℕ) (ds : List RxDriverView) (es : List RxDeviceView) (xs : List D) (ys : List E) (x x' : D) (y y' : E) → PassUpToRx q ds es (map view xs) (map see ys) → q < length xs → q < length ys → x ≡ get_or xs q x → y ≡ get_or ys q y → PassedRx (view x) (see y) (view x') (see y')
      → PassUpToRx (q + 1) ds es (map view (set xs q x')) (map see (set ys q y'))
  one_more q ds es xs ys x x' y y' h lt lt' a b p =
      rw (map-set view xs q x', map-set see ys q y', add-one q) (next q ds es (map view xs) (map see ys) (view x) (view x') (see y) (see y') h (rw length-map lt) (rw length-map lt') (sym (viewed view xs q x lt a)) (sym (viewed see ys q y lt' b)) p)

  pub still_one : (q : ℕ) (ds : List RxDriverView) (es : List RxDeviceView) (xs : List D) (ys : List E) (x : D) (y : E) → PassUpToRx q ds es (map view xs) (map see ys) → q < length xs → q < length ys → x ≡ get_or xs q x → y ≡ get_or ys q y → AreOneRx (view x) (see y)
  still_one q ds es xs ys x y h lt lt' a b = one_there q ds es (map view xs) (map see ys) (view x) (see y) h (rw length-map lt) (rw length-map lt') (sym (viewed view xs q x lt a)) (sym (viewed see ys q y lt' b))

-- all of them
pub all_passed : (q : ℕ) (ds : List RxDriverView) (es : List RxDeviceView) (ds' : List RxDriverView) (es' : List RxDeviceView) → length ds' ≡ q → PassUpToRx q ds es ds' es' → PassedAllRx ds es ds' es'
all_passed zero ds es (x ∷ ds') es' e h = absurd (omega (arith, e))
all_passed zero (x ∷ ds) es [] es' e h = let l = ap length h.0 in absurd (omega arith)
all_passed zero [] [] [] [] e h = tt
all_passed zero [] (y ∷ es) [] es' e h = absurd h.2
all_passed zero [] [] [] (y ∷ es') e h = let l = ap length h.1 in absurd (omega arith)
all_passed (suc q) ds es [] es' e h = absurd (omega (arith, e))
all_passed (suc q) [] [] (x ∷ ds') [] e h = absurd h
all_passed (suc q) [] [] (x ∷ ds') (y ∷ es') e h = absurd h
all_passed (suc q) [] (y ∷ es) (x ∷ ds') [] e h = absurd h
all_passed (suc q) [] (y ∷ es) (x ∷ ds') (y' ∷ es') e h = absurd h
all_passed (suc q) (z ∷ ds) [] (x ∷ ds') [] e h = absurd h
all_passed (suc q) (z ∷ ds) [] (x ∷ ds') (y' ∷ es') e h = absurd h
all_passed (suc q) (z ∷ ds) (y ∷ es) (x ∷ ds') [] e h = absurd h
all_passed (suc q) (z ∷ ds) (y ∷ es) (x ∷ ds') (y' ∷ es') e h = (h.0, all_passed q ds es ds' es' (omega (arith, e)) h.1)
