-- Lists whose items stand in a relation to their number.
use Rattle.std.proofs.Common.{◌≡◌, ◌≢◌, ℕ, zero, suc, ◌+◌, ◌<◌, ◌≤◌, List, [], ◌∷◌, ◌++◌, length, set, get_or, sym, ap, ◌∙◌, subst, arith, Some}
use Rattle.std.specs.List.{slice_get, AllByRecursion}
use Rattle.vmx_model.specs.Bags.{EachQueue}

module _ {X : Type 0} where
  pub each_map : (P P' : ℕ → X → Type 0) (q : ℕ) (xs : List X) → ((k : ℕ) (x : X) → q ≤ k → k < q + length xs → P k x → P' k x) → EachQueue P q xs → EachQueue P' q xs
  each_map P P' q [] h e = tt
  each_map P P' q (x ∷ xs) h e = (h q x (omega arith) (omega arith) e.0, each_map P P' (suc q) xs (λ k y le lt p. h k y (omega (arith, le)) (omega (arith, lt)) p) e.1)

  pub each_at : (P : ℕ → X → Type 0) (q : ℕ) (xs : List X) (i : ℕ) (x : X) → slice_get xs i ≡ Some x → EachQueue P q xs → P (q + i) x
  each_at P q [] i x h e = absurd (cc h)
  each_at P q (y ∷ ys) zero x h e = let same : y ≡ x = cc h in let at : q ≡ q + 0 = omega arith in subst (λ (n : ℕ). P n x) at (subst (P q) same e.0)
  each_at P q (y ∷ ys) (suc i) x h e = let at : suc q + i ≡ q + suc i = omega arith in subst (λ (n : ℕ). P n x) at (each_at P (suc q) ys i x h e.1)

  pub each_set : (P P' : ℕ → X → Type 0) (q : ℕ) (xs : List X) (i : ℕ) (x : X) → ((k : ℕ) (y : X) → k ≢ q + i → P k y → P' k y) → P' (q + i) x → EachQueue P q xs → EachQueue P' q (set xs i x)
  each_set P P' q [] i x others here e = tt
  each_set P P' q (y ∷ ys) zero x others here e =
      let at : q + 0 ≡ q = omega arith in (subst (λ (n : ℕ). P' n x) at here, each_map P P' (suc q) ys (λ k z le lt p. others k z (λ same. omega (arith, same, le)) p) e.1)
  each_set P P' q (y ∷ ys) (suc i) x others here e =
      let at : q + suc i ≡ suc q + i = omega arith in
      (others q y (λ same. omega (arith, same)) e.0, each_set P P' (suc q) ys i x (λ k z ne p. others k z (λ same. ne (same ∙ at)) p) (subst (λ (n : ℕ). P' n x) at here) e.1)

  pub each_push : (P : ℕ → X → Type 0) (q : ℕ) (xs : List X) (x : X) → EachQueue P q xs → P (q + length xs) x → EachQueue P q (xs ++ x ∷ [])
  each_push P q [] x e here = let at : q + 0 ≡ q = omega arith in (subst (λ (n : ℕ). P n x) at here, tt)
  each_push P q (y ∷ ys) x e here = let at : q + suc (length ys) ≡ suc q + length ys = omega arith in (e.0, each_push P (suc q) ys x e.1 (subst (λ (n : ℕ). P n x) at here))

  pub each_front : (P : ℕ → X → Type 0) (q : ℕ) (xs : List X) (x : X) → EachQueue P q (xs ++ x ∷ []) → EachQueue P q xs
  each_front P q [] x e = tt
  each_front P q (y ∷ ys) x e = (e.0, each_front P (suc q) ys x e.1)

  pub each_last : (P : ℕ → X → Type 0) (q : ℕ) (xs : List X) (x : X) → EachQueue P q (xs ++ x ∷ []) → P (q + length xs) x
  each_last P q [] x e = let at : q ≡ q + 0 = omega arith in subst (λ (n : ℕ). P n x) at e.0
  each_last P q (y ∷ ys) x e = let at : suc q + length ys ≡ q + suc (length ys) = omega arith in subst (λ (n : ℕ). P n x) at (each_last P (suc q) ys x e.1)

  pub each_all : (P : ℕ → X → Type 0) (Q : X → Type 0) (q : ℕ) (xs : List X) → ((k : ℕ) (x : X) → P k x → Q x) → EachQueue P q xs → AllByRecursion Q xs
  each_all P Q q [] h e = tt
  each_all P Q q (x ∷ xs) h e = (h q x e.0, each_all P Q (suc q) xs h e.1)

  pub all_map : (P Q : X → Type 0) → ((x : X) → P x → Q x) → (xs : List X) → AllByRecursion P xs → AllByRecursion Q xs
  all_map P Q h [] e = tt
  all_map P Q h (x ∷ xs) e = (h x e.0, all_map P Q h xs e.1)

  pub all_set : (P : X → Type 0) (xs : List X) (i : ℕ) (x : X) → P x → AllByRecursion P xs → AllByRecursion P (set xs i x)
  all_set P [] i x here e = tt
  all_set P (y ∷ ys) zero x here e = (here, e.1)
  all_set P (y ∷ ys) (suc i) x here e = (e.0, all_set P ys i x here e.1)

  pub all_at : (P : X → Type 0) (xs : List X) (i : ℕ) (x : X) → slice_get xs i ≡ Some x → AllByRecursion P xs → P x
  all_at P [] i x h e = absurd (cc h)
  all_at P (y ∷ ys) zero x h e = let same : y ≡ x = cc h in subst P same e.0
  all_at P (y ∷ ys) (suc i) x h e = all_at P ys i x h e.1

  pub all_push : (P : X → Type 0) (xs : List X) (x : X) → AllByRecursion P xs → P x → AllByRecursion P (xs ++ x ∷ [])
  all_push P [] x e here = (here, tt)
  all_push P (y ∷ ys) x e here = (e.0, all_push P ys x e.1 here)

  -- the item at an index, by its default form
  pub get_at : (xs : List X) (i : ℕ) (x : X) → i < length xs → x ≡ get_or xs i x → slice_get xs i ≡ Some x
  get_at [] i x lt is = absurd (omega arith)
  get_at (y ∷ ys) zero x lt is = ap Some (sym is)
  get_at (y ∷ ys) (suc i) x lt is = get_at ys i x (omega arith) is

  pub get_lt : (xs : List X) (i : ℕ) (x : X) → slice_get xs i ≡ Some x → i < length xs
  get_lt [] i x h = absurd (cc h)
  get_lt (y ∷ ys) zero x h = omega arith
  get_lt (y ∷ ys) (suc i) x h = let lt = get_lt ys i x h in omega (arith, lt)
