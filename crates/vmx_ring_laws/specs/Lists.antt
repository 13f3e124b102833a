-- Lists read by position, and prefixes.
use Rattle.std.specs.Prelude.{◌≡◌, ℕ, suc, ◌<◌, ◌≤◌, ◌⊎◌, List, [], ◌∷◌, ◌++◌, length, take, map, Bool, true, false, nat_lt}
use Rattle.std.proofs.Common.{zero, drop, inl, inr, sym, refl, ap, ◌∙◌, subst, ⊎_elim, arith, append_assoc, length-append, take-append-drop}
use Rattle.std.proofs.lemmas.Bool.{ltb-true, ltb-false}
use Rattle.std.proofs.Math.Seq.{take-append_seam}
use mathlib.Core.Logic.{dite}
use mathlib.Core.List.{IsPrefix}
use mathlib.Core.Option.{some, some-injective, some-ne-none}
use native.Mathlib.Decide.{dec_le}
use lib.ListN.{get_elem?, replicate}
use Rattle.atomic_table.proofs.Lists.{at_snoc}

module _ {A : Type 0} where
  -- a position that has an entry is below the length, and each position below it has one
  pub at_below : (l : List A) (p : ℕ) (a : A) → get_elem? l p ≡ some a → p < length l
  at_below [] p a e = absurd (some-ne-none a (sym e))
  at_below (x ∷ xs) zero a e = omega arith
  at_below (x ∷ xs) (suc p) a e = let r = at_below xs p a e in omega arith

  pub there_below : (l : List A) (p : ℕ) → p < length l → (a : A) × (get_elem? l p ≡ some a)
  there_below [] p less = absurd (omega arith)
  there_below (x ∷ xs) zero less = (x, refl)
  there_below (x ∷ xs) (suc p) less = there_below xs p (omega arith)

  -- an entry of a list with a new end is that end, or was there before
  pub snoc_cases : (l : List A) (a b : A) (p : ℕ) → get_elem? (l ++ a ∷ []) p ≡ some b → ((p ≡ length l) × (a ≡ b)) ⊎ ((p < length l) × (get_elem? l p ≡ some b))
  snoc_cases [] a b zero e = ⊎_elim (λ (h : get_elem? [] zero ≡ some b). absurd (some-ne-none b (sym h))) (λ (h : a ≡ b). inl (refl, h)) (at_snoc [] a b zero e)
  snoc_cases [] a b (suc p) e = absurd (some-ne-none b (sym e))
  snoc_cases (x ∷ xs) a b zero e = inr ((omega arith), e)
  snoc_cases (x ∷ xs) a b (suc p) e = ⊎_elim
      (λ (h : (p ≡ length xs) × (a ≡ b)). inl (ap suc h.0, h.1))
      (λ (h : (p < length xs) × (get_elem? xs p ≡ some b)). let less = h.0 in inr ((omega arith), h.1))
      (snoc_cases xs a b p e)

  -- the first p + 1 entries are the first p and the one at p
  pub take_one_more : (l : List A) (p : ℕ) (a : A) → get_elem? l p ≡ some a → take (suc p) l ≡ take p l ++ a ∷ []
  take_one_more [] p a e = absurd (some-ne-none a (sym e))
  take_one_more (x ∷ xs) zero a e = λ k. some-injective x a e k ∷ []
  take_one_more (x ∷ xs) (suc p) a e = ap (λ l. x ∷ l) (take_one_more xs p a e)

  pub at_take : (l : List A) (n p : ℕ) → p < n → get_elem? (take n l) p ≡ get_elem? l p
  at_take l zero p less = absurd (omega arith)
  at_take [] (suc n) p less = refl
  at_take (x ∷ xs) (suc n) zero less = refl
  at_take (x ∷ xs) (suc n) (suc p) less = at_take xs n p (omega arith)

  pub at_replicate : (n p : ℕ) (a : A) → p < n → get_elem? (replicate n a) p ≡ some a
  at_replicate zero p a less = absurd (omega arith)
  at_replicate (suc n) zero a less = refl
  at_replicate (suc n) (suc p) a less = at_replicate n p a (omega arith)

  pub map_some_replicate : (n : ℕ) (a : A) → map some (replicate n a) ≡ replicate n (some a)
  map_some_replicate zero a = refl
  map_some_replicate (suc n) a = ap (λ l. some a ∷ l) (map_some_replicate n a)

  -- a prefix of a list is one of each longer list, and no longer than the list
  pub prefix_longer : (xs ys zs : List A) → IsPrefix xs ys → IsPrefix xs (ys ++ zs)
  prefix_longer xs ys zs p = (p.0 ++ zs, sym (append_assoc xs p.0 zs) ∙ ap (λ l. l ++ zs) p.1)

  pub prefix_length : (xs ys : List A) → IsPrefix xs ys → length xs ≤ length ys
  prefix_length xs ys p = omega (arith, sym (ap length p.1) ∙ length-append xs p.0)

  pub prefix_trans : (xs ys zs : List A) → IsPrefix xs ys → IsPrefix ys zs → IsPrefix xs zs
  prefix_trans xs ys zs p q = (p.0 ++ q.0, sym (append_assoc xs p.0 q.0) ∙ (ap (λ w. w ++ q.0) p.1 ∙ q.1))

  pub take_prefix : (n : ℕ) (l : List A) → IsPrefix (take n l) l
  take_prefix n l = (drop n l, take-append-drop n l)

  -- a prefix of a list beside the first n of it
  pub prefix_of_take : (xs l : List A) (n : ℕ) → IsPrefix xs l → length xs ≤ n → IsPrefix xs (take n l)
  prefix_of_take [] l n p le = (take n l, refl)
  prefix_of_take (x ∷ xs) [] n p le = absurd (cc (p.1))
  prefix_of_take (x ∷ xs) (y ∷ l) zero p le = absurd (omega arith)
  prefix_of_take (x ∷ xs) (y ∷ l) (suc n) p le = let r = prefix_of_take xs l n (p.0, cc (p.1)) (omega arith) in (r.0, cc (p.1, r.1))

  pub take_of_prefix : (xs l : List A) (n : ℕ) → IsPrefix xs l → n ≤ length xs → IsPrefix (take n l) xs
  take_of_prefix xs l zero p le = (xs, refl)
  take_of_prefix [] l (suc n) p le = absurd (omega arith)
  take_of_prefix (x ∷ xs) [] (suc n) p le = absurd (cc (p.1))
  take_of_prefix (x ∷ xs) (y ∷ l) (suc n) p le = let r = take_of_prefix xs l n (p.0, cc (p.1)) (omega arith) in (r.0, cc (p.1, r.1))

  -- of two lists, one is a prefix of the other
  abbrev pub AreComparable : List A → List A → Type 0
  AreComparable xs ys = IsPrefix xs ys ⊎ IsPrefix ys xs

  pub prefix_beside_take : (xs l : List A) (n : ℕ) → IsPrefix xs l → AreComparable xs (take n l)
  prefix_beside_take xs l n p = dite (dec_le (length xs) n) (λ few. inl (prefix_of_take xs l n p few)) (λ many. inr (take_of_prefix xs l n p (omega arith)))

  -- two prefixes of one list are comparable
  pub beside : (xs ys l : List A) → IsPrefix xs l → IsPrefix ys l → AreComparable xs ys
  beside xs ys l p q = subst (AreComparable xs) (ap (take (length ys)) (sym q.1) ∙ take-append_seam ys q.0) (prefix_beside_take xs l (length ys) p)

  abbrev pub second_if : Bool → List A → List A → List A
  second_if true xs ys = ys
  second_if false xs ys = xs

  -- the longer of two lists
  abbrev pub longer : List A → List A → List A
  longer xs ys = second_if (nat_lt (length xs) (length ys)) xs ys

  either_if : (F : List A → Type 0) (b : Bool) (xs ys : List A) → (b ≡ false → F xs) → (b ≡ true → F ys) → F (second_if b xs ys)
  either_if F true xs ys p q = q refl
  either_if F false xs ys p q = p refl

  -- what holds of both holds of the longer, which is as long as each
  pub longer_of : (F : List A → Type 0) (xs ys : List A) → F xs → F ys → F (longer xs ys)
  longer_of F xs ys p q = either_if F (nat_lt (length xs) (length ys)) xs ys (λ _. p) (λ _. q)

  pub longer_first : (xs ys : List A) → length xs ≤ length (longer xs ys)
  longer_first xs ys = either_if (λ l. length xs ≤ length l) (nat_lt (length xs) (length ys)) xs ys (λ _. omega arith) (λ e. let less = ltb-true (length xs) (length ys) e in omega arith)

  pub longer_second : (xs ys : List A) → length ys ≤ length (longer xs ys)
  longer_second xs ys = either_if (λ l. length ys ≤ length l) (nat_lt (length xs) (length ys)) xs ys (λ e. ltb-false (length xs) (length ys) e) (λ _. omega arith)
