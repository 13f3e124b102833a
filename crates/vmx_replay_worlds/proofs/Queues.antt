-- One queue or link of all: the serial run finds it by its name, the actors by its number.
use Rattle.std.proofs.Common.{◌≡◌, ℕ, zero, suc, ◌+◌, ◌<◌, Bool, true, false, List, [], ◌∷◌, ◌++◌, set, get_or, refl, ap, ap₂, sym, ◌∙◌, arith, nat_eq, Some, subst, if◌then◌else◌}
use Rattle.std.specs.List.{find, slice_get, AllByRecursion}
use Rattle.std.proofs.lemmas.Bool.Decides.{nat_tests}
use Rattle.vmx_model.specs.Bags.{EachQueue}
use Rattle.vmx_model.specs.Serial.{at_number, where_it}
use Rattle.vmx_replay_worlds.specs.Guests.{joined}

-- the element of this number passes the test, and no other
abbrev pub OnlyAt : {C : Type 0} → (C → Bool) → ℕ → List C → Type 0
OnlyAt test q [] = Unit {0}
OnlyAt test zero (c ∷ cs) = (test c ≡ true) × AllByRecursion (λ x. test x ≡ false) cs
OnlyAt test (suc q) (c ∷ cs) = (test c ≡ false) × OnlyAt test q cs

pub where_none : {C : Type 0} (test : C → Bool) (change : C → C) (cs : List C) → AllByRecursion (λ x. test x ≡ false) cs → where_it test change cs ≡ cs
where_none test change [] h = refl
where_none test change (c ∷ cs) h = ap₂ (λ x xs. x ∷ xs) (ap (λ (b : Bool). if b then change c else c) h.0) (where_none test change cs h.1)

pub where_only : {C : Type 0} (test : C → Bool) (change : C → C) (q : ℕ) (cs : List C) → OnlyAt test q cs → where_it test change cs ≡ at_number q change cs
where_only test change q [] h = refl
where_only test change zero (c ∷ cs) h = ap₂ (λ x xs. x ∷ xs) (ap (λ (b : Bool). if b then change c else c) h.0) (where_none test change cs h.1)
where_only test change (suc q) (c ∷ cs) h = ap₂ (λ x xs. x ∷ xs) (ap (λ (b : Bool). if b then change c else c) h.0) (where_only test change q cs h.1)

pub find_only : {C : Type 0} (test : C → Bool) (q : ℕ) (cs : List C) (c : C) → OnlyAt test q cs → slice_get cs q ≡ Some c → find test cs ≡ Some c
find_only test q [] c h e = absurd (cc e)
find_only test zero (x ∷ cs) c h e = rw h.0 e
find_only test (suc q) (x ∷ cs) c h e = rw h.0 (find_only test q cs c h.1 e)

-- those in front pass no test
pub where_behind : {C : Type 0} (test : C → Bool) (change : C → C) (front cs : List C) → AllByRecursion (λ x. test x ≡ false) front → where_it test change (front ++ cs) ≡ front ++ where_it test change cs
where_behind test change [] cs h = refl
where_behind test change (c ∷ front) cs h = ap₂ (λ x xs. x ∷ xs) (ap (λ (b : Bool). if b then change c else c) h.0) (where_behind test change front cs h.1)

pub find_behind : {C : Type 0} (test : C → Bool) (front cs : List C) → AllByRecursion (λ x. test x ≡ false) front → find test (front ++ cs) ≡ find test cs
find_behind test [] cs h = refl
find_behind test (c ∷ front) cs h = rw h.0 (find_behind test front cs h.1)

pub where_append : {X : Type 0} (test : X → Bool) (change : X → X) (xs ys : List X) → where_it test change (xs ++ ys) ≡ where_it test change xs ++ where_it test change ys
where_append test change [] ys = refl
where_append test change (x ∷ xs) ys = ap (λ (zs : List _). (if test x then change x else x) ∷ zs) (where_append test change xs ys)

-- ------------------------------------------------------------ by names

-- elements with different names, the k-th with the k-th name
module _ {C : Type 0} (key : C → ℕ) (name : ℕ → ℕ) (once : (k k' : ℕ) → name k ≡ name k' → k ≡ k') where
  abbrev pub Named : ℕ → List C → Type 0
  Named from cs = EachQueue (λ k (c : C). key c ≡ name k) from cs

  later_none : (from k : ℕ) (cs : List C) → k < from → Named from cs → AllByRecursion (λ (c : C). nat_eq (key c) (name k) ≡ false) cs
  later_none from k [] lt h = tt
  later_none from k (c ∷ cs) lt h =
      let e = h.0 in let ne : key c ≡ name k → ⊥ = λ f. (let same = once k from (sym f ∙ e) in absurd (omega (arith, same, lt))) in
      let no : nat_eq (key c) (name k) ≡ false = grind (arith, nat_tests) in (no, later_none (suc from) k cs (omega (arith, lt)) h.1)

  only_from : (from j : ℕ) (cs : List C) → Named from cs → OnlyAt (λ (c : C). nat_eq (key c) (name (from + j))) j cs
  only_from from j [] h = tt
  only_from from zero (c ∷ cs) h =
      let e = h.0 in let z : from ≡ from + 0 = omega arith in let yes : nat_eq (key c) (name from) ≡ true = grind (arith, nat_tests) in
      subst (λ (n : ℕ). OnlyAt (λ (x : C). nat_eq (key x) (name n)) zero (c ∷ cs)) z (yes, later_none (suc from) from cs (omega arith) h.1)
  only_from from (suc j) (c ∷ cs) h =
      let e = h.0 in let ne : key c ≡ name (from + suc j) → ⊥ = λ f. (let same = once (from + suc j) from (sym f ∙ e) in absurd (omega (arith, same))) in
      let no : nat_eq (key c) (name (from + suc j)) ≡ false = grind (arith, nat_tests) in
      let z : suc from + j ≡ from + suc j = omega arith in
      (no, subst (λ (n : ℕ). OnlyAt (λ (x : C). nat_eq (key x) (name n)) j cs) z (only_from (suc from) j cs h.1))

  pub only_named : (j : ℕ) (cs : List C) → Named 0 cs → OnlyAt (λ (c : C). nat_eq (key c) (name j)) j cs
  only_named j cs h = let z : 0 + j ≡ j = omega arith in subst (λ (n : ℕ). OnlyAt (λ (x : C). nat_eq (key x) (name n)) j cs) z (only_from 0 j cs h)

-- ------------------------------------------------------------ two lists of ends

module _ {X Y C : Type 0} (live : X → Y → C) where
  pub joined_get : (q : ℕ) (xs : List X) (ys : List Y) (x : X) (y : Y) → slice_get xs q ≡ Some x → slice_get ys q ≡ Some y → slice_get (joined live xs ys) q ≡ Some (live x y)
  joined_get q [] ys x y e f = absurd (cc e)
  joined_get q (a ∷ xs) [] x y e f = absurd (cc f)
  joined_get zero (a ∷ xs) (b ∷ ys) x y e f = let same : a ≡ x = cc e in let alike : b ≡ y = cc f in ap₂ (λ p q. Some (live p q)) same alike
  joined_get (suc q) (a ∷ xs) (b ∷ ys) x y e f = joined_get q xs ys x y e f

  -- the device's end alone changes
  pub joined_one : (q : ℕ) (xs : List X) (ys : List Y) (x : X) (y y' : Y) (change : C → C) → slice_get xs q ≡ Some x → slice_get ys q ≡ Some y → live x y' ≡ change (live x y)
      → joined live xs (set ys q y') ≡ at_number q change (joined live xs ys)
  joined_one q [] ys x y y' change e f h = absurd (cc e)
  joined_one q (a ∷ xs) [] x y y' change e f h = absurd (cc f)
  joined_one zero (a ∷ xs) (b ∷ ys) x y y' change e f h =
      let same : a ≡ x = cc e in let alike : y ≡ b = cc f in ap (λ c. c ∷ joined live xs ys) (ap (λ p. live p y') same ∙ h ∙ ap₂ (λ p q. change (live p q)) (sym same) alike)
  joined_one (suc q) (a ∷ xs) (b ∷ ys) x y y' change e f h = ap (λ cs. live a b ∷ cs) (joined_one q xs ys x y y' change e f h)

  -- a driver's end that looks the same to each other end
  pub joined_left : (xs : List X) (ys : List Y) (q : ℕ) (x x' : X) → x ≡ get_or xs q x → ((y : Y) → live x' y ≡ live x y) → joined live (set xs q x') ys ≡ joined live xs ys
  joined_left [] ys q x x' at h = refl
  joined_left (a ∷ xs) [] zero x x' at h = refl
  joined_left (a ∷ xs) [] (suc q) x x' at h = refl
  joined_left (a ∷ xs) (b ∷ ys) zero x x' at h = ap (λ c. c ∷ joined live xs ys) (h b ∙ ap (λ (z : X). live z b) at)
  joined_left (a ∷ xs) (b ∷ ys) (suc q) x x' at h = ap (λ cs. live a b ∷ cs) (joined_left xs ys q x x' at h)

  -- a device's end
  pub joined_right : (xs : List X) (ys : List Y) (q : ℕ) (y y' : Y) → slice_get ys q ≡ Some y → ((x : X) → live x y' ≡ live x y) → joined live xs (set ys q y') ≡ joined live xs ys
  joined_right [] ys q y y' at h = refl
  joined_right (a ∷ xs) [] q y y' at h = refl
  joined_right (a ∷ xs) (b ∷ ys) zero y y' at h = let alike : b ≡ y = cc at in ap (λ c. c ∷ joined live xs ys) (h a ∙ ap (λ (z : Y). live a z) (sym alike))
  joined_right (a ∷ xs) (b ∷ ys) (suc q) y y' at h = ap (λ cs. live a b ∷ cs) (joined_right xs ys q y y' at h)
