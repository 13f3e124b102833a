-- Small laws of lists.
use Rattle.std.proofs.Common.{◌≡◌, ℕ, zero, suc, ◌+◌, ◌<◌, ◌≤◌, Bool, true, false, true≢false, List, [], ◌∷◌, ◌++◌, length, length-append, map, set, take, append-nil, append_assoc, refl, sym, ap, ◌∙◌, arith, Some, None, Option}
use Rattle.std.specs.List.{slice_get, filter, flat_map, AllByRecursion}
use Rattle.std.specs.Prelude.{IsSome, ◌||◌, ◌&&◌}
use Rattle.std.proofs.lemmas.List.Elements.{filter-append}
use Rattle.vmx_ends.specs.HandedEnds.{any_of, all_of}

pub some_of : {X : Type 0} (o : Option X) → IsSome o → (x : X) × (o ≡ Some x)
some_of None h = absurd (true≢false (sym h))
some_of (Some x) h = (x, refl)

pub get_some : {X : Type 0} (xs : List X) (i : ℕ) → i < length xs → (x : X) × (slice_get xs i ≡ Some x)
get_some [] i lt = absurd (omega arith)
get_some (x ∷ xs) zero lt = (x, refl)
get_some (x ∷ xs) (suc i) lt = get_some xs i (omega arith)

pub get_append : {X : Type 0} (xs ys : List X) (k : ℕ) (x : X) → slice_get xs k ≡ Some x → slice_get (xs ++ ys) k ≡ Some x
get_append [] ys k x h = absurd (cc h)
get_append (y ∷ xs) ys zero x h = h
get_append (y ∷ xs) ys (suc k) x h = get_append xs ys k x h

pub get_last : {X : Type 0} (xs : List X) (x : X) → slice_get (xs ++ x ∷ []) (length xs) ≡ Some x
get_last [] x = refl
get_last (y ∷ xs) x = get_last xs x

pub take_all : {X : Type 0} (xs : List X) → take (length xs) xs ≡ xs
take_all [] = refl
take_all (x ∷ xs) = ap (λ (ys : List _). x ∷ ys) (take_all xs)

pub take_front : {X : Type 0} (xs ys : List X) → take (length xs) (xs ++ ys) ≡ xs
take_front [] ys = refl
take_front (x ∷ xs) ys = ap (λ (zs : List _). x ∷ zs) (take_front xs ys)

pub length_last : {X : Type 0} (xs : List X) (x : X) → length (xs ++ x ∷ []) ≡ suc (length xs)
length_last [] x = refl
length_last (y ∷ xs) x = ap suc (length_last xs x)

pub map_append : {X Y : Type 0} (f : X → Y) (xs ys : List X) → map f (xs ++ ys) ≡ map f xs ++ map f ys
map_append f [] ys = refl
map_append f (x ∷ xs) ys = ap (λ (zs : List _). f x ∷ zs) (map_append f xs ys)

pub flat_last : {X Y : Type 0} (f : X → List Y) (xs : List X) (x : X) → flat_map f (xs ++ x ∷ []) ≡ flat_map f xs ++ f x
flat_last f [] x = append-nil (f x)
flat_last {X} {Y} f (y ∷ xs) x = ap (λ (zs : List Y). f y ++ zs) (flat_last f xs x) ∙ sym (append_assoc (f y) (flat_map f xs) (f x))

pub filter_less : {X : Type 0} (f : X → Bool) (xs : List X) → length (filter f xs) ≤ length xs
filter_less f [] = omega arith
filter_less f (x ∷ xs) = step (f x) refl (filter_less f xs)
  where
    step : (b : Bool) → f x ≡ b → length (filter f xs) ≤ length xs → length (filter f (x ∷ xs)) ≤ suc (length xs)
    step true e ih = rw e (omega (arith, ih))
    step false e ih = rw e (omega (arith, ih))

pub count_append : {X : Type 0} (f : X → Bool) (xs ys : List X) → length (filter f (xs ++ ys)) ≡ length (filter f xs) + length (filter f ys)
count_append f xs ys = ap length (filter-append f xs ys) ∙ length-append (filter f xs) (filter f ys)

-- the last item of a list in the place of another
pub all_swap : {X : Type 0} (P : X → Type 0) (xs : List X) (x y : X) → (P x → P y) → AllByRecursion P (xs ++ x ∷ []) → AllByRecursion P (xs ++ y ∷ [])
all_swap P [] x y f h = (f h.0, tt)
all_swap P (z ∷ xs) x y f h = (h.0, all_swap P xs x y f h.1)

pub all_end : {X : Type 0} (P : X → Type 0) (xs : List X) (x : X) → AllByRecursion P (xs ++ x ∷ []) → P x
all_end P [] x h = h.0
all_end P (z ∷ xs) x h = all_end P xs x h.1

pub all_begin : {X : Type 0} (P : X → Type 0) (xs : List X) (x : X) → AllByRecursion P (xs ++ x ∷ []) → AllByRecursion P xs
all_begin P [] x h = tt
all_begin P (z ∷ xs) x h = (h.0, all_begin P xs x h.1)

-- a part of the items that the new item keeps
pub part_stays : {X Y : Type 0} (f : X → Y) (xs : List X) (i : ℕ) (x y : X) → slice_get xs i ≡ Some x → f y ≡ f x → map f (set xs i y) ≡ map f xs
part_stays f [] i x y at same = refl
part_stays {X} {Y} f (z ∷ xs) zero x y at same = let is : z ≡ x = cc at in ap (λ (w : Y). w ∷ map f xs) (same ∙ sym (ap f is))
part_stays {X} {Y} f (z ∷ xs) (suc i) x y at same = ap (λ (ws : List Y). f z ∷ ws) (part_stays f xs i x y at same)

pub any_stays : {X : Type 0} (f : X → Bool) (xs : List X) (i : ℕ) (x y : X) → slice_get xs i ≡ Some x → f y ≡ f x → any_of f (set xs i y) ≡ any_of f xs
any_stays f [] i x y at same = refl
any_stays f (z ∷ xs) zero x y at same = let is : z ≡ x = cc at in ap (λ (b : Bool). b || any_of f xs) (same ∙ sym (ap f is))
any_stays f (z ∷ xs) (suc i) x y at same = ap (λ (b : Bool). f z || b) (any_stays f xs i x y at same)

or_true : (a b : Bool) → b ≡ true → (a || b) ≡ true
or_true true b e = refl
or_true false b e = e

pub any_at : {X : Type 0} (f : X → Bool) (xs : List X) (i : ℕ) (x : X) → slice_get xs i ≡ Some x → f x ≡ true → any_of f xs ≡ true
any_at f [] i x at e = absurd (cc at)
any_at f (z ∷ xs) zero x at e = let is : z ≡ x = cc at in let first : f z ≡ true = ap f is ∙ e in rw first refl
any_at f (z ∷ xs) (suc i) x at e = or_true (f z) (any_of f xs) (any_at f xs i x at e)

pub and_both : (a b : Bool) → (a && b) ≡ true → (a ≡ true) × (b ≡ true)
and_both true b e = (refl, e)
and_both false b e = absurd (true≢false (sym e))

pub all_of_set : {X : Type 0} (f : X → Bool) (xs : List X) (i : ℕ) (x y : X) → slice_get xs i ≡ Some x → (f x ≡ true → f y ≡ true) → all_of f xs ≡ true → all_of f (set xs i y) ≡ true
all_of_set f [] i x y at h all = refl
all_of_set f (z ∷ xs) zero x y at h all = let is : z ≡ x = cc at in let both = and_both (f z) (all_of f xs) all in let here : f y ≡ true = h (sym (ap f is) ∙ both.0) in rw here both.1
all_of_set f (z ∷ xs) (suc i) x y at h all = let both = and_both (f z) (all_of f xs) all in let first : f z ≡ true = both.0 in rw first (all_of_set f xs i x y at h both.1)
