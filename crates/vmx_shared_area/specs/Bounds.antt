-- Bounds of lists that are written out.
use Rattle.std.proofs.Common.{◌≡◌, ℕ, zero, suc, ◌<◌, Bool, true, false, List, [], ◌∷◌, slice_index, nat_lt, refl, arith}
use Rattle.std.specs.Prelude.{◌&&◌}
use Rattle.std.proofs.lemmas.Bool.Decides.{nat_tests}

-- each number of a list is below a bound; of a list that is written out, it is computed
abbrev pub all_below : ℕ → List ℕ → Bool
all_below bound [] = true
all_below bound (x ∷ xs) = nat_lt x bound && all_below bound xs

both_true : (a b : Bool) → a && b ≡ true → (a ≡ true) × (b ≡ true)
both_true true b h = (refl, h)
both_true false b h = absurd (cc h)

pub below_bound : (bound : ℕ) (xs : List ℕ) → 0 < bound → all_below bound xs ≡ true → (i : ℕ) → slice_index xs i < bound
below_bound bound [] some h i = some
below_bound bound (x ∷ xs) some h zero = let first = (both_true (nat_lt x bound) (all_below bound xs) h).0 in grind (arith, nat_tests)
below_bound bound (x ∷ xs) some h (suc i) = below_bound bound xs some (both_true (nat_lt x bound) (all_below bound xs) h).1 i
