-- Numbers printed one behind the other, and what stands before them.
use Rattle.std.proofs.Common.{◌≡◌, ℕ, ◌+◌, ◌<◌, List, [], ◌∷◌, ◌++◌, length, take, get_or, Bool, true, false, sym, refl, ap, ◌∙◌, arith}
use Rattle.std.proofs.lemmas.List.{append_assoc, append-nil, take_more, flat_map_more}
use Rattle.std.specs.Bool.{if◌then◌else◌}
use Rattle.std.specs.Int.{w32, w64, to_le_bytes}
use Rattle.std.specs.List.{flat_map}
use mathlib.Core.List.{IsPrefix}
use Rattle.vmx_ring_samples.specs.Sections.{numbers, long_numbers}

more : (f : ℕ → List ℕ) (bs xs : List ℕ) (i : ℕ) → i < length xs → (bs ++ flat_map f (take i xs)) ++ f (get_or xs i 0) ≡ bs ++ flat_map f (take (i + 1) xs)
more f bs xs i less = flat_map_more f bs (take i xs) (get_or xs i 0) ∙ ap (λ z. bs ++ flat_map f z) (sym (take_more xs i 0 less))

pub numbers_none : (bs : List ℕ) → bs ≡ bs ++ numbers []
unfolding numbers
numbers_none bs = sym (append-nil bs)

pub numbers_more : (bs xs : List ℕ) (i : ℕ) → i < length xs → (bs ++ numbers (take i xs)) ++ to_le_bytes w32 (get_or xs i 0) ≡ bs ++ numbers (take (i + 1) xs)
unfolding numbers
numbers_more bs xs i less = more (to_le_bytes w32) bs xs i less

-- two numbers before the others
pub long_two : (bs : List ℕ) (a b : ℕ) → (bs ++ to_le_bytes w64 a) ++ to_le_bytes w64 b ≡ bs ++ long_numbers (a ∷ b ∷ [])
unfolding long_numbers
long_two bs a b = append_assoc bs (to_le_bytes w64 a) (to_le_bytes w64 b)

pub long_more : (bs : List ℕ) (a b : ℕ) (xs : List ℕ) (i : ℕ) → i < length xs → (bs ++ long_numbers (a ∷ b ∷ take i xs)) ++ to_le_bytes w64 (get_or xs i 0) ≡ bs ++ long_numbers (a ∷ b ∷ take (i + 1) xs)
unfolding long_numbers
long_more bs a b xs i less = flat_map_more (to_le_bytes w64) bs (a ∷ b ∷ take i xs) (get_or xs i 0) ∙ ap (λ z. bs ++ flat_map (to_le_bytes w64) (a ∷ b ∷ z)) (sym (take_more xs i 0 less))

-- what is put behind, or not, leaves what stands before
pub kept : (old a b base buffers new : List ℕ) (done : Bool) → base ≡ old ++ a ++ b → new ≡ (if done then base ++ buffers else base) → IsPrefix old new
kept old a b base buffers new true is put = (a ++ b ++ buffers, sym (append_assoc old (a ++ b) buffers) ∙ ap (λ z. z ++ buffers) (sym (append_assoc old a b) ∙ sym is) ∙ sym put)
kept old a b base buffers new false is put = (a ++ b, sym (append_assoc old a b) ∙ sym is ∙ sym put)

-- nothing goes behind
pub stays : (xs : List ℕ) → IsPrefix xs xs
stays xs = ([], append-nil xs)
