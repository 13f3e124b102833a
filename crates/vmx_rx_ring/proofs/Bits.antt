-- What a generation bit tells.
use Rattle.std.proofs.Common.{◌≡◌, ◌≢◌, ℕ, zero, suc, ◌+◌, ◌*◌, ◌/◌, ◌%◌, ◌^◌, ◌<◌, Bool, true, false, not, ◌==◌, sym, refl, ap, ◌∙◌, arith}
use native.Mathlib.Nat.{add-div_right}
use Rattle.std.proofs.lemmas.Nat.{div-mul-add}
use Rattle.vmx_genring.specs.Rings.{generation}
use Rattle.vmx_ends.specs.Words.{bit}
use Rattle.vmx_rx_ring.specs.Words.{with_bit}

abbrev even : ℕ → Bool
even n = n % 2 == 0

even_next : (n : ℕ) → even (n + 1) ≡ not (even n)
even_next n = by_rest (n % 2) refl
  where
    by_rest : (r : ℕ) → n % 2 ≡ r → even (n + 1) ≡ not (even n)
    by_rest zero e = let s : (n + 1) % 2 ≡ 1 = omega arith in ap (λ (k : ℕ). k == 0) s ∙ ap (λ (k : ℕ). not (k == 0)) (sym e)
    by_rest (suc zero) e = let s : (n + 1) % 2 ≡ 0 = omega arith in ap (λ (k : ℕ). k == 0) s ∙ ap (λ (k : ℕ). not (k == 0)) (sym e)
    by_rest (suc (suc r)) e = absurd (omega arith)

-- a lap on, the generation is the other one
pub generation_next : (n p : ℕ) → 0 < n → generation n (p + n) ≡ not (generation n p)
generation_next n p pos = ap even (add-div_right p pos) ∙ even_next (p / n)

pub not_not : (b : Bool) → not (not b) ≡ b
not_not true = refl
not_not false = refl

pub not_same : (b : Bool) → not b ≢ b
not_same true e = cc (e)
not_same false e = cc (e)

pub other_bit : (a b : Bool) → a ≢ b → a ≡ not b
other_bit true true n = absurd (n refl)
other_bit true false n = refl
other_bit false true n = refl
other_bit false false n = absurd (n refl)

-- the bit of a word that was put together
pub bit_with : (k rest : ℕ) (b : Bool) → 0 < 2 ^ k → rest < 2 ^ k → bit k (with_bit k rest b) ≡ b
bit_with k rest true pos less = let w : ℕ = 2 ^ k in let s : rest + w ≡ 1 * w + rest = omega arith in ap (λ (n : ℕ). n / w % 2 == 1) s ∙ ap (λ (n : ℕ). n % 2 == 1) (div-mul-add 1 w rest less)
bit_with k rest false pos less = let w : ℕ = 2 ^ k in let s : rest + 0 ≡ 0 * w + rest = omega arith in ap (λ (n : ℕ). n / w % 2 == 1) s ∙ ap (λ (n : ℕ). n % 2 == 1) (div-mul-add 0 w rest less)
