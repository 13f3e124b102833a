-- The generation as a bit of a word and as a truth value: what the two say of a word is the same.
use Rattle.std.proofs.Common.{◌≡◌, ◌≢◌, ℕ, Bool, true, false, true≢false, not, ◌↔◌, sym, refl, ◌∙◌}
use Rattle.std.specs.Int.{bit_at}
use Rattle.vmx_genring.specs.Rings.{generation, generation_bit}
use Rattle.vmx_genring.specs.RingLaws.{generation_tells}
use Rattle.vmx_ends.specs.Words.{bit, IsMissed}

-- a word's bit k is the generation of the position p
pub same_generation : (k size p word : ℕ) → (bit_at word k ≡ generation_bit size p) ↔ (bit k word ≡ generation size p)
same_generation k size p word = generation_tells size p k word

other : (a b : Bool) → a ≢ b → a ≡ not b
other true true e = absurd (e refl)
other true false e = refl
other false true e = refl
other false false e = absurd (e refl)

not_self : (b : Bool) → b ≢ not b
not_self true e = true≢false e
not_self false e = true≢false (sym e)

-- it is not the generation: no entry is published there
pub missed_by : (k size p word : ℕ) → bit_at word k ≢ generation_bit size p → IsMissed k size p word
missed_by k size p word ne = other (bit k word) (generation size p) (λ e. ne ((same_generation k size p word).1 e))

pub missed_is_other : (k size p word : ℕ) → IsMissed k size p word → bit_at word k ≢ generation_bit size p
missed_is_other k size p word m e = not_self (generation size p) (sym ((same_generation k size p word).0 e) ∙ m)
