-- Laws of words as fields of bits.
use Rattle.std.proofs.Common.{◌≡◌, ℕ, ◌+◌, ◌*◌, ◌/◌, ◌%◌, ◌^◌, ◌<◌, Bool, true, false, List, [], ◌∷◌, get_or, map, add_comm, mul_comm, refl, sym, ap, ◌∙◌, arith}
use Rattle.std.proofs.Math.Nat.{div-one}
use Rattle.std.specs.List.{AllByRecursion}
use Rattle.std.proofs.lemmas.Nat.{shr-shr, mod-mul-add, div-mul-add}
use Rattle.vmx_layout.specs.Bits.{bit, stack}

-- the fields of a word from the bit `low` up, of these widths
abbrev pub cuts : ℕ → List ℕ → ℕ → List (ℕ × ℕ)
cuts low [] word = []
cuts low (w ∷ ws) word = (w, word / 2 ^ low % 2 ^ w) ∷ cuts (low + w) ws word

abbrev pub width : ℕ × ℕ → ℕ
width f = f.0

-- the value of the field at this place of a stack
abbrev pub value_at : ℕ → List (ℕ × ℕ) → ℕ
value_at i fs = (get_or fs i (0, 0)).1

abbrev pub FieldFits : ℕ × ℕ → Type 0
FieldFits f = f.1 < 2 ^ f.0

-- what is cut out of a stack of fields that fit is those fields
pub cuts-from : (low : ℕ) (fs : List (ℕ × ℕ)) (word : ℕ) → AllByRecursion FieldFits fs → word / 2 ^ low ≡ stack fs → cuts low (map width fs) word ≡ fs
cuts-from low [] word fit above = refl
cuts-from low (f ∷ fs) word fit above =
    let turned : word / 2 ^ low ≡ stack fs * 2 ^ f.0 + f.1 = above ∙ add_comm f.1 (2 ^ f.0 * stack fs) ∙ ap (λ (x : ℕ). x + f.1) (mul_comm (2 ^ f.0) (stack fs)) in
    let lowest : word / 2 ^ low % 2 ^ f.0 ≡ f.1 = rw turned (mod-mul-add (stack fs) (2 ^ f.0) f.1 fit.0) in
    let others : word / 2 ^ (low + f.0) ≡ stack fs = sym (shr-shr word low f.0) ∙ rw turned (div-mul-add (stack fs) (2 ^ f.0) f.1 fit.0) in
    let rest = cuts-from (low + f.0) fs word fit.1 others in
    rw (lowest, rest) refl

pub cuts-stack : (fs : List (ℕ × ℕ)) → AllByRecursion FieldFits fs → cuts 0 (map width fs) (stack fs) ≡ fs
cuts-stack fs fit = cuts-from 0 fs (stack fs) fit (div-one (stack fs))

-- the same bit is the same truth value
pub bit_same : (x y : Bool) → bit x ≡ bit y → x ≡ y
bit_same true true e = refl
bit_same true false e = absurd (omega arith)
bit_same false true e = absurd (omega arith)
bit_same false false e = refl

pub bit_below : (x : Bool) → bit x < 2 ^ 1
bit_below true = omega arith
bit_below false = omega arith
