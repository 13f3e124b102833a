-- Bits of a byte, and where pieces lie.
use Rattle.std.proofs.Common.{◌≡◌, ℕ, suc, ◌+◌, ◌-◌, ◌*◌, ◌/◌, ◌%◌, ◌<◌, ◌≤◌, ap, inl, inr, arith}
use Rattle.std.proofs.lemmas.Bool.Decides.{leb_tells}
use Rattle.std.proofs.Math.Nat.{div-eq_of_lt, le-div_iff_mul-le, div-le_of_le-mul}

no_bit : (byte bit : ℕ) → byte < bit → byte / bit % 2 ≡ 1 → ⊥
no_bit byte bit low odd = let none = ap (λ (q : ℕ). q % 2) (div-eq_of_lt low) in omega (arith, none, odd)

-- a byte that has the bit of a value is no less
pub bit_fits : (byte bit : ℕ) → 0 < bit → byte / bit % 2 ≡ 1 → bit ≤ byte
bit_fits byte bit pos odd = elim (leb_tells bit byte) [ inl fits ↦ fits.1 | inr small ↦ absurd (no_bit byte bit small.1 odd) ]

-- each piece begins within the bytes that are parted
pub begins_within : (j mss len : ℕ) → 0 < mss → j < (len + (mss - 1)) / mss → j * mss < len
begins_within j mss len pos few =
    let whole : suc j * mss ≤ len + (mss - 1) = (le-div_iff_mul-le {k = mss} {x = suc j} {y = len + (mss - 1)} pos).0 few in omega (arith, whole, pos)

-- there are no more pieces than a frame may have bytes
pub pieces_few : (len mss : ℕ) → len ≤ 9022 → 1 ≤ mss → (len + (mss - 1)) / mss ≤ 9022
pieces_few len mss few pos = div-le_of_le-mul mss (omega (arith, few, pos))
