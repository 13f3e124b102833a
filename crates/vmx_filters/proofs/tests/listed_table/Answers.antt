use Rattle.std.proofs.Common.{◌≡◌, ◌≤◌, ◌<◌, ◌^◌, ℕ, zero, suc, List, [], ◌∷◌, length, slice_index, get_or, replicate, refl, arith}
use Rattle.vmx_shared_area.specs.Macs.{mac_of, zero_mac}
use Rattle.vmx_filters.proofs.tests.listed_table.Goals as goal

-- the address of the test, and the table that holds it
abbrev listed : List ℕ
listed = 1 ∷ 0 ∷ 0x5e ∷ 0 ∷ 0 ∷ 1 ∷ []

later : (n i : ℕ) → get_or (replicate n zero_mac) i zero_mac ≡ zero_mac
later zero i = refl
later (suc n) zero = refl
later (suc n) (suc i) = later n i

lengths : (i : ℕ) → length (mac_of (listed ∷ replicate 255 zero_mac) i) ≡ 6
lengths zero = refl
lengths (suc i) = rw (later 255 i) refl

listed_fits : (j : ℕ) → slice_index listed j < 2 ^ 8
listed_fits zero = omega arith
listed_fits (suc zero) = omega arith
listed_fits (suc (suc zero)) = omega arith
listed_fits (suc (suc (suc zero))) = omega arith
listed_fits (suc (suc (suc (suc zero)))) = omega arith
listed_fits (suc (suc (suc (suc (suc zero))))) = omega arith
listed_fits (suc (suc (suc (suc (suc (suc j)))))) = omega arith

zero_fits : (n j : ℕ) → slice_index (replicate n 0) j < 2 ^ 8
zero_fits zero j = omega arith
zero_fits (suc n) zero = omega arith
zero_fits (suc n) (suc j) = zero_fits n j

fits : (i j : ℕ) → slice_index (mac_of (listed ∷ replicate 255 zero_mac) i) j < 2 ^ 8
fits zero j = listed_fits j
fits (suc i) j = rw (later 255 i) (zero_fits 6 j)

rest : (i : ℕ) → 1 ≤ i → mac_of (listed ∷ replicate 255 zero_mac) i ≡ zero_mac
rest zero low = absurd (omega arith)
rest (suc i) low = later 255 i

pub invariant_of-result : goal.invariant_of-result
invariant_of-result c = record {
  count_high = omega arith;
  macs_length = refl;
  mac_length = lengths;
  macs_fit = fits;
  rest = rest;
}
