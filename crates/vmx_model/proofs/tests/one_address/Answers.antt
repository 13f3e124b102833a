use Rattle.std.proofs.Common.{◌≡◌, ℕ, zero, suc, ◌<◌, ◌≤◌, ◌^◌, List, [], ◌∷◌, length, replicate, slice_index, refl, arith}
use Rattle.vmx_shared_area.specs.Places.{get_or-replicate_same}
use Rattle.vmx_shared_area.specs.Macs.{mac_of, zero_mac}
use Rattle.vmx_model.proofs.tests.one_address.Goals as goal

-- a table whose first address begins with a byte
abbrev table : ℕ → List (List ℕ)
table first = (first ∷ 0 ∷ 94 ∷ 0 ∷ 0 ∷ 1 ∷ []) ∷ replicate 255 zero_mac

zeros : (i : ℕ) → mac_of (replicate 255 zero_mac) i ≡ zero_mac
zeros i = get_or-replicate_same 255 i zero_mac

lengths : (first i : ℕ) → length (mac_of (table first) i) ≡ 6
lengths first zero = refl
lengths first (suc i) = rw (zeros i) refl

fit : (first : ℕ) → first < 2 ^ 8 → (i j : ℕ) → slice_index (mac_of (table first) i) j < 2 ^ 8
fit first small zero zero = small
fit first small zero (suc zero) = omega arith
fit first small zero (suc (suc zero)) = omega arith
fit first small zero (suc (suc (suc zero))) = omega arith
fit first small zero (suc (suc (suc (suc zero)))) = omega arith
fit first small zero (suc (suc (suc (suc (suc zero))))) = omega arith
fit first small zero (suc (suc (suc (suc (suc (suc j)))))) = omega arith
fit first small (suc i) j = rw (zeros i) (zero_small j)
  where
    zero_small : (j : ℕ) → slice_index zero_mac j < 2 ^ 8
    zero_small j = rw (get_or-replicate_same {A = ℕ} 6 j 0) (omega arith)

rest : (first i : ℕ) → 1 ≤ i → mac_of (table first) i ≡ zero_mac
rest first zero le = absurd (omega (arith, le))
rest first (suc i) le = zeros i

pub invariant_of-result : goal.invariant_of-result
invariant_of-result c = let small : c.args.first < 2 ^ 8 = omega arith in record { count_high = omega arith; macs_length = refl; mac_length = lengths c.args.first; macs_fit = fit c.args.first small; rest = rest c.args.first }
