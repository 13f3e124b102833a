use Rattle.std.proofs.Common.{◌<◌, ◌^◌, ℕ, zero, suc, ◌∷◌, slice_index, replicate, arith}
use Rattle.vmx_filters.proofs.tests.filter_of.Goals as goal

zeros : (n i : ℕ) → slice_index (replicate n 0) i < 2 ^ 32
zeros zero i = omega arith
zeros (suc n) zero = omega arith
zeros (suc n) (suc i) = zeros n i

fits : (i : ℕ) → slice_index (32 ∷ replicate 127 0) i < 2 ^ 32
fits zero = omega arith
fits (suc i) = zeros 127 i

pub invariant_of-result-clause-vlans_fit : goal.invariant_of-result-clause-vlans_fit
invariant_of-result-clause-vlans_fit c = fits
