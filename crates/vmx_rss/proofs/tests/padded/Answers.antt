use Rattle.std.proofs.Common.{◌≡◌, ℕ, zero, suc, slice_index, replicate, refl}
use Rattle.vmx_rss.proofs.tests.padded.Goals as goal

zeros : (n k : ℕ) → slice_index (replicate n 0) k ≡ 0
zeros zero k = refl
zeros (suc n) zero = refl
zeros (suc n) (suc k) = zeros n k

pub loop-i-init : goal.loop-i-init
loop-i-init c = record { long = refl; rest = λ k low. zeros 128 k }
