use Rattle.std.proofs.Common.{◌^◌, [], ◌∷◌, refl, arith}
use Rattle.vmx_shared_area.specs.Bounds.{below_bound}
use Rattle.vmx_shared_area.proofs.tests.statistics_and_status_change_their_bytes_alone.Goals as goal

pub invariant_of-stats : goal.invariant_of-stats
invariant_of-stats g c = record { counts_length = refl; counts_fit = below_bound (2 ^ 64) (1 ∷ 2 ∷ 3 ∷ 4 ∷ 5 ∷ 6 ∷ 7 ∷ 8 ∷ 9 ∷ 10 ∷ []) (omega arith) refl }
