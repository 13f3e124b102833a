use Rattle.std.proofs.Common.{ℕ, replicate, refl, arith}
use Rattle.vmx_shared_area.specs.Places.{get_or-replicate_same}
use Rattle.vmx_shared_area.specs.Bounds.{below_bound}
use Rattle.vmx_model.proofs.tests.setting.Goals as goal

pub invariant_of-result : goal.invariant_of-result
invariant_of-result c =
    record {
      types_high = omega arith;
      key_length = refl;
      key_fits = below_bound 256 (replicate 40 109) (omega arith) refl;
      size_low = omega arith;
      size_high = omega arith;
      table_length = refl;
      table_fits = below_bound 256 (replicate 128 0) (omega arith) refl;
      rest = λ i past. get_or-replicate_same {A = ℕ} 128 i 0;
    }

pub returns : goal.returns
returns c = record { zeros = λ i. get_or-replicate_same {A = ℕ} 128 i 0 }
