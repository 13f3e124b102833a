use Rattle.std.proofs.Common.{rules, ◌≡◌, List, ℕ, length, slice_index, replicate, ap, ◌∙◌, arith}
use Rattle.vmx_shared_area.specs.Macs.{mac_of, zero_mac}
use Rattle.vmx_shared_area.specs.Places.{get_or-replicate_same}
use Rattle.vmx_shared_area.proofs.filter.MacTable.empty.Goals as goal
use Rattle.vmx_shared_area.specs.declared.offsets.TheConstants.{MAC_SIZE, MAX_MACS}

pub invariant_of-result : goal.invariant_of-result
invariant_of-result c =
    record {
      count_high = omega arith;
      macs_length = search rules;
      mac_length = λ i. ap length (get_or-replicate_same MAX_MACS i zero_mac);
      macs_fit = λ i j.
          let none : slice_index (mac_of (replicate MAX_MACS zero_mac) i) j ≡ 0 = ap (λ (mac : List ℕ). slice_index mac j) (get_or-replicate_same MAX_MACS i zero_mac) ∙ get_or-replicate_same MAC_SIZE j 0 in
          omega (arith, none);
      rest = λ i past. get_or-replicate_same MAX_MACS i zero_mac;
    }
