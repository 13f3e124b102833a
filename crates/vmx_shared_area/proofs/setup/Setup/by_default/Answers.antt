use Rattle.std.proofs.Common.{◌^◌, replicate, refl, arith}
use Rattle.vmx_shared_area.specs.Bounds.{below_bound}
use Rattle.vmx_shared_area.proofs.setup.Setup.by_default.Goals as goal
use Rattle.vmx_shared_area.specs.declared.offsets.TheConstants.{LEVEL_COUNT, VLAN_WORDS}

pub invariant_of-filter : goal.invariant_of-filter
invariant_of-filter c = record { mode_fits = omega arith; vlans_length = refl; vlans_fit = below_bound (2 ^ 32) (replicate VLAN_WORDS 4294967295) (omega arith) refl }

pub invariant_of-result : goal.invariant_of-result
invariant_of-result c =
    record {
      tx_queues_low = omega arith;
      tx_queues_high = omega arith;
      rx_queues_low = omega arith;
      rx_queues_high = omega arith;
      tx_ring_low = omega arith;
      tx_ring_high = omega arith;
      tx_ring_step = refl;
      rx_ring1_low = omega arith;
      rx_ring1_high = omega arith;
      rx_ring1_step = refl;
      rx_ring2_low = omega arith;
      rx_ring2_high = omega arith;
      rx_ring2_step = refl;
      mtu_low = omega arith;
      mtu_high = omega arith;
      entries = λ r is. absurd (cc is);
      levels_length = refl;
      levels_fit = below_bound 256 (replicate LEVEL_COUNT 0) (omega arith) refl;
    }
