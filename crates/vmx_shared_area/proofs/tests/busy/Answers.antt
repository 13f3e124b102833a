use Rattle.std.proofs.Common.{◌≡◌, ◌^◌, List, [], ℕ, Option, Some, None, length, slice_index, replicate, refl, sym, ap, ◌∙◌, arith}
use Rattle.vmx_shared_area.specs.Macs.{mac_of, zero_mac}
use Rattle.vmx_shared_area.specs.Bounds.{below_bound}
use Rattle.vmx_shared_area.specs.Places.{get_or-replicate_same}
use Rattle.vmx_shared_area.specs.declared.rss.Rss.{Rss}
use Rattle.vmx_shared_area.proofs.tests.busy.Goals as goal

pub invariant_of-multicast : goal.invariant_of-multicast
invariant_of-multicast c =
    record {
      count_high = omega arith;
      macs_length = refl;
      mac_length = λ i. ap length (get_or-replicate_same 256 i zero_mac);
      macs_fit = λ i j.
          let none : slice_index (mac_of (replicate 256 zero_mac) i) j ≡ 0 = ap (λ (mac : List ℕ). slice_index mac j) (get_or-replicate_same 256 i zero_mac) ∙ get_or-replicate_same 6 j 0 in
          omega (arith, none);
      rest = λ i past. get_or-replicate_same 256 i zero_mac;
    }

pub invariant_of-filter : goal.invariant_of-filter
invariant_of-filter c = record { mode_fits = omega arith; vlans_length = refl; vlans_fit = below_bound (2 ^ 32) (replicate 128 0) (omega arith) refl }

pub invariant_of-rss : goal.invariant_of-rss
invariant_of-rss c =
    record {
      types_high = omega arith;
      key_length = refl;
      key_fits = below_bound 256 (replicate 40 109) (omega arith) refl;
      size_low = omega arith;
      size_high = omega arith;
      table_length = refl;
      table_fits = below_bound 256 (replicate 128 0) (omega arith) refl;
      rest = λ i past. get_or-replicate_same 128 i 0;
    }

table_of : Option Rss → List ℕ
table_of None = []
table_of (Some r) = r.table

pub invariant_of-result : goal.invariant_of-result
unfolding table_of
invariant_of-result c =
    record {
      tx_queues_low = omega arith;
      tx_queues_high = omega arith;
      rx_queues_low = omega arith;
      rx_queues_high = omega arith;
      tx_ring_low = omega arith;
      tx_ring_high = omega arith;
      tx_ring_step = refl;
      rx_ring1_low = omega arith;
      rx_ring1_high = omega arith;
      rx_ring1_step = refl;
      rx_ring2_low = omega arith;
      rx_ring2_high = omega arith;
      rx_ring2_step = refl;
      mtu_low = omega arith;
      mtu_high = omega arith;
      entries = λ r is i lt.
          let table : replicate 128 0 ≡ r.table = ap table_of is in
          let none : slice_index r.table i ≡ 0 = ap (λ (t : List ℕ). slice_index t i) (sym table) ∙ get_or-replicate_same 128 i 0 in
          omega (arith, none);
      levels_length = refl;
      levels_fit = below_bound 256 (replicate 25 0) (omega arith) refl;
    }
