use Rattle.std.proofs.Common.{◌≡◌, ◌<◌, ◌≤◌, ◌^◌, ℕ, length, take, slice_index}
use Rattle.vmx_shared_area.specs.Macs.{mac_of, zero_mac}
use Rattle.vmx_shared_area.specs.declared.offsets.TheConstants.{MAC_SIZE, MAX_MACS}
use Rattle.vmx_config.proofs.plan.mac_table.Given as goal

abbrev pub invariant-loop-i : goal.invariant-loop-i
invariant-loop-i l = record {
  len : length l.macs ≡ MAX_MACS;
  read : take l.i l.macs ≡ take l.i l.addresses;
  rest : (k : ℕ) → l.i ≤ k → mac_of l.macs k ≡ zero_mac;
  lengths : (k : ℕ) → length (mac_of l.macs k) ≡ MAC_SIZE;
  fit : (k j : ℕ) → slice_index (mac_of l.macs k) j < 2 ^ 8;
}
