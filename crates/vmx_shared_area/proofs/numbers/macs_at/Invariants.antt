use Rattle.std.proofs.Common.{◌≡◌, ℕ, ◌+◌, ◌*◌, ◌<◌, ◌≤◌, length}
use Rattle.vmx_shared_area.specs.Bytes.{bytes_at}
use Rattle.vmx_shared_area.specs.Macs.{mac_of, zero_mac}
use Rattle.vmx_shared_area.proofs.numbers.macs_at.Given as goal
use Rattle.vmx_shared_area.specs.declared.offsets.TheConstants.{MAC_SIZE, MAX_MACS, MACS}

abbrev pub invariant-loop-i : goal.invariant-loop-i
invariant-loop-i l = record {
  len : length l.macs ≡ MAX_MACS;
  read : (k : ℕ) → k < l.i → mac_of l.macs k ≡ bytes_at MAC_SIZE (MACS + MAC_SIZE * k) l.bytes;
  rest : (k : ℕ) → l.i ≤ k → mac_of l.macs k ≡ zero_mac;
}
