-- Receive queues to which few frames were delivered.
use Rattle.std.specs.Prelude.{ℕ, ◌≤◌, ◌^◌, length}
use Rattle.vmx_ends.specs.ReceiveCore.{RxCore}

-- a receive queue to which at most k frames were delivered
abbrev pub IsWithin : ℕ → RxCore → Type 0
IsWithin k c = length c.delivered ≤ k

-- one whose positions fit 64 bits
abbrev pub IsShort : RxCore → Type 0
IsShort c = IsWithin (2 ^ 40) c
