-- How far a run has come: bounds on the numbers of a guest, which every turn raises by a little.
use Rattle.std.specs.Prelude.{ℕ, ◌+◌, ◌≤◌, ◌^◌, length, All}
use Rattle.vmx_model.specs.Serial.{Seat}
use Rattle.vmx_serial_queues.specs.Small.{IsWithin}

-- a guest with at most k activations, copies and setups, and at most k frames in a queue
pub record IsSmall (k : ℕ) (s : Seat) : Type 0 where
  pub begun : s.begun ≤ k
  pub seen : s.seen ≤ k
  pub setups : length s.setups ≤ k
  pub delivered : All (IsWithin k) s.rx

-- no guest of any plan comes so far
abbrev pub MOST : ℕ
MOST = 2 ^ 31 + 2 ^ 10
