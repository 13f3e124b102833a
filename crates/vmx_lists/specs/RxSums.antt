-- What the device keeps of the last frames.
use Rattle.std.specs.Prelude.{◌≡◌, ℕ, suc, ◌+◌, ◌-◌, ◌%◌, ◌<◌, ◌≤◌, ◌==◌, List, length, take, if◌then◌else◌, slice_index}
use Rattle.vmx_ends.specs.declared.frames.Delivery.{Delivery}
use Rattle.vmx_ends.specs.Receive.{used, took1, took2}

-- what the device keeps of the last frames: how many buffers of each supply left it with each of them
abbrev pub AreSums : ℕ → List Delivery → List ℕ → List ℕ → Type 0
AreSums n ds ones twos = (p : ℕ) → p < length ds → length ds ≤ p + n + 1 → (slice_index ones (p % (n + 1)) ≡ used took1 (take (suc p) ds)) × (slice_index twos (p % (n + 1)) ≡ used took2 (take (suc p) ds))

abbrev pub sum_at : ℕ → List ℕ → ℕ → ℕ
sum_at n sums received = if received == 0 then 0 else slice_index sums ((received - 1) % (n + 1))
