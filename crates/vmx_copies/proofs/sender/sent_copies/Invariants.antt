use Rattle.std.proofs.Common.{◌≡◌, ◌≤◌, ◌+◌, ◌-◌, ◌++◌, ℕ, length, take}
use Rattle.std.specs.List.{filter_map}
use Rattle.vmx_copies.specs.Join.{IsInOrder, before, here, row_if}
use Rattle.vmx_copies.proofs.sender.sent_copies.Given as goal

abbrev pub invariant-loop-at : goal.invariant-loop-at
invariant-loop-at l = IsInOrder l.list → l.begun ≡ length (before l.place l.list)
    → (n : ℕ) × (l.at ≡ l.begun + n) × (n ≤ length (here l.place l.list)) × (l.rows ≡ l.fn.rows ++ filter_map (row_if l.sender.arrivals.now l.sender.port l.number) (take n (here l.place l.list)))

abbrev pub decreases-loop-at : goal.decreases-loop-at
decreases-loop-at l = length l.list - l.at
