-- The other ports of a switch, counted without the device's own.
use Rattle.std.specs.Prelude.{◌≡◌, ◌<◌, ℕ, suc, nat_lt, if◌then◌else◌}

-- the number of the k-th other port
abbrev pub other : ℕ → ℕ → ℕ
other port k = if nat_lt k port then k else suc k

-- a port that is one of so many others
abbrev pub IsOther : ℕ → ℕ → ℕ → Type 0
IsOther port links to = (k : ℕ) × (k < links) × (to ≡ other port k)
