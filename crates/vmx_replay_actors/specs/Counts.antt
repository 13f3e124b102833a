-- Counts of all guests, by port.
use Rattle.std.specs.Prelude.{ℕ, ◌+◌, Bool, true, false, List, slice_index, slice_set}

-- one more at a port
abbrev pub one_more_at : ℕ → List ℕ → List ℕ
one_more_at port ns = slice_set ns port (slice_index ns port + 1)

-- where there is one
abbrev pub more_if : Bool → ℕ → List ℕ → List ℕ
more_if true port ns = one_more_at port ns
more_if false port ns = ns
