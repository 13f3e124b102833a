-- The draws of the generator (own to this project); its two numbers are those of Knuth's MMIX.
use Rattle.std.specs.Prelude.{ℕ, zero, suc, ◌+◌, ◌*◌, ◌/◌, ◌%◌, ◌^◌, List, map}
use Rattle.std.specs.List.{range_with_len}
use Rattle.vmx_generator.specs.declared.draws.Draws.{Draws}

-- the state after one draw more
abbrev pub next_state : ℕ → ℕ
next_state x = (x * 6364136223846793005 + 1442695040888963407) % 2 ^ 64

-- the state after so many draws, which begins as the number
unfoldable pub state_after : ℕ → ℕ → ℕ
state_after number zero = number
state_after number (suc k) = next_state (state_after number k)

-- draw k, counted from 0: the upper 31 of the 64 bits of the state after it
abbrev pub draw : ℕ → ℕ → ℕ
draw number k = state_after number (k + 1) / 2 ^ 33

-- three draws for the frame that has i frames before it
abbrev pub draws_after : ℕ → ℕ → Draws
draws_after number i = record { destination = draw number (3 * i); size = draw number (3 * i + 1); flow = draw number (3 * i + 2) }

-- the draws of frame n of guest g: frames go by their number, and then by their guest
abbrev pub draws_of : ℕ → ℕ → ℕ → Draws
draws_of number g n = draws_after number (8 * n + g)

-- the draws of the first frames, so many
unfoldable pub first_draws : ℕ → ℕ → List Draws
first_draws number count = map (draws_after number) (range_with_len 0 count)
