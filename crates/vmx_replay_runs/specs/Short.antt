-- How long the journals of a run are, in entries. A device takes a turn only while its journal has fewer than 2 ^ 55 entries, so each step asks how many stand in any journal before it.
use Rattle.std.specs.Prelude.{ℕ, ◌+◌, ◌*◌, ◌^◌, ◌≤◌, length}
use Rattle.std.specs.List.{AllByRecursion}
use Rattle.vmx_switch.specs.declared.answer.TheConstants.{MAX_PORTS}
use Rattle.vmx_model.specs.declared.limits.TheConstants.{MAX_ACTIONS}
use Rattle.vmx_model.specs.Serial.{Seat, World}

-- no journal has more than k entries
abbrev pub AreShort : ℕ → World → Type 0
AreShort k w = AllByRecursion (λ (s : Seat). length s.entries ≤ k) w.seats

-- ------------------------------------------------------------ what a step adds to any journal, in entries

-- the actions of a number: each at most two commands
abbrev pub ENTRIES_OF_ACTIONS : ℕ
ENTRIES_OF_ACTIONS = 2 * MAX_ACTIONS

-- a frame: to each target at most one where it goes out and one where it comes in
abbrev pub ENTRIES_OF_FRAME : ℕ
ENTRIES_OF_FRAME = 2 * MAX_PORTS

-- a guest's turn, 544
abbrev pub ENTRIES_OF_TURN : ℕ
ENTRIES_OF_TURN = ENTRIES_OF_ACTIONS + ENTRIES_OF_FRAME

-- a number: the turns of all guests, 8,704
abbrev pub ENTRIES_OF_ROUND : ℕ
ENTRIES_OF_ROUND = MAX_PORTS * ENTRIES_OF_TURN

-- ------------------------------------------------------------ what may stand in any journal before a step, in entries

-- A run begins with one entry a journal and has at most 262,145 numbers, so fewer than 2 ^ 32 ever stand there. The bounds lie far above these and far below a device's. Each is twice that of the step around it, which is more than all that came in between.

-- before a number
abbrev pub ENTRIES_AT_ROUND : ℕ
ENTRIES_AT_ROUND = 2 ^ 46

-- before a guest's turn, which begins with its actions
abbrev pub ENTRIES_AT_TURN : ℕ
ENTRIES_AT_TURN = 2 ^ 47

-- before a frame is put out
abbrev pub ENTRIES_AT_FRAME : ℕ
ENTRIES_AT_FRAME = 2 ^ 48

-- before its targets take it
abbrev pub ENTRIES_AT_ARRIVALS : ℕ
ENTRIES_AT_ARRIVALS = 2 ^ 49

-- before all guests are closed
abbrev pub ENTRIES_AT_CLOSE : ℕ
ENTRIES_AT_CLOSE = 2 ^ 49

-- before any call of the actors
abbrev pub MOST_ENTRIES : ℕ
MOST_ENTRIES = 2 ^ 50
