-- What each step of the registers tells.
use Rattle.std.specs.Prelude.{◌≡◌, ◌≢◌, ℕ, ◌+◌, ◌/◌, ◌%◌, ◌≤◌, List, [], ◌∷◌, ◌++◌, length, Option, Some, None, true, false}
use Rattle.atomic_table.specs.Table.{Me, Step}
use Rattle.vmx_io.specs.declared.handed.HandedView.{HandedView}
use Rattle.vmx_regs.specs.declared.bag.Bag.{Bag}
use Rattle.vmx_device_state.specs.declared.turn.CommandView.{CommandView}
use Rattle.vmx_device_state.specs.declared.turn.AnswerView.{AnswerView}
use Rattle.vmx_device_state.specs.declared.turn.Turn.{Turn}
use Rattle.vmx_regs.specs.declared.known.Calls.{Calls}
use Rattle.vmx_regs.specs.declared.known.Masks.{Masks}
use Rattle.vmx_regs.specs.declared.known.Known.{Known}
use Rattle.vmx_regs.specs.declared.places.TheConstants.{COUNT_BIT}
use Rattle.vmx_regs.specs.Turns.{command_of, answer_of, IsCommand, IsTurn, AreTurns}
use Rattle.vmx_regs.specs.Rule.{turn_of, last_number, last_value, word_of, looking, DriverAgrees, DeviceAgrees, DriverKnows, DeviceKnows}

-- a seat, with the slots that are out with it
abbrev pub Seated : Type 0 → Type 0
Seated E = Me (Option (Bag E)) Calls

-- the answer a ends the turn of the command that was asked, after those before it
abbrev pub EndsTurn : List Turn → Option CommandView → AnswerView → Type 0
EndsTurn past None a = ⊥
EndsTurn past (Some c) a = IsTurn past (turn_of c a)

module _ {E : Type 0} where
  -- the driver takes the slot out, and puts it home
  abbrev pub opened : Step (Option (Bag E)) → Seated E → ℕ → Seated E → Type 0
  opened st m r m' = m' ≡ (record m.0 { begun = true }, (0, None) ∷ [])

  abbrev pub closed : Step (Option (Bag E)) → Seated E → ℕ → Seated E → Type 0
  closed st m r m' = m' ≡ (record m.0 { begun = false }, [])

  -- both sides' lists, where one seat has both parts
  abbrev pub met : Step (Option (Bag E)) → Seated E → ℕ → Seated E → Type 0
  met st m r m' = (m' ≡ m) × (m.0.turns ≡ m.0.served) × (m.0.serving ≡ None) × AreTurns m.0.turns × (m.0.driver_notes_heard ≤ m.0.device_notes_given) × (m.0.device_notes_heard ≤ m.0.driver_notes_given)

  -- what a side that heard a note knows
  abbrev pub driver_knows : Step (Option (Bag E)) → Seated E → ℕ → Seated E → Type 0
  driver_knows st m r m' = (m' ≡ m) × DriverKnows m.0

  abbrev pub device_knows : Step (Option (Bag E)) → Seated E → ℕ → Seated E → Type 0
  device_knows st m r m' = (m' ≡ m) × DeviceKnows m.0

module _ {E : Type 0} (handed : E → HandedView) where
  -- the command of a bag
  abbrev pub command_in : ℕ → Option (Bag E) → Option CommandView
  command_in n None = None
  command_in n (Some b) = Some (command_of handed n b)

  -- the command whose bag is in the slot that is out with the seat
  abbrev pub command_out : ℕ → List (ℕ × Option (Bag E)) → Option CommandView
  command_out n [] = None
  command_out n (c ∷ cs) = command_in n c.1

  -- the driver sent the command whose number was stored, and whose bag it had out
  abbrev pub command_stored : Step (Option (Bag E)) → Seated E → ℕ → Seated E → Type 0
  command_stored st m r m' = m' ≡ (record m.0 { asked = command_out (r % COUNT_BIT) m.1 }, [])

  -- a new command stands there, and the slot with its bag is out with the seat; or it does not
  abbrev pub command_looked : Step (Option (Bag E)) → Seated E → ℕ → Seated E → Type 0
  command_looked st m r m' =
      (r / COUNT_BIT ≡ (length m.0.served + 1) % 2 → (b : Bag E) × (m' ≡ (record m.0 { serving = Some (command_of handed (r % COUNT_BIT) b) }, (0, Some b) ∷ [])) × IsCommand (command_of handed (r % COUNT_BIT) b) × DeviceAgrees m'.0)
      × (r / COUNT_BIT ≢ (length m.0.served + 1) % 2 → (m' ≡ (looking m.0 (length m.0.served) r, m.1)) × (r ≡ word_of (length m.0.served) (last_number m.0.served)) × (length m.0.heard_commands ≤ length m.0.served))

  -- the turn that a value and a bag end, where there are a command and a bag
  abbrev pub turn_by : ℕ → Option CommandView → Option (Bag E) → List Turn
  turn_by n None b = []
  turn_by n (Some c) None = []
  turn_by n (Some c) (Some b) = turn_of c (answer_of handed n b) ∷ []

  -- the turn that a value ends, whose bag is in the slot that is out with the seat
  abbrev pub turn_out : ℕ → Option CommandView → List (ℕ × Option (Bag E)) → List Turn
  turn_out n c [] = []
  turn_out n c (x ∷ xs) = turn_by n c x.1

  -- the device answered the command that it held
  abbrev pub answer_stored : Step (Option (Bag E)) → Seated E → ℕ → Seated E → Type 0
  answer_stored st m r m' = (m' ≡ (record m.0 { served = m.0.served ++ turn_out (r % COUNT_BIT) m.0.serving m.1; serving = None }, [])) × DeviceAgrees m'.0

  -- after the answer to the command that was asked was taken
  abbrev pub answered_by : Calls → Option CommandView → ℕ → Bag E → Calls
  answered_by v None n b = v
  answered_by v (Some c) n b = record v { turns = v.turns ++ turn_of c (answer_of handed n b) ∷ []; asked = None }

  -- the turn that an answer ends, after those before it
  abbrev pub IsLast : List Turn → Option CommandView → ℕ → Bag E → Type 0
  IsLast past o n b = EndsTurn past o (answer_of handed n b)

  -- the answer stands there, and the slot with its bag is out with the seat; or it does not
  abbrev pub answer_looked : Step (Option (Bag E)) → Seated E → ℕ → Seated E → Type 0
  answer_looked st m r m' =
      (r / COUNT_BIT ≡ (length m.0.turns + 1) % 2 → (b : Bag E) × (m' ≡ (answered_by m.0 m.0.asked (r % COUNT_BIT) b, (0, Some b) ∷ [])) × AreTurns m'.0.turns × IsLast m.0.turns m.0.asked (r % COUNT_BIT) b × DriverAgrees m'.0)
      × (r / COUNT_BIT ≢ (length m.0.turns + 1) % 2 → (m' ≡ (looking m.0 (length m.0.turns) r, m.1)) × (r ≡ word_of (length m.0.turns) (last_value m.0.turns)) × (length m.0.heard_served ≤ length m.0.turns))

-- what a step tells of the one part, and that the other stays
module _ {S : Type 0} where
  abbrev pub of_calls : (Step S → Me S Calls → ℕ → Me S Calls → Type 0) → Step S → Me S Known → ℕ → Me S Known → Type 0
  of_calls tells st m r m' = (m'.0.masks ≡ m.0.masks) × tells st (m.0.calls, m.1) r (m'.0.calls, m'.1)

  abbrev pub of_masks : (Step S → Me S Masks → ℕ → Me S Masks → Type 0) → Step S → Me S Known → ℕ → Me S Known → Type 0
  of_masks tells st m r m' = (m'.0.calls ≡ m.0.calls) × tells st (m.0.masks, m.1) r (m'.0.masks, m'.1)
