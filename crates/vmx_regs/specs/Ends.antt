-- What contracts see of the two sides, their notes and the facts, and what each call does to it.
use Rattle.std.specs.Prelude.{◌≡◌, ℕ, ◌-◌, ◌^◌, ◌%◌, ◌≢◌, ◌≤◌, List, ◌++◌, length, Option, Some, None, Bool, true, false}
use Rattle.vmx_io.specs.declared.handed.HandedView.{HandedView}
use Rattle.vmx_device_state.specs.declared.turn.CommandView.{CommandView}
use Rattle.vmx_device_state.specs.declared.turn.Turn.{Turn}
use Rattle.vmx_ring_laws.specs.Keys.{key_of}
use Rattle.vmx_regs.specs.declared.bag.Bag.{Bag}
use Rattle.vmx_regs.specs.declared.known.Calls.{Calls}
use Rattle.vmx_regs.specs.declared.known.Masks.{Masks}
use Rattle.vmx_regs.specs.declared.ends.DriverRegs.{DriverRegs}
use Rattle.vmx_regs.specs.declared.ends.DeviceRegs.{DeviceRegs}
use Rattle.vmx_regs.specs.declared.ends.RegsFacts.{RegsFacts}
use Rattle.vmx_regs.specs.declared.ends.RegsNote.{RegsNote}
use Rattle.vmx_regs.specs.declared.ends.Answer.{Answer}
use Rattle.vmx_regs.specs.declared.ends.Answer.TheVariants.{Done, Pending}
use Rattle.vmx_regs.specs.declared.ends.Poll.{Poll}
use Rattle.vmx_regs.specs.declared.ends.Poll.TheVariants.{Command, Quiet}
use Rattle.vmx_regs.specs.Turns.{command_of, answer_of, IsCommand, IsReply, AreTurns}
use Rattle.vmx_regs.specs.Rule.{last_number, last_value, word_of, looking, driver_part, device_part, newcomer, DriverAgrees, DeviceAgrees}
use Rattle.vmx_regs.specs.declared.known.Deed.TheVariants.{Or, And}
use Rattle.vmx_regs.specs.declared.ends.masks.Raised.{Raised}
use Rattle.vmx_regs.specs.declared.ends.masks.Raised.TheVariants.{Yes, Masked}
use Rattle.vmx_regs.specs.Masks.{line_word, mask_word, seeing, setting, hinting, Shows, driver_masks_part, device_masks_part, new_masks}
use Rattle.vmx_regs.specs.Whole.{known, known_masks}
use Rattle.vmx_regs.specs.Plays.{answered_by, turn_by, IsLast}

-- which registers they are, and what a side knows of commands: among it the number of interrupts, which no call changes
module _ {E : Type 0} where
  abbrev pub driver_key : DriverRegs E → List ℕ
  driver_key d = key_of d.seat.table_id

  abbrev pub device_key : DeviceRegs E → List ℕ
  device_key d = key_of d.seat.table_id

  abbrev pub driver_view : DriverRegs E → Calls
  driver_view d = d.seat.me.0.calls

  abbrev pub device_view : DeviceRegs E → Calls
  device_view d = d.seat.me.0.calls

  -- what a side knows of masks, the line, doorbells and events
  abbrev pub driver_masks : DriverRegs E → Masks
  driver_masks d = d.seat.me.0.masks

  abbrev pub device_masks : DeviceRegs E → Masks
  device_masks d = d.seat.me.0.masks

  -- the number of interrupts
  abbrev pub driver_interrupts : DriverRegs E → ℕ
  driver_interrupts d = d.seat.me.0.calls.interrupts

  abbrev pub device_interrupts : DeviceRegs E → ℕ
  device_interrupts d = d.seat.me.0.calls.interrupts

-- what the two sides of new registers know, with so many interrupts
abbrev pub new_driver : ℕ → Calls
new_driver interrupts = record (driver_part (newcomer interrupts)) { begun = true }

abbrev pub new_device : ℕ → Calls
new_device interrupts = device_part (newcomer interrupts)

abbrev pub new_driver_masks : Masks
new_driver_masks = driver_masks_part new_masks

abbrev pub new_device_masks : Masks
new_device_masks = device_masks_part new_masks

-- a note's registers, and what it tells
abbrev pub note_key : RegsNote → List ℕ
note_key n = key_of n.badge.table_id

-- the commands and turns of which it tells
abbrev pub note_view : RegsNote → Calls
note_view n = known n.badge.views

-- the writes to masks of which it tells
abbrev pub note_masks : RegsNote → Masks
note_masks n = known_masks n.badge.views

-- a note of the driver's, and one of the device's
abbrev pub IsOfDriver : RegsNote → Type 0
IsOfDriver n = ((note_view n).tells_commands ≡ true) × ((note_view n).tells_served ≡ false)

abbrev pub IsOfDevice : RegsNote → Type 0
IsOfDevice n = ((note_view n).tells_served ≡ true) × ((note_view n).tells_commands ≡ false)

-- the turns that both sides know
abbrev pub facts_turns : RegsFacts → List Turn
facts_turns f = (known f.badge.views).turns

-- which registers they were
abbrev pub facts_key : RegsFacts → List ℕ
facts_key f = key_of f.badge.table_id

module _ {E : Type 0} (handed : E → HandedView) where
  -- after a command was sent, and after a reply
  abbrev pub asking : Calls → ℕ → Bag E → Calls
  asking v number b = record v { asked = Some (command_of handed number b) }

  abbrev pub replying : Calls → ℕ → Bag E → Calls
  replying v value b = record v { served = v.served ++ turn_by handed value v.serving (Some b); serving = None }

  -- the answer that a device has to give, where it holds a command
  abbrev pub Owes : List Turn → Option CommandView → ℕ → Bag E → Type 0
  Owes past None value b = ⊥
  Owes past (Some c) value b = IsReply past c (answer_of handed value b)

  -- a lawful turn more; or a look more, at the word of the answer before, and no note told of a reply
  abbrev pub Answers : Calls → Answer E → Calls → Type 0
  Answers old (Done value b) new = (new ≡ answered_by handed old old.asked value b) × AreTurns new.turns × IsLast handed old.turns old.asked value b × DriverAgrees new
  Answers old (Pending word) new = (new ≡ looking old (length old.turns) word) × (word ≡ word_of (length old.turns) (last_value old.turns)) × (length old.heard_served ≤ length old.turns)

  -- a lawful command to answer; or a look more, at the word of the command before, and no note told of a new one
  abbrev pub Polls : Calls → Poll E → Calls → Type 0
  Polls old (Command number b) new = (new ≡ record old { serving = Some (command_of handed number b) }) × IsCommand (command_of handed number b) × DeviceAgrees new
  Polls old (Quiet word) new = (new ≡ looking old (length old.served) word) × (word ≡ word_of (length old.served) (last_number old.served)) × (length old.heard_commands ≤ length old.served)

-- with auto the device has set the mask, where its word had some number of writes
abbrev pub Automasks : Masks → ℕ → Bool → Masks → Type 0
Automasks old i false new = new ≡ old
Automasks old i true new = (w : ℕ) × (new ≡ setting old (mask_word i) w)

-- A look found the mask set; or it found it not set, and the line's bit was set. Either shows what a mask word shows.
abbrev pub Raises : Masks → ℕ → Bool → Raised → Masks → Type 0
Raises old i auto (Masked word) new = (new ≡ seeing old (mask_word i) word) × (word % 2 ≡ 1) × Shows old (mask_word i) word
Raises old i auto Yes new = (r : ℕ) × (l : ℕ) × (r % 2 ≢ 1) × Shows old (mask_word i) r × Automasks (hinting (seeing old (mask_word i) r) line_word Or (2 ^ i) l) i auto new

-- events were cleared, whatever stood: all bits but these are kept
abbrev pub Acks : Masks → ℕ → ℕ → Masks → Type 0
Acks old at bits new = (r : ℕ) × (new ≡ hinting old at And (2 ^ 64 - 1 - bits) r)

-- events were set, whatever stood
abbrev pub Marks : Masks → ℕ → ℕ → Masks → Type 0
Marks old at bits new = (r : ℕ) × (new ≡ hinting old at Or bits r)
