-- A transmit queue: its descriptors, and what its two ends, their notes and the facts show.
-- The descriptors are counted by positions. A frame uses the next positions, one for each piece, and gives them back when it is reaped. The buffer of the position p is the buffer p modulo the size, since frames are reaped in the order in which they were posted.
use Rattle.std.specs.Prelude.{ℕ, ◌+◌, ◌-◌, ◌/◌, List, [], ◌∷◌, length, take, drop, Bool, Option, if◌then◌else◌}
use Rattle.vmx_layout.specs.declared.addresses.TheConstants.{DATA_ENTRY_SIZE}
use Rattle.vmx_ends.specs.declared.frames.Sent.{Sent}
use Rattle.vmx_ends.specs.declared.frames.Taken.{Taken}
use Rattle.vmx_ends.specs.declared.made.TxMade.{TxMade}
use Rattle.vmx_ends.specs.declared.answers.EndFault.{EndFault}

-- how many pieces so many bytes have
abbrev pub begun : TxMade → ℕ → ℕ
begun m bytes = (bytes + (m.piece - 1)) / m.piece

-- how many descriptors a frame of so many bytes needs: one for each begun piece, the first 128 bytes being one of their own where there is a data ring
abbrev pub need : TxMade → ℕ → ℕ
need m bytes = if m.with_data then 1 + begun m (bytes - DATA_ENTRY_SIZE) else begun m bytes

-- how many descriptors these frames need
abbrev pub descriptors : TxMade → List Sent → ℕ
descriptors m [] = 0
descriptors m (s ∷ ss) = need m (length s.frame) + descriptors m ss

-- how many descriptors a device found in these frames
abbrev pub found_in : List Taken → ℕ
found_in [] = 0
found_in (t ∷ ts) = t.descriptors + found_in ts

-- The driver's end. looks: the position of each completion that was not there, and the word. heard: how many frames notes told as completed.
pub record TxDriverView : Type 0 where
  pub key : List ℕ
  pub made : TxMade
  pub sent : List Sent
  pub reaped : ℕ
  pub looks : List (ℕ × ℕ)
  pub heard : ℕ
  pub notes_given : ℕ
  pub notes_heard : ℕ

-- The device's end. looks: the position of each descriptor that was not there, and the word. heard: the frames that notes told as sent. given: its words were given to it, and no driver stands behind them. bad: the words and the fault that end it.
pub record TxDeviceView : Type 0 where
  pub key : List ℕ
  pub made : TxMade
  pub taken : List Taken
  pub completed : ℕ
  pub looks : List (ℕ × ℕ)
  pub heard : List Sent
  pub given : Bool
  pub bad : Option (List ℕ × EndFault)
  pub notes_given : ℕ
  pub notes_heard : ℕ

-- What one end tells the other: a driver its sent frames and how many it reaped, a device its taken frames and how many it completed.
pub record TxNoteView : Type 0 where
  pub key : List ℕ
  pub made : TxMade
  pub of_driver : Bool
  pub frames : List Sent
  pub done : ℕ

-- what is known of a transmit queue whose two ends have met
pub record TxView : Type 0 where
  pub key : List ℕ
  pub made : TxMade
  pub sent : List Sent
  pub taken : List Taken
  pub completed : ℕ
  pub reaped : ℕ

-- how many positions were used so far, and how many of them were given back
abbrev pub posted : TxDriverView → ℕ
posted v = descriptors v.made v.sent

abbrev pub returned : TxDriverView → ℕ
returned v = descriptors v.made (take v.reaped v.sent)

-- how many descriptors are not reaped: those from `returned` up to `posted`
abbrev pub used : TxDriverView → ℕ
used v = descriptors v.made (drop v.reaped v.sent)

-- the free positions are those from `posted` up to `returned` and the size
abbrev pub free_end : TxDriverView → ℕ
free_end v = returned v + v.made.size
