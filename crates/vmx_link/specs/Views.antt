-- Links as contracts see them: plain data, a record an end.
use Rattle.std.specs.Prelude.{◌≡◌, ℕ, ◌%◌, ◌≤◌, List, Bool}
use Rattle.vmx_ends.specs.declared.packet.Packet.{Packet}

-- The sender: its table's key, how many entries the link has, the ports at its two sides, the packets pushed, the looks that found it full (packets pushed before, word),
-- the packets that it heard were pulled, and how many notes it gave and heard
pub record LinkOutView : Type 0 where
  pub key : List ℕ
  pub capacity : ℕ
  pub from : ℕ
  pub to : ℕ
  pub pushed : List Packet
  pub full : List (ℕ × ℕ)
  pub freed : List Packet
  pub notes_given : ℕ
  pub notes_heard : ℕ

-- The receiver: the same, with the packets pulled, the looks that found nothing (packets pulled before, word), and the packets that it heard were pushed
pub record LinkInView : Type 0 where
  pub key : List ℕ
  pub capacity : ℕ
  pub from : ℕ
  pub to : ℕ
  pub pulled : List Packet
  pub empty : List (ℕ × ℕ)
  pub filled : List Packet
  pub notes_given : ℕ
  pub notes_heard : ℕ

-- A note: of which table's sender or receiver it is, and the packets that were pushed and pulled as that end knows
pub record LinkNoteView : Type 0 where
  pub key : List ℕ
  pub of_sender : Bool
  pub pushed : List Packet
  pub pulled : List Packet

-- A look that found the link full: at least as many packets as it has entries were pushed before, and the word is odd, that of an entry that is filled
abbrev pub IsFullLook : ℕ → ℕ × ℕ → Type 0
IsFullLook capacity look = (capacity ≤ look.0) × (look.1 % 2 ≡ 1)
