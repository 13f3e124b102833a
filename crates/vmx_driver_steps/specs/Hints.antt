-- What a driver does at masks, the line, doorbells and events.
use Rattle.std.specs.Prelude.{ℕ, zero, suc, ◌%◌, ◌^◌, false}
use Rattle.vmx_regs.specs.declared.known.Masks.{Masks}
use Rattle.vmx_regs.specs.declared.known.Deed.TheVariants.{Load, Store, Swap}
use Rattle.vmx_regs.specs.declared.ends.bells.Bell.TheVariants.{Tx, Rx}
use Rattle.vmx_regs.specs.Bells.{bell_number}
use Rattle.vmx_regs.specs.Masks.{line_word, mask_word, bell_word, event_word, writing, hinting}
use Rattle.vmx_regs.specs.Ends.{Acks}

-- an index as a doorbell has it
abbrev pub index_of : ℕ → ℕ
index_of n = n % 2 ^ 32

-- the doorbell of a transmit queue was rung with this index
abbrev pub rung_tx : ℕ → ℕ → ℕ → Masks → Masks
rung_tx interrupts q index m = hinting m (bell_word interrupts (bell_number (Tx q))) Store index index

-- both doorbells of a receive queue were rung with this index
abbrev pub rung_rx : ℕ → ℕ → ℕ → Masks → Masks
rung_rx interrupts q index m = hinting (hinting m (bell_word interrupts (bell_number (Rx q 1))) Store index index) (bell_word interrupts (bell_number (Rx q 2))) Store index index

-- the first so many interrupts were unmasked, in order
abbrev pub unmasked : ℕ → Masks → Masks
unmasked zero m = m
unmasked (suc n) m = writing (unmasked n m) (mask_word n) false

-- the line and the events were read, and these events acknowledged
pub record Looked (interrupts : ℕ) (m m' : Masks) : Type 0 where
  pub line : ℕ
  pub bits : ℕ
  pub acks : Acks (hinting (hinting m line_word Swap 0 line) (event_word interrupts) Load 0 bits) (event_word interrupts) bits m'
