-- The doorbells of a device's queues, read once each.
use Rattle.std.specs.Prelude.{◌≡◌, ℕ, zero, suc}
use Rattle.vmx_regs.specs.declared.known.Masks.{Masks}
use Rattle.vmx_regs.specs.declared.known.Deed.TheVariants.{Load}
use Rattle.vmx_regs.specs.declared.ends.bells.Bell.{Bell}
use Rattle.vmx_regs.specs.declared.ends.bells.Bell.TheVariants.{Tx, Rx}
use Rattle.vmx_regs.specs.Bells.{bell_number}
use Rattle.vmx_regs.specs.Masks.{bell_word, hinting}

-- a doorbell was read
abbrev pub read_bell : ℕ → Bell → ℕ → Masks → Masks
read_bell interrupts bell found m = hinting m (bell_word interrupts (bell_number bell)) Load 0 found

-- those of so many transmit queues, in order
abbrev pub ReadsTxBells : ℕ → ℕ → Masks → Masks → Type 0
ReadsTxBells interrupts zero old new = new ≡ old
ReadsTxBells interrupts (suc q) old new = (mid : Masks) × ((found : ℕ) × (new ≡ read_bell interrupts (Tx q) found mid)) × ReadsTxBells interrupts q old mid

-- those of both rings of so many receive queues, in order
abbrev pub ReadsRxBells : ℕ → ℕ → Masks → Masks → Type 0
ReadsRxBells interrupts zero old new = new ≡ old
ReadsRxBells interrupts (suc q) old new =
    (mid : Masks) × ((found1 : ℕ) × (found2 : ℕ) × (new ≡ read_bell interrupts (Rx q 2) found2 (read_bell interrupts (Rx q 1) found1 mid))) × ReadsRxBells interrupts q old mid

-- those of all queues: transmit queues first
pub record ReadsBells (interrupts tx rx : ℕ) (old new : Masks) : Type 0 where
  pub between : Masks
  pub tx_bells : ReadsTxBells interrupts tx old between
  pub rx_bells : ReadsRxBells interrupts rx between new
