-- Interrupts of a device: after a frame, and where a queue stops.
use Rattle.std.specs.Prelude.{ℕ, Bool, ◌==◌}
use Rattle.vmx_device_state.specs.SetupView.{SetupView}
use Rattle.vmx_regs.specs.declared.known.Masks.{Masks}
use Rattle.vmx_regs.specs.declared.ends.masks.Raised.{Raised}
use Rattle.vmx_regs.specs.Masks.{event_word}
use Rattle.vmx_regs.specs.Ends.{Raises, Marks}

-- an interrupt masks itself when it is raised, where the setup says so
abbrev pub masks_itself : SetupView → Bool
masks_itself s = s.auto_mask == 1

-- the interrupt was raised, or was masked
abbrev pub Signals : Masks → ℕ → Bool → Masks → Type 0
Signals old i auto new = (r : Raised) × Raises old i auto r new

-- events were set, and then the interrupt of events was raised, or was masked
pub record Alarms (interrupts bits i : ℕ) (auto : Bool) (old new : Masks) : Type 0 where
  pub marked : Masks
  pub marks : Marks old (event_word interrupts) bits marked
  pub signals : Signals marked i auto new
