-- The rule of the table: that of the calls, and that of masks, line, doorbells and events beside it. A seat knows its part of each.
use Rattle.std.specs.Prelude.{ℕ, List, [], ◌∷◌, Option}
use Rattle.atomic_table.specs.Table.{State}
use Rattle.vmx_io.specs.declared.handed.HandedView.{HandedView}
use Rattle.vmx_regs.specs.declared.bag.Bag.{Bag}
use Rattle.vmx_regs.specs.declared.known.Calls.{Calls}
use Rattle.vmx_regs.specs.declared.known.Masks.{Masks}
use Rattle.vmx_regs.specs.declared.known.Known.{Known}
use Rattle.vmx_regs.specs.Rule.{Kept, newcomer, nobody}
use Rattle.vmx_regs.specs.Masks.{MasksKept, new_masks, no_masks}
use Rattle.vmx_regs.specs.Both.{Both}

abbrev pub calls_of : Known → Calls
calls_of v = v.calls

abbrev pub masks_of : Known → Masks
masks_of v = v.masks

-- the key is the number of interrupts
abbrev pub Keeps : {E : Type 0} → (E → HandedView) → ℕ → State (Option (Bag E)) Known → Type 0
Keeps handed interrupts s = Both calls_of masks_of (Kept handed) (MasksKept interrupts) s

-- what a seat knows, of two parts
abbrev pub knowing : Calls → Masks → Known
knowing c m = record { calls = c; masks = m }

-- the first seat's view
abbrev pub newest : ℕ → Known
newest n = knowing (newcomer n) new_masks

-- the view of a seat that was joined into another
abbrev pub nothing : Known
nothing = knowing nobody no_masks

-- the view of a badge, and what it knows
abbrev pub the_view : List Known → Known
the_view [] = nothing
the_view (v ∷ vs) = v

abbrev pub known : List Known → Calls
known vs = (the_view vs).calls

abbrev pub known_masks : List Known → Masks
known_masks vs = (the_view vs).masks
