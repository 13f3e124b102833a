-- What is wrong with the words of a descriptor or a completion.
use Rattle.std.specs.Prelude.{ℕ, ◌==◌, if◌then◌else◌, List, [], ◌∷◌, Option, Some, None}
use Rattle.vmx_layout.specs.declared.fault.FieldFault.{FieldFault}
use Rattle.vmx_layout.specs.declared.fault.FieldFault.TheVariants.{Reserved, Kind}

-- the first part whose bits without a name are not all 0, from pairs of a part and these bits; else the last word
abbrev pub first_reserved : List (ℕ × ℕ) → Option FieldFault → Option FieldFault
first_reserved [] last = last
first_reserved (unnamed ∷ others) last = if unnamed.1 == 0 then first_reserved others last else Some (Reserved unnamed.0)

-- a completion's type is another than its own
abbrev pub other_kind : ℕ → ℕ → Option FieldFault
other_kind own found = if found == own then None else Some (Kind found)
