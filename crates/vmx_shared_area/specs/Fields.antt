-- The bytes of fields.
use Rattle.std.specs.Prelude.{ℕ, ◌+◌, ◌*◌, List, [], ◌∷◌, length}
use Rattle.vmx_shared_area.specs.Bytes.{le, zero_bytes, le_words}
use Rattle.vmx_shared_area.specs.declared.fields.Field.{Field}
use Rattle.vmx_shared_area.specs.declared.fields.Field.TheVariants.{U8, U16, U32, U64, Zeros, Bytes, Words}

-- what a field is written as
abbrev pub field_bytes : Field → List ℕ
field_bytes (U8 n) = le 1 n
field_bytes (U16 n) = le 2 n
field_bytes (U32 n) = le 4 n
field_bytes (U64 n) = le 8 n
field_bytes (Zeros n) = zero_bytes n
field_bytes (Bytes bs) = bs.now
field_bytes (Words ws) = le_words ws.now

-- how many bytes a field has
abbrev pub width : Field → ℕ
width (U8 n) = 1
width (U16 n) = 2
width (U32 n) = 4
width (U64 n) = 8
width (Zeros n) = n
width (Bytes bs) = length bs.now
width (Words ws) = 4 * length ws.now

abbrev pub total : List Field → ℕ
total [] = 0
total (f ∷ fs) = width f + total fs
