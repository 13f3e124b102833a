-- A hash key of 80 hex digits.
use Rattle.std.specs.Prelude.{ℕ, replicate, zero, suc, ◌+◌, ◌*◌, ◌==◌, if◌then◌else◌, List, slice_index, slice_set, length, codes, Option, Some, None, Result}
use Rattle.toml.specs.Data.{Data, as_str}
use Rattle.vmx_config_rows.specs.declared.spot.Spot.{Spot}
use Rattle.vmx_config_rows.specs.declared.fault.ConfigFault.{ConfigFault}
use Rattle.vmx_config_rows.specs.Reading.{◌>>=◌, or_kind, or_form}
use Rattle.vmx_config_rows.specs.Texts.{◌>=>◌, pair_of}

unfoldable pub no_key : List ℕ
no_key = replicate 40 0

-- the key with its n bytes from place i on read from the digits
unfoldable pub key_from : List ℕ → List ℕ → ℕ → ℕ → Option (List ℕ)
key_from digits key i zero = Some key
key_from digits key i (suc n) = pair_of (slice_index digits (2 * i)) (slice_index digits (2 * i + 1)) >=> λ b. key_from digits (slice_set key i b) (i + 1) n

-- byte i has the digits 2i and 2i + 1
abbrev pub key_of : List ℕ → Option (List ℕ)
key_of digits = if length digits == 80 then key_from digits no_key 0 40 else None

abbrev pub key_in : Spot → Data → Result (List ℕ) ConfigFault
key_in spot d = or_kind spot (codes "rss.key") (as_str d) >>= λ s. or_form spot (codes "rss.key") (key_of s)
