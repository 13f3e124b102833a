-- Texts of a configuration, byte by byte (own to this project; addresses in the notation of IEEE 802).
use Rattle.std.specs.Prelude.{ℕ, ◌+◌, ◌-◌, ◌*◌, ◌%◌, ◌==◌, ◌&&◌, ◌||◌, Bool, not, nat_le, if◌then◌else◌, List, [], ◌∷◌, length, slice_index, codes, Option, Some, None, Result, Ok}
use Rattle.std.specs.List.{list_all}
use Rattle.toml.specs.Data.{Data, Members, get_member, as_str}
use Rattle.vmx_config_rows.specs.declared.spot.Spot.{Spot}
use Rattle.vmx_config_rows.specs.declared.fault.ConfigFault.{ConfigFault}
use Rattle.vmx_config_rows.specs.Reading.{◌>>=◌, required, or_kind, or_form}

-- the text, where it passes
abbrev pub passing : Bool → List ℕ → Option (List ℕ)
passing passes text = if passes then Some text else None

-- `a` to `z`, `0` to `9` and `_`
abbrev pub is_name_byte : ℕ → Bool
is_name_byte b = (nat_le 97 b && nat_le b 122) || (nat_le 48 b && nat_le b 57) || (b == 95)

-- 1 to 16 of them
abbrev pub is_name : List ℕ → Bool
is_name s = (nat_le 1 (length s) && nat_le (length s) 16) && list_all is_name_byte s

-- the name of a guest
unfoldable pub name_at : Spot → Members → Result (List ℕ) ConfigFault
name_at spot ms = do
  d ← required spot (codes "name") (get_member (codes "name") ms)
  s ← or_kind spot (codes "name") (as_str d)
  or_form spot (codes "name") (passing (is_name s) s)

-- those of a name, `A` to `Z`, `.` and `/`
abbrev pub is_prefix_byte : ℕ → Bool
is_prefix_byte b = is_name_byte b || (nat_le 65 b && nat_le b 90) || (b == 46) || (b == 47)

-- 1 to 64 of them, the first no `.` and no `/`
abbrev pub is_prefix : List ℕ → Bool
is_prefix s = (nat_le 1 (length s) && nat_le (length s) 64) && (list_all is_prefix_byte s && not ((slice_index s 0 == 46) || (slice_index s 0 == 47)))

abbrev pub output_in : Spot → Option Data → Result (List ℕ) ConfigFault
output_in spot None = Ok (codes "out")
output_in spot (Some d) = or_kind spot (codes "output") (as_str d) >>= λ s. or_form spot (codes "output") (passing (is_prefix s) s)

-- the prefix of all files, `out` where it is not there
unfoldable pub output_at : Spot → Members → Result (List ℕ) ConfigFault
output_at spot ms = output_in spot (get_member (codes "output") ms)

-- 1 to 255 bytes
abbrev pub is_capture : List ℕ → Bool
is_capture s = nat_le 1 (length s) && nat_le (length s) 255

abbrev pub some_text : List ℕ → Result (Option (List ℕ)) ConfigFault
some_text s = Ok (Some s)

abbrev pub capture_in : Spot → Option Data → Result (Option (List ℕ)) ConfigFault
capture_in spot None = Ok None
capture_in spot (Some d) = (or_kind spot (codes "capture") (as_str d) >>= λ s. or_form spot (codes "capture") (passing (is_capture s) s)) >>= some_text

-- the name of a guest's capture, or none
unfoldable pub capture_at : Spot → Members → Result (Option (List ℕ)) ConfigFault
capture_at spot ms = capture_in spot (get_member (codes "capture") ms)

-- the number of a hex digit of either case
unfoldable pub digit_of : ℕ → Option ℕ
digit_of b =
    if nat_le 48 b && nat_le b 57 then Some (b - 48)
    else if nat_le 97 b && nat_le b 102 then Some (b - 97 + 10)
    else if nat_le 65 b && nat_le b 70 then Some (b - 65 + 10)
    else None

-- the next, where there is one before
infixl 10 ◌>=>◌
abbrev pub ◌>=>◌ : {A B : Type 0} → Option A → (A → Option B) → Option B
None >=> f = None
(Some x) >=> f = f x

-- the byte of two hex digits, the high one first
unfoldable pub pair_of : ℕ → ℕ → Option ℕ
pair_of high low = digit_of high >=> λ h. digit_of low >=> λ l. Some (h * 16 + l)

-- the byte of the two digits from place i
unfoldable pub byte_at : ℕ → List ℕ → Option ℕ
byte_at i s = pair_of (slice_index s i) (slice_index s (i + 1))

-- a colon behind each of the first five pairs
unfoldable pub has_colons : List ℕ → Bool
has_colons s = (slice_index s 2 == 58) && (slice_index s 5 == 58) && (slice_index s 8 == 58) && (slice_index s 11 == 58) && (slice_index s 14 == 58)

-- six pairs of hex digits joined by colons
unfoldable pub mac_from : List ℕ → Option (List ℕ)
mac_from s =
    if length s == 17 then
    (if has_colons s then (byte_at 0 s >=> λ a. byte_at 3 s >=> λ b. byte_at 6 s >=> λ c. byte_at 9 s >=> λ d. byte_at 12 s >=> λ e. byte_at 15 s >=> λ f. Some (a ∷ b ∷ c ∷ d ∷ e ∷ f ∷ [])) else None)
    else None

-- the lowest bit of the first byte is a group's (IEEE 802.3)
abbrev pub is_group : List ℕ → Bool
is_group mac = slice_index mac 0 % 2 == 1

-- an address that is no group's
abbrev pub port_only : List ℕ → Option (List ℕ)
port_only mac = if is_group mac then None else Some mac

-- the address of a guest
unfoldable pub mac_at : Spot → Members → Result (List ℕ) ConfigFault
mac_at spot ms = do
  d ← required spot (codes "mac") (get_member (codes "mac") ms)
  s ← or_kind spot (codes "mac") (as_str d)
  or_form spot (codes "mac") (mac_from s >=> port_only)
