-- MAC addresses in a table.
use Rattle.std.specs.Prelude.{ℕ, List, [], ◌∷◌, get_or}

-- the address of zeros
abbrev pub zero_mac : List ℕ
zero_mac = 0 ∷ 0 ∷ 0 ∷ 0 ∷ 0 ∷ 0 ∷ []

-- the address at an index; zeros past the end
abbrev pub mac_of : List (List ℕ) → ℕ → List ℕ
mac_of macs i = get_or macs i zero_mac
