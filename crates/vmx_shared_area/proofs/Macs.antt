-- Addresses, one after another.
use Rattle.std.proofs.Common.{◌≡◌, ℕ, zero, suc, ◌+◌, ◌<◌, List, [], ◌∷◌, ◌++◌, length, take, get_or, refl, arith}
use Rattle.std.proofs.lemmas.List.{append-nil, take_more}
use Rattle.std.proofs.lemmas.List.Concat.{flat_map-append}
use Rattle.vmx_shared_area.specs.Layout.{mac_bytes}

pub mac_bytes_step : (macs : List (List ℕ)) (i : ℕ) → i < length macs → mac_bytes (take (i + 1) macs) ≡ mac_bytes (take i macs) ++ get_or macs i []
unfolding mac_bytes
mac_bytes_step macs i lt =
    rw (take_more macs i [] lt, flat_map-append (λ (mac : List ℕ). mac) (take i macs) (get_or macs i [] ∷ []), append-nil (get_or macs i [])) refl

-- inside a list the default does not matter
pub within : (macs : List (List ℕ)) (i : ℕ) (d e : List ℕ) → i < length macs → get_or macs i d ≡ get_or macs i e
within [] i d e lt = absurd (omega arith)
within (m ∷ macs) zero d e lt = refl
within (m ∷ macs) (suc i) d e lt = within macs i d e (omega arith)
