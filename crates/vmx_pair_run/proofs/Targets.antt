-- A sniffer beside one other guest is the target of each of its frames.
use Rattle.std.proofs.Common.{◌≡◌, ℕ, Bool, true, false, List, [], ◌∷◌, refl}
use Rattle.std.specs.Prelude.{◌||◌}
use Rattle.vmx_switch.specs.Ports.{is_target, target_ports}

either_true : (a b : Bool) → (a || b || true) ≡ true
either_true true true = refl
either_true true false = refl
either_true false true = refl
either_true false false = refl

pub sniffer_alone : (x y : List ℕ) (s : Bool) (frame : List ℕ) → target_ports (record { macs = x ∷ y ∷ []; sniffers = s ∷ true ∷ [] }) 0 frame ≡ 1 ∷ []
unfolding target_ports is_target
sniffer_alone x y s frame = rw either_true refl
