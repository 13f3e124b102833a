-- The count of an array's elements is that of its items.
use Rattle.std.proofs.Common.{◌≡◌, ℕ, suc, List, [], ◌∷◌, length, refl, ap}
use Rattle.toml.specs.View.{items_view}
use Rattle.toml.specs.declared.value.Value.{Value}
use Rattle.vmx_config_lists.specs.Counts.{count_of}

pub count_of_view : (vs : List Value) → count_of (items_view vs) ≡ length vs
count_of_view [] = refl
count_of_view (v ∷ vs) = ap (λ (n : ℕ). suc n) (count_of_view vs)
