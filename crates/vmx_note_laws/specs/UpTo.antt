-- Notes went both ways between the ends of the first so many queues.
use Rattle.std.specs.Prelude.{⊤, ◌≡◌, ℕ, zero, suc, List, [], ◌∷◌}
use Rattle.vmx_model.specs.Bags.{Pairwise}

-- the first q pairs are passed, the others are as they were
abbrev pub PassedUpTo : {D E : Type 0} → (D → E → Type 0) → (D → E → D → E → Type 0) → ℕ → List D → List E → List D → List E → Type 0
PassedUpTo P R zero ds es ds' es' = (ds' ≡ ds) × (es' ≡ es) × Pairwise P ds es
PassedUpTo P R (suc q) [] [] [] [] = ⊤
PassedUpTo P R (suc q) (d ∷ ds) (e ∷ es) (d' ∷ ds') (e' ∷ es') = R d e d' e' × PassedUpTo P R q ds es ds' es'
PassedUpTo P R (suc q) ds es ds' es' = ⊥
