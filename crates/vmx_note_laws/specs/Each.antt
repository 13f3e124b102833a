-- Queue by queue: the two ends before and after notes went both ways.
use Rattle.std.specs.Prelude.{⊤, List, [], ◌∷◌}

-- four lists of one length: the drivers' ends and the devices' before, and the same after
abbrev pub EachPasses : {D E : Type 0} → (D → E → D → E → Type 0) → List D → List E → List D → List E → Type 0
EachPasses R [] [] [] [] = ⊤
EachPasses R (d ∷ ds) (e ∷ es) (d' ∷ ds') (e' ∷ es') = R d e d' e' × EachPasses R ds es ds' es'
EachPasses R ds es ds' es' = ⊥
