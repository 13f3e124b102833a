-- What holds of the two ends of a queue, queue by queue.
use Rattle.std.proofs.Common.{List, [], ◌∷◌}
use Rattle.vmx_model.specs.Bags.{Pairwise}
use Rattle.vmx_note_laws.specs.Each.{EachPasses}

module _ {D E : Type 0} where
  -- from the pairs before, and what befell each pair, to the pairs after
  pub each_passes : (P Q : D → E → Type 0) (R : D → E → D → E → Type 0) (step : (d d' : D) (e e' : E) → P d e → R d e d' e' → Q d' e') (ds ds' : List D) (es es' : List E) → Pairwise P ds es → EachPasses R ds es ds' es' → Pairwise Q ds' es'
  each_passes P Q R step [] [] [] [] p r = tt
  each_passes P Q R step [] [] [] (y ∷ es') p r = absurd r
  each_passes P Q R step [] (x ∷ ds') [] es' p r = absurd r
  each_passes P Q R step [] ds' (e ∷ es) es' p r = absurd p
  each_passes P Q R step (d ∷ ds) ds' [] es' p r = absurd p
  each_passes P Q R step (d ∷ ds) [] (e ∷ es) es' p r = absurd r
  each_passes P Q R step (d ∷ ds) (x ∷ ds') (e ∷ es) [] p r = absurd r
  each_passes P Q R step (d ∷ ds) (d' ∷ ds') (e ∷ es) (e' ∷ es') p r = (step d d' e e' p.0 r.0, each_passes P Q R step ds ds' es es' p.1 r.1)

  -- and where drivers' ends and devices' ends each went on by themselves
  pub each_goes_on : (P Q : D → E → Type 0) (R : D → D → Type 0) (S : E → E → Type 0) (step : (d d' : D) (e e' : E) → P d e → R d d' → S e e' → Q d' e') (ds ds' : List D) (es es' : List E) → Pairwise P ds es → Pairwise R ds ds' → Pairwise S es es' → Pairwise Q ds' es'
  each_goes_on P Q R S step [] [] [] [] p r s = tt
  each_goes_on P Q R S step [] [] [] (y ∷ es') p r s = absurd s
  each_goes_on P Q R S step [] (x ∷ ds') [] es' p r s = absurd r
  each_goes_on P Q R S step [] ds' (e ∷ es) es' p r s = absurd p
  each_goes_on P Q R S step (d ∷ ds) ds' [] es' p r s = absurd p
  each_goes_on P Q R S step (d ∷ ds) [] (e ∷ es) es' p r s = absurd r
  each_goes_on P Q R S step (d ∷ ds) (x ∷ ds') (e ∷ es) [] p r s = absurd s
  each_goes_on P Q R S step (d ∷ ds) (d' ∷ ds') (e ∷ es) (e' ∷ es') p r s = (step d d' e e' p.0 r.0 s.0, each_goes_on P Q R S step ds ds' es es' p.1 r.1 s.1)

  pub each_pair : (P Q : D → E → Type 0) (step : (d : D) (e : E) → P d e → Q d e) (ds : List D) (es : List E) → Pairwise P ds es → Pairwise Q ds es
  each_pair P Q step [] [] p = tt
  each_pair P Q step [] (e ∷ es) p = absurd p
  each_pair P Q step (d ∷ ds) [] p = absurd p
  each_pair P Q step (d ∷ ds) (e ∷ es) p = (step d e p.0, each_pair P Q step ds es p.1)
