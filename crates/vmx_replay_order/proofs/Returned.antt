-- The run that a last call gives back.
use Rattle.std.proofs.Common.{◌≡◌}
use Rattle.std.specs.Prelude.{Result, IfOk}
use Rattle.std.proofs.lemmas.Result.{IfOk-weaker}
use Rattle.vmx_replay_runs.specs.Runs.{RunView}

-- what follows from the run that a call leaves holds of the value that it gives back
pub returned : {X E : Type 0} (r : Result X E) (run : X → RunView) {s : RunView} (P : RunView → Type 0) → ((t : RunView) → t ≡ s → P t) → IfOk r (λ x. run x ≡ s) → IfOk r (λ x. P (run x))
returned r run {s} P follows given = IfOk-weaker r (λ x. run x ≡ s) (λ x. P (run x)) (λ x e. follows (run x) e) given
