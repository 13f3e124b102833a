use Rattle.std.proofs.Common.{◌∷◌}
use Rattle.vmx_model.proofs.Ready.{looks_reach}
use Rattle.vmx_model.proofs.Turns.{in_turns}
use Rattle.vmx_model.proofs.steps.spread_in_turns.Goals as goal

pub returns : goal.returns
returns c = record { turns = λ plan t f to tos w others even. in_turns plan t f (to ∷ tos) w others even; looks = looks_reach }
