use Rattle.std.proofs.Common.{◌≡◌}
use Rattle.vmx_model.specs.Plan.{place_of as place_by}
use Rattle.vmx_model.proofs.verdicts.place_of.Given as goal

-- the places so far
abbrev pub invariant-loop-number : goal.invariant-loop-number
invariant-loop-number l = l.place ≡ place_by l.plan l.activation l.queue l.number
