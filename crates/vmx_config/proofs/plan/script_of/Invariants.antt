use Rattle.std.proofs.Common.{◌≡◌, map, take}
use Rattle.vmx_config.specs.Plans.{action_view}
use Rattle.vmx_config.proofs.plan.script_of.Given as goal

abbrev pub invariant-loop-action : goal.invariant-loop-action
invariant-loop-action l = map action_view l.actions.items ≡ take l.action-index l.script
