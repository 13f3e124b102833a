use Rattle.std.proofs.Common.{◌≡◌, drop, [], false}
use Rattle.toml.specs.View.{items_view}
use Rattle.vmx_config.specs.Script.{actions_from}
use Rattle.vmx_config.proofs.script.read_actions.Given as goal

abbrev pub invariant-loop-i : goal.invariant-loop-i
invariant-loop-i l = actions_from l.spot l.queues l.rss l.quiet l.from l.i l.actions.items (items_view (drop l.i l.values)) ≡ actions_from l.spot l.queues l.rss false 0 0 [] (items_view l.values)
