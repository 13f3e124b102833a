use Rattle.std.proofs.Common.{◌≡◌, false, drop}
use Rattle.vmx_model.specs.Ranges.{fits_from}
use Rattle.vmx_model.proofs.guest_checks.fits_script.Given as goal

-- all turns on the actions that are left
abbrev pub invariant-loop-action : goal.invariant-loop-action
invariant-loop-action l = fits_from l.queues l.rss l.quiet l.at (drop l.action-index l.script) ≡ fits_from l.queues l.rss false 0 l.script
