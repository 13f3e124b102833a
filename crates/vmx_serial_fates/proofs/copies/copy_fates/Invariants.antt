use Rattle.std.proofs.Common.{◌≡◌, ◌++◌, drop}
use Rattle.std.specs.List.{flat_map}
use Rattle.vmx_model.specs.Fates.{way_fates, ways}
use Rattle.vmx_serial_fates.proofs.copies.copy_fates.Given as goal

abbrev pub invariant-loop-entry : goal.invariant-loop-entry
invariant-loop-entry l = l.fates ++ flat_map (way_fates l.tag.guest l.came) (ways l.tag l.to (drop l.entry-index l.sent)) ≡ flat_map (way_fates l.tag.guest l.came) (ways l.tag l.to l.sent)
