use Rattle.std.proofs.Common.{◌≡◌, ◌++◌, take}
use Rattle.std.specs.List.{flat_map}
use Rattle.vmx_model.specs.Plan.{captured}
use Rattle.vmx_model.specs.Fates.{fates_of}
use Rattle.vmx_serial_reference.specs.Worlds.{world_of}
use Rattle.vmx_serial_fates.specs.Fates.{facts_of}
use Rattle.vmx_serial_fates.proofs.copies.guest_fates.Given as goal

abbrev pub invariant-loop-number : goal.invariant-loop-number
invariant-loop-number l = l.fates ≡ l.fn.fates ++ flat_map (fates_of l.plan (facts_of (world_of l.world)) l.port l.guest) (take l.number (captured l.guest))
