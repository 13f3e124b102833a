use Rattle.std.proofs.Common.{◌≡◌, ◌++◌, drop}
use Rattle.vmx_model.specs.Fates.{fates_from}
use Rattle.vmx_serial_reference.specs.Worlds.{world_of}
use Rattle.vmx_serial_fates.specs.Fates.{facts_of}
use Rattle.vmx_serial_fates.proofs.copies.fates.Given as goal

abbrev pub invariant-loop-port : goal.invariant-loop-port
invariant-loop-port l = l.fates ++ fates_from l.plan (facts_of (world_of l.world)) l.port (drop l.port l.plan.guests) ≡ fates_from l.plan (facts_of (world_of l.world)) 0 l.plan.guests
