use Rattle.std.proofs.Common.{◌≡◌, ◌++◌, take, map}
use Rattle.vmx_model.specs.Fates.{copy_fates, taken_at, entries_at}
use Rattle.vmx_serial_reference.specs.Worlds.{world_of}
use Rattle.vmx_serial_fates.specs.Fates.{facts_of}
use Rattle.vmx_serial_fates.proofs.copies.sent_fates.Given as goal

abbrev pub invariant-loop-to : goal.invariant-loop-to
invariant-loop-to l = l.fates ≡ l.fn.fates ++ map (λ p. copy_fates (taken_at (facts_of (world_of l.world)) l.tag.guest l.tag.activation l.tag.queue) (entries_at (facts_of (world_of l.world)) l.tag.guest) (entries_at (facts_of (world_of l.world)) p) l.tag p) (take l.to-index l.targets)
