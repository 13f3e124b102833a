use Rattle.std.proofs.Common.{length, ◌-◌}
use Rattle.vmx_queue_reference.proofs.tx.+needed.Given as goal

abbrev pub decreases-needed : goal.decreases-needed
decreases-needed l = length l.sent.now - l.from
