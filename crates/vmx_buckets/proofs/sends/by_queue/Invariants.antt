use Rattle.std.proofs.Common.{take}
use Rattle.vmx_buckets.specs.Buckets.{HasSwitched}
use Rattle.vmx_buckets.proofs.sends.by_queue.Given as goal

abbrev pub invariant-loop-entry : goal.invariant-loop-entry
invariant-loop-entry l = HasSwitched (take l.entry-index l.entries) l.count l.lists
