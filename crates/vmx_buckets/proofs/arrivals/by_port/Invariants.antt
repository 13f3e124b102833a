use Rattle.std.proofs.Common.{take}
use Rattle.vmx_buckets.specs.Buckets.{HasArrivals}
use Rattle.vmx_buckets.proofs.arrivals.by_port.Given as goal

abbrev pub invariant-loop-entry : goal.invariant-loop-entry
invariant-loop-entry l = HasArrivals (take l.entry-index l.entries) l.ports l.lists
