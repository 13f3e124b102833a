use Rattle.vmx_buckets.proofs.Adding.{arrivals_step}
use Rattle.vmx_buckets.proofs.arrivals.by_port.Goals as goal

pub loop-entry-preserved : goal.loop-entry-preserved
loop-entry-preserved c = arrivals_step c.args.entries.now c.loop-entry.entry-index _ c.args.ports c.loop-entry.lists c.add_arrival.new.lists c.loop-entry-test.true c.loop-entry.invariant c.in_ok-add_arrival.ensures.comes
