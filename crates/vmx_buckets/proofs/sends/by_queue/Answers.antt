use Rattle.vmx_buckets.proofs.Adding.{switched_step}
use Rattle.vmx_buckets.proofs.sends.by_queue.Goals as goal

pub loop-entry-preserved : goal.loop-entry-preserved
loop-entry-preserved c = switched_step c.args.entries.now c.loop-entry.entry-index _ c.args.count c.loop-entry.lists c.add_entry.new.lists c.loop-entry-test.true c.loop-entry.invariant c.in_ok-add_entry.ensures.adds
