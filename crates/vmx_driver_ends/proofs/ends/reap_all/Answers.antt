use Rattle.std.proofs.Common.{rules, ◌≡◌, ◌<◌, ℕ, length, map, set, sym, ap, ◌∙◌, subst, arith}
use Rattle.std.proofs.lemmas.List.{length-set, map-set, length-map}
use Rattle.vmx_io.specs.Views.{holds_at, all_after, viewed}
use Rattle.vmx_ends.specs.Transmit.{TxDriverView}
use Rattle.vmx_driver_steps.specs.Queues.{IsFine, IsReaped}
use Rattle.vmx_driver_steps.specs.Driving.{unreaped}
use Rattle.vmx_driver_steps.specs.Counting.{unreaped_set}
use Rattle.vmx_driver_ends.specs.UpTo.{UpTo, view_one_more, all_views}
use Rattle.vmx_driver_ends.proofs.ends.reap_all.Goals as goal

pub reap_one-count-requires-clause-fine : goal.reap_one-count-requires-clause-fine
reap_one-count-requires-clause-fine g c κs within = holds_at g.F.TxDriver.TxDriver.view c.loop-queue.tx c.loop-queue.queue c.at_mut.result.now (search rules) c.at_mut.ensures.value IsFine c.loop-queue.invariant.fine

pub overflow_add-count : goal.overflow_add-count
overflow_add-count g c = let view = g.F.TxDriver.TxDriver.view in
    let r = c.reap_one-count.ensures.reaped in let f = holds_at view c.loop-queue.tx c.loop-queue.queue c.at_mut.result.now (search rules) c.at_mut.ensures.value IsFine c.loop-queue.invariant.fine in
    let n = c.reap_one-count.ensures.count in let w = r.within in let l = ap (λ (v : TxDriverView). length v.sent) r.is in let s = f.small in let low = c.loop-queue.invariant.low in
    let few = c.requires.few in let end = c.len-queue-end.ensures.len in let lt = c.loop-queue-test.true in let many = c.loop-queue.invariant.many in omega (arith, n, w, l, s, low, few, end, lt, many)

pub loop-queue-preserved : goal.loop-queue-preserved
loop-queue-preserved g c = let view = g.F.TxDriver.TxDriver.view in let r = c.reap_one-count.ensures.reaped in
    let f = holds_at view c.loop-queue.tx c.loop-queue.queue c.at_mut.result.now (search rules) c.at_mut.ensures.value IsFine c.loop-queue.invariant.fine in
    let small = f.small in let len = ap (λ (v : TxDriverView). length v.sent) r.is in let n = c.reap_one-count.ensures.count in let w = r.within in let low = c.loop-queue.invariant.low in let total = c.loop-queue.invariant.total in
    let lt : c.loop-queue.queue < length c.loop-queue.tx = search rules in
    let one = unreaped_set (map view c.loop-queue.tx) c.loop-queue.queue (view c.at_mut.result.now) (view c.reap_one-count.new.end) (sym (viewed view c.loop-queue.tx c.loop-queue.queue c.at_mut.result.now lt c.at_mut.ensures.value)) (rw length-map lt) in
    let same : unreaped (map view (set c.loop-queue.tx c.loop-queue.queue c.reap_one-count.new.end)) ≡ unreaped (set (map view c.loop-queue.tx) c.loop-queue.queue (view c.reap_one-count.new.end)) = ap unreaped (map-set view c.loop-queue.tx c.loop-queue.queue c.reap_one-count.new.end) in record {
      many = length-set c.loop-queue.tx c.loop-queue.queue c.reap_one-count.new.end ∙ c.loop-queue.invariant.many;
      fine = all_after view c.loop-queue.tx c.loop-queue.queue c.reap_one-count.new.end IsFine c.loop-queue.invariant.fine (record { within = w; small = omega (arith, small, len) });
      reaped = view_one_more view IsReaped c.loop-queue.queue (map view c.args.tx.now) c.loop-queue.tx c.at_mut.result.now c.reap_one-count.new.end c.loop-queue.invariant.reaped lt c.at_mut.ensures.value r;
      total = omega (arith, one, same, total, n, w, len);
      low = omega (arith, low, n, w, len, small);
    }

pub returns : goal.returns
returns g c = let view = g.F.TxDriver.TxDriver.view in
    let count = c.loop-queue.invariant.many in
    let all : c.loop-queue.queue ≡ length c.loop-queue.tx = search rules in
    record {
      reaped = all_views view IsReaped c.args.tx.now c.loop-queue.tx count (subst (λ (n : ℕ). UpTo IsReaped n (map view c.args.tx.now) (map view c.loop-queue.tx)) all c.loop-queue.invariant.reaped);
      count = c.loop-queue.invariant.total;
    }
