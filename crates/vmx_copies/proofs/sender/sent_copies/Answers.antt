use Rattle.std.proofs.Common.{None}
use Rattle.vmx_buckets.specs.declared.sends.Switched.{Switched}
use Rattle.vmx_copies.proofs.Frames.{step_more, ends_other, ends_past}
use Rattle.vmx_copies.proofs.sender.sent_copies.Goals as goal

pub loop-at-preserved : goal.loop-at-preserved
loop-at-preserved c = λ order b. let a = c.args in let d : Switched = record { place = 0; to = None } in
    step_more a.sender.now.arrivals.now a.sender.now.port a.number a.place a.list.now order a.begun c.loop-at.at d a.rows.now c.loop-at.rows c.push_row.new.rows b c.loop-at-test.true c.if-list-at.true (c.loop-at.invariant order b) c.in_ok-push_row.ensures.row

pub returns-else-list-at-clause-rows : goal.returns-else-list-at-clause-rows
returns-else-list-at-clause-rows c = λ order b. let a = c.args in let d : Switched = record { place = 0; to = None } in
    (ends_other a.sender.now.arrivals.now a.sender.now.port a.number a.place a.list.now order a.begun c.loop-at.at d a.rows.now c.loop-at.rows b c.loop-at-test.true c.if-list-at.false (c.loop-at.invariant order b)).1

pub returns-else-list-at-clause-end : goal.returns-else-list-at-clause-end
returns-else-list-at-clause-end c = λ order b. let a = c.args in let d : Switched = record { place = 0; to = None } in
    (ends_other a.sender.now.arrivals.now a.sender.now.port a.number a.place a.list.now order a.begun c.loop-at.at d a.rows.now c.loop-at.rows b c.loop-at-test.true c.if-list-at.false (c.loop-at.invariant order b)).0

pub returns-after-loop-at-clause-rows : goal.returns-after-loop-at-clause-rows
returns-after-loop-at-clause-rows c = λ order b. let a = c.args in
    (ends_past a.sender.now.arrivals.now a.sender.now.port a.number a.place a.list.now order a.begun c.loop-at.at a.rows.now c.loop-at.rows b c.loop-at-test.false (c.loop-at.invariant order b)).1

pub returns-after-loop-at-clause-end : goal.returns-after-loop-at-clause-end
returns-after-loop-at-clause-end c = λ order b. let a = c.args in
    (ends_past a.sender.now.arrivals.now a.sender.now.port a.number a.place a.list.now order a.begun c.loop-at.at a.rows.now c.loop-at.rows b c.loop-at-test.false (c.loop-at.invariant order b)).0
