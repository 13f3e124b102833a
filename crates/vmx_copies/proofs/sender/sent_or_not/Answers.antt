use Rattle.std.proofs.Common.{arith}
use Rattle.vmx_copies.proofs.Sorted.{before_next}
use Rattle.vmx_model.specs.Wire.{targets, wire_form, posted_form}
use Rattle.vmx_copies.proofs.Frames.{rows_given, rows_untaken}
use Rattle.vmx_copies.proofs.sender.sent_or_not.Goals as goal

pub returns-in_ok-untaken_copies-clause-rows : goal.returns-in_ok-untaken_copies-clause-rows
returns-in_ok-untaken_copies-clause-rows c = λ r at order b. let a = c.args in let s = a.sender.now in
    rows_untaken s.arrivals.now s.port a.number s.switch.now s.guest.now r.frame a.place a.begun c.in_ok-end.end a.list.now order a.rows.now c.sent_copies.new.rows c.untaken_copies.new.rows (c.requires.header r at) (c.in_ok-end.ensures.end order b) c.if-end-begun.true
    (c.in_ok-end.ensures.rows order b) (c.in_ok-untaken_copies.ensures.rows r at)

pub returns-in_ok-untaken_copies-clause-cursor : goal.returns-in_ok-untaken_copies-clause-cursor
returns-in_ok-untaken_copies-clause-cursor c = λ order b. let n = before_next c.args.place c.args.list.now in omega (arith, n, c.in_ok-end.ensures.end order b, b)

pub returns-else-end-begun-clause-cursor : goal.returns-else-end-begun-clause-cursor
returns-else-end-begun-clause-cursor c = λ order b. let n = before_next c.args.place c.args.list.now in omega (arith, n, c.in_ok-end.ensures.end order b, b)

pub returns-else-end-begun-clause-rows : goal.returns-else-end-begun-clause-rows
returns-else-end-begun-clause-rows c = λ r at order b. let a = c.args in let s = a.sender.now in
    rows_given s.arrivals.now s.port a.number (targets s.switch.now s.port (wire_form (posted_form s.guest.now r.frame))) a.place a.begun c.in_ok-end.end a.list.now a.rows.now c.sent_copies.new.rows (c.in_ok-end.ensures.end order b) c.if-end-begun.false (c.in_ok-end.ensures.rows order b)
