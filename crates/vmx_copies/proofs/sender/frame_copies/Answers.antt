use Rattle.std.proofs.Common.{◌≡◌, ◌+◌, ◌++◌, ◌∙◌, ap, sym, refl, subst, arith, List, length}
use Rattle.std.proofs.lemmas.Result.{on_ok_weaker}
use Rattle.vmx_model.specs.declared.sending.Sending.TheVariants as sending
use Rattle.vmx_model.specs.declared.journal.Fate.TheVariants as fate
use Rattle.vmx_model.specs.Wire.{targets, wire_form, posted_form}
use Rattle.vmx_buckets.specs.declared.sends.Switched.{Switched}
use Rattle.vmx_buckets.specs.Buckets.{switched_on}
use Rattle.vmx_copies.specs.Join.{IsInOrder, IsPassed, before, here, sent_rows}
use Rattle.vmx_copies.proofs.Cursors.{passed_on, sent_key, sent_header, sent_list, sent_order, sent_cursor, sent_passes}
use Rattle.vmx_copies.proofs.Frames.{on_ok, idle_rows, rows_sent}
use Rattle.vmx_copies.proofs.sender.frame_copies.Goals as goal

pub key_of-key-requires : goal.key_of-key-requires
key_of-key-requires c = let a = c.args in let s = a.sender.now in let f = c.in-Sent in
    record { queue = (sent_key s.guest.now s.entries.now a.number a.sending c.requires.number c.requires.verdict f.activation f.queue f.place f.is).0 }

pub index-begun-requires : goal.index-begun-requires
index-begun-requires c = let a = c.args in let s = a.sender.now in let f = c.in-Sent in
    let k = (sent_key s.guest.now s.entries.now a.number a.sending c.requires.number c.requires.verdict f.activation f.queue f.place f.is).1 in
    omega (arith, k, c.key_of-key.ensures.key, c.requires.cursors, a.passed.now.ok.0)

pub at-requires : goal.at-requires
at-requires c = let a = c.args in let s = a.sender.now in let f = c.in-Sent in
    let k = (sent_key s.guest.now s.entries.now a.number a.sending c.requires.number c.requires.verdict f.activation f.queue f.place f.is).1 in
    record { within = omega (arith, k, c.key_of-key.ensures.key, c.requires.sends.long) }

pub sent_or_not-requires-clause-header : goal.sent_or_not-requires-clause-header
sent_or_not-requires-clause-header c = λ r at. let a = c.args in let s = a.sender.now in let f = c.in-Sent in
    sent_header s.guest.now s.entries.now a.number a.sending c.requires.number c.requires.verdict f.activation f.queue f.place f.is r at

pub index_mut-requires : goal.index_mut-requires
index_mut-requires c = let a = c.args in let s = a.sender.now in let f = c.in-Sent in
    let k = (sent_key s.guest.now s.entries.now a.number a.sending c.requires.number c.requires.verdict f.activation f.queue f.place f.is).1 in
    omega (arith, k, c.key_of-key.ensures.key, c.requires.cursors, a.passed.now.ok.0)

pub returns-in-Down-clause-passed : goal.returns-in-Down-clause-passed
returns-in-Down-clause-passed c = λ ord was. let a = c.args in let s = a.sender.now in
    on_ok c.push_alone.result (IsPassed s.guest.now s.entries.now (a.number + 1) a.passed.now.items) (passed_on s.guest.now s.entries.now a.number a.sending c.requires.number c.requires.verdict a.passed.now.items a.passed.now.items sending.Down c.in-Down.is refl was)

pub returns-in-Short-clause-passed : goal.returns-in-Short-clause-passed
returns-in-Short-clause-passed c = λ ord was. let a = c.args in let s = a.sender.now in
    on_ok c.push_alone-in-Short.result (IsPassed s.guest.now s.entries.now (a.number + 1) a.passed.now.items) (passed_on s.guest.now s.entries.now a.number a.sending c.requires.number c.requires.verdict a.passed.now.items a.passed.now.items sending.Short c.in-Short.is refl was)

pub returns-in-TooLong-clause-passed : goal.returns-in-TooLong-clause-passed
returns-in-TooLong-clause-passed c = λ ord was. let a = c.args in let s = a.sender.now in
    on_ok c.push_alone-in-TooLong.result (IsPassed s.guest.now s.entries.now (a.number + 1) a.passed.now.items) (passed_on s.guest.now s.entries.now a.number a.sending c.requires.number c.requires.verdict a.passed.now.items a.passed.now.items sending.TooLong c.in-TooLong.is refl was)

pub returns-in_ok-end-in-Sent-clause-rows : goal.returns-in_ok-end-in-Sent-clause-rows
returns-in_ok-end-in-Sent-clause-rows c = λ r at ord was. let a = c.args in let s = a.sender.now in let f = c.in-Sent in let p = s.guest.now in let es = s.entries.now in
    let list : c.as_slice.result.now ≡ switched_on f.activation f.queue es = c.as_slice.ensures.items ∙ sent_list p es a.number a.sending c.requires.number c.requires.verdict f.activation f.queue f.place f.is a.sends.now c.key_of-key.result c.at.result.now c.requires.sends c.key_of-key.ensures.key c.at.ensures.value in
    let order : IsInOrder c.as_slice.result.now = subst IsInOrder (sym list) (sent_order p es a.number a.sending c.requires.number c.requires.verdict f.activation f.queue f.place f.is ord) in
    let cursor : c.index-begun.result.now ≡ length (before f.place c.as_slice.result.now) = sent_cursor p es a.number a.sending c.requires.number c.requires.verdict f.activation f.queue f.place f.is a.passed.now.items c.key_of-key.result c.index-begun.result.now c.requires.cursors c.key_of-key.ensures.key c.index-begun.ensures was
    ∙ ap (λ (xs : List Switched). length (before f.place xs)) (sym list) in
    rows_sent s.switch.now s.arrivals.now es s.port p a.number r a.rows.now c.sent_or_not.new.rows f.activation f.queue f.place (sym f.is ∙ c.requires.verdict r at)
    (c.in_ok-end-in-Sent.ensures.rows r at order cursor ∙ ap (λ (xs : List Switched). a.rows.now ++ sent_rows s.arrivals.now s.port a.number (targets s.switch.now s.port (wire_form (posted_form p r.frame))) (here f.place xs)) list)

pub returns-in_ok-end-in-Sent-clause-passed : goal.returns-in_ok-end-in-Sent-clause-passed
returns-in_ok-end-in-Sent-clause-passed c = λ ord was. let a = c.args in let s = a.sender.now in let f = c.in-Sent in let p = s.guest.now in let es = s.entries.now in
    let list : c.as_slice.result.now ≡ switched_on f.activation f.queue es = c.as_slice.ensures.items ∙ sent_list p es a.number a.sending c.requires.number c.requires.verdict f.activation f.queue f.place f.is a.sends.now c.key_of-key.result c.at.result.now c.requires.sends c.key_of-key.ensures.key c.at.ensures.value in
    let order : IsInOrder c.as_slice.result.now = subst IsInOrder (sym list) (sent_order p es a.number a.sending c.requires.number c.requires.verdict f.activation f.queue f.place f.is ord) in
    let cursor : c.index-begun.result.now ≡ length (before f.place c.as_slice.result.now) = sent_cursor p es a.number a.sending c.requires.number c.requires.verdict f.activation f.queue f.place f.is a.passed.now.items c.key_of-key.result c.index-begun.result.now c.requires.cursors c.key_of-key.ensures.key c.index-begun.ensures was
    ∙ ap (λ (xs : List Switched). length (before f.place xs)) (sym list) in
    sent_passes p es a.number a.sending c.requires.number c.requires.verdict f.activation f.queue f.place f.is a.passed.now.items c.key_of-key.result c.in_ok-end-in-Sent.end c.requires.cursors c.key_of-key.ensures.key
    (c.in_ok-end-in-Sent.ensures.cursor order cursor ∙ ap (λ (xs : List Switched). length (before (f.place + 1) xs)) list) was

pub returns-in-Down-clause-rows : goal.returns-in-Down-clause-rows
returns-in-Down-clause-rows c = λ r at ord was. let a = c.args in let s = a.sender.now in
    on_ok_weaker c.push_alone.result (idle_rows s.switch.now s.arrivals.now s.entries.now s.port s.guest.now a.number r a.rows.now c.push_alone.new.rows sending.Down fate.Down (sym c.in-Down.is ∙ c.requires.verdict r at) refl) c.push_alone.ensures.alone

pub returns-in-Short-clause-rows : goal.returns-in-Short-clause-rows
returns-in-Short-clause-rows c = λ r at ord was. let a = c.args in let s = a.sender.now in
    on_ok_weaker c.push_alone-in-Short.result (idle_rows s.switch.now s.arrivals.now s.entries.now s.port s.guest.now a.number r a.rows.now c.push_alone-in-Short.new.rows sending.Short fate.Short (sym c.in-Short.is ∙ c.requires.verdict r at) refl) c.push_alone-in-Short.ensures.alone

pub returns-in-TooLong-clause-rows : goal.returns-in-TooLong-clause-rows
returns-in-TooLong-clause-rows c = λ r at ord was. let a = c.args in let s = a.sender.now in
    on_ok_weaker c.push_alone-in-TooLong.result (idle_rows s.switch.now s.arrivals.now s.entries.now s.port s.guest.now a.number r a.rows.now c.push_alone-in-TooLong.new.rows sending.TooLong fate.TooLong (sym c.in-TooLong.is ∙ c.requires.verdict r at) refl) c.push_alone-in-TooLong.ensures.alone
