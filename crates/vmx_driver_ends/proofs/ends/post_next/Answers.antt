use Rattle.std.proofs.Common.{rules, ◌≡◌, ℕ, List, get_or, sym, refl, ap, ◌∙◌, subst, arith, Some}
use Rattle.std.proofs.lemmas.Option.{get_or_from_slice_get}
use Rattle.std.specs.List.{slice_get}
use Rattle.vmx_io.specs.Views.{holds_at}
use Rattle.vmx_pcap.specs.declared.records.Stamped.{Stamped}
use Rattle.vmx_model.specs.Wire.{tx_queue}
use Rattle.vmx_driver_steps.specs.Queues.{IsSmallTx}
use Rattle.vmx_driver_steps.specs.Steps.{under_next}
use Rattle.vmx_ends.specs.Frames.{IsMarked}
use Rattle.vmx_regs.specs.Ends.{driver_masks, driver_interrupts}
use Rattle.vmx_driver_ends.specs.Marking.{may_post}
use Rattle.vmx_driver_ends.specs.Posting.{posts_there, full_there, none_there}
use Rattle.vmx_driver_ends.proofs.ends.post_next.Goals as goal

pub post-requires-clause-small : goal.post-requires-clause-small
post-requires-clause-small g c = let h = holds_at g.F.TxDriver.TxDriver.view c.args.tx.now c.tx_queue-queue.result c.at_mut.result.now (search rules) c.at_mut.ensures.value IsSmallTx c.requires.small in
    let short = h.0 in (omega (arith, short), h.1)

pub overflow_add-place : goal.overflow_add-place
overflow_add-place g c = let h = holds_at g.F.TxDriver.TxDriver.view c.args.tx.now c.tx_queue-queue.result c.at_mut.result.now (search rules) c.at_mut.ensures.value IsSmallTx c.requires.small in
    let short = h.0 in let place = c.in-Done.ensures.posts.0 in omega (arith, short, place)

pub settle-requires-clause-under : goal.settle-requires-clause-under
settle-requires-clause-under g c = under_next c.args.plan.now c.args.at.now c.requires.due.record_ c.requires.under c.requires.due.there

pub post-requires-clause-frame : goal.post-requires-clause-frame
post-requires-clause-frame g c = let r = c.requires.due in
    let same : c.index-as_slice-at.result ≡ r.record_ = c.index-as_slice-at.is ∙ ap (λ (xs : List Stamped). get_or xs c.args.at.now.next c.index-as_slice-at.result) c.as_slice.ensures.items ∙ get_or_from_slice_get c.args.plan.now.capture.records c.args.at.now.next r.record_ c.index-as_slice-at.result r.there in
    let here : c.as_slice-frame.result.now ≡ c.index-as_slice-at.result.frame = search rules in
    let frame_is : c.as_slice-frame.result.now ≡ (r.record_).frame = here ∙ ap (λ (x : Stamped). x.frame) same in
    subst (λ (f : List ℕ). IsMarked f c.mark_of-mark.result) (sym frame_is) (may_post c.args.plan.now (r.record_).frame c.mark_of-mark.result r.fit)

pub returns-in-Done-clause-posts : goal.returns-in-Done-clause-posts
returns-in-Done-clause-posts g c e =
    let there : (r : Stamped) → slice_get c.args.plan.now.capture.records c.args.at.now.next ≡ Some r → c.as_slice-frame.result.now ≡ r.frame = λ r h.
    (let same : c.index-as_slice-at.result ≡ r = c.index-as_slice-at.is ∙ ap (λ (xs : List Stamped). get_or xs c.args.at.now.next c.index-as_slice-at.result) c.as_slice.ensures.items ∙ get_or_from_slice_get c.args.plan.now.capture.records c.args.at.now.next r c.index-as_slice-at.result h in
    let here : c.as_slice-frame.result.now ≡ c.index-as_slice-at.result.frame = search rules in here ∙ ap (λ (x : Stamped). x.frame) same) in
    let queue_is : c.tx_queue-queue.result ≡ tx_queue c.as_slice-frame.result.now c.args.plan.now.setup.tx_queues = search rules in
    posts_there g.F.TxDriver.TxDriver.view c.args.plan.now c.args.at.now c.args.tx.now c.at_mut.result.now c.post.new.self c.tx_queue-queue.result c.as_slice-frame.result.now c.mark_of-mark.result queue_is (search rules) c.at_mut.ensures.value
    (driver_interrupts c.args.regs.now) c.settle.new.at (driver_masks c.args.regs.now) (driver_masks c.ring.new.self) c.in-Done.place c.index_of.result there c.mark_of-mark.ensures.mark c.in-Done.ensures.posts c.post.ensures.grows c.ring.ensures.view c.index_of.ensures.index
    c.settle.ensures.kept c.settle.ensures.up c.settle.ensures.under c.settle.ensures.settled c.settle.ensures.frames

pub returns-in-Full-clause-full : goal.returns-in-Full-clause-full
returns-in-Full-clause-full g c e = let r = c.requires.due in
    let same : c.index-as_slice-at.result ≡ r.record_ = c.index-as_slice-at.is ∙ ap (λ (xs : List Stamped). get_or xs c.args.at.now.next c.index-as_slice-at.result) c.as_slice.ensures.items ∙ get_or_from_slice_get c.args.plan.now.capture.records c.args.at.now.next r.record_ c.index-as_slice-at.result r.there in
    let here : c.as_slice-frame.result.now ≡ c.index-as_slice-at.result.frame = search rules in
    let queue_is : c.tx_queue-queue.result ≡ tx_queue c.as_slice-frame.result.now c.args.plan.now.setup.tx_queues = search rules in
    full_there g.F.TxDriver.TxDriver.view c.args.plan.now c.args.at.now c.args.tx.now c.at_mut.result.now c.post.new.self c.tx_queue-queue.result c.as_slice-frame.result.now c.mark_of-mark.result queue_is (search rules) c.at_mut.ensures.value
    _ _ r.record_ r.there (here ∙ ap (λ (x : Stamped). x.frame) same) c.in-Full.ensures.posts

pub returns-in-Full-clause-same : goal.returns-in-Full-clause-same
returns-in-Full-clause-same g c e =
    let queue_is : c.tx_queue-queue.result ≡ tx_queue c.as_slice-frame.result.now c.args.plan.now.setup.tx_queues = search rules in
    (refl, none_there g.F.TxDriver.TxDriver.view c.args.plan.now c.args.at.now c.args.tx.now c.at_mut.result.now c.post.new.self c.tx_queue-queue.result c.as_slice-frame.result.now c.mark_of-mark.result queue_is (search rules) c.at_mut.ensures.value _ _ c.in-Full.ensures.posts, refl)
