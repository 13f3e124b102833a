use Rattle.std.proofs.Common.{◌≡◌, ◌≤◌, ◌∙◌, ap, sym, refl, Some, List, ℕ, length, subst}
use Rattle.std.specs.List.{slice_get}
use Rattle.vmx_pcap.specs.declared.records.Stamped.{Stamped}
use Rattle.vmx_model.specs.Wire.{posted_form, wire_form}
use Rattle.vmx_serial_queues.specs.Queues.{marked}
use Rattle.vmx_model.specs.declared.sending.Sending.TheVariants as sending
use Rattle.vmx_model.specs.declared.journal.Fate.TheVariants as fate
use Rattle.vmx_serial_reference.specs.Worlds.{world_of}
use Rattle.vmx_serial_fates.specs.Fates.{facts_of}
use Rattle.vmx_model.specs.PlanSteps.{there}
use Rattle.vmx_model.proofs.Sends.{sent_frame}
use Rattle.vmx_serial_reference.proofs.Turns.{sent_wire}
use Rattle.vmx_serial_fates.proofs.FateLaws.{idle_fates, sent_on_fates}
use Rattle.vmx_serial_fates.proofs.copies.frame_fates.Goals as goal

pub returns-in_ok-push-in-Down : goal.returns-in_ok-push-in-Down
returns-in_ok-push-in-Down c = let a = c.args in record { fates = λ x at. idle_fates a.plan.now (facts_of (world_of a.world.now)) a.port a.guest.now a.number x sending.Down fate.Down a.fates.now c.push.new.self c.in_ok-one-in-Down.field-0 c.requires.number (λ r there_. c.in-Down.ensures.verdict a.guest.now r c.requires.guest there_) at c.in_ok-push-in-Down.ensures.ok c.in_ok-one-in-Down.ensures.one refl }

pub returns-in_ok-push-in-Short : goal.returns-in_ok-push-in-Short
returns-in_ok-push-in-Short c = let a = c.args in record { fates = λ x at. idle_fates a.plan.now (facts_of (world_of a.world.now)) a.port a.guest.now a.number x sending.Short fate.Short a.fates.now c.push-in-Short.new.self c.in_ok-one-in-Short.field-0 c.requires.number (λ r there_. c.in-Short.ensures.verdict a.guest.now r c.requires.guest there_) at c.in_ok-push-in-Short.ensures.ok c.in_ok-one-in-Short.ensures.one refl }

pub returns-in_ok-push-in-TooLong : goal.returns-in_ok-push-in-TooLong
returns-in_ok-push-in-TooLong c = let a = c.args in record { fates = λ x at. idle_fates a.plan.now (facts_of (world_of a.world.now)) a.port a.guest.now a.number x sending.TooLong fate.TooLong a.fates.now c.push-in-TooLong.new.self c.in_ok-one-in-TooLong.field-0 c.requires.number (λ r there_. c.in-TooLong.ensures.verdict a.guest.now r c.requires.guest there_) at c.in_ok-push-in-TooLong.ensures.ok c.in_ok-one-in-TooLong.ensures.one refl }

pub mark_of-requires : goal.mark_of-requires
mark_of-requires c = let a = c.args in let s = c.in-Sent in let r : Stamped = c.at.result.now in
    let at : slice_get a.guest.now.capture.records a.number ≡ Some r = there a.guest.now.capture.records a.number r c.requires.number c.at.ensures.value in
    let sent = sent_frame a.guest.now a.number s.activation s.queue s.place r at (λ x there_. s.ensures.verdict a.guest.now x c.requires.guest there_) in
    record { header = subst (λ (x : List ℕ). 14 ≤ length x) (sym c.as_slice-frame.ensures.bytes) sent.0 }

pub wire_form-requires : goal.wire_form-requires
wire_form-requires c = let a = c.args in let s = c.in-Sent in let r : Stamped = c.at.result.now in
    let at : slice_get a.guest.now.capture.records a.number ≡ Some r = there a.guest.now.capture.records a.number r c.requires.number c.at.ensures.value in
    let sent = sent_frame a.guest.now a.number s.activation s.queue s.place r at (λ x there_. s.ensures.verdict a.guest.now x c.requires.guest there_) in
    record { header = subst (λ (x : List ℕ). 14 ≤ length x) (sym c.as_slice-frame.ensures.bytes) sent.0 }

pub targets_of-requires-clause-header : goal.targets_of-requires-clause-header
targets_of-requires-clause-header c = let a = c.args in let s = c.in-Sent in let r : Stamped = c.at.result.now in
    let at : slice_get a.guest.now.capture.records a.number ≡ Some r = there a.guest.now.capture.records a.number r c.requires.number c.at.ensures.value in
    let posted : marked c.as_slice-frame.result.now c.mark_of.result ≡ posted_form a.guest.now r.frame = c.mark_of.ensures.mark ∙ ap (posted_form a.guest.now) c.as_slice-frame.ensures.bytes in
    let wired : c.deref.result.now ≡ wire_form (posted_form a.guest.now r.frame) = c.deref.ensures.value ∙ (c.in_ok-wire-in-Sent.ensures.wire ∙ ap wire_form posted) in
    let sent = sent_wire a.guest.now a.number s.activation s.queue s.place r at (λ x there_. s.ensures.verdict a.guest.now x c.requires.guest there_) in
    subst (λ (x : List ℕ). 14 ≤ length x) (sym wired) sent.0

pub returns-in_ok-sent_fates-in-Sent : goal.returns-in_ok-sent_fates-in-Sent
returns-in_ok-sent_fates-in-Sent c = let a = c.args in let s = c.in-Sent in let r : Stamped = c.at.result.now in
    let at : slice_get a.guest.now.capture.records a.number ≡ Some r = there a.guest.now.capture.records a.number r c.requires.number c.at.ensures.value in
    let posted : marked c.as_slice-frame.result.now c.mark_of.result ≡ posted_form a.guest.now r.frame = c.mark_of.ensures.mark ∙ ap (posted_form a.guest.now) c.as_slice-frame.ensures.bytes in
    let wired : c.deref.result.now ≡ wire_form (posted_form a.guest.now r.frame) = c.deref.ensures.value ∙ (c.in_ok-wire-in-Sent.ensures.wire ∙ ap wire_form posted) in
    record {
      fates = λ x there_. sent_on_fates a.plan.now (facts_of (world_of a.world.now)) a.port a.guest.now a.number x r s.activation s.queue s.place c.deref.result.now _ a.fates.now c.sent_fates.new.fates
          at (λ x there_. s.ensures.verdict a.guest.now x c.requires.guest there_) there_ wired c.in_ok-found-in-Sent.ensures.targets c.in_ok-sent_fates-in-Sent.ensures.fates;
    }
