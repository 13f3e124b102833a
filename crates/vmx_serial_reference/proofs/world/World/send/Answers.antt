use Rattle.std.proofs.Common.{◌≡◌, ◌≤◌, ◌∙◌, length, ap, sym, arith, refl, subst, List, ℕ, Some}
use Rattle.std.specs.List.{slice_get}
use Rattle.std.proofs.lemmas.Option.{slice_get_within}
use Rattle.std.proofs.lemmas.Result.{on_ok_weaker}
use Rattle.vmx_pcap.specs.declared.records.Stamped.{Stamped}
use Rattle.vmx_ends.specs.declared.packet.Tag.{Tag}
use Rattle.vmx_model.specs.declared.sending.Sending.TheVariants as sending
use Rattle.vmx_ends.specs.declared.frames.Sent.{Sent}
use Rattle.vmx_model.specs.Wire.{posted_form, wire_form}
use Rattle.vmx_serial_queues.specs.Queues.{marked}
use Rattle.vmx_model.specs.Turns.{send_from}
use Rattle.vmx_model.specs.PlanSteps.{there}
use Rattle.vmx_model.proofs.Sends.{sends_none, sends_idle, sends_sent, sent_frame}
use Rattle.vmx_serial_reference.specs.Worlds.{world_of}
use Rattle.vmx_serial_reference.proofs.Turns.{sent_wire}
use Rattle.vmx_serial_reference.proofs.world.World.send.Goals as goal

pub returns-then-number-records : goal.returns-then-number-records
returns-then-number-records c = let a = c.args in let l = ap length c.as_slice-records.ensures.items in record { sends = sends_none a.plan.now a.port a.guest.now a.number (world_of a.self.now) (omega arith) }

pub verdict-requires-clause-guest : goal.verdict-requires-clause-guest
verdict-requires-clause-guest c = let a = c.args in slice_get_within a.plan.now.guests a.port a.guest.now c.requires.guest

pub send_on-requires-clause-port : goal.send_on-requires-clause-port
send_on-requires-clause-port c = let a = c.args in slice_get_within a.plan.now.guests a.port a.guest.now c.requires.guest

pub mark_of-requires : goal.mark_of-requires
mark_of-requires c = let a = c.args in let r : Stamped = c.index-records-number.result in let l = ap length c.as_slice-records.ensures.items in
    let at : slice_get a.guest.now.capture.records a.number ≡ Some r = sym (ap (λ (rs : List Stamped). slice_get rs a.number) c.as_slice-records.ensures.items) ∙ there c.as_slice-records.result.now a.number r (omega arith) c.index-records-number.is in
    let same : c.as_slice-frame.result.now ≡ r.frame = c.as_slice-frame.ensures.bytes ∙ ap (λ (x : Stamped). x.frame) (sym c.index-records-number.is) in
    let sent = sent_frame a.guest.now a.number c.in-Sent.activation c.in-Sent.queue c.in-Sent.place r at (λ s there_. c.in-Sent.ensures.verdict a.guest.now s c.requires.guest there_) in
    record { header = subst (λ (f : List ℕ). 14 ≤ length f) (sym same) sent.0 }

pub send_on-requires-clause-header : goal.send_on-requires-clause-header
send_on-requires-clause-header c = let a = c.args in let r : Stamped = c.index-records-number.result in let l = ap length c.as_slice-records.ensures.items in
    let at : slice_get a.guest.now.capture.records a.number ≡ Some r = sym (ap (λ (rs : List Stamped). slice_get rs a.number) c.as_slice-records.ensures.items) ∙ there c.as_slice-records.result.now a.number r (omega arith) c.index-records-number.is in
    let same : c.as_slice-frame.result.now ≡ r.frame = c.as_slice-frame.ensures.bytes ∙ ap (λ (x : Stamped). x.frame) (sym c.index-records-number.is) in
    let sent = sent_frame a.guest.now a.number c.in-Sent.activation c.in-Sent.queue c.in-Sent.place r at (λ s there_. c.in-Sent.ensures.verdict a.guest.now s c.requires.guest there_) in
    subst (λ (f : List ℕ). 14 ≤ length f) (sym same) sent.0

pub send_on-requires-clause-wire : goal.send_on-requires-clause-wire
send_on-requires-clause-wire c = let a = c.args in let r : Stamped = c.index-records-number.result in let l = ap length c.as_slice-records.ensures.items in
    let at : slice_get a.guest.now.capture.records a.number ≡ Some r = sym (ap (λ (rs : List Stamped). slice_get rs a.number) c.as_slice-records.ensures.items) ∙ there c.as_slice-records.result.now a.number r (omega arith) c.index-records-number.is in
    let same : c.as_slice-frame.result.now ≡ r.frame = c.as_slice-frame.ensures.bytes ∙ ap (λ (x : Stamped). x.frame) (sym c.index-records-number.is) in
    let posted : marked c.as_slice-frame.result.now c.mark_of.result ≡ posted_form a.guest.now r.frame = c.mark_of.ensures.mark ∙ ap (posted_form a.guest.now) same in
    subst (λ (s : Sent). (14 ≤ length (wire_form s)) × (length (wire_form s) ≤ 9022)) (sym posted) (sent_wire a.guest.now a.number c.in-Sent.activation c.in-Sent.queue c.in-Sent.place r at (λ s there_. c.in-Sent.ensures.verdict a.guest.now s c.requires.guest there_))

pub returns-in-Sent : goal.returns-in-Sent
returns-in-Sent c = let a = c.args in let r : Stamped = c.index-records-number.result in let l = ap length c.as_slice-records.ensures.items in
    let at : slice_get a.guest.now.capture.records a.number ≡ Some r = sym (ap (λ (rs : List Stamped). slice_get rs a.number) c.as_slice-records.ensures.items) ∙ there c.as_slice-records.result.now a.number r (omega arith) c.index-records-number.is in
    let same : c.as_slice-frame.result.now ≡ r.frame = c.as_slice-frame.ensures.bytes ∙ ap (λ (x : Stamped). x.frame) (sym c.index-records-number.is) in
    let posted : marked c.as_slice-frame.result.now c.mark_of.result ≡ posted_form a.guest.now r.frame = c.mark_of.ensures.mark ∙ ap (posted_form a.guest.now) same in
    let tag : Tag = record { guest = a.port; activation = c.in-Sent.activation; queue = c.in-Sent.queue; place = c.in-Sent.place } in
    record {
      sends = on_ok_weaker c.send_on.result (λ e. e ∙ ap (λ (s : Sent). send_from a.plan.now tag s (world_of a.self.now)) posted
          ∙ sends_sent a.plan.now a.port a.guest.now a.number (world_of a.self.now) c.in-Sent.activation c.in-Sent.queue c.in-Sent.place r at (λ s there_. c.in-Sent.ensures.verdict a.guest.now s c.requires.guest there_)) c.send_on.ensures.sent;
    }

pub returns-in-Down : goal.returns-in-Down
returns-in-Down c = let a = c.args in let l = ap length c.as_slice-records.ensures.items in
    record { sends = sends_idle a.plan.now a.port a.guest.now a.number (world_of a.self.now) sending.Down (omega arith) (λ s there_. c.in-Down.ensures.verdict a.guest.now s c.requires.guest there_) (λ frame. refl) }

pub returns-in-Short : goal.returns-in-Short
returns-in-Short c = let a = c.args in let l = ap length c.as_slice-records.ensures.items in
    record { sends = sends_idle a.plan.now a.port a.guest.now a.number (world_of a.self.now) sending.Short (omega arith) (λ s there_. c.in-Short.ensures.verdict a.guest.now s c.requires.guest there_) (λ frame. refl) }

pub returns-in-TooLong : goal.returns-in-TooLong
returns-in-TooLong c = let a = c.args in let l = ap length c.as_slice-records.ensures.items in
    record { sends = sends_idle a.plan.now a.port a.guest.now a.number (world_of a.self.now) sending.TooLong (omega arith) (λ s there_. c.in-TooLong.ensures.verdict a.guest.now s c.requires.guest there_) (λ frame. refl) }
