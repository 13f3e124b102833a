use Rattle.std.proofs.Common.{◌≡◌, ◌<◌, length, ap, sym, ◌∙◌, subst, Some}
use Rattle.std.specs.List.{slice_get}
use Rattle.vmx_pcap.specs.declared.records.Stamped.{Stamped}
use Rattle.vmx_model.specs.Plan.{captured_as, verdict_on}
use Rattle.vmx_verdicts.specs.Walks.{Walk, few_counts}
use Rattle.vmx_verdicts.proofs.Going.{goes_verdict, goes_on_walk}
use Rattle.vmx_verdicts.proofs.walk.Verdicts.next.Goals as goal

pub sends-sending-requires-clause-small : goal.sends-sending-requires-clause-small
sends-sending-requires-clause-small c = let s = c.pass.new.standing in few_counts c.self.inside.guest.now c.self.inside.next s.done s.quiet s.activation s.counts c.pass.ensures.walk

pub invariant_of-self : goal.invariant_of-self
invariant_of-self c = let s = c.pass.new.standing in let t = c.sends-sending.new.standing in
    let lt : c.self.inside.next < length c.self.inside.guest.now.capture.records = subst (λ (w : Walk). w.next < length w.guest.capture.records) (sym c.self.view_is) c.requires.there in
    goes_on_walk c.self.inside.guest.now c.self.inside.next s.done s.quiet s.activation s.counts c.as_slice.result.now c.index-as_slice-self.result c.as_slice-frame.result.now t.counts c.sends-sending.result
    c.pass.ensures.walk c.pass.ensures.later c.as_slice.ensures.items c.index-as_slice-self.is (c.as_slice-frame.ensures.bytes ∙ ap (λ (x : Stamped). x.frame) (sym c.index-as_slice-self.is)) c.sends-sending.ensures.found lt t.done t.quiet t.activation c.sends-sending.ensures.same

pub returns-clause-verdict : goal.returns-clause-verdict
returns-clause-verdict c = let s = c.pass.new.standing in let t = c.sends-sending.new.standing in
    subst (λ (w : Walk). (r : Stamped) → slice_get w.guest.capture.records w.next ≡ Some r → c.sends-sending.result ≡ verdict_on w.guest (captured_as w.guest w.next r)) c.self.view_is
    (goes_verdict c.self.inside.guest.now c.self.inside.next s.done s.quiet s.activation s.counts c.as_slice.result.now c.index-as_slice-self.result c.as_slice-frame.result.now t.counts c.sends-sending.result
    c.pass.ensures.walk c.pass.ensures.later c.as_slice.ensures.items c.index-as_slice-self.is (c.as_slice-frame.ensures.bytes ∙ ap (λ (x : Stamped). x.frame) (sym c.index-as_slice-self.is)) c.sends-sending.ensures.found)
