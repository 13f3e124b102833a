use Rattle.std.proofs.Common.{◌≡◌, ℕ, ◌+◌, ◌-◌, List, Some, None, sym, ap, ◌∙◌}
use Rattle.vmx_frame.specs.Internet.{flow_of}
use Rattle.vmx_frame.specs.declared.kinds.Flow.{Flow}
use Rattle.vmx_checksum.specs.Words.{ones, put_word}
use Rattle.vmx_checksum.specs.Segment.{segment, segment_by}
use Rattle.vmx_checksum.specs.Checksum.{pseudo_sum, pseudo_of}
use Rattle.vmx_checksum.specs.ChecksumLaws.{seeded_is, seeded_flow, seeded_segment}
use Rattle.vmx_checksum.proofs.filling.seed.Goals as goal

pub returns-in_err-segment-clause-frame : goal.returns-in_err-segment-clause-frame
returns-in_err-segment-clause-frame c =
    let f : List ℕ = c.args.frame.now in
    let none : segment f ≡ None = ap (λ (x : Flow). segment_by x f) (sym c.flow-flow.ensures.flow) ∙ sym c.segment_by.ensures.segment ∙ c.in_err-segment.was in
    sym (seeded_is f None none)

pub returns-clause-frame : goal.returns-clause-frame
returns-clause-frame c =
    let f : List ℕ = c.args.frame.now in
    let s = c.in_ok-segment.segment in
    let found : segment f ≡ Some s = ap (λ (x : Flow). segment_by x f) (sym c.flow-flow.ensures.flow) ∙ sym c.segment_by.ensures.segment ∙ c.in_ok-segment.was in
    let word : c.ones-sum.result ≡ ones (pseudo_of f s) =
    c.ones-sum.ensures.ones ∙ ap (λ (n : ℕ). ones n) (c.pseudo_sum.ensures.sum ∙ ap (λ (x : Flow). pseudo_sum x (s.end - s.l4)) c.flow-flow.ensures.flow) in
    c.put_word.ensures.bytes ∙ ap (λ (w : ℕ). put_word f (s.l4 + 16) w) word ∙ sym (seeded_is f (Some s) found)

pub returns-clause-segment : goal.returns-clause-segment
returns-clause-segment c = ap (λ (g : List ℕ). segment g) (returns-clause-frame c) ∙ seeded_segment c.args.frame.now

pub returns-clause-flow : goal.returns-clause-flow
returns-clause-flow c = ap (λ (g : List ℕ). flow_of g) (returns-clause-frame c) ∙ seeded_flow c.args.frame.now
