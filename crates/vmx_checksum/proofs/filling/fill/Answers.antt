use Rattle.std.proofs.Common.{◌≡◌, ℕ, ◌+◌, ◌-◌, List, Option, Some, is_some, slice_range, sym, ap, ◌∙◌, subst}
use Rattle.vmx_frame.specs.Internet.{flow_of}
use Rattle.vmx_checksum.specs.declared.answer.Segment.{Segment}
use Rattle.vmx_checksum.specs.Words.{word_sum, ones, put_word}
use Rattle.vmx_checksum.specs.Segment.{segment}
use Rattle.vmx_checksum.specs.Checksum.{segment_sum, completed, is_right_at, AsksChecksum, IsMarkOf}
use Rattle.vmx_checksum.specs.ChecksumLaws.{completed_is, completed_flow, completed_segment, completed_seeded, seeded_segment, filled_right, marked_some}
use Rattle.vmx_checksum.proofs.filling.fill.Goals as goal

pub returns-clause-frame : goal.returns-clause-frame
returns-clause-frame c =
    let f : List ℕ = c.args.frame.now in
    let s = c.in-Some.segment in
    let found : segment c.args.frame.now ≡ Some c.in-Some.segment = cc in
    let asked : AsksChecksum c.args.mark.now c.in-Some.segment = subst (λ (o : Option Segment). IsMarkOf o c.args.mark.now) found c.requires.mark in
    let word : c.ones-sum.result ≡ ones (segment_sum f s) =
    c.ones-sum.ensures.ones ∙ ap (λ (n : ℕ). ones n) (c.word_sum.ensures.sum ∙ ap (λ (a : ℕ). word_sum (slice_range f a s.end)) asked.hlen) in
    c.put_word.ensures.bytes ∙ (λ i. put_word f (asked.msscof i) (65535 - word i)) ∙ sym (completed_is f (Some s) found)

pub returns-clause-filled : goal.returns-clause-filled
returns-clause-filled c =
    λ captured e. returns-clause-frame c ∙ ap (λ (g : List ℕ). completed g) e ∙ completed_seeded captured

pub returns-clause-right : goal.returns-clause-right
returns-clause-right c =
    λ captured e.
    let same : segment captured ≡ segment c.args.frame.now = sym (seeded_segment captured) ∙ ap (λ (g : List ℕ). segment g) (sym e) in
    ap (λ (g : List ℕ). is_right_at g (segment g)) (returns-clause-filled c captured e)
    ∙ filled_right captured
    ∙ ap (λ (o : Option Segment). is_some o) same
    ∙ marked_some (segment c.args.frame.now) c.args.mark.now c.requires.mark

pub returns-clause-segment : goal.returns-clause-segment
returns-clause-segment c = ap (λ (g : List ℕ). segment g) (returns-clause-frame c) ∙ completed_segment c.args.frame.now

pub returns-clause-flow : goal.returns-clause-flow
returns-clause-flow c = ap (λ (g : List ℕ). flow_of g) (returns-clause-frame c) ∙ completed_flow c.args.frame.now
