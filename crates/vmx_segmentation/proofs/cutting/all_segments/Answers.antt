use Rattle.std.proofs.Common.{ℕ, ◌∷◌, [], ◌++◌, List, ap, ◌∙◌, arith}
use Rattle.vmx_segmentation.proofs.Wholes.{from_start, from_next, from_end}
use Rattle.vmx_segmentation.proofs.cutting.all_segments.Goals as goal

pub loop-number-init : goal.loop-number-init
loop-number-init c = let w = c.args.whole.now in from_start w.frame.now w.header w.segment w.mss w.count c.in_ok-segments.segments.items c.in_ok-segments.ensures.items

pub loop-number-preserved : goal.loop-number-preserved
loop-number-preserved c =
    let w = c.args.whole.now in
    let l = c.loop-number in
    from_next w.frame.now w.header w.segment w.mss w.count l.number l.segments.items _ _ (omega arith) l.invariant
    (c.in_ok-push.ensures.items ∙ ap (λ (b : List ℕ). l.segments.items ++ b ∷ []) c.in_ok-segment_bytes.ensures.bytes)

pub returns : goal.returns
returns c =
    let w = c.args.whole.now in
    let l = c.loop-number in
    record { segments = c.of.ensures.items ∙ from_end w.frame.now w.header w.segment w.mss w.count l.number l.segments.items _ (omega arith) l.invariant }
