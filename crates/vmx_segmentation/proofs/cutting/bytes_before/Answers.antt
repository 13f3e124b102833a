use Rattle.std.proofs.Common.{ℕ, ◌<◌, ◌-◌, subst, arith}
use Rattle.vmx_segmentation.proofs.Numbers.{begins_within}
use Rattle.vmx_segmentation.proofs.cutting.bytes_before.Goals as goal

pub overflow_mul-result : goal.overflow_mul-result
overflow_mul-result c =
    let w = c.args.whole.now in
    let h = c.requires.whole in
    let least = h.least in
    let end = h.end in
    let bytes = h.bytes in
    let inside = begins_within c.args.number w.mss (w.segment.end - w.header) (omega (arith, least)) (subst (λ (n : ℕ). c.args.number < n) h.count_is c.requires.number) in
    omega (arith, inside, end, bytes)

pub returns-clause-within : goal.returns-clause-within
returns-clause-within c =
    let w = c.args.whole.now in
    let h = c.requires.whole in
    let least = h.least in
    let longer = h.longer in
    let inside = begins_within c.args.number w.mss (w.segment.end - w.header) (omega (arith, least)) (subst (λ (n : ℕ). c.args.number < n) h.count_is c.requires.number) in
    omega (arith, inside, longer)
