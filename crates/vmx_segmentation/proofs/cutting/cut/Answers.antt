use Rattle.std.proofs.Common.{◌≡◌, ℕ, List, Some, sym, subst, arith}
use Rattle.std.specs.Prelude.{IfOk}
use Rattle.vmx_checksum.specs.Segment.{segment}
use Rattle.vmx_segmentation.proofs.Joined.{joined_all, joined_ok}
use Rattle.vmx_segmentation.proofs.Lawful.{never_without, longer_back}
use Rattle.vmx_segmentation.proofs.Wholes.{whole_of, cuts_found}
use Rattle.vmx_segmentation.proofs.cutting.cut.Goals as goal

pub unreachable-requires : goal.unreachable-requires
unreachable-requires c = never_without c.args.frame.now c.args.mark.now.hlen (sym c.in-None.ensures.segment) c.requires.mark.hlen

pub count_of-count-requires : goal.count_of-count-requires
count_of-count-requires c =
    let within = c.in-Some.ensures.within in
    let most = c.requires.mark.most in
    let least = c.requires.mark.least in
    let longer = longer_back c.args.frame.now c.args.mark.now.msscof c.args.mark.now.hlen c.in-Some.segment (sym c.in-Some.ensures.segment) c.requires.mark.hlen c.requires.mark.longer in
    record { order = omega (arith, longer); short = omega (arith, within.end, c.requires.short); pos = omega (arith, least); few = omega (arith, most) }

pub all_segments-requires : goal.all_segments-requires
all_segments-requires c = record { whole = whole_of c.args.frame.now c.args.mark.now c.in-Some.segment _ c.requires.short (sym c.in-Some.ensures.segment) c.requires.mark c.count_of-count.ensures.count }

pub returns : goal.returns
returns c =
    let f = c.args.frame.now in
    let mark = c.args.mark.now in
    let s = c.in-Some.segment in
    let found : segment c.args.frame.now ≡ Some c.in-Some.segment = sym c.in-Some.ensures.segment in
    record {
      segments = subst (λ (y : List (List ℕ)). IfOk c.all_segments.result (λ x. x ≡ y)) (cuts_found f mark.hlen s mark.msscof _ found c.count_of-count.ensures.count) c.all_segments.ensures.segments;
      joined = joined_ok c.all_segments.result mark.hlen _ _ c.all_segments.ensures.segments (joined_all f mark.hlen s mark.msscof _ (whole_of f mark s _ c.requires.short found c.requires.mark c.count_of-count.ensures.count) found);
    }
