use Rattle.std.proofs.Common.{◌≡◌, ◌-◌, ◌++◌}
use Rattle.vmx_segmentation.specs.Cuts.{cuts_from}
use Rattle.vmx_segmentation.proofs.cutting.all_segments.Given as goal

abbrev pub invariant-loop-number : goal.invariant-loop-number
invariant-loop-number l =
    l.segments.items ++ cuts_from l.whole.frame.now l.whole.header l.whole.segment l.whole.mss l.whole.count l.number (l.whole.count - l.number)
    ≡ cuts_from l.whole.frame.now l.whole.header l.whole.segment l.whole.mss l.whole.count 0 l.whole.count
