use Rattle.std.proofs.Common.{◌≡◌, ◌∙◌, length, count_by, rules}
use Rattle.std.specs.String.{string_bytes}
use Rattle.vmx_pair_plan.specs.Lengths.{is_sent, is_short, is_too_long}
use Rattle.vmx_pair_plan.specs.Summary.{lines_of}
use Rattle.vmx_pair_plan.proofs.Verdicts.{summary_by_length}
use Rattle.vmx_pair.proofs.summary.summary.Goals as goal

pub returns : goal.returns
returns c =
    let g = c.args.sender.now in
    let lines : string_bytes c.push_str.new.self
    ≡ lines_of (length g.capture.records) g.capture.tail (count_by (is_sent g.setup.mtu) g.capture.records) (count_by is_short g.capture.records) (count_by (is_too_long g.setup.mtu) g.capture.records) = search rules in
    record { summary = lines ∙ summary_by_length g c.requires.plain }
