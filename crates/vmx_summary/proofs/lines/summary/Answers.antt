use Rattle.std.proofs.Common.{◌≡◌, ◌∙◌, length, rules}
use Rattle.std.specs.String.{string_bytes}
use Rattle.vmx_summary.specs.Summary.{rows_of_kind, lines_by}
use Rattle.vmx_summary.proofs.Counts.{lines_are}
use Rattle.vmx_summary.proofs.lines.summary.Goals as goal

pub returns : goal.returns
returns c =
    let plan = c.args.plan.now in
    let rows = c.args.rows.now in
    let lines : string_bytes c.push_str.new.self ≡ lines_by plan (length rows) (λ k. rows_of_kind k rows) = search rules in
    record { summary = λ r h. lines ∙ lines_are plan r rows h }
