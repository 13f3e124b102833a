use Rattle.std.proofs.Common.{sym, ◌∙◌, ap, Some}
use Rattle.std.specs.Str.{bytes_eq}
use Rattle.vmx_io.proofs.Files.{first_under_found, first_under_missed}
use Rattle.vmx_io.proofs.file.first_under.Goals as goal

pub returns-then-eq : goal.returns-then-eq
returns-then-eq c =
    let same = ap (bytes_eq c.args.name.now) (sym c.as_str.ensures.bytes) ∙ sym c.eq.ensures ∙ c.if-eq.true in
    let found = first_under_found _ _ _ _ c.loop-file-test.true c.file-item.is same in
    record { first = ap Some c.as_slice.ensures.bytes ∙ sym (c.loop-file.invariant ∙ found) }

pub loop-file-preserved : goal.loop-file-preserved
loop-file-preserved c =
    let other = ap (bytes_eq c.args.name.now) (sym c.as_str.ensures.bytes) ∙ sym c.eq.ensures ∙ c.if-eq.false in
    c.loop-file.invariant ∙ first_under_missed _ _ _ _ c.loop-file-test.true c.file-item.is other
