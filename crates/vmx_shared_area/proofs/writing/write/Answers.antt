use Rattle.std.proofs.Common.{◌∙◌}
use Rattle.vmx_shared_area.proofs.Whole.{with_bytes_whole}
use Rattle.vmx_shared_area.proofs.writing.write.Goals as goal

pub returns : goal.returns
returns c =
    record { written = with_bytes_whole _ _ (c.write_bytes.auto.bytes ∙ c.bytes_mut.ensures.len) ∙ c.write_bytes.ensures.written }
