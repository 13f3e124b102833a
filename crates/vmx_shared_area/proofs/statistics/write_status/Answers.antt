use Rattle.std.proofs.Common.{◌∙◌}
use Rattle.vmx_shared_area.proofs.Whole.{with_bytes_whole}
use Rattle.vmx_shared_area.proofs.statistics.write_status.Goals as goal

pub returns : goal.returns
returns c =
    let put = rw (c.descriptor-start.ensures.start, c.bytes_mut.ensures.value) at c.put_status.ensures.written in
    record { written = with_bytes_whole _ _ (c.put_status.auto.bytes ∙ c.bytes_mut.ensures.len) ∙ put }
