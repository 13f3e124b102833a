use Rattle.vmx_pcap.proofs.Again.{more_written, more_fit, all_written}
use Rattle.vmx_pcap.proofs.writer.write_over.Goals as goal

pub loop-r-preserved : goal.loop-r-preserved
loop-r-preserved c =
    let so_far = c.loop-r.invariant in
    (more_written _ _ _ _ _ c.loop-r-test.true c.r-item.is so_far.0 c.in_ok-push_record.ensures.bytes, more_fit _ _ _ c.loop-r-test.true c.r-item.is so_far.1 c.in_ok-push_record.ensures.fits)

pub returns-clause-round_trip : goal.returns-clause-round_trip
returns-clause-round_trip c = all_written _ _ _ _ c.loop-r-test.false c.loop-r.invariant.0 c.loop-r.invariant.1 c.into_bytes.ensures.bytes
