use Rattle.std.proofs.Common.{◌≡◌, length}
use Rattle.vmx_pcap.specs.Capture.{AreRecords}
use Rattle.vmx_pcap.proofs.reader.read_records.Given as goal

abbrev pub invariant-loop-index : goal.invariant-loop-index
invariant-loop-index l = AreRecords l.encoding l.bytes l.records.items l.rest × (length l.records.items ≡ l.index)
