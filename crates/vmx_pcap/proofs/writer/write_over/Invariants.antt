use Rattle.std.proofs.Common.{◌≡◌, take, All}
use Rattle.vmx_pcap.specs.Written.{Fits, capture_bytes}
use Rattle.vmx_pcap.proofs.writer.write_over.Given as goal

abbrev pub invariant-loop-r : goal.invariant-loop-r
invariant-loop-r l = (l.out ≡ capture_bytes (take l.r-index l.records)) × All Fits (take l.r-index l.records)
