-- What bytes after the header, or after a record, begin with.
use Rattle.std.specs.Prelude.{◌≡◌, List, ℕ}
use Rattle.vmx_pcap.specs.declared.kinds.Encoding.{Encoding}
use Rattle.vmx_pcap.specs.declared.reader.Front.{Front}
use Rattle.vmx_pcap.specs.declared.reader.Front.TheVariants as front
use Rattle.vmx_pcap.specs.Capture.{IsWhole, IsTail, IsLong, captured_length}

-- bytes begin with a whole record, a tail or a record that is too long
abbrev pub IsFront : Encoding → Front → List ℕ → Type 0
IsFront e (front.Whole len) bytes = IsWhole e bytes × (len ≡ captured_length e bytes)
IsFront e front.Tail bytes = IsTail e bytes
IsFront e (front.Long found) bytes = IsLong e bytes × (found ≡ captured_length e bytes)
