-- Laws on records that stand one after the other.
use Rattle.std.proofs.Common.{◌≡◌, ℕ, List, [], ◌∷◌, ◌++◌, length, drop, refl, sym, subst}
use Rattle.vmx_pcap.specs.declared.records.Stamped.{Stamped}
use Rattle.vmx_pcap.specs.declared.kinds.Encoding.{Encoding}
use Rattle.vmx_pcap.specs.declared.format.TheConstants.{FILE_HEADER_SIZE}
use Rattle.vmx_pcap.specs.Capture.{AreRecords, IsWhole, IsHeader, IsTail, IsCapture, record_at, after_record}

-- one whole record more
pub records_push : (e : Encoding) (bytes : List ℕ) (records : List Stamped) (rest : List ℕ) (r : Stamped) → AreRecords e bytes records rest → IsWhole e rest → r ≡ record_at e rest → AreRecords e bytes (records ++ r ∷ []) (after_record e rest)
records_push e bytes [] rest r same whole is = subst (λ b. AreRecords e b (r ∷ []) (after_record e rest)) (sym same) (whole, is, refl)
records_push e bytes (q ∷ qs) rest r (w, same, more) whole is = (w, same, records_push e (after_record e bytes) qs rest r more whole is)

-- a capture by its parts
pub capture_of : (e : Encoding) (bytes : List ℕ) (records : List Stamped) (rest : List ℕ) → IsHeader e bytes → AreRecords e (drop FILE_HEADER_SIZE bytes) records rest → IsTail e rest → IsCapture bytes records (length rest)
capture_of e bytes records rest header body ends = record { encoding = e; header = header; rest = rest; body = body; ends = ends; count = refl }
