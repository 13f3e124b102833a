-- A capture's records and tail have no more bytes than its file.
use Rattle.std.proofs.Common.{◌≡◌, ℕ, ◌+◌, ◌≤◌, List, [], ◌∷◌, length, drop, ap, ◌∙◌, arith, length-drop}
use Rattle.std.proofs.lemmas.List.{length-take-le}
use Rattle.vmx_pcap.specs.declared.records.Stamped.{Stamped}
use Rattle.vmx_pcap.specs.declared.records.Capture.{Capture}
use Rattle.vmx_pcap.specs.declared.kinds.Encoding.{Encoding}
use Rattle.vmx_pcap.specs.Capture.{IsCapture, AreRecords, captured_length}
use Rattle.vmx_model.specs.Totals.{frame_bytes}
use Rattle.vmx_pair_plan.specs.Plan.{Fits}

records_bytes : (e : Encoding) (bytes : List ℕ) (records : List Stamped) (rest : List ℕ) → AreRecords e bytes records rest → frame_bytes records + length rest ≡ length bytes
records_bytes e bytes [] rest are = let same = ap length are in omega (arith, same)
records_bytes e bytes (r ∷ rs) rest (whole, is, are) =
    let len = captured_length e bytes in
    let behind = length-drop 16 bytes in
    let fits = whole.frame in
    let frame : length r.frame ≡ len = ap (λ (x : Stamped). length x.frame) is ∙ length-take-le len (drop 16 bytes) (omega arith) in
    let after = length-drop (16 + len) bytes in
    let others = records_bytes e (drop (16 + len) bytes) rs rest are in
    omega (arith, others, after, frame, fits)

pub within_bytes : (bytes : List ℕ) (c : Capture) → IsCapture bytes c.records c.tail → length bytes ≤ 67108864 → length c.records ≤ 262144 → Fits c
within_bytes bytes c is fits few =
    let body = records_bytes is.encoding (drop 24 bytes) c.records is.rest is.body in
    let behind = length-drop 24 bytes in
    let tail = is.count in
    record { records = few; bytes = omega (arith, body, behind, tail, fits) }
