-- The bytes of captures.
use Rattle.std.proofs.Common.{◌≡◌, ℕ, zero, suc, ◌+◌, ◌*◌, ◌%◌, ◌<◌, ◌≤◌, List, [], ◌∷◌, ◌++◌, length, refl, sym, ap, ◌∙◌, add-one, arith}
use Rattle.vmx_pcap.specs.declared.records.Stamped.{Stamped}
use Rattle.vmx_model.specs.declared.limits.TheConstants.{RECORD_HEADER}
use Rattle.vmx_model.specs.Totals.{frame_bytes}
use Rattle.vmx_generator.specs.Draws.{draws_of}
use Rattle.vmx_generator.specs.Frames.{stamped_of, first_frames}
use Rattle.vmx_generator.proofs.Making.{frames_none, frames_more, frame_length}

bytes_more : (rs : List Stamped) (r : Stamped) → frame_bytes (rs ++ r ∷ []) ≡ frame_bytes rs + (RECORD_HEADER + length r.frame)
bytes_more [] r = omega arith
bytes_more (x ∷ rs) r = let more = bytes_more rs r in omega (arith, more)

-- the first frames of a guest, with 16 bytes before each, have at most 1,530 bytes each
pub bytes_few : (number g count : ℕ) → frame_bytes (first_frames number g count) ≤ count * 1530
bytes_few number g zero = rw (frames_none number g) (omega arith)
bytes_few number g (suc n) =
    let more : first_frames number g (suc n) ≡ first_frames number g n ++ stamped_of number g n ∷ [] = ap (first_frames number g) (sym (add-one n)) ∙ frames_more number g n in
    let all = ap frame_bytes more ∙ bytes_more (first_frames number g n) (stamped_of number g n) in
    let before = bytes_few number g n in
    let d = (draws_of number g n).size in
    let len = frame_length g n (draws_of number g n) in
    let low : d % 1455 < 1455 = omega arith in
    omega (arith, all, before, len, low)
