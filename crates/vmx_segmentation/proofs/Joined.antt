-- The segments' payloads, joined, are the payload.
use Rattle.std.proofs.Common.{◌≡◌, ℕ, zero, suc, ◌+◌, ◌-◌, ◌*◌, ◌≤◌, ◌<◌, List, ◌++◌, length, take, drop, Option, Some, sym, ap, ◌∙◌, subst, arith}
use Rattle.std.specs.Prelude.{◌/◌, slice_index, IfOk, Result, Ok, Err}
use Rattle.std.specs.List.{flat_map}
use Rattle.std.proofs.lemmas.List.{get_or-take, get_or_append_left, length-append, length-take-le, take-append-drop, drop-drop, drop_all}
use Rattle.std.proofs.Math.Nat.{suc-mul, lt-div-mul-add}
use Rattle.std.proofs.Math.Seq.{drop-append_seam}
use Rattle.vmx_checksum.specs.declared.answer.Segment.{Segment}
use Rattle.vmx_checksum.specs.Segment.{segment, packet_at}
use Rattle.vmx_checksum.specs.WordLaws.{length_part}
use Rattle.vmx_segmentation.specs.Cuts.{IsWhole, payload, payload_in, piece, parted, cut_part, cut_one, cuts_from, joined}
use Rattle.vmx_segmentation.proofs.Kept.{headers_kept}

covers : (len mss n : ℕ) → 1 ≤ mss → n ≡ (len + (mss - 1)) / mss → len ≤ n * mss
covers len mss n pos is =
    let some : 0 < mss = omega (arith, pos) in
    let far : len + (mss - 1) < (len + (mss - 1)) / mss * mss + mss = lt-div-mul-add some in
    subst (λ (k : ℕ). len ≤ k * mss) (sym is) (omega (arith, far, pos))

one_more : (j mss : ℕ) → (j + 1) * mss ≡ j * mss + mss
one_more j mss = let next : j + 1 ≡ suc j = omega arith in ap (λ (k : ℕ). k * mss) next ∙ suc-mul j mss

none_before : (mss : ℕ) → 0 * mss ≡ 0
none_before mss = omega arith

-- behind its headers a segment has its piece
cut_behind : (f : List ℕ) (h : ℕ) (s : Segment) (mss n : ℕ) (part : List ℕ) (before j : ℕ) → IsWhole f h s mss n → segment f ≡ Some s → drop h (cut_part f h s part before j n) ≡ part
cut_behind f h s mss n part before j w found =
    let inside = w.inside in
    let room = w.room in
    let longer = w.longer in
    let end = w.end in
    let within : h ≤ length f = omega (arith, longer, end) in
    let headers : length (take h f) ≡ h = length-take-le h f within in
    let len = length-append (take h f) part in
    let long_f : 18 ≤ length f = omega (arith, within, inside, room) in
    let long_g : 18 ≤ length (parted f h part) = omega (arith, len, headers, inside, room) in
    let first : (i : ℕ) → i < packet_at f + 2 → slice_index (parted f h part) i ≡ slice_index f i =
    λ i lt. get_or_append_left (take h f) part 0 i (omega (arith, headers, lt, inside, room)) ∙ get_or-take h f i 0 (omega (arith, lt, inside, room)) in
    let kept = headers_kept f s h (parted f h part) before j n found inside room long_f long_g first in
    kept.rest ∙ ap (λ (k : ℕ). drop k (take h f ++ part)) (sym headers) ∙ drop-append_seam (take h f) part

join_from : (f : List ℕ) (h : ℕ) (s : Segment) (mss n : ℕ) → IsWhole f h s mss n → segment f ≡ Some s → (k j : ℕ) → j + k ≡ n → flat_map (drop h) (cuts_from f h s mss n j k) ≡ drop (j * mss) (payload f h s)
join_from f h s mss n w found zero j is =
    let least = w.least in
    let len : length (payload f h s) ≡ s.end - h = length_part f h s.end w.end in
    let all : s.end - h ≤ n * mss = covers (s.end - h) mss n (omega (arith, least)) w.count_is in
    let last : n ≡ j = omega (arith, is) in
    let all_j : s.end - h ≤ j * mss = subst (λ (k : ℕ). s.end - h ≤ k * mss) last all in
    sym (drop_all (j * mss) (payload f h s) (omega (arith, len, all_j)))
join_from f h s mss n w found (suc k) j is =
    let here : drop h (cut_one f h s mss j n) ≡ piece mss (payload f h s) j = cut_behind f h s mss n (piece mss (payload f h s) j) (j * mss) j w found in
    let more : flat_map (drop h) (cuts_from f h s mss n (j + 1) k) ≡ drop mss (drop (j * mss) (payload f h s)) =
    join_from f h s mss n w found k (j + 1) (omega (arith, is)) ∙ ap (λ (p : ℕ). drop p (payload f h s)) (one_more j mss) ∙ sym (drop-drop mss (j * mss) (payload f h s)) in
    (λ i. here i ++ more i) ∙ take-append-drop mss (drop (j * mss) (payload f h s))

pub joined_all : (f : List ℕ) (h : ℕ) (s : Segment) (mss n : ℕ) → IsWhole f h s mss n → segment f ≡ Some s → joined h (cuts_from f h s mss n 0 n) ≡ payload_in f h (segment f)
joined_all f h s mss n w found =
    join_from f h s mss n w found n 0 (omega arith) ∙ ap (λ (p : ℕ). drop p (payload f h s)) (none_before mss) ∙ ap (λ (o : Option Segment). payload_in f h o) (sym found)

pub joined_ok : {E : Type 0} (r : Result (List (List ℕ)) E) (h : ℕ) (all : List (List ℕ)) (bytes : List ℕ) → IfOk r (λ x. x ≡ all) → joined h all ≡ bytes → IfOk r (λ x. joined h x ≡ bytes)
joined_ok (Ok x) h all bytes is whole = ap (λ (y : List (List ℕ)). joined h y) is ∙ whole
joined_ok (Err e) h all bytes is whole = tt
