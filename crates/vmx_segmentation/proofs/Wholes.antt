-- A frame that is cut, and the segments so far.
use Rattle.std.proofs.Common.{◌≡◌, ℕ, suc, ◌+◌, ◌-◌, ◌≤◌, ◌<◌, List, [], ◌∷◌, ◌++◌, length, drop, Option, Some, sym, ap, ◌∙◌, subst, append_assoc, append-nil, arith}
use Rattle.vmx_frame.specs.Internet.{flow_of}
use Rattle.vmx_ends.specs.declared.meta.TxMark.{TxMark}
use Rattle.vmx_checksum.specs.declared.answer.Segment.{Segment}
use Rattle.vmx_checksum.specs.Segment.{segment, packet_at}
use Rattle.vmx_checksum.specs.FlowLaws.{IsReadable, readable}
use Rattle.vmx_checksum.specs.SegmentLaws.{Lies, lies_at}
use Rattle.vmx_segmentation.specs.Cuts.{AsksSegments, IsWhole, pieces, cut_one, cuts_from, cuts_at, cuts}
use Rattle.vmx_segmentation.proofs.Numbers.{pieces_few}
use Rattle.vmx_segmentation.proofs.Lawful.{longer_back, header_room}

-- what a mark asks for
pub whole_of : (f : List ℕ) (mark : TxMark) (s : Segment) (n : ℕ) → length f ≤ 9022 → segment f ≡ Some s → AsksSegments f mark → n ≡ pieces mark.msscof (s.end - mark.hlen) → IsWhole f mark.hlen s mark.msscof n
whole_of f mark s n short found asks is =
    let at : Lies f s = lies_at f s found in
    let read : IsReadable (flow_of f) (drop (packet_at f) f) = readable f at.ports in
    let least : 64 ≤ mark.msscof = asks.least in
    let end : s.end ≤ length f = at.end in
    record {
      bytes = short;
      inside = omega (arith, at.place, read.least);
      room = header_room f s mark.hlen found asks.hlen;
      longer = longer_back f mark.msscof mark.hlen s found asks.hlen asks.longer;
      end = end;
      least = asks.least;
      most = asks.most;
      count_is = is;
      few = subst (λ (k : ℕ). k ≤ 9022) (sym is) (pieces_few (s.end - mark.hlen) mark.msscof (omega (arith, end, short)) (omega (arith, least)));
    }

minus_zero : (n : ℕ) → n - 0 ≡ n
minus_zero n = omega arith

-- no segment yet
pub from_start : (f : List ℕ) (h : ℕ) (s : Segment) (mss n : ℕ) (begun : List (List ℕ)) → begun ≡ [] → begun ++ cuts_from f h s mss n 0 (n - 0) ≡ cuts_from f h s mss n 0 n
from_start f h s mss n begun none = ap (λ (xs : List (List ℕ)). xs ++ cuts_from f h s mss n 0 (n - 0)) none ∙ ap (λ (k : ℕ). cuts_from f h s mss n 0 k) (minus_zero n)

-- one segment more
pub from_next : (f : List ℕ) (h : ℕ) (s : Segment) (mss n j : ℕ) (done next all : List (List ℕ)) → j < n → done ++ cuts_from f h s mss n j (n - j) ≡ all → next ≡ done ++ cut_one f h s mss j n ∷ []
    → next ++ cuts_from f h s mss n (j + 1) (n - (j + 1)) ≡ all
from_next f h s mss n j done next all lt so_far grew =
    let more : n - j ≡ suc (n - (j + 1)) = omega (arith, lt) in
    ap (λ (xs : List (List ℕ)). xs ++ cuts_from f h s mss n (j + 1) (n - (j + 1))) grew
    ∙ append_assoc done (cut_one f h s mss j n ∷ []) (cuts_from f h s mss n (j + 1) (n - (j + 1)))
    ∙ ap (λ (k : ℕ). done ++ cuts_from f h s mss n j k) (sym more)
    ∙ so_far

-- all segments
pub from_end : (f : List ℕ) (h : ℕ) (s : Segment) (mss n j : ℕ) (done all : List (List ℕ)) → n ≤ j → done ++ cuts_from f h s mss n j (n - j) ≡ all → done ≡ all
from_end f h s mss n j done all le so_far =
    let none : n - j ≡ 0 = omega (arith, le) in
    sym (append-nil done) ∙ ap (λ (k : ℕ). done ++ cuts_from f h s mss n j k) (sym none) ∙ so_far

pub cuts_found : (f : List ℕ) (h : ℕ) (s : Segment) (mss n : ℕ) → segment f ≡ Some s → n ≡ pieces mss (s.end - h) → cuts_from f h s mss n 0 n ≡ cuts f h mss
cuts_found f h s mss n found is = ap (λ (k : ℕ). cuts_from f h s mss k 0 k) is ∙ ap (λ (o : Option Segment). cuts_at f h o mss) (sym found)
