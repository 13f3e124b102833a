-- What the headers of a cut frame's segments leave as it was.
use Rattle.std.proofs.Common.{◌≡◌, ℕ, ◌+◌, ◌-◌, ◌*◌, ◌≤◌, ◌<◌, Bool, true, false, cond, List, length, drop, Option, Some, None, refl, sym, ap, ◌∙◌, subst, arith, length-set}
use Rattle.std.specs.Prelude.{◌≢◌, nat_le, ◌&&◌, ◌==◌, ◌/◌, ◌%◌, ◌^◌, slice_index, slice_set}
use Rattle.std.proofs.lemmas.Bool.{le-leb, false≢true}
use Rattle.std.proofs.lemmas.List.{drop-set-lt, get_or-set_other, get_or-drop}
use Rattle.vmx_frame.specs.Bytes.{u16_at}
use Rattle.vmx_frame.specs.Ethernet.{is_tagged}
use Rattle.vmx_frame.specs.Internet.{v4_of, v6_of, v4_header_len, payload_flow, flow_of}
use Rattle.vmx_frame.specs.declared.kinds.Flow.{Flow}
use Rattle.vmx_frame.specs.declared.kinds.Flow.TheVariants.{NonIp, V4, V6}
use Rattle.vmx_frame.specs.declared.kinds.Ports.{Ports}
use Rattle.vmx_checksum.specs.declared.answer.Segment.{Segment}
use Rattle.vmx_checksum.specs.Words.{put_word}
use Rattle.vmx_checksum.specs.Segment.{packet_at, has_ports, header_len, segment}
use Rattle.vmx_checksum.specs.SegmentLaws.{Lies, lies_at}
use Rattle.vmx_checksum.specs.FlowLaws.{place_least}
use Rattle.vmx_checksum.specs.Checksum.{filled}
use Rattle.vmx_checksum.specs.ChecksumLaws.{filled_is}
use Rattle.vmx_segmentation.specs.Cuts.{header_summed, packet_written, u32_at, put_double, segment_written, headers_written}

-- ------------------------------------------------------------ bytes that only differ in headers

-- as long, the same from `behind` on, and the same before `front`
pub record IsKept (front behind : ℕ) (f g : List ℕ) : Type 0 where
  pub len : length g ≡ length f
  pub rest : drop behind g ≡ drop behind f
  pub first : (i : ℕ) → i < front → slice_index g i ≡ slice_index f i

same : (front behind : ℕ) (f : List ℕ) → IsKept front behind f f
same front behind f = record { len = refl; rest = refl; first = λ i lt. refl }

after : (front behind : ℕ) (f g h : List ℕ) → IsKept front behind f g → IsKept front behind g h → IsKept front behind f h
after front behind f g h a b = record { len = b.len ∙ a.len; rest = b.rest ∙ a.rest; first = λ i lt. b.first i lt ∙ a.first i lt }

apart : (i j : ℕ) → i < j → i ≢ j
apart i j lt e = omega (arith, lt, e)

set_kept : (front behind : ℕ) (f : List ℕ) (at v : ℕ) → front ≤ at → at < behind → IsKept front behind f (slice_set f at v)
set_kept front behind f at v low high = record {
  len = length-set f at v;
  rest = drop-set-lt behind f at v high;
  first = λ i lt. get_or-set_other f at i v 0 (apart i at (omega (arith, lt, low)));
}

put_kept : (front behind : ℕ) (f : List ℕ) (at w : ℕ) → front ≤ at → at + 2 ≤ behind → IsKept front behind f (put_word f at w)
put_kept front behind f at w low high =
    after front behind f (slice_set f at (w / 256)) (put_word f at w) (set_kept front behind f at (w / 256) low (omega (arith, high))) (set_kept front behind (slice_set f at (w / 256)) (at + 1) (w % 256) (omega (arith, low)) (omega (arith, high)))

-- ------------------------------------------------------------ the headers

summed_kept : (front behind : ℕ) (g : List ℕ) (at l4 : ℕ) → front ≤ at + 2 → at + 20 ≤ behind → IsKept front behind g (header_summed g at l4)
summed_kept front behind g at l4 low high = put_kept front behind g (at + 10) _ (omega (arith, low)) (omega (arith, high))

packet_kept : (flow : Flow) (front behind : ℕ) (g : List ℕ) (at l4 len j : ℕ) → front ≤ at + 2 → at + 20 ≤ behind → IsKept front behind g (packet_written flow g at l4 len j)
packet_kept NonIp front behind g at l4 len j low high = same front behind g
packet_kept (V4 source target ports) front behind g at l4 len j low high =
    let one : List ℕ = put_word g (at + 2) len in
    let two : List ℕ = put_word one (at + 4) ((u16_at g (at + 4) + j) % 65536) in
    after front behind g two (header_summed two at l4)
    (after front behind g one two (put_kept front behind g (at + 2) len low (omega (arith, high))) (put_kept front behind one (at + 4) ((u16_at g (at + 4) + j) % 65536) (omega (arith, low)) (omega (arith, high))))
    (summed_kept front behind two at l4 low high)
packet_kept (V6 source target ports) front behind g at l4 len j low high = put_kept front behind g (at + 4) (len - 40) (omega (arith, low)) (omega (arith, high))

double_kept : (front behind : ℕ) (g : List ℕ) (at number : ℕ) → front ≤ at → at + 4 ≤ behind → IsKept front behind g (put_double g at number)
double_kept front behind g at number low high =
    let one : List ℕ = put_word g at (number / 65536) in
    after front behind g one (put_double g at number) (put_kept front behind g at (number / 65536) low (omega (arith, high))) (put_kept front behind one (at + 2) (number % 65536) (omega (arith, low)) (omega (arith, high)))

written_kept : (front behind : ℕ) (g : List ℕ) (l4 before j n : ℕ) → front ≤ l4 → l4 + 20 ≤ behind → IsKept front behind g (segment_written g l4 before j n)
written_kept front behind g l4 before j n low high =
    let one : List ℕ = put_double g (l4 + 4) ((u32_at g (l4 + 4) + before) % 2 ^ 32) in
    after front behind g one (segment_written g l4 before j n) (double_kept front behind g (l4 + 4) _ (omega (arith, low)) (omega (arith, high))) (set_kept front behind one (l4 + 13) _ (omega (arith, low)) (omega (arith, high)))

-- ------------------------------------------------------------ where the segment of bytes with the same first headers begins

abbrev place_by : Bool → ℕ
place_by t = cond t 18 14

abbrev payload_by : Bool → Bool → List ℕ → Flow
payload_by b c p = cond b (v4_of p) (cond c (v6_of p) NonIp)

abbrev flow_by : Bool → List ℕ → Flow
flow_by t f = cond t (payload_by (u16_at f 16 == 2048) (u16_at f 16 == 34525) (drop 18 f)) (payload_by (u16_at f 12 == 2048) (u16_at f 12 == 34525) (drop 14 f))

flow_is : (f : List ℕ) → flow_of f ≡ flow_by (is_tagged f) f
unfolding flow_of payload_flow
flow_is f = refl

v4_len : (w : Bool) (source target : List ℕ) (ports : Option Ports) (p : List ℕ) → has_ports (cond w (V4 source target ports) NonIp) ≡ true → header_len (cond w (V4 source target ports) NonIp) p ≡ v4_header_len p
v4_len true source target ports p h = refl
v4_len false source target ports p h = absurd (false≢true h)

v6_len : (w : Bool) (source target : List ℕ) (ports : Option Ports) (p : List ℕ) → header_len (cond w (V6 source target ports) NonIp) p ≡ 40
v6_len true source target ports p = refl
v6_len false source target ports p = refl

payload_len : (b c : Bool) (p : List ℕ) → has_ports (payload_by b c p) ≡ true → header_len (payload_by b c p) p ≡ cond b (v4_header_len p) 40
payload_len true c p h = v4_len _ _ _ _ p h
payload_len false true p h = v6_len _ _ _ _ p
payload_len false false p h = refl

-- the IP header's length goes by the type, which stands before the packet, and by the packet's first byte
flow_len : (t : Bool) (f : List ℕ) → has_ports (flow_by t f) ≡ true → header_len (flow_by t f) (drop (place_by t) f) ≡ cond (u16_at f (place_by t - 2) == 2048) (v4_header_len (drop (place_by t) f)) 40
flow_len true f h = payload_len (u16_at f 16 == 2048) (u16_at f 16 == 34525) (drop 18 f) h
flow_len false f h = payload_len (u16_at f 12 == 2048) (u16_at f 12 == 34525) (drop 14 f) h

header_is : (f : List ℕ) → has_ports (flow_of f) ≡ true → header_len (flow_of f) (drop (packet_at f) f) ≡ cond (u16_at f (packet_at f - 2) == 2048) (slice_index f (packet_at f + 0) % 16 * 4) 40
header_is f h =
    let there : has_ports (flow_by (is_tagged f) f) ≡ true = subst (λ (x : Flow). has_ports x ≡ true) (flow_is f) h in
    ap (λ (x : Flow). header_len x (drop (packet_at f) f)) (flow_is f) ∙ flow_len (is_tagged f) f there
    ∙ ap (λ (b : ℕ). cond (u16_at f (packet_at f - 2) == 2048) (b % 16 * 4) 40) (get_or-drop (packet_at f) f 0 0)

-- bytes with the first headers of a frame have the tag of the frame
tag_same : (f g : List ℕ) → 18 ≤ length f → 18 ≤ length g → ((i : ℕ) → i < 14 → slice_index g i ≡ slice_index f i) → is_tagged g ≡ is_tagged f
unfolding is_tagged
tag_same f g long_f long_g first =
    let whole : nat_le 18 (length g) ≡ nat_le 18 (length f) = le-leb 18 (length g) long_g ∙ sym (le-leb 18 (length f) long_f) in
    let high = first 12 (omega arith) in
    let low = first 13 (omega arith) in
    λ i. whole i && (high i * 256 + low i) == 33024

-- and their segment, where they have one, begins where the frame's does
pub begins_alike : (f g : List ℕ) (s t : Segment) → segment f ≡ Some s → segment g ≡ Some t → 18 ≤ length f → 18 ≤ length g → ((i : ℕ) → i < packet_at f + 2 → slice_index g i ≡ slice_index f i) → t.l4 ≡ s.l4
begins_alike f g s t found_f found_g long_f long_g first =
    let in_f : Lies f s = lies_at f s found_f in
    let in_g : Lies g t = lies_at g t found_g in
    let least = place_least f in
    let tag : is_tagged g ≡ is_tagged f = tag_same f g long_f long_g (λ i lt. first i (omega (arith, lt, least.0))) in
    let at : packet_at g ≡ packet_at f = ap place_by tag in
    let kind : u16_at g (packet_at g - 2) ≡ u16_at f (packet_at f - 2) =
    ap (λ (k : ℕ). u16_at g (k - 2)) at ∙ (let high = first (packet_at f - 2) (omega (arith, least.0)) in let low = first (packet_at f - 2 + 1) (omega (arith, least.0)) in λ i. high i * 256 + low i) in
    let byte : slice_index g (packet_at g + 0) ≡ slice_index f (packet_at f + 0) = ap (λ (k : ℕ). slice_index g (k + 0)) at ∙ first (packet_at f + 0) (omega arith) in
    let len : header_len (flow_of g) (drop (packet_at g) g) ≡ header_len (flow_of f) (drop (packet_at f) f) = header_is g in_g.ports ∙ (λ i. cond (kind i == 2048) (byte i % 16 * 4) 40) ∙ sym (header_is f in_f.ports) in
    in_g.place ∙ (λ i. at i + len i) ∙ sym in_f.place

-- ------------------------------------------------------------ all that is written

filled_kept_at : (front behind : ℕ) (g : List ℕ) (o : Option Segment) → segment g ≡ o → ((t : Segment) → o ≡ Some t → (front ≤ t.l4) × (t.l4 + 20 ≤ behind)) → IsKept front behind g (filled g)
filled_kept_at front behind g None is inside = subst (λ (x : List ℕ). IsKept front behind g x) (sym (filled_is g None is)) (same front behind g)
filled_kept_at front behind g (Some t) is inside =
    let place = inside t refl in
    subst (λ (x : List ℕ). IsKept front behind g x) (sym (filled_is g (Some t) is)) (put_kept front behind g (t.l4 + 16) _ (omega (arith, place.0)) (omega (arith, place.1)))

-- bytes that begin with the headers of a frame are kept behind them
pub headers_kept : (f : List ℕ) (s : Segment) (h : ℕ) (g : List ℕ) (before j n : ℕ) → segment f ≡ Some s → packet_at f + 20 ≤ s.l4 → s.l4 + 20 ≤ h → 18 ≤ length f → 18 ≤ length g → ((i : ℕ) → i < packet_at f + 2 → slice_index g i ≡ slice_index f i)
    → IsKept (packet_at f + 2) h g (headers_written f s g before j n)
headers_kept f s h g before j n found inside room long_f long_g first =
    let front : ℕ = packet_at f + 2 in
    let one : List ℕ = packet_written (flow_of f) g (packet_at f) s.l4 (length g - packet_at f) j in
    let two : List ℕ = segment_written one s.l4 before j n in
    let to_one : IsKept (packet_at f + 2) h g one = packet_kept (flow_of f) front h g (packet_at f) s.l4 (length g - packet_at f) j (omega arith) (omega (arith, inside, room)) in
    let to_two : IsKept (packet_at f + 2) h g two = after front h g one two to_one (written_kept front h one s.l4 before j n (omega (arith, inside)) room) in
    let len = to_two.len in
    let place : (t : Segment) → segment two ≡ Some t → (packet_at f + 2 ≤ t.l4) × (t.l4 + 20 ≤ h) =
    λ t is. (let alike = begins_alike f two s t found is long_f (omega (arith, len, long_g)) (λ i lt. to_two.first i lt ∙ first i lt) in (omega (arith, alike, inside), omega (arith, alike, room))) in
    after front h g two (filled two) to_two (filled_kept_at front h two (segment two) refl place)
