-- Where a segment that was found lies, and that a word in its checksum field leaves it where it is.
use Rattle.std.proofs.Common.{◌≡◌, ℕ, ◌+◌, ◌-◌, ◌≤◌, Bool, true, false, cond, nat_le, leb-true, List, length, drop, Option, Some, None, IfSome, refl, sym, subst, arith}
use Rattle.std.proofs.lemmas.Bool.{and_parts}
use Rattle.vmx_frame.specs.Internet.{flow_of}
use Rattle.vmx_checksum.specs.declared.answer.Segment.{Segment}
use Rattle.vmx_checksum.specs.Segment.{packet_at, has_ports, header_len, packet_len, is_whole, segment_from, segment_by, segment, IsWithin}
use Rattle.vmx_checksum.specs.Checksum.{with_field, pseudo_sum, pseudo_of, segment_sum}
use Rattle.vmx_checksum.specs.WordLaws.{word_sum_part}
use Rattle.vmx_checksum.specs.FlowLaws.{IsReadable, agrees_put, readable, place_least, flow_same, segment_same}

-- a segment of a frame: behind the IP header of a flow with ports, with room for a TCP header, within the frame
pub record Lies (f : List ℕ) (s : Segment) : Type 0 where
  pub ports : has_ports (flow_of f) ≡ true
  pub place : s.l4 ≡ packet_at f + header_len (flow_of f) (drop (packet_at f) f)
  pub room : s.l4 + 20 ≤ s.end
  pub end : s.end ≤ length f

between_tells : (P : Segment → Type 0) (l4 end len : ℕ) (w : Bool) → is_whole l4 end len ≡ w → (l4 + 20 ≤ end → end ≤ len → P (record { l4 = l4; end = end })) → IfSome {T = Segment} (cond w (Some (record { l4 = l4; end = end })) None) P
between_tells P l4 end len true e k = let parts = and_parts (nat_le end len) (nat_le (l4 + 20) end) e in k (leb-true (l4 + 20) end parts.1) (leb-true end len parts.0)
between_tells P l4 end len false e k = tt

segment_tells : (f : List ℕ) (b : Bool) → has_ports (flow_of f) ≡ b → IfSome {T = Segment} (cond b (segment_from (flow_of f) (packet_at f) (drop (packet_at f) f) (length f)) None) (Lies f)
segment_tells f true e =
    let l4 : ℕ = packet_at f + header_len (flow_of f) (drop (packet_at f) f) in
    let end : ℕ = packet_at f + packet_len (flow_of f) (drop (packet_at f) f) in
    between_tells (Lies f) l4 end (length f) (is_whole l4 end (length f)) refl (λ room within. record { ports = e; place = refl; room = room; end = within })
segment_tells f false e = tt

lies : (f : List ℕ) → IfSome (segment f) (Lies f)
unfolding segment_by
lies f = segment_tells f (has_ports (flow_of f)) refl

pub lies_at : (f : List ℕ) (s : Segment) → segment f ≡ Some s → Lies f s
lies_at f s e = subst (λ (o : Option Segment). IfSome o (Lies f)) e (lies f)

-- the bounds of its places
pub within_at : (f : List ℕ) (s : Segment) → segment f ≡ Some s → IsWithin s (length f)
within_at f s e =
    let at : Lies f s = lies_at f s e in
    let header : IsReadable (flow_of f) (drop (packet_at f) f) = readable f at.ports in
    let place = place_least f in
    record {
      header = omega (arith, at.place, header.least, place.0);
      low = omega (arith, at.place, header.most, place.1);
      room = at.room;
      end = at.end;
    }

pub within_of : (o : Option Segment) (f : List ℕ) → o ≡ segment f → IfSome o (λ s. IsWithin s (length f))
within_of None f e = tt
within_of (Some s) f e = within_at f s (sym e)

-- ------------------------------------------------------------ a word in the checksum field

pub field_flow : (f : List ℕ) (s : Segment) (w : ℕ) → segment f ≡ Some s → flow_of (with_field f s w) ≡ flow_of f
field_flow f s w e =
    let at : Lies f s = lies_at f s e in
    flow_same (s.l4 + 16) f (with_field f s w) (agrees_put f (s.l4 + 16) w) at.ports (omega (arith, at.place))

pub field_segment : (f : List ℕ) (s : Segment) (w : ℕ) → segment f ≡ Some s → segment (with_field f s w) ≡ segment f
field_segment f s w e =
    let at : Lies f s = lies_at f s e in
    segment_same (s.l4 + 16) f (with_field f s w) (agrees_put f (s.l4 + 16) w) at.ports (omega (arith, at.place))

pub field_pseudo : (f : List ℕ) (s : Segment) (w : ℕ) → segment f ≡ Some s → pseudo_of (with_field f s w) s ≡ pseudo_of f s
field_pseudo f s w e = let flow = field_flow f s w e in λ i. pseudo_sum (flow i) (s.end - s.l4)

-- counts as itself
pub field_sum : (f : List ℕ) (s : Segment) (w : ℕ) → segment f ≡ Some s → segment_sum (with_field f s w) s ≡ segment_sum (with_field f s 0) s + w
field_sum f s w e =
    let at : Lies f s = lies_at f s e in
    word_sum_part f s.l4 s.end w (omega (arith, at.room)) at.end
