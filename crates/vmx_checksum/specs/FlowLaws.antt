-- What a frame's flow and its segment are told by: the frame's length, and its first bytes up to the ports.
use Rattle.std.proofs.Common.{◌≡◌, ℕ, ◌+◌, ◌-◌, ◌*◌, ◌/◌, ◌%◌, ◌<◌, ◌≤◌, Bool, true, false, cond, ◌&&◌, nat_le, ◌==◌, leb-true, List, length, take, drop, slice_index, slice_range, Option, Some, None, refl, sym, ap, ◌∙◌, subst, arith, get_or-take, take-take, length-drop}
use Rattle.std.proofs.lemmas.List.{drop-take}
use Rattle.std.proofs.lemmas.Slice.{between_is}
use Rattle.std.proofs.lemmas.Bool.{and_parts, false≢true}
use Rattle.vmx_frame.specs.Bytes.{u16_at}
use Rattle.vmx_frame.specs.Ethernet.{is_tagged}
use Rattle.vmx_frame.specs.Internet.{v4_header_len, is_v4, has_v4_ports, v4_source, v4_target, v4_of, v6_of, ports_of, payload_flow, flow_of}
use Rattle.vmx_frame.specs.declared.kinds.Ports.{Ports}
use Rattle.vmx_frame.specs.declared.kinds.Flow.{Flow}
use Rattle.vmx_frame.specs.declared.kinds.Flow.TheVariants.{NonIp, V4, V6}
use Rattle.vmx_checksum.specs.declared.answer.Segment.{Segment}
use Rattle.vmx_checksum.specs.Segment.{packet_at, has_ports, header_len, packet_len, segment_between, segment_by, segment}
use Rattle.vmx_checksum.specs.Words.{put_word}
use Rattle.vmx_checksum.specs.WordLaws.{put_word_length, put_word_front}

-- ------------------------------------------------------------ frames that begin alike

-- of the same length, and the first n bytes are the same
pub record Agrees (n : ℕ) (f g : List ℕ) : Type 0 where
  pub len : length f ≡ length g
  pub front : take n f ≡ take n g

pub agrees_less : (m n : ℕ) (f g : List ℕ) → m ≤ n → Agrees n f g → Agrees m f g
agrees_less m n f g h a = record {
  len = a.len;
  front = sym (take-take m n f h) ∙ ap (λ (xs : List ℕ). take m xs) a.front ∙ take-take m n g h;
}

pub agrees_drop : (k n : ℕ) (f g : List ℕ) → Agrees (k + n) f g → Agrees n (drop k f) (drop k g)
agrees_drop k n f g a = record {
  len = length-drop k f ∙ ap (λ (l : ℕ). l - k) a.len ∙ sym (length-drop k g);
  front = sym (drop-take k n f) ∙ ap (λ (xs : List ℕ). drop k xs) a.front ∙ drop-take k n g;
}

pub agrees_at : (n : ℕ) (f g : List ℕ) → Agrees n f g → (i : ℕ) → i < n → slice_index f i ≡ slice_index g i
agrees_at n f g a i h = sym (get_or-take n f i 0 h) ∙ ap (λ (xs : List ℕ). slice_index xs i) a.front ∙ get_or-take n g i 0 h

pub agrees_word : (n : ℕ) (f g : List ℕ) → Agrees n f g → (at : ℕ) → at + 2 ≤ n → u16_at f at ≡ u16_at g at
agrees_word n f g a at h =
    let high = agrees_at n f g a at (omega arith) in
    let low = agrees_at n f g a (at + 1) (omega arith) in λ i. high i * 256 + low i

pub agrees_range : (n : ℕ) (f g : List ℕ) → Agrees n f g → (i j : ℕ) → j ≤ n → slice_range f i j ≡ slice_range g i j
agrees_range n f g a i j h =
    between_is f i j ∙ ap (λ (xs : List ℕ). drop i xs) (sym (take-take j n f h) ∙ ap (λ (xs : List ℕ). take j xs) a.front ∙ take-take j n g h) ∙ sym (between_is g i j)

-- a word stored behind them
pub agrees_put : (f : List ℕ) (at w : ℕ) → Agrees at f (put_word f at w)
agrees_put f at w = record { len = sym (put_word_length f at w); front = sym (put_word_front at f at w (omega arith)) }

-- ------------------------------------------------------------ packets

-- a header that is there, of 20 to 60 bytes
pub record IsReadable (flow : Flow) (packet : List ℕ) : Type 0 where
  pub least : 20 ≤ header_len flow packet
  pub most : header_len flow packet ≤ 60
  pub long : 20 ≤ length packet

v4_parts : (p : List ℕ) → is_v4 p ≡ true → (20 ≤ length p) × (20 ≤ v4_header_len p)
v4_parts p h =
    let d = and_parts (nat_le 20 (length p) && slice_index p 0 / 16 == 4 && nat_le 20 (v4_header_len p)) (nat_le (v4_header_len p) (length p)) h in
    let c = and_parts (nat_le 20 (length p) && slice_index p 0 / 16 == 4) (nat_le 20 (v4_header_len p)) d.0 in
    let a = and_parts (nat_le 20 (length p)) (slice_index p 0 / 16 == 4) c.0 in
    (leb-true 20 (length p) a.0, leb-true 20 (v4_header_len p) c.1)

-- an IPv4 packet, or none
v4_if : Bool → List ℕ → Flow
v4_if b p = cond b (V4 (v4_source p) (v4_target p) (ports_of (has_v4_ports p) p (v4_header_len p))) NonIp

v4_readable : (p : List ℕ) (b : Bool) → is_v4 p ≡ b → has_ports (v4_if b p) ≡ true → IsReadable (v4_if b p) p
unfolding v4_if
v4_readable p true e h = let parts = v4_parts p e in record { least = parts.1; most = omega arith; long = parts.0 }
v4_readable p false e h = absurd (false≢true h)

v4_header : (p : List ℕ) (b : Bool) → has_ports (v4_if b p) ≡ true → header_len (v4_if b p) p ≡ v4_header_len p
unfolding v4_if
v4_header p true h = refl
v4_header p false h = absurd (false≢true h)

-- an IPv4 packet by what is read of it
abbrev v4_by : ℕ → ℕ → ℕ → ℕ → List ℕ → List ℕ → ℕ → ℕ → Flow
v4_by len first fragment protocol source target from to =
    cond (nat_le 20 len && first / 16 == 4 && nat_le 20 (first % 16 * 4) && nat_le (first % 16 * 4) len) (V4 source target (cond (protocol == 6 && fragment % 16384 == 0 && nat_le (first % 16 * 4 + 20) len) (Some (record { source = from; target = to })) None)) NonIp

v4_same : (n : ℕ) (p q : List ℕ) → Agrees n p q → 20 ≤ n → v4_header_len p + 4 ≤ n → v4_of p ≡ v4_of q
v4_same n p q a least low =
    let first = agrees_at n p q a 0 (omega arith) in
    let fragment = agrees_word n p q a 6 (omega arith) in
    let protocol = agrees_at n p q a 9 (omega arith) in
    let source = agrees_range n p q a 12 16 (omega arith) in
    let target = agrees_range n p q a 16 20 (omega arith) in
    let from : u16_at p (v4_header_len p) ≡ u16_at q (v4_header_len q) = agrees_word n p q a (v4_header_len p) (omega arith) ∙ ap (λ (x : ℕ). u16_at q (x % 16 * 4)) first in
    let to : u16_at p (v4_header_len p + 2) ≡ u16_at q (v4_header_len q + 2) = agrees_word n p q a (v4_header_len p + 2) (omega arith) ∙ ap (λ (x : ℕ). u16_at q (x % 16 * 4 + 2)) first in
    λ i. v4_by (a.len i) (first i) (fragment i) (protocol i) (source i) (target i) (from i) (to i)

-- an IPv6 packet, or none
v6_if : Bool → List ℕ → Flow
v6_if b p = cond b (V6 (slice_range p 8 24) (slice_range p 24 40) (ports_of (slice_index p 6 == 6 && nat_le 60 (length p)) p 40)) NonIp

abbrev is_v6 : List ℕ → Bool
is_v6 p = nat_le 40 (length p) && slice_index p 0 / 16 == 6

v6_header : (p : List ℕ) (b : Bool) → header_len (v6_if b p) p ≡ 40
unfolding v6_if
v6_header p true = refl
v6_header p false = refl

v6_readable : (p : List ℕ) (b : Bool) → is_v6 p ≡ b → has_ports (v6_if b p) ≡ true → IsReadable (v6_if b p) p
unfolding v6_if
v6_readable p true e h = let parts = and_parts (nat_le 40 (length p)) (slice_index p 0 / 16 == 6) e in record { least = omega arith; most = omega arith; long = omega (arith, leb-true 40 (length p) parts.0) }
v6_readable p false e h = absurd (false≢true h)

-- an IPv6 packet by what is read of it
abbrev v6_by : ℕ → ℕ → ℕ → List ℕ → List ℕ → ℕ → ℕ → Flow
v6_by len first following source target from to =
    cond (nat_le 40 len && first / 16 == 6) (V6 source target (cond (following == 6 && nat_le 60 len) (Some (record { source = from; target = to })) None)) NonIp

v6_same : (n : ℕ) (p q : List ℕ) → Agrees n p q → 44 ≤ n → v6_of p ≡ v6_of q
v6_same n p q a low =
    let first = agrees_at n p q a 0 (omega arith) in
    let following = agrees_at n p q a 6 (omega arith) in
    let source = agrees_range n p q a 8 24 (omega arith) in
    let target = agrees_range n p q a 24 40 (omega arith) in
    let from = agrees_word n p q a 40 (omega arith) in
    let to = agrees_word n p q a 42 (omega arith) in
    λ i. v6_by (a.len i) (first i) (following i) (source i) (target i) (from i) (to i)

-- the packet by the tests on its type
abbrev payload_by : Bool → Bool → List ℕ → Flow
payload_by b c p = cond b (v4_of p) (cond c (v6_of p) NonIp)

payload_readable : (b c : Bool) (p : List ℕ) → has_ports (payload_by b c p) ≡ true → IsReadable (payload_by b c p) p
unfolding v4_if v6_if
payload_readable true c p h = v4_readable p (is_v4 p) refl h
payload_readable false true p h = v6_readable p (is_v6 p) refl h
payload_readable false false p h = absurd (false≢true h)

payload_same : (b c : Bool) (n : ℕ) (p q : List ℕ) → Agrees n p q → has_ports (payload_by b c p) ≡ true → header_len (payload_by b c p) p + 4 ≤ n → payload_by b c p ≡ payload_by b c q
unfolding v4_if v6_if
payload_same true c n p q a h low =
    let header : header_len (v4_of p) p ≡ v4_header_len p = v4_header p (is_v4 p) h in
    let readable : IsReadable (v4_of p) p = v4_readable p (is_v4 p) refl h in
    let least : 20 ≤ header_len (v4_of p) p = readable.least in
    let low' : header_len (v4_of p) p + 4 ≤ n = low in
    v4_same n p q a (omega arith) (omega arith)
payload_same false true n p q a h low =
    let header : header_len (v6_of p) p ≡ 40 = v6_header p (is_v6 p) in
    let low' : header_len (v6_of p) p + 4 ≤ n = low in
    v6_same n p q a (omega arith)
payload_same false false n p q a h low = refl

-- ------------------------------------------------------------ frames

-- the flow by the test on the tag
flow_by : Bool → List ℕ → Flow
flow_by t f = cond t (payload_by (u16_at f 16 == 2048) (u16_at f 16 == 34525) (drop 18 f)) (payload_by (u16_at f 12 == 2048) (u16_at f 12 == 34525) (drop 14 f))

abbrev place_by : Bool → ℕ
place_by t = cond t 18 14

flow_is : (f : List ℕ) → flow_of f ≡ flow_by (is_tagged f) f
unfolding flow_of payload_flow flow_by
flow_is f = refl

flow_readable : (f : List ℕ) (t : Bool) → has_ports (flow_by t f) ≡ true → IsReadable (flow_by t f) (drop (place_by t) f)
unfolding flow_by
flow_readable f true h = payload_readable (u16_at f 16 == 2048) (u16_at f 16 == 34525) (drop 18 f) h
flow_readable f false h = payload_readable (u16_at f 12 == 2048) (u16_at f 12 == 34525) (drop 14 f) h

-- a frame with ports has a header to be read
pub readable : (f : List ℕ) → has_ports (flow_of f) ≡ true → IsReadable (flow_of f) (drop (packet_at f) f)
readable f h =
    let there : has_ports (flow_by (is_tagged f) f) ≡ true = subst (λ (x : Flow). has_ports x ≡ true) (flow_is f) h in
    subst (λ (x : Flow). IsReadable x (drop (packet_at f) f)) (sym (flow_is f)) (flow_readable f (is_tagged f) there)

pub place_least : (f : List ℕ) → (14 ≤ packet_at f) × (packet_at f ≤ 18)
place_least f = step (is_tagged f)
  where
    step : (t : Bool) → (14 ≤ place_by t) × (place_by t ≤ 18)
    step true = (omega arith, omega arith)
    step false = (omega arith, omega arith)

-- its packet is long enough for the header's lengths
pub long_packet : (f : List ℕ) (at : ℕ) → at ≡ packet_at f → has_ports (flow_of f) ≡ true → 20 ≤ length (drop at f)
long_packet f at e h = let header : IsReadable (flow_of f) (drop (packet_at f) f) = readable f h in subst (λ (k : ℕ). 20 ≤ length (drop k f)) (sym e) header.long

pub tagged_same : (n : ℕ) (f g : List ℕ) → Agrees n f g → 14 ≤ n → is_tagged f ≡ is_tagged g
unfolding is_tagged
tagged_same n f g a h = let kind = agrees_word n f g a 12 (omega arith) in λ i. nat_le 18 (a.len i) && kind i == 33024

flow_by_same : (t : Bool) (n : ℕ) (f g : List ℕ) → Agrees n f g → has_ports (flow_by t f) ≡ true → place_by t + header_len (flow_by t f) (drop (place_by t) f) + 4 ≤ n → flow_by t f ≡ flow_by t g
unfolding flow_by
flow_by_same true n f g a h low =
    let kind : u16_at f 16 ≡ u16_at g 16 = agrees_word n f g a 16 (omega (arith, low)) in
    let rest : Agrees (n - 18) (drop 18 f) (drop 18 g) = agrees_drop 18 (n - 18) f g (agrees_less (18 + (n - 18)) n f g (omega (arith, low)) a) in
    payload_same (u16_at f 16 == 2048) (u16_at f 16 == 34525) (n - 18) (drop 18 f) (drop 18 g) rest h (omega (arith, low))
    ∙ ap (λ (k : ℕ). payload_by (k == 2048) (k == 34525) (drop 18 g)) kind
flow_by_same false n f g a h low =
    let kind : u16_at f 12 ≡ u16_at g 12 = agrees_word n f g a 12 (omega (arith, low)) in
    let rest : Agrees (n - 14) (drop 14 f) (drop 14 g) = agrees_drop 14 (n - 14) f g (agrees_less (14 + (n - 14)) n f g (omega (arith, low)) a) in
    payload_same (u16_at f 12 == 2048) (u16_at f 12 == 34525) (n - 14) (drop 14 f) (drop 14 g) rest h (omega (arith, low))
    ∙ ap (λ (k : ℕ). payload_by (k == 2048) (k == 34525) (drop 14 g)) kind

-- a frame that begins as one with ports, up to behind them, has its flow
pub flow_same : (n : ℕ) (f g : List ℕ) → Agrees n f g → has_ports (flow_of f) ≡ true → packet_at f + header_len (flow_of f) (drop (packet_at f) f) + 4 ≤ n → flow_of g ≡ flow_of f
flow_same n f g a h low =
    let there : has_ports (flow_by (is_tagged f) f) ≡ true = subst (λ (x : Flow). has_ports x ≡ true) (flow_is f) h in
    let low' : place_by (is_tagged f) + header_len (flow_by (is_tagged f) f) (drop (place_by (is_tagged f)) f) + 4 ≤ n = subst (λ (x : Flow). packet_at f + header_len x (drop (packet_at f) f) + 4 ≤ n) (flow_is f) low in
    let place = place_least f in
    let tagged : is_tagged f ≡ is_tagged g = tagged_same n f g a (omega (arith, low, place.0)) in
    sym (flow_is f ∙ flow_by_same (is_tagged f) n f g a there low' ∙ ap (λ (t : Bool). flow_by t g) tagged ∙ sym (flow_is g))

header_same : (flow : Flow) (n : ℕ) (p q : List ℕ) → Agrees n p q → 6 ≤ n → header_len flow p ≡ header_len flow q
header_same NonIp n p q a h = refl
header_same (V4 source target ports) n p q a h = ap (λ (x : ℕ). x % 16 * 4) (agrees_at n p q a 0 (omega arith))
header_same (V6 source target ports) n p q a h = refl

packet_same : (flow : Flow) (n : ℕ) (p q : List ℕ) → Agrees n p q → 6 ≤ n → packet_len flow p ≡ packet_len flow q
packet_same NonIp n p q a h = ap (λ (x : ℕ). 40 + x) (agrees_word n p q a 4 (omega arith))
packet_same (V4 source target ports) n p q a h = agrees_word n p q a 2 (omega arith)
packet_same (V6 source target ports) n p q a h = ap (λ (x : ℕ). 40 + x) (agrees_word n p q a 4 (omega arith))

-- and its segment
pub segment_same : (n : ℕ) (f g : List ℕ) → Agrees n f g → has_ports (flow_of f) ≡ true → packet_at f + header_len (flow_of f) (drop (packet_at f) f) + 4 ≤ n → segment g ≡ segment f
unfolding segment_by
segment_same n f g a h low =
    let flow : flow_of g ≡ flow_of f = flow_same n f g a h low in
    let place = place_least f in
    let header : IsReadable (flow_of f) (drop (packet_at f) f) = readable f h in
    let rest : Agrees (n - packet_at f) (drop (packet_at f) f) (drop (packet_at f) g) = agrees_drop (packet_at f) (n - packet_at f) f g (agrees_less (packet_at f + (n - packet_at f)) n f g (omega (arith, low)) a) in
    let six : 6 ≤ n - packet_at f = omega (arith, low, header.least) in
    let tagged : is_tagged g ≡ is_tagged f = sym (tagged_same n f g a (omega (arith, low, place.0))) in
    let at : packet_at g ≡ packet_at f = ap place_by tagged in
    let l4 : header_len (flow_of f) (drop (packet_at g) g) ≡ header_len (flow_of f) (drop (packet_at f) f) = ap (λ (k : ℕ). header_len (flow_of f) (drop k g)) at ∙ sym (header_same (flow_of f) (n - packet_at f) (drop (packet_at f) f) (drop (packet_at f) g) rest six) in
    let len : packet_len (flow_of f) (drop (packet_at g) g) ≡ packet_len (flow_of f) (drop (packet_at f) f) = ap (λ (k : ℕ). packet_len (flow_of f) (drop k g)) at ∙ sym (packet_same (flow_of f) (n - packet_at f) (drop (packet_at f) f) (drop (packet_at f) g) rest six) in
    let whole = sym a.len in
    ap (λ (x : Flow). segment_by x g) flow
    ∙ (λ i. cond (has_ports (flow_of f)) (segment_between (at i + l4 i) (at i + len i) (whole i)) None)
