-- What staging comes to.
use Rattle.std.proofs.Common.{vec_len, nat_lt, ne_eqb, ◌≡◌, ◌≢◌, ℕ, ◌+◌, ◌*◌, ◌%◌, ◌^◌, ◌<◌, ◌≤◌, inl, inr, List, [], ◌∷◌, length, take, drop, Bool, true, false, cond, Option, Some, None, sym, refl, ap, ◌∙◌, subst, ⊎_elim, arith, mod-lt}
use Rattle.std.proofs.lemmas.Bool.{lt-ltb, le-ltb}
use Rattle.std.proofs.Math.Nat.{add-mul-mod_self_right, mod-eq_of_lt}
use Rattle.atomic_table.specs.Seated.{TableId}
use mathlib.Core.Logic.{dite}
use native.Mathlib.Decide.{ℕ_discrete}
use Rattle.vmx_ends.specs.Receive.{is_body, is_body_index}
use Rattle.vmx_ends.specs.ReceiveClauses.{made_of}
use Rattle.vmx_ends.specs.declared.made.RxMade.{RxMade}
use Rattle.vmx_ends.specs.declared.made.RxShape.{RxShape}
use Rattle.vmx_ends.specs.declared.meta.RxMeta.{RxMeta}
use Rattle.vmx_rx_ring.specs.declared.known.Buffer.{Buffer}
use Rattle.vmx_rx_ring.specs.declared.known.Entry.{Entry}
use Rattle.vmx_rx_ring.specs.declared.known.DeviceKnows.{DeviceKnows}
use Rattle.vmx_rx_ring.specs.declared.known.Spot.{Spot}
use Rattle.vmx_rx_ring.specs.Words.{count, more_words, slot, room_at, buffer_size, with_bit, tag_in, body_word, body_of, in_data, entry, first_word, lies}
use Rattle.vmx_rx_ring.specs.Rule.{Between}
use Rattle.vmx_rx_ring.specs.Tells.{Seated, with_device, fills, opens, stages, new_entry, took}
use Rattle.vmx_rx_ring.specs.Shapes.{IsTable}
use Rattle.vmx_rx_ring.specs.Words.{spot_of}
use Rattle.vmx_rx_walk.specs.Staging.{IsFor, adds, has_staged, AreFor}
use Rattle.vmx_rx_ring.proofs.Flats.{rest_of}
use Rattle.vmx_rx_ring.proofs.Layouts.{tag_sum, body_is}

pub for_two : (e : DeviceKnows) (b : Bool) (s : Spot) → IsFor e b s → s.ring ≢ 1 → (s.ring ≡ 2) × (s.position ≡ e.gone2) × (s.position < e.seen2)
for_two e true s f n = absurd (n f.0)
for_two e false s f n = ⊎_elim (λ (z : (s.ring ≡ 1) × (s.position ≡ e.gone1) × (s.position < e.seen1)). absurd (n z.0)) (λ (z : (s.ring ≡ 2) × (s.position ≡ e.gone2) × (s.position < e.seen2)). z) f

pub for_head : (e : DeviceKnows) (b : Bool) (s : Spot) → IsFor e b s → b ≡ true → (s.ring ≡ 1) × (s.position ≡ e.head) × (e.gone1 ≤ s.position) × (s.position < e.seen1)
for_head e b s f is = subst (λ (x : Bool). IsFor e x s) is f

pub for_one : (e : DeviceKnows) (b : Bool) (s : Spot) → IsFor e b s → b ≡ false → s.ring ≡ 1 → (s.position ≡ e.gone1) × (s.position < e.seen1)
for_one e b s f is one = ⊎_elim (λ (z : (s.ring ≡ 1) × (s.position ≡ e.gone1) × (s.position < e.seen1)). (z.1, z.2)) (λ (z : (s.ring ≡ 2) × (s.position ≡ e.gone2) × (s.position < e.seen2)). let two = z.0 in absurd (omega arith)) (subst (λ (x : Bool). IsFor e x s) is f)

pub for_reach : (e : DeviceKnows) (b : Bool) (s : Spot) → IsFor e b s → Between e.gone1 e.gone2 s.ring s.position e.seen1 e.seen2
for_reach e true s f = inl (f.0, f.2, f.3)
for_reach e false s f = ⊎_elim (λ (z : (s.ring ≡ 1) × (s.position ≡ e.gone1) × (s.position < e.seen1)). let p = z.1 in inl (z.0, omega arith, z.2)) (λ (z : (s.ring ≡ 2) × (s.position ≡ e.gone2) × (s.position < e.seen2)). let p = z.1 in inr (z.0, omega arith, z.2)) f

-- a piece of ring 2 is no frame's first, so it does not lie in the data ring
pub not_sop : (e : DeviceKnows) (b : Bool) (s : Spot) → IsFor e b s → s.ring ≢ 1 → b ≡ false
not_sop e true s f n = absurd (n f.0)
not_sop e false s f n = refl

pub no_data : (in_entry sop : Bool) → (in_entry ≡ true → sop ≡ true) → sop ≡ false → in_entry ≡ false
no_data true sop whole is = sym (whole refl) ∙ is
no_data false sop whole is = refl

pub took_at : (ring p ring' p' : ℕ) (in_entry in_entry' : Bool) (m m' : Seated) → ring' ≡ ring → p' ≡ p → in_entry' ≡ in_entry → took ring p in_entry m m' → took ring' p' in_entry' m m'
took_at ring p ring' p' in_entry in_entry' m m' a b d t = subst (λ (z : ℕ × ℕ × Bool). took z.0 z.1 z.2 m m') (λ i. (sym a i, sym b i, sym d i)) t

pub first_below : (how : Bool) (a b : TableId) (s : RxShape) (c i : ℕ) → IsTable how a b s → c ≡ count (made_of s) → i < count (made_of s) → c + i < b.words
first_below how a b s c i t is low = let same = ap (λ z. z.words) t.0 in let w = t.1 in omega arith

-- a tag stands above the length
tag_half : (tag : Option ℕ) → (h : ℕ) × (tag_sum tag ≡ 2 ^ 15 * h)
tag_half None = (0, refl)
tag_half (Some tci) = (1 + 2 * tci, omega arith)

-- the length in the second word of a completion
length_by : (len tag h : ℕ) (b : Bool) → tag ≡ 2 ^ 15 * h → len < 2 ^ 14 → with_bit 63 (len + tag + 3 * 2 ^ 56) b % 2 ^ 14 ≡ len
length_by len tag h true half short =
    ap (λ (w : ℕ). w % 2 ^ 14) (let e : len + tag + 3 * 2 ^ 56 + 2 ^ 63 ≡ len + (2 * h + 3 * 2 ^ 42 + 2 ^ 49) * 2 ^ 14 = omega arith in e) ∙ add-mul-mod_self_right len (2 * h + 3 * 2 ^ 42 + 2 ^ 49) (2 ^ 14) ∙ mod-eq_of_lt short
length_by len tag h false half short =
    ap (λ (w : ℕ). w % 2 ^ 14) (let e : len + tag + 3 * 2 ^ 56 + 0 ≡ len + (2 * h + 3 * 2 ^ 42) * 2 ^ 14 = omega arith in e) ∙ add-mul-mod_self_right len (2 * h + 3 * 2 ^ 42) (2 ^ 14) ∙ mod-eq_of_lt short

pub length_in : (tag : Option ℕ) (len : ℕ) (b : Bool) → len < 2 ^ 14 → with_bit 63 (body_word tag len) b % 2 ^ 14 ≡ len
length_in tag len b short = let t = tag_half tag in ap (λ (w : ℕ). with_bit 63 w b % 2 ^ 14) (body_is tag len) ∙ length_by len (tag_sum tag) t.0 b t.1 short

-- the room of a HEAD buffer, and that of a BODY buffer
pub head_room : (m : RxMade) (ring p : ℕ) → 0 < m.size1 → ring ≡ 1 → is_body m p ≡ false → room_at m (slot m ring p) ≡ 2048
head_room m ring p some one head = ap (λ (r : ℕ). room_at m (slot m r p)) one ∙ ap (λ (b : Bool). cond b (buffer_size (is_body_index m.bodies (p % m.size1))) 4096) (lt-ltb (p % m.size1) m.size1 (mod-lt p some)) ∙ ap buffer_size (at_index ∙ head)
  where
    at_index : is_body_index m.bodies (p % m.size1) ≡ is_body m p
    at_index = refl

pub body_room : (m : RxMade) (ring p : ℕ) → 0 < m.size1 → (ring ≡ 1 → is_body m p ≡ true) → room_at m (slot m ring p) ≡ 4096
body_room m ring p some body = dite (ℕ_discrete ring 1)
    (λ one. ap (λ (r : ℕ). room_at m (slot m r p)) one ∙ ap (λ (b : Bool). cond b (buffer_size (is_body_index m.bodies (p % m.size1))) 4096) (lt-ltb (p % m.size1) m.size1 (mod-lt p some)) ∙ ap buffer_size (body one))
    (λ other. ap (λ (b : Bool). room_at m (cond b (p % m.size1) (m.size1 + p % m.size2))) (ne_eqb ring 1 other) ∙ ap (λ (b : Bool). cond b (buffer_size (is_body_index m.bodies (m.size1 + p % m.size2))) 4096) (le-ltb (m.size1 + p % m.size2) m.size1 (let r : ℕ = p % m.size2 in omega arith)))

-- no buffer has more
pub room_most : (m : RxMade) (k : ℕ) → room_at m k ≤ 4096
room_most m k = by_ring (nat_lt k m.size1) (is_body_index m.bodies k)
  where
    by_ring : (b c : Bool) → cond b (buffer_size c) 4096 ≤ 4096
    by_ring true true = omega arith
    by_ring true false = omega arith
    by_ring false c = omega arith

-- the room of the buffer that is out
abbrev pub room_in : List (ℕ × Buffer) → ℕ
room_in [] = 0
room_in (c ∷ cs) = vec_len c.1.bytes

-- the completion that the stores made
pub made_entry : (m : RxMade) (e : DeviceKnows) (ring p : ℕ) (in_entry : Bool) (w0 r : ℕ) (k : ℕ) (x : Buffer) (sop eop : Bool) (meta : RxMeta) (bytes : List ℕ) (b : Bool) → w0 ≡ first_word m sop eop meta (ring, p) (length bytes) → in_entry ≡ in_data m sop eop (length bytes) → r ≡ with_bit 63 (body_of eop meta bytes) b → body_of eop meta bytes < 2 ^ 63 → length bytes ≤ 4096
    → take (length bytes) (lies in_entry x) ≡ bytes → new_entry (opens (fills e ring p in_entry) w0) r ((k, x) ∷ []) ≡ entry m sop eop meta (ring, p) bytes
made_entry m e ring p in_entry w0 r k x sop eop meta bytes b first where_ is small short holds =
    let body : r % 2 ^ 63 ≡ body_of eop meta bytes = ap (λ (w : ℕ). w % 2 ^ 63) is ∙ rest_of (body_of eop meta bytes) b small in
    let piece : take (r % 2 ^ 14) (lies in_entry x) ≡ bytes = ap (λ (n : ℕ). take n (lies in_entry x)) (ap (λ (w : ℕ). w % 2 ^ 14) is ∙ length_in (tag_in eop meta) (length bytes) b (omega arith)) ∙ holds in
    λ i. record { ring = ring; position = p; first = first i; body = body i; in_data = where_ i; bytes = piece i }

-- what the seat is after the three steps
pub staged_so : (m m' : Seated) (e : DeviceKnows) (a : Entry) (r : ℕ) (c : List (ℕ × Buffer)) → m' ≡ (with_device m.0 (stages e (new_entry e r c)), []) → new_entry e r c ≡ a → (m0 : Seated) → m.0 ≡ with_device m0.0 e → stages e a ≡ adds m0.0.device a → m' ≡ (with_device m0.0 (adds m0.0.device a), [])
staged_so m m' e a r c now is m0 was same = now ∙ (λ i. (with_device (was i) (stages e (is i)), [])) ∙ (λ i. (with_device m0.0 (same i), []))

pub new_word : (body w : ℕ) (b : Bool) → w ≡ with_bit 63 0 b → body + w ≡ with_bit 63 body b
new_word body w true is = let v : w ≡ 0 + 2 ^ 63 = is in omega arith
new_word body w false is = let v : w ≡ 0 + 0 = is in omega arith

-- the indices of a completion's words
pub index_two : (n c at len : ℕ) → n ≡ c → at ≡ len → 2 * n + at % n ≡ c + c + len % c
index_two n c at len e f = (λ t. 2 * e t + f t % e t) ∙ (let r : ℕ = len % c in let q : 2 * c + r ≡ c + c + r = omega arith in q)

pub index_three : (n c at len : ℕ) → n ≡ c → at ≡ len → 3 * n + at % n ≡ c + c + c + len % c
index_three n c at len e f = (λ t. 3 * e t + f t % e t) ∙ (let r : ℕ = len % c in let q : 3 * c + r ≡ c + c + c + r = omega arith in q)

pub two_below : (how : Bool) (a b : TableId) (s : RxShape) (n at : ℕ) → IsTable how a b s → n ≡ count (made_of s) → 2 * n + at % n < b.words
two_below how a b s n at t is = let same = ap (λ z. z.words) t.0 in let w = t.1 in let z = t.2.0 in let low : at % n < n = mod-lt at (omega arith) in omega arith

pub three_below : (how : Bool) (a b : TableId) (s : RxShape) (n at : ℕ) → IsTable how a b s → n ≡ count (made_of s) → 3 * n + at % n < b.words
three_below how a b s n at t is = let same = ap (λ z. z.words) t.0 in let w = t.1 in let z = t.2.0 in let low : at % n < n = mod-lt at (omega arith) in omega arith

-- the frames of one, two and three pieces
module _ (mm : RxMade) (m : Seated) (meta : RxMeta) (a b c : Spot) (frame : List ℕ) (none : m.0.device.staged ≡ []) where
  abbrev e : DeviceKnows
  e = m.0.device

  abbrev Ends : ℕ → Seated → Type 0
  Ends n z = z ≡ (with_device m.0 (has_staged mm e n meta a b c frame), [])

  pub frame_two : (n : ℕ) (front rest_ : List ℕ) (m1 m2 : Seated) → n ≡ 1 → front ≡ take 2048 frame → rest_ ≡ drop 2048 frame → m1 ≡ (with_device m.0 (adds e (entry mm true false meta (spot_of a) front)), [])
      → m2 ≡ (with_device m1.0 (adds m1.0.device (entry mm false true meta (spot_of b) rest_)), []) → m2 ≡ (with_device m.0 (has_staged mm e n meta a b c frame), [])
  frame_two n front rest_ m1 m2 one f r is1 is2 = subst (λ (k : ℕ). Ends k m2) (sym one)
      (is2 ∙ (λ i. (with_device (is1 i).0 (adds (is1 i).0.device (entry mm false true meta (spot_of b) (r i))), [])) ∙ (λ i. (with_device m.0 (adds (adds (record e { staged = none i }) (entry mm true false meta (spot_of a) (f i))) (entry mm false true meta (spot_of b) (drop 2048 frame))), [])))

  pub frame_three : (n : ℕ) (front body tail : List ℕ) (m1 m2 m3 : Seated) → n ≡ 2 → front ≡ take 2048 frame → body ≡ take 4096 (drop 2048 frame) → tail ≡ drop 4096 (drop 2048 frame)
      → m1 ≡ (with_device m.0 (adds e (entry mm true false meta (spot_of a) front)), []) → m2 ≡ (with_device m1.0 (adds m1.0.device (entry mm false false meta (spot_of b) body)), [])
      → m3 ≡ (with_device m2.0 (adds m2.0.device (entry mm false true meta (spot_of c) tail)), []) → m3 ≡ (with_device m.0 (has_staged mm e n meta a b c frame), [])
  frame_three n front body tail m1 m2 m3 two f g r is1 is2 is3 = subst (λ (k : ℕ). Ends k m3) (sym two)
      (is3 ∙ (λ i. (with_device (is2 i).0 (adds (is2 i).0.device (entry mm false true meta (spot_of c) (r i))), []))
      ∙ (λ i. (with_device (is1 i).0 (adds (adds (is1 i).0.device (entry mm false false meta (spot_of b) (g i))) (entry mm false true meta (spot_of c) (drop 4096 (drop 2048 frame)))), []))
      ∙ (λ i. (with_device m.0 (adds (adds (adds (record e { staged = none i }) (entry mm true false meta (spot_of a) (f i))) (entry mm false false meta (spot_of b) (take 4096 (drop 2048 frame)))) (entry mm false true meta (spot_of c) (drop 4096 (drop 2048 frame)))), [])))

  pub reach_two : (n : ℕ) (front : List ℕ) (m1 : Seated) → n ≡ 2 → AreFor e n a b c → m1 ≡ (with_device m.0 (adds e (entry mm true false meta (spot_of a) front)), []) → IsFor m1.0.device false b
  reach_two n front m1 two f is = subst (λ (z : Seated). IsFor z.0.device false b) (sym is) (subst (λ (k : ℕ). AreFor e k a b c) two f).1

  pub reach_three : (n : ℕ) (front body : List ℕ) (m1 m2 : Seated) → n ≡ 2 → AreFor e n a b c → m1 ≡ (with_device m.0 (adds e (entry mm true false meta (spot_of a) front)), []) → m2 ≡ (with_device m1.0 (adds m1.0.device (entry mm false false meta (spot_of b) body)), [])
      → IsFor m2.0.device false c
  reach_three n front body m1 m2 two f is1 is2 = subst (λ (z : Seated). IsFor z.0.device false c) (sym (is2 ∙ (λ i. (with_device (is1 i).0 (adds (is1 i).0.device (entry mm false false meta (spot_of b) body)), [])))) (subst (λ (k : ℕ). AreFor e k a b c) two f).2

pub four_below : (how : Bool) (a b : TableId) (s : RxShape) (n : ℕ) → how ≡ true → IsTable how a b s → n ≡ count (made_of s) → 4 * n < b.words
four_below how a b s n so t is = let one = ap more_words so in let same = ap (λ z. z.words) t.0 in let w = t.1 in omega arith
