-- What the driver's reading comes to.
use Rattle.std.proofs.Common.{vec_len, ◌≡◌, ◌≢◌, ℕ, suc, ◌+◌, ◌-◌, ◌/◌, ◌%◌, ◌^◌, ◌<◌, ◌≤◌, ◌⊎◌, ◌==◌, List, [], ◌∷◌, ◌++◌, length, take, Bool, true, false, cond, sym, refl, ap, ◌∙◌, subst, ⊎_elim, arith, mod-lt}
use mathlib.Core.Option.{some-injective}
use Rattle.atomic_table.specs.Seated.{TableId}
use Rattle.atomic_table.proofs.Lists.{one_turn}
use Rattle.vmx_ends.specs.ReceiveClauses.{made_of}
use Rattle.vmx_ends.specs.declared.made.RxMade.{RxMade}
use Rattle.vmx_ends.specs.declared.made.RxShape.{RxShape}
use Rattle.vmx_rx_ring.specs.declared.known.Buffer.{Buffer}
use Rattle.vmx_rx_ring.specs.declared.known.Entry.{Entry}
use Rattle.vmx_rx_ring.specs.declared.known.DriverKnows.{DriverKnows}
use Rattle.vmx_rx_ring.specs.declared.known.Known.{Known}
use Rattle.vmx_rx_ring.specs.Words.{room_at, tag_in, slot, slot_of, index_in, with_bit, lies as part}
use Rattle.vmx_rx_ring.specs.Tells.{Seated, with_driver, IsNext, reads}
use Rattle.std.proofs.lemmas.List.{length-take}
use Rattle.std.specs.Prelude.{min}
use Rattle.vmx_rx_walk.proofs.Stagings.{length_in}
use Rattle.vmx_rx_ring.specs.Shapes.{IsTable}
use Rattle.vmx_rx_walk.specs.Reading.{IsDue, has_read, CanRead, CanSkip, Holds, ReadsNext}

min_right : (a b : ℕ) → min a b ≤ b
min_right a b = omega arith

pub not_yet : (s : RxShape) (m : Seated) (fuel index back1 : ℕ) (c : CanSkip s m fuel index) → back1 ≡ m.0.driver.back1 → back1 % s.size1 ≢ index → m.0.driver.back1 < c.piece.position
not_yet s m fuel index back1 c is other = let low = c.below in let apart : m.0.driver.back1 ≢ c.piece.position = λ e. other (ap (λ (p : ℕ). p % s.size1) (is ∙ e) ∙ sym c.at) in omega arith

pub there_now : (s : RxShape) (m : Seated) (fuel index back1 : ℕ) (c : CanSkip s m fuel index) → back1 ≡ m.0.driver.back1 → back1 % s.size1 ≡ index → (x : Entry) → IsNext m.0 x → back1 ≡ x.position
there_now s m fuel index back1 c is here x next = let low = c.below in let near = c.near in let lap = c.lap in let same : c.piece ≡ x = some-injective c.piece x (sym c.next ∙ next) in
    one_turn back1 c.piece.position s.size1 (omega arith) (omega arith) (here ∙ c.at) ∙ ap (λ (z : Entry). z.position) same

pub skips_on : (s : RxShape) (m m1 : Seated) (fuel index : ℕ) (c : CanSkip s m fuel index) → m1 ≡ (with_driver m.0 (record m.0.driver { back1 = suc m.0.driver.back1 }), m.1) → m.0.driver.back1 < c.piece.position → CanSkip s m1 (fuel - 1) index
skips_on s m m1 fuel index c is less = let near = c.near in let lap = c.lap in subst (λ (z : Seated). CanSkip s z (fuel - 1) index) (sym is)
    record { piece = c.piece; next = c.next; one = c.one; at = c.at; below = omega arith; near = omega arith; lap = omega arith }

pub returned_below : (how : Bool) (a b : TableId) (s : RxShape) (p : ℕ) → IsTable how a b s → p % s.size1 < b.words
returned_below how a b s p t = let same = ap (λ z. z.words) t.0 in let w = t.1 in let b1 = t.2.0 in let b2 = t.2.2 in let l : p % s.size1 < s.size1 = mod-lt p (omega arith) in omega arith

pub slot1_is : (s : RxShape) (m : RxMade) (x : Entry) (at : ℕ) → m ≡ made_of s → x.ring ≡ 1 → at ≡ x.position % s.size1 → at ≡ slot_of m x
slot1_is s m x at same one is = is ∙ (λ i. slot (sym same i) (sym one i) x.position)

pub slot2_is : (s : RxShape) (m : RxMade) (x : Entry) (at : ℕ) → m ≡ made_of s → x.ring ≡ 2 → at ≡ x.position % s.size2 → s.size1 + at ≡ slot_of m x
slot2_is s m x at same two is = ap (λ (a : ℕ). s.size1 + a) is ∙ (λ i. slot (sym same i) (sym two i) x.position)

pub due_one : (s : RxShape) (g : DriverKnows) (x : Entry) → IsDue s g x → x.ring ≡ 1 → (g.back1 ≤ x.position) × (x.position < g.back1 + s.size1)
due_one s g x d one = ⊎_elim (λ (z : (x.ring ≡ 1) × (g.back1 ≤ x.position) × (x.position < g.back1 + s.size1)). (z.1, z.2)) (λ (z : (x.ring ≡ 2) × (x.position ≡ g.back2)). let two = z.0 in absurd (omega arith)) d

pub due_two : (s : RxShape) (g : DriverKnows) (x : Entry) → IsDue s g x → x.ring ≡ 2 → x.position ≡ g.back2
due_two s g x d two = ⊎_elim (λ (z : (x.ring ≡ 1) × (g.back1 ≤ x.position) × (x.position < g.back1 + s.size1)). let one = z.0 in absurd (omega arith)) (λ (z : (x.ring ≡ 2) × (x.position ≡ g.back2)). z.1) d

pub has_read_one : (g : DriverKnows) (x : Entry) (p : ℕ) → x.ring ≡ 1 → p ≡ x.position → record g { back1 = suc p; read = suc g.read; reading = false } ≡ record (has_read g x) { reading = false }
has_read_one g x p one is = λ i. record g { back1 = (ap suc is ∙ sym (ap (λ (r : ℕ). cond (r == 1) (suc x.position) g.back1) one)) i; back2 = sym (ap (λ (r : ℕ). cond (r == 1) g.back2 (suc x.position)) one) i; read = suc g.read; reading = false }

pub has_read_two : (g : DriverKnows) (x : Entry) (p : ℕ) → x.ring ≡ 2 → p ≡ x.position → record g { back2 = suc p; read = suc g.read; reading = false } ≡ record (has_read g x) { reading = false }
has_read_two g x p two is = λ i. record g { back1 = sym (ap (λ (r : ℕ). cond (r == 1) (suc x.position) g.back1) two) i; back2 = (ap suc is ∙ sym (ap (λ (r : ℕ). cond (r == 1) g.back2 (suc x.position)) two)) i; read = suc g.read; reading = false }

pub same_next : (v : Known) (x y : Entry) → IsNext v x → IsNext v y → x ≡ y
same_next v x y p q = some-injective x y (sym p ∙ q)

-- what reading a piece comes to, once its store is done
pub reads_two : (s : RxShape) (m m' : Seated) (v : Known) (into : List ℕ) (at len room : ℕ) (h : Holds s m 2 at len room false) → v ≡ m.0 → m' ≡ (with_driver v (record v.driver { back2 = suc v.driver.back2; read = suc v.driver.read; reading = false }), [])
    → (into' : List ℕ) → into' ≡ into ++ take len (part false h.buffer) → ReadsNext m into m' into'
reads_two s m m' v into at len room h same now into' is x next = let e = same_next m.0 h.piece x h.next next in let here = due_two s m.0.driver h.piece h.due h.ring_is in (
  now ∙ (λ i. (with_driver (same i) (record (same i).driver { back2 = suc (same i).driver.back2; read = suc (same i).driver.read; reading = false }), [])) ∙ (λ i. (with_driver m.0 (has_read_two m.0.driver h.piece m.0.driver.back2 h.ring_is (sym here) i), [])) ∙ (λ i. (with_driver m.0 (record (has_read m.0.driver (e i)) { reading = false }), [])),
  is ∙ ap (λ l. into ++ l) (ap (λ (n : ℕ). take n (part false h.buffer)) h.len_is ∙ h.bytes ∙ ap (λ (z : Entry). z.bytes) e),
)

pub reads_one : (s : RxShape) (m m' : Seated) (v : Known) (into : List ℕ) (at len room back : ℕ) (in_entry : Bool) (h : Holds s m 1 at len room in_entry) → v ≡ with_driver m.0 (record m.0.driver { back1 = back }) → back ≡ h.piece.position → m' ≡ (with_driver v (record v.driver { back1 = suc v.driver.back1; read = suc v.driver.read; reading = false }), [])
    → (into' : List ℕ) → into' ≡ into ++ take len (part in_entry h.buffer) → ReadsNext m into m' into'
reads_one s m m' v into at len room back in_entry h same here now into' is x next = let e = same_next m.0 h.piece x h.next next in (
  now ∙ (λ i. (with_driver (same i) (record (same i).driver { back1 = suc (same i).driver.back1; read = suc (same i).driver.read; reading = false }), [])) ∙ (λ i. (with_driver m.0 (has_read_one m.0.driver h.piece back h.ring_is here i), [])) ∙ (λ i. (with_driver m.0 (record (has_read m.0.driver (e i)) { reading = false }), [])),
  is ∙ ap (λ l. into ++ l) (ap (λ (n : ℕ). take n (part in_entry h.buffer)) h.len_is ∙ h.bytes ∙ ap (λ (z : Entry). z.bytes) e),
)

pub second_below : (how : Bool) (a b : TableId) (s : RxShape) (p : ℕ) → IsTable how a b s → s.size1 + p % s.size2 < b.words
second_below how a b s p t = let same = ap (λ z. z.words) t.0 in let w = t.1 in let b1 = t.2.0 in let b2 = t.2.2 in let l : p % s.size2 < s.size2 = mod-lt p (omega arith) in omega arith

part_room : (in_entry : Bool) (b : Buffer) → length (part in_entry b) ≤ 4096
part_room true b = let r = b.entry_room in omega arith
part_room false b = let r = b.room in omega arith

-- a piece that a buffer has is no longer than that
pub within : (s : RxShape) (m : Seated) (ring at len room : ℕ) (in_entry : Bool) (h : Holds s m ring at len room in_entry) → len ≤ length (part in_entry h.buffer)
within s m ring at len room in_entry h = let l = ap length h.bytes in let t = length-take (length h.piece.bytes) (part in_entry h.buffer) in let k = min_right (length h.piece.bytes) (length (part in_entry h.buffer)) in let is = h.len_is in omega arith

-- the piece that is out, after the load of its first word
pub holds_now : (s : RxShape) (m m1 : Seated) (ring second room r : ℕ) (in_entry : Bool) (c : CanRead s m second room) → m.0.made ≡ made_of s → c.piece.ring ≡ ring → c.piece.in_data ≡ in_entry
    → ((x : Entry) × IsNext m.0 x × (r ≡ x.first) × (b : Buffer) × (m1 ≡ (with_driver m.0 (reads m.0.driver), (slot_of m.0.made x, b) ∷ [])) × (take (length x.bytes) (part x.in_data b) ≡ x.bytes) × (vec_len b.bytes ≡ room_at m.0.made (slot_of m.0.made x))) → Holds s m1 ring (r % 4096) (second % 2 ^ 14) room in_entry
holds_now s m m1 ring second room r in_entry c made one lies_ g = let x : Entry = c.piece in let same : g.0 ≡ x = same_next m.0 g.0 x g.1 c.next in let b : Buffer = g.3 in
    let bytes : take (length x.bytes) (part in_entry b) ≡ x.bytes = subst (λ (d : Bool). take (length x.bytes) (part d b) ≡ x.bytes) lies_ (subst (λ (z : Entry). take (length z.bytes) (part z.in_data b) ≡ z.bytes) same g.5) in
    let short : length x.bytes ≤ 4096 = (let l = ap length bytes in let t = length-take (length x.bytes) (part in_entry b) in let k = min_right (length x.bytes) (length (part in_entry b)) in let room = part_room in_entry b in omega arith) in
    subst (λ (z : Seated). Holds s z ring (r % 4096) (second % 2 ^ 14) room in_entry) (sym g.4) record {
      piece = x;
      buffer = b;
      next = c.next;
      ring_is = one;
      at_is = ap (λ (w : ℕ). w % 4096) (g.2 ∙ ap (λ (z : Entry). z.first) same) ∙ c.points.0 ∙ ap (λ (q : ℕ). index_in (made_of s) (q, x.position)) one;
      due = c.due;
      out = λ i. (slot_of m.0.made (same i), b) ∷ [];
      bytes = bytes;
      room_is = subst (λ (z : Entry). vec_len b.bytes ≡ room_at m.0.made (slot_of m.0.made z)) same g.6;
      len_is = ap (λ (w : ℕ). w % 2 ^ 14) (c.word.1 ∙ ap (λ (w : ℕ). with_bit 63 w c.word.0) c.body) ∙ length_in (tag_in c.eop c.meta) (length x.bytes) c.word.0 (omega arith);
      fits = c.fits;
    }

-- where the piece lies, by the ring that its first word tells
abbrev pub told_id : ℕ → ℕ
told_id first = first / 65536 % 1024

pub piece_ring : (s : RxShape) (m : Seated) (second room r : ℕ) (c : CanRead s m second room) → r ≡ c.piece.first → ((told_id r < s.queues) ⊎ (s.queues + s.queues ≤ told_id r) → c.piece.ring ≡ 1) × ((s.queues ≤ told_id r) × (told_id r < s.queues + s.queues) → c.piece.ring ≡ 2)
piece_ring s m second room r c is = let same = ap told_id is in ⊎_elim
    (λ (z : (c.piece.ring ≡ 1) × (c.piece.in_data ≡ false) × (told_id c.piece.first < s.queues)). let l = z.2 in ((λ _. z.0), λ h. let h0 = h.0 in absurd (omega arith)))
    (⊎_elim
    (λ (z : (c.piece.ring ≡ 2) × (c.piece.in_data ≡ false) × (s.queues ≤ told_id c.piece.first) × (told_id c.piece.first < s.queues + s.queues)). let l = z.2 in let u = z.3 in ((⊎_elim (λ (h : told_id r < s.queues). absurd (omega arith)) (λ (h : s.queues + s.queues ≤ told_id r). absurd (omega arith))), λ _. z.0))
    (λ (z : (c.piece.ring ≡ 1) × (c.piece.in_data ≡ true) × (s.queues + s.queues ≤ told_id c.piece.first)). let l = z.2 in ((λ _. z.0), λ h. let h1 = h.1 in absurd (omega arith))))
    c.points.2

pub piece_part : (s : RxShape) (m : Seated) (second room r : ℕ) (in_entry : Bool) (c : CanRead s m second room) → r ≡ c.piece.first → (in_entry ≡ true → s.queues + s.queues ≤ told_id r) → (in_entry ≡ false → told_id r < s.queues + s.queues) → c.piece.in_data ≡ in_entry
piece_part s m second room r true c is more less = let same = ap told_id is in let far = more refl in ⊎_elim
    (λ (z : (c.piece.ring ≡ 1) × (c.piece.in_data ≡ false) × (told_id c.piece.first < s.queues)). let l = z.2 in absurd (omega arith))
    (⊎_elim
    (λ (z : (c.piece.ring ≡ 2) × (c.piece.in_data ≡ false) × (s.queues ≤ told_id c.piece.first) × (told_id c.piece.first < s.queues + s.queues)). let u = z.3 in absurd (omega arith))
    (λ (z : (c.piece.ring ≡ 1) × (c.piece.in_data ≡ true) × (s.queues + s.queues ≤ told_id c.piece.first)). z.1))
    c.points.2
piece_part s m second room r false c is more less = let same = ap told_id is in let near = less refl in ⊎_elim
    (λ (z : (c.piece.ring ≡ 1) × (c.piece.in_data ≡ false) × (told_id c.piece.first < s.queues)). z.1)
    (⊎_elim
    (λ (z : (c.piece.ring ≡ 2) × (c.piece.in_data ≡ false) × (s.queues ≤ told_id c.piece.first) × (told_id c.piece.first < s.queues + s.queues)). z.1)
    (λ (z : (c.piece.ring ≡ 1) × (c.piece.in_data ≡ true) × (s.queues + s.queues ≤ told_id c.piece.first)). let l = z.2 in absurd (omega arith)))
    c.points.2

-- reading through the piece that was out
pub reads_through : (s : RxShape) (m m1 m2 : Seated) (r : ℕ) (into into' : List ℕ) → ((x : Entry) × IsNext m.0 x × (r ≡ x.first) × (b : Buffer) × (m1 ≡ (with_driver m.0 (reads m.0.driver), (slot_of m.0.made x, b) ∷ [])) × (take (length x.bytes) (part x.in_data b) ≡ x.bytes) × (vec_len b.bytes ≡ room_at m.0.made (slot_of m.0.made x)))
    → ReadsNext m1 into m2 into' → ReadsNext m into m2 into'
reads_through s m m1 m2 r into into' g f x next = subst (λ (z : Seated). ReadsNext z into m2 into') g.4 f x next
