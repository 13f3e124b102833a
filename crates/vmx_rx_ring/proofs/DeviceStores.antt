-- The device's stores: a completion's first word, its second word, which stages it, and the one that publishes a frame.
use Rattle.std.proofs.Common.{vec_len, ◌≡◌, ℕ, suc, ◌+◌, ◌%◌, ◌^◌, ◌<◌, ◌≤◌, ◌==◌, List, [], ◌∷◌, ◌++◌, length, take, drop, slice_set, Bool, true, false, cond, Option, Some, None, sym, refl, ap, ap₂, ◌∙◌, subst, ⊎_elim, arith, append-nil, append_assoc}
use Rattle.std.proofs.lemmas.List.{length-drop, take-append-le}
use Rattle.std.proofs.Math.Seq.{take-length}
use mathlib.Core.Option.{none, some}
use lib.ListN.{get_elem?}
use Rattle.atomic_table.specs.Table.{step, keeps, gives, Allows}
use Rattle.vmx_ring_laws.specs.Lists.{prefix_longer, snoc_cases}
use Rattle.vmx_genring.specs.Rings.{generation}
use Rattle.vmx_ends.specs.Frames.{IsFrame}
use Rattle.vmx_ends.specs.Receive.{used, took1, took2}
use Rattle.vmx_ends.specs.declared.made.RxMade.{RxMade}
use Rattle.vmx_ends.specs.declared.frames.Delivery.{Delivery}
use Rattle.vmx_rx_ring.specs.declared.known.Buffer.{Buffer}
use Rattle.vmx_rx_ring.specs.declared.known.Entry.{Entry}
use Rattle.vmx_rx_ring.specs.declared.known.DeviceKnows.{DeviceKnows}
use Rattle.vmx_rx_ring.specs.declared.known.DriverKnows.{DriverKnows}
use Rattle.vmx_rx_ring.specs.declared.known.Known.{Known}
use Rattle.vmx_rx_ring.specs.Words.{room_at, count, slot, slot_of, with_bit, shown_in, entries, flat, lies, TagFits}
use Rattle.vmx_rx_ring.specs.Rule.{Rising, Numbers, Rings, Homes, IsPlaced, Knows, Queue, numbers}
use Rattle.vmx_rx_ring.specs.Tells as tells
use Rattle.vmx_rx_ring.specs.Tells.{Seated, with_device, spot_in, word_in, new_entry}
use Rattle.vmx_rx_ring.proofs.Risings.{rising_count, rising_one, rising_two}
use Rattle.vmx_rx_ring.proofs.Flats.{flat_one, take_again, rest_of}
use Rattle.vmx_rx_ring.proofs.WordMoves as moves
use Rattle.vmx_rx_ring.proofs.HomeMoves.{puts_home}
use Rattle.vmx_rx_ring.proofs.Views.{device_sees, device_keeps}

-- While a buffer is out with the device there is room for its completion: unread completions have buffers of their own.
pub has_room : {how : Bool} (m : RxMade) (words : List ℕ) (y : Numbers) → Rings how m words y → (ring p : ℕ) → y.filling ≡ Some (ring, p) → length y.log < y.read + count m
has_room {how} m words y r ring p out = let c = rising_count _ _ _ _ _ r.rising in let d = length-drop y.read y.log in let in1 = r.within1 in let in2 = r.within2 in let b = r.lap.behind in ⊎_elim
    (λ (z : (ring ≡ 1) × (y.gone1 ≤ p) × (p < m.size1 + y.back1)). let u = z.1 in let l = z.2 in omega arith)
    (λ (z : (ring ≡ 2) × (y.gone2 ≤ p) × (p < m.size2 + y.back2)). let u = z.1 in let l = z.2 in omega arith)
    (r.reach ring p out)

abbrev pub log_of : Known → List Entry
log_of v = flat v.made v.device.delivered ++ v.device.staged

-- what the ends know of each other says nothing of what is staged
knows_staged : (m : RxMade) (e : DeviceKnows) (g : DriverKnows) (staged : List Entry) (opened : List ℕ) (filling : Option (ℕ × ℕ)) (in_entry : Bool) (gone1 gone2 : ℕ) → Knows m e g → Knows m (record e { staged = staged; opened = opened; filling = filling; in_data = in_entry; gone1 = gone1; gone2 = gone2 }) g
knows_staged m e g staged opened filling in_entry gone1 gone2 k = record { full = k.full; received = k.received; placed = k.placed; seen1 = k.seen1; seen2 = k.seen2; refusals = k.refusals; heard = k.heard; heard1 = k.heard1; heard2 = k.heard2; told = k.told; latest = k.latest }

pub opens_completion : (how : Bool) (n seat : ℕ) (me : Seated) (k new ring p : ℕ) → me.0.delivers ≡ true → me.0.receives ≡ false → me.0.device.filling ≡ Some (ring, p) → k ≡ count me.0.made + count me.0.made + count me.0.made + length (log_of me.0) % count me.0.made
    → Allows (Queue how) n seat me k (λ _. new) (λ _. tells.opened (step n k new 0 none) me new)
opens_completion how n seat me k new ring p may lone out is s l wide at _ =
    let v : Known = me.0 in let e : DeviceKnows = v.device in let g : DriverKnows = l.story.d in let m : RxMade = v.made in let z = device_sees s l seat v at may in let e' : DeviceKnows = tells.opens e new in
    let room = has_room m s.words _ z.rings ring p out in (
      with_device v e',
      keeps,
      tt,
      device_keeps s l seat v e' (slice_set s.words k new) s.homes at may lone
          (subst (λ (i : ℕ). Rings how m (slice_set s.words i new) (numbers m e' g)) (sym is) (moves.opens m s.words _ z.rings new room))
          (record { as_many_slots = z.homes.as_many_slots; rooms = z.homes.rooms; at_home = z.homes.at_home; filled = z.homes.filled })
          (knows_staged m e g e.staged (new ∷ []) e.filling e.in_data e.gone1 e.gone2 z.knows) ([], append-nil _) refl refl,
      refl,
    )

if_one : (ring a b : ℕ) → ring ≡ 1 → cond (ring == 1) a b ≡ a
if_one ring a b e = ap (λ (r : ℕ). cond (r == 1) a b) e

if_two : (ring a b : ℕ) → ring ≡ 2 → cond (ring == 1) a b ≡ b
if_two ring a b e = ap (λ (r : ℕ). cond (r == 1) a b) e

stages_here : (how : Bool) (n seat : ℕ) (v : Known) (x : Buffer) (ring p w0 body k new : ℕ) → v.delivers ≡ true → v.receives ≡ false → v.device.filling ≡ Some (ring, p) → v.device.opened ≡ w0 ∷ [] → body < 2 ^ 63 → vec_len x.bytes ≡ room_at v.made (slot v.made ring p)
    → k ≡ count v.made + count v.made + length (log_of v) % count v.made → new ≡ with_bit 63 body (shown_in how (count v.made) (length (flat v.made v.device.delivered)) (length (log_of v)))
    → Allows (Queue how) n seat (v, (slot v.made ring p, x) ∷ []) k (λ _. new) (λ _. tells.staged (step n k new 0 none) (v, (slot v.made ring p, x) ∷ []) new)
stages_here how n seat v x ring p w0 body k new may lone out open_ small room_is is what s l wide at _ =
    let e : DeviceKnows = v.device in let g : DriverKnows = l.story.d in let m : RxMade = v.made in let z = device_sees s l seat v at may in let c : List (ℕ × Buffer) = (slot m ring p, x) ∷ [] in let a : Entry = new_entry e new c in let e' : DeviceKnows = tells.stages e a in
    let room = has_room m s.words _ z.rings ring p out in let log : List Entry = log_of v in let published : ℕ = length (flat m e.delivered) in
    let in_ring : a.ring ≡ ring = ap (λ o. (spot_in o).0) out in let in_place : a.position ≡ p = ap (λ o. (spot_in o).1) out in
    let same_body : a.body ≡ body = ap (λ (w : ℕ). w % 2 ^ 63) what ∙ rest_of body (shown_in how (count m) published (length log)) small in
    let word : with_bit 63 a.body (shown_in how (count m) published (length log)) ≡ new = ap (λ (b : ℕ). with_bit 63 b (shown_in how (count m) published (length log))) same_body ∙ sym what in
    let own_slot : slot_of m a ≡ slot m ring p = ap₂ (slot m) in_ring in_place in
    let out' : e.filling ≡ Some (a.ring, a.position) = out ∙ ap (λ o. Some ((spot_in o).0, (spot_in o).1)) (sym out) in
    let joined : (log ++ a ∷ []) ≡ flat m e.delivered ++ (e.staged ++ a ∷ []) = append_assoc (flat m e.delivered) e.staged (a ∷ []) in
    let in1 = z.rings.within1 in let in2 = z.rings.within2 in let rises = z.rings.rising in
    let fits : (Rising g.back1 g.back2 (drop g.read log ++ a ∷ []) e'.gone1 e'.gone2) × (e'.gone1 ≤ m.size1 + g.back1) × (e'.gone2 ≤ m.size2 + g.back2) = ⊎_elim
    (λ (t : (ring ≡ 1) × (e.gone1 ≤ p) × (p < m.size1 + g.back1)). let one : a.ring ≡ 1 = in_ring ∙ t.0 in let low = t.1 in let high = t.2 in let q1 = if_one a.ring (suc a.position) e.gone1 one in let q2 = if_one a.ring e.gone2 (suc a.position) one in (
      subst (λ (u : ℕ × ℕ). Rising g.back1 g.back2 (drop g.read log ++ a ∷ []) u.0 u.1) (λ i. (sym q1 i, sym q2 i)) (rising_one _ _ (drop g.read log) _ _ a rises one (omega arith)),
      omega arith,
      omega arith,
    ))
    (λ (t : (ring ≡ 2) × (e.gone2 ≤ p) × (p < m.size2 + g.back2)). let two : a.ring ≡ 2 = in_ring ∙ t.0 in let low = t.1 in let high = t.2 in let q1 = if_two a.ring (suc a.position) e.gone1 two in let q2 = if_two a.ring e.gone2 (suc a.position) two in (
      subst (λ (u : ℕ × ℕ). Rising g.back1 g.back2 (drop g.read log ++ a ∷ []) u.0 u.1) (λ i. (sym q1 i, sym q2 i)) (rising_two _ _ (drop g.read log) _ _ a rises two (omega arith)),
      omega arith,
      omega arith,
    ))
    (z.rings.reach ring p out) in (
      with_device v e',
      gives,
      tt,
      device_keeps s l seat v e' (slice_set s.words k new) (slice_set s.homes (slot m ring p) (some x)) at may lone
          (subst (λ (u : ℕ × ℕ × List Entry). Rings how m (slice_set s.words u.0 u.1) (record (numbers m e' g) { log = u.2 })) (λ i. (sym is i, word i, joined i))
          (moves.stages m s.words _ z.rings a e'.gone1 e'.gone2 room (open_ ∙ ap (λ ws. word_in ws ∷ []) (sym open_)) (subst (λ (b : ℕ). b < 2 ^ 63) (sym same_body) small) fits.0 fits.1 fits.2))
          (subst (λ (u : ℕ × List Entry). Homes m (slice_set s.homes u.0 (some x)) (record (numbers m e' g) { log = u.1 })) (λ i. (own_slot i, joined i))
          (puts_home m s.words s.homes _ z.rings z.homes a x e'.gone1 e'.gone2 out' (take_again (new % 2 ^ 14) (lies e.in_data x)) (room_is ∙ ap (room_at m) (sym own_slot))))
          (knows_staged m e g (e.staged ++ a ∷ []) [] None false e'.gone1 e'.gone2 z.knows) ([], append-nil _) refl refl,
      refl,
    )

pub stages_completion : (how : Bool) (n seat : ℕ) (me : Seated) (v : Known) (x : Buffer) (ring p w0 body k new : ℕ) → me ≡ (v, (slot v.made ring p, x) ∷ []) → v.delivers ≡ true → v.receives ≡ false → v.device.filling ≡ Some (ring, p) → v.device.opened ≡ w0 ∷ [] → body < 2 ^ 63 → vec_len x.bytes ≡ room_at v.made (slot v.made ring p)
    → k ≡ count v.made + count v.made + length (log_of v) % count v.made → new ≡ with_bit 63 body (shown_in how (count v.made) (length (flat v.made v.device.delivered)) (length (log_of v)))
    → Allows (Queue how) n seat me k (λ _. new) (λ _. tells.staged (step n k new 0 none) me new)
stages_completion how n seat me v x ring p w0 body k new here may lone out open_ small room_is is what =
    subst (λ (z : Seated). Allows (Queue how) n seat z k (λ _. new) (λ _. tells.staged (step n k new 0 none) z new)) (sym here) (stages_here how n seat v x ring p w0 body k new may lone out open_ small room_is is what)

-- a store that makes the staged frame visible
publishes_by : (how : Bool) (n seat : ℕ) (me : Seated) (k new : ℕ) (d : Delivery) → me.0.delivers ≡ true → me.0.receives ≡ false → me.1 ≡ []
    → entries me.0.made d ≡ me.0.device.staged → IsPlaced (used took1 me.0.device.delivered) (used took2 me.0.device.delivered) d → IsFrame d.frame → TagFits d.meta.tci
    → ((words : List ℕ) (g : DriverKnows) → Rings how me.0.made words (numbers me.0.made me.0.device g) → Rings how me.0.made (slice_set words k new) (record (numbers me.0.made me.0.device g) { published = length (log_of me.0) }))
    → Allows (Queue how) n seat me k (λ _. new) (λ _. tells.published (step n k new 0 none) me new)
publishes_by how n seat me k new d may lone bare whole placed frame tag stored s l wide at _ =
    let v : Known = me.0 in let e : DeviceKnows = v.device in let g : DriverKnows = l.story.d in let m : RxMade = v.made in let z = device_sees s l seat v at may in let e' : DeviceKnows = tells.delivers e d in let w : Known = with_device v e' in
    let log : List Entry = log_of v in let ds : List Delivery = e.delivered in
    let longer : flat m (ds ++ d ∷ []) ≡ log = flat_one m ds d ∙ ap (λ l. flat m ds ++ l) whole in
    let joined : log ≡ flat m (ds ++ d ∷ []) ++ [] = sym longer ∙ sym (append-nil _) in (
      w,
      keeps,
      tt,
      device_keeps s l seat v e' (slice_set s.words k new) s.homes at may lone
          (subst (λ (u : List Entry × ℕ). Rings how m (slice_set s.words k new) (record (numbers m e' g) { log = u.0; published = u.1 })) (λ i. (joined i, length (sym longer i))) (stored s.words g z.rings))
          (subst (λ (u : List Entry). Homes m s.homes (record (numbers m e' g) { log = u })) joined (record { as_many_slots = z.homes.as_many_slots; rooms = z.homes.rooms; at_home = z.homes.at_home; filled = z.homes.filled }))
          (record {
            full = z.knows.full;
            received = prefix_longer g.received ds (d ∷ []) z.knows.received;
            placed = λ t x there. ⊎_elim
                (λ (c : (t ≡ length ds) × (d ≡ x)). let front : take t (ds ++ d ∷ []) ≡ ds = ap (λ (j : ℕ). take j (ds ++ d ∷ [])) c.0 ∙ take-append-le (length ds) ds (d ∷ []) (omega arith) ∙ take-length ds in
                subst (λ (u : List Delivery × Delivery). IsPlaced (used took1 u.0) (used took2 u.0) u.1 × IsFrame u.1.frame × TagFits u.1.meta.tci) (λ i. (sym front i, c.1 i)) (placed, frame, tag))
                (λ (c : (t < length ds) × (get_elem? ds t ≡ some x)). let less = c.0 in subst (λ (u : List Delivery). IsPlaced (used took1 u) (used took2 u) x × IsFrame x.frame × TagFits x.meta.tci) (sym (take-append-le t ds (d ∷ []) (omega arith))) (z.knows.placed t x c.1))
                (snoc_cases ds d x t there);
            seen1 = z.knows.seen1;
            seen2 = z.knows.seen2;
            refusals = z.knows.refusals;
            heard = z.knows.heard;
            heard1 = z.knows.heard1;
            heard2 = z.knows.heard2;
            told = prefix_longer g.heard ds (d ∷ []) z.knows.told;
            latest = let k = z.knows.latest in record { driver's = k.driver's; device's = (prefix_longer g.latest ds (d ∷ []) k.device's.0, k.device's.1); posted = k.posted; gone = k.gone };
          })
          (d ∷ [], refl) refl refl,
      (d, whole, placed, ap (λ (c : List (ℕ × Buffer)). (w, c)) bare),
    )

at_seam : (xs ys : List Entry) (f : Entry) → get_elem? ys 0 ≡ some f → get_elem? (xs ++ ys) (length xs) ≡ some f
at_seam [] ys f e = e
at_seam (x ∷ xs) ys f e = at_seam xs ys f e

-- the frame that is staged becomes visible by the generation of its first completion
publishes_shown : (n seat : ℕ) (me : Seated) (k new : ℕ) (d : Delivery) (first : Entry) → me.0.delivers ≡ true → me.0.receives ≡ false → me.1 ≡ [] → me.0.device.filling ≡ None → me.0.device.opened ≡ []
    → entries me.0.made d ≡ me.0.device.staged → get_elem? me.0.device.staged 0 ≡ some first → IsPlaced (used took1 me.0.device.delivered) (used took2 me.0.device.delivered) d → IsFrame d.frame → TagFits d.meta.tci
    → k ≡ count me.0.made + count me.0.made + length (flat me.0.made me.0.device.delivered) % count me.0.made → new ≡ with_bit 63 first.body (generation (count me.0.made) (length (flat me.0.made me.0.device.delivered)))
    → Allows (Queue false) n seat me k (λ _. new) (λ _. tells.published (step n k new 0 none) me new)
publishes_shown n seat me k new d first may lone bare idle shut whole head placed frame tag is what =
    publishes_by false n seat me k new d may lone bare whole placed frame tag (λ words g r. let m : RxMade = me.0.made in let e : DeviceKnows = me.0.device in
    subst (λ (u : ℕ × ℕ). Rings false m (slice_set words u.0 u.1) (record (numbers m e g) { published = length (log_of me.0) })) (λ i. (sym is i, sym what i))
    (moves.publishes m words (numbers m e g) r first (at_seam (flat m e.delivered) e.staged first head) idle shut))

-- the same by the word that counts
counts_up : (n seat : ℕ) (me : Seated) (k new : ℕ) (d : Delivery) → me.0.delivers ≡ true → me.0.receives ≡ false → me.1 ≡ [] → me.0.device.filling ≡ None → me.0.device.opened ≡ []
    → entries me.0.made d ≡ me.0.device.staged → IsPlaced (used took1 me.0.device.delivered) (used took2 me.0.device.delivered) d → IsFrame d.frame → TagFits d.meta.tci
    → k ≡ count me.0.made + count me.0.made + count me.0.made + count me.0.made → new ≡ length (log_of me.0)
    → Allows (Queue true) n seat me k (λ _. new) (λ _. tells.published (step n k new 0 none) me new)
counts_up n seat me k new d may lone bare idle shut whole placed frame tag is what =
    publishes_by true n seat me k new d may lone bare whole placed frame tag (λ words g r. let m : RxMade = me.0.made in let e : DeviceKnows = me.0.device in
    subst (λ (u : ℕ × ℕ). Rings true m (slice_set words u.0 u.1) (record (numbers m e g) { published = length (log_of me.0) })) (λ i. (sym is i, sym what i))
    (moves.counts_up m words (numbers m e g) r idle shut))

pub publishes_frame : (how : Bool) → how ≡ false → (n seat : ℕ) (me : Seated) (k new : ℕ) (d : Delivery) (first : Entry) → me.0.delivers ≡ true → me.0.receives ≡ false → me.1 ≡ [] → me.0.device.filling ≡ None → me.0.device.opened ≡ []
    → entries me.0.made d ≡ me.0.device.staged → get_elem? me.0.device.staged 0 ≡ some first → IsPlaced (used took1 me.0.device.delivered) (used took2 me.0.device.delivered) d → IsFrame d.frame → TagFits d.meta.tci
    → k ≡ count me.0.made + count me.0.made + length (flat me.0.made me.0.device.delivered) % count me.0.made → new ≡ with_bit 63 first.body (generation (count me.0.made) (length (flat me.0.made me.0.device.delivered)))
    → Allows (Queue how) n seat me k (λ _. new) (λ _. tells.published (step n k new 0 none) me new)
publishes_frame how is_so n seat me k new d first may lone bare idle shut whole head placed frame tag is what = subst (λ (b : Bool). Allows (Queue b) n seat me k (λ _. new) (λ _. tells.published (step n k new 0 none) me new)) (sym is_so) (publishes_shown n seat me k new d first may lone bare idle shut whole head placed frame tag is what)

pub counts_frame : (how : Bool) → how ≡ true → (n seat : ℕ) (me : Seated) (k new : ℕ) (d : Delivery) → me.0.delivers ≡ true → me.0.receives ≡ false → me.1 ≡ [] → me.0.device.filling ≡ None → me.0.device.opened ≡ []
    → entries me.0.made d ≡ me.0.device.staged → IsPlaced (used took1 me.0.device.delivered) (used took2 me.0.device.delivered) d → IsFrame d.frame → TagFits d.meta.tci
    → k ≡ count me.0.made + count me.0.made + count me.0.made + count me.0.made → new ≡ length (log_of me.0)
    → Allows (Queue how) n seat me k (λ _. new) (λ _. tells.published (step n k new 0 none) me new)
counts_frame how is_so n seat me k new d may lone bare idle shut whole placed frame tag is what = subst (λ (b : Bool). Allows (Queue b) n seat me k (λ _. new) (λ _. tells.published (step n k new 0 none) me new)) (sym is_so) (counts_up n seat me k new d may lone bare idle shut whole placed frame tag is what)
