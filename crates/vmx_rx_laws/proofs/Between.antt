-- What the rule says between any two steps.
use Rattle.std.proofs.Common.{◌≡◌, ◌≢◌, ℕ, zero, suc, ◌+◌, ◌-◌, ◌%◌, ◌<◌, ◌≤◌, ◌⊎◌, List, [], ◌∷◌, length, take, inl, inr, Bool, true, false, true≢false, not, Option, Some, None, slice_index, sym, refl, ap, ◌∙◌, subst, ⊎_elim, arith, length-append}
use mathlib.Core.Logic.{dite}
use mathlib.Core.Option.{none, some, some-injective, some-ne-none}
use native.Mathlib.Decide.{ℕ_discrete, dec_lt}
use native.Mathlib.Nat.{add-mod_right}
use lib.ListN.{get_elem?}
use Rattle.vmx_ring_laws.specs.Lists.{there_below}
use Rattle.vmx_genring.specs.Rings.{generation}
use Rattle.vmx_ends.specs.Words.{bit}
use Rattle.vmx_ends.specs.declared.made.RxMade.{RxMade}
use Rattle.vmx_rx_ring.specs.declared.known.Buffer.{Buffer}
use Rattle.vmx_rx_ring.specs.declared.known.Entry.{Entry}
use Rattle.vmx_ends.specs.declared.frames.Delivery.{Delivery}
use Rattle.vmx_rx_ring.specs.Words.{count, slot, slot_of, shown_bit, entries, flat}
use Rattle.vmx_rx_ring.specs.Rule.{Rising, Numbers, Rings, numbers}
use Rattle.vmx_rx_ring.specs.Tells.{spot_in}
use Rattle.vmx_rx_laws.specs.Laws.{log_of, IsVisible, DeviceFills, DriverReads, OneOwner, CompletedOnce, VisibleAllOrNone, NeverOverrun, ReceivedBegins}
use Rattle.vmx_rx_ring.proofs.Bits.{generation_next, not_not, bit_with}
use Rattle.vmx_rx_ring.proofs.Risings.{rising_at, rising_from, at_drop}
use Rattle.vmx_rx_ring.proofs.WordMoves.{shown_else, shown_here}
use Rattle.vmx_rx_ring.proofs.HomeMoves.{slots_apart, lies}

-- of two entries that rise, in one ring, the later has the later position
rising_pair : (a1 a2 : ℕ) (es : List Entry) (b1 b2 i j : ℕ) (x y : Entry) → Rising a1 a2 es b1 b2 → i < j → get_elem? es i ≡ some x → get_elem? es j ≡ some y → x.ring ≡ y.ring → x.position < y.position
rising_pair a1 a2 [] b1 b2 i j x y r less at at' same = absurd (some-ne-none x (sym at))
rising_pair a1 a2 (e ∷ es) b1 b2 i zero x y r less at at' same = absurd (omega arith)
rising_pair a1 a2 (e ∷ es) b1 b2 zero (suc j) x y r less at at' same =
    let is : e ≡ x = some-injective e x at in let ring : e.ring ≡ x.ring = ap (λ (z : Entry). z.ring) is in let place : e.position ≡ x.position = ap (λ (z : Entry). z.position) is in ⊎_elim
    (λ (z : (e.ring ≡ 1) × (a1 ≤ e.position) × Rising (suc e.position) a2 es b1 b2). let one = z.0 in ⊎_elim
    (λ (f : (y.ring ≡ 1) × (suc e.position ≤ y.position) × (y.position < b1)). let up = f.1 in omega arith)
    (λ (f : (y.ring ≡ 2) × (a2 ≤ y.position) × (y.position < b2)). let two = f.0 in absurd (omega arith))
    (rising_at (suc e.position) a2 es b1 b2 j y z.2 at'))
    (λ (z : (e.ring ≡ 2) × (a2 ≤ e.position) × Rising a1 (suc e.position) es b1 b2). let two = z.0 in ⊎_elim
    (λ (f : (y.ring ≡ 1) × (a1 ≤ y.position) × (y.position < b1)). let one = f.0 in absurd (omega arith))
    (λ (f : (y.ring ≡ 2) × (suc e.position ≤ y.position) × (y.position < b2)). let up = f.1 in omega arith)
    (rising_at a1 (suc e.position) es b1 b2 j y z.2 at'))
    r
rising_pair a1 a2 (e ∷ es) b1 b2 (suc i) (suc j) x y r less at at' same = ⊎_elim
    (λ (z : (e.ring ≡ 1) × (a1 ≤ e.position) × Rising (suc e.position) a2 es b1 b2). rising_pair (suc e.position) a2 es b1 b2 i j x y z.2 (omega arith) at at' same)
    (λ (z : (e.ring ≡ 2) × (a2 ≤ e.position) × Rising a1 (suc e.position) es b1 b2). rising_pair a1 (suc e.position) es b1 b2 i j x y z.2 (omega arith) at at' same)
    r

pub completed_once : (counted : Bool) → CompletedOnce counted
completed_once counted s q i j x y le less at at' =
    let r = q.kept.rings in let d = q.story.d in let log : List Entry = log_of q.story in let in1 = r.within1 in let in2 = r.within2 in (
      ⊎_elim
          (λ (z : (x.ring ≡ 1) × (d.back1 ≤ x.position) × (x.position < q.story.e.gone1)). let u = z.2 in inl (z.0, z.1, omega arith))
          (λ (z : (x.ring ≡ 2) × (d.back2 ≤ x.position) × (x.position < q.story.e.gone2)). let u = z.2 in inr (z.0, z.1, omega arith))
          (rising_from d.back1 d.back2 log d.read q.story.e.gone1 q.story.e.gone2 i x r.rising le at),
      λ same. rising_pair d.back1 d.back2 _ q.story.e.gone1 q.story.e.gone2 (i - d.read) (j - d.read) x y r.rising (omega arith) (at_drop log d.read i le ∙ at) (at_drop log d.read j (omega arith) ∙ at') same,
    )

pub one_owner : (counted : Bool) → OneOwner counted
one_owner counted s q = (
  λ k low gone. by_filling k low gone q.story.e.filling refl,
  λ k j f g e. let r = q.kept.rings in
      slots_apart q.story.made r.some1 r.some2 _ _ _ _ g.0.ring g.0.position f.0 f.1 (lies q.story.made s.words s.homes _ r q.kept.homes q.story.d.read g.0 (omega arith) g.2) f.4 (g.3 ∙ sym e ∙ sym f.3),
)
  where
    Owned : ℕ → Type 0
    Owned k = DeviceFills q.story k ⊎ DriverReads q.story k

    not_home : (k : ℕ) → get_elem? s.homes k ≡ some none → (b : Buffer) × (get_elem? s.homes k ≡ some (some b)) → Owned k
    not_home k gone z = absurd (some-ne-none z.0 (some-injective (some z.0) none (sym z.1 ∙ gone)))

    by_reading : (k : ℕ) → k < count q.story.made → get_elem? s.homes k ≡ some none → ((ring p : ℕ) → q.story.e.filling ≡ Some (ring, p) → slot q.story.made ring p ≢ k) → (b : Bool) → q.story.d.reading ≡ b → Owned k
    by_reading k low gone free false is = not_home k gone (q.kept.homes.at_home k low free (λ e reading at. absurd (true≢false (sym reading ∙ is))))
    by_reading k low gone free true is = let r = q.kept.rings in let less = r.there is in let more = r.published_log in let x = there_below (log_of q.story) q.story.d.read (omega arith) in
        dite (ℕ_discrete (slot_of q.story.made x.0) k)
        (λ here. inr (x.0, is, x.1, here, less))
        (λ other. not_home k gone (q.kept.homes.at_home k low free (λ e reading at same. other (ap (slot_of q.story.made) (some-injective x.0 e (sym x.1 ∙ at)) ∙ same))))

    by_filling : (k : ℕ) → k < count q.story.made → get_elem? s.homes k ≡ some none → (f : Option (ℕ × ℕ)) → q.story.e.filling ≡ f → Owned k
    by_filling k low gone None is = by_reading k low gone (λ ring p e. absurd (cc (sym is ∙ e))) q.story.d.reading refl
    by_filling k low gone (Some t) is = dite (ℕ_discrete (slot q.story.made t.0 t.1) k)
        (λ here. inl (t.0, t.1, is, here, q.kept.rings.reach t.0 t.1 is))
        (λ other. by_reading k low gone (λ ring p e same. other (ap (λ (z : ℕ × ℕ). slot q.story.made z.0 z.1) (ap spot_in (sym is ∙ e)) ∙ same)) q.story.d.reading refl)

module _ (m : RxMade) (words : List ℕ) (y : Numbers) (r : Rings false m words y) where
  abbrev n : ℕ
  n = count m

  -- what the second word of a completion that is not read shows
  word_shows : (p : ℕ) → y.read ≤ p → p < length y.log → bit 63 (slice_index words (n + n + p % n)) ≡ shown_bit n y.published p
  word_shows p le less = let e = there_below y.log p less in let z = r.lap.full p e.0 le e.1 in ap (bit 63) z.0 ∙ bit_with 63 e.0.body (shown_bit n y.published p) (omega arith) z.1

  pub before : (p : ℕ) → y.read ≤ p → p < y.published → bit 63 (slice_index words (n + n + p % n)) ≡ generation n p
  before p le less = let more = r.published_log in word_shows p le (omega arith) ∙ shown_else n y.published p (omega arith)

  -- where the ring is full of visible completions, the next position's word is that of the first
  at_full : y.published ≡ y.read + n → bit 63 (slice_index words (n + n + y.published % n)) ≡ not (generation n y.published)
  at_full is = let pos = r.lap.some_cell in
      ap (λ (p : ℕ). bit 63 (slice_index words (n + n + p % n))) is ∙ ap (λ (i : ℕ). bit 63 (slice_index words (n + n + i))) (add-mod_right y.read n)
      ∙ before y.read (omega arith) (omega arith) ∙ sym (not_not (generation n y.read)) ∙ ap not (sym (generation_next n y.read pos)) ∙ ap (λ (p : ℕ). not (generation n p)) (sym is)

  pub behind : bit 63 (slice_index words (n + n + y.published % n)) ≡ not (generation n y.published)
  behind = let low = r.read_published in let more = r.published_log in let within = r.lap.within in dite (dec_lt y.published (length y.log))
      (λ staged. word_shows y.published low staged ∙ shown_here n y.published)
      (λ none_. dite (dec_lt y.published (y.read + n))
      (λ room. r.lap.free y.published (omega arith) room)
      (λ full. at_full (omega arith)))

-- no truth value is its own opposite
not_own : (b c : Bool) → c ≡ not b → ¬ (c ≡ b)
not_own true c is same = true≢false (sym same ∙ is)
not_own false c is same = true≢false (sym is ∙ same)

-- the look finds a published completion that is not read, and none behind the published ones
shows_before : (counted : Bool) (m : RxMade) (words : List ℕ) (y : Numbers) → Rings counted m words y → (p : ℕ) → y.read ≤ p → p < y.published → IsVisible counted m words p
shows_before true m words y r p le less = subst (λ (z : ℕ). p < z) (sym r.count_word) less
shows_before false m words y r p le less = before m words y r p le less

hides_behind : (counted : Bool) (m : RxMade) (words : List ℕ) (y : Numbers) → Rings counted m words y → ¬ (IsVisible counted m words y.published)
hides_behind true m words y r less = let is = r.count_word in absurd (omega arith)
hides_behind false m words y r shown = not_own (generation (count m) y.published) (bit 63 (slice_index words (count m + count m + y.published % count m))) (behind m words y r) shown

-- the first so many frames have no more completions than all
flat_take : (m : RxMade) (ds : List Delivery) (k : ℕ) → length (flat m (take k ds)) ≤ length (flat m ds)
flat_take m ds zero = omega arith
flat_take m [] (suc k) = omega arith
flat_take m (d ∷ ds) (suc k) = let r = flat_take m ds k in let a = length-append (entries m d) (flat m (take k ds)) in let b = length-append (entries m d) (flat m ds) in omega arith

pub visible_all_or_none : (counted : Bool) → VisibleAllOrNone counted
visible_all_or_none counted s q = let m = q.story.made in let y = numbers m q.story.e q.story.d in
    (λ frame p in_ low less le. let all = flat_take m q.story.e.delivered (suc frame) in shows_before counted m s.words y q.kept.rings p le (omega arith), hides_behind counted m s.words y q.kept.rings)

pub never_overrun : (counted : Bool) → NeverOverrun counted
never_overrun counted s q = let r = q.kept.rings in let a = r.published_log in let b = r.lap.within in omega arith

pub received_begins : (counted : Bool) → ReceivedBegins counted
received_begins counted s q = q.kept.knows.received
