-- The changes of a transmit ring's words and slots, one for each kind of step.
use Rattle.std.proofs.Common.{◌≡◌, ◌≢◌, ℕ, suc, ◌+◌, ◌%◌, ◌<◌, ◌≤◌, List, [], ◌∷◌, ◌++◌, length, take, drop, set, Bool, true, false, true≢false, Some, None, Option, sym, refl, ap, ap₂, ◌∙◌, subst, ⊎_elim, arith, mod-lt, append_assoc, append-nil, length-append, length-set}
use Rattle.std.proofs.lemmas.List.{take-append-le, drop-append-le}
use mathlib.Core.Logic.{dite}
use mathlib.Core.Option.{none, some, some-injective}
use mathlib.Core.Option as maybe
use native.Mathlib.Decide.{ℕ_discrete, dec_lt}
use lib.ListN.{get_elem?}
use Rattle.std.specs.Int.{bit_at}
use Rattle.atomic_table.proofs.Lists.{set_here, set_else, drop_at}
use Rattle.vmx_ring_laws.specs.Moves.{elsewhere}
use Rattle.vmx_ring_laws.specs.Lists.{at_below, snoc_cases, take_one_more}
use Rattle.vmx_genring.specs.Rings.{StandFor, generation_bit, flipped, entry_at}
use Rattle.vmx_genring.specs.RingLaws.{stores_first, stages_first, stages as stages_later, publishes as publishes_staged, consumes}
use Rattle.vmx_ends.specs.Alls.{all_more}
use Rattle.vmx_ends.specs.declared.made.TxMade.{TxMade}
use Rattle.vmx_ends.specs.declared.frames.Sent.{Sent}
use Rattle.vmx_ends.specs.declared.frames.Taken.{Taken}
use Rattle.vmx_ends.specs.Frames.{IsFrame, sent_of}
use Rattle.vmx_ends.specs.Transmit.{need, descriptors}
use Rattle.vmx_ends.specs.TransmitCounts.{IsLong, descriptors-append, found-append, sent_of-append, under_way, parts, take_one}
use Rattle.vmx_tx_ring.specs.declared.known.TxPiece.{TxPiece}
use Rattle.vmx_tx_ring.specs.declared.known.TxBuffer.{TxBuffer}
use Rattle.vmx_tx_ring.specs.declared.known.TxDriverAt.{TxDriverAt}
use Rattle.vmx_tx_ring.specs.declared.known.TxDeviceAt.{TxDeviceAt}
use Rattle.vmx_tx_ring.specs.Pieces.{pieces, chain, address, descriptor, entries, next_in_data, word_if, descriptor_ring, Shows, NumbersFit}
use Rattle.vmx_tx_ring.specs.Rule.{Telling, IsStable, HasLawfulMark, Words, Core, Slots, Ring, AtHome, one_if, next_of, returned_of}
use Rattle.vmx_tx_ring.proofs.ThreeRows.{set_first, set_second}
use Rattle.vmx_tx_ring.proofs.PieceLaws.{generation_small, piece-tells, entries-length, entries-snoc, entry-is, pieces-length, pieces-append, pieces-snoc, at_behind, at_first, drop_tail, chain-length, take-grows, take-all}

-- where the reader and the free end are
pub record Bounds (m : TxMade) (d : TxDriverAt) (e : TxDeviceAt) : Type 0 where
  pub low : returned_of m d ≤ e.read
  pub room : next_of m d ≤ returned_of m d + m.size
  pub read_in : e.read + one_if e.emptying ≤ descriptors m d.sent
  pub posted_in : descriptors m d.sent ≤ next_of m d

pub bounds : (Told : Telling) (m : TxMade) (d : TxDriverAt) (e : TxDeviceAt) (ws : List ℕ) (hs : List (maybe.Option TxBuffer)) → Ring Told m d e ws hs → Bounds m d e
bounds Told m d e ws hs r = let c = r.core in let w = r.words_are.stand in let n = entries-length m 0 (pieces m d.sent ++ d.staged) in let room = w.room in
    let f = c.reaped_first in let g = take-grows m d.sent d.reaped e.completed (omega arith) in let b = c.begun in let i = c.read_is in let x = c.exact in
    let t : descriptors m (sent_of e.taken) ≡ descriptors m (take (length e.taken) d.sent) = ap (descriptors m) c.taken_is in let all = take-all m d.sent (length e.taken) in
    let p = pieces-length m d.sent in let l = length-append (pieces m d.sent) d.staged in record {
      low = omega arith;
      room = omega arith;
      read_in = omega arith;
      posted_in = omega arith;
    }

-- the core knows nothing of staging
pub same_core : (m : TxMade) (d : TxDriverAt) (e : TxDeviceAt) (staged : List TxPiece) (opened : Bool) → Core m d e → Core m (record d { staged = staged; opened = opened }) e
same_core m d e staged opened c = record {
  some_slot = c.some_slot;
  full = c.full;
  piece = c.piece;
  reaped_first = c.reaped_first;
  completed_first = c.completed_first;
  one_ahead = c.one_ahead;
  taken_first = c.taken_first;
  taken_is = c.taken_is;
  exact = c.exact;
  frames = c.frames;
  marks = c.marks;
  read_is = c.read_is;
  ahead_is = c.ahead_is;
  hand_is = c.hand_is;
  begun = c.begun;
  closing_taken = c.closing_taken;
}

-- a slot that is set leaves the others
home_else : (homes : List (maybe.Option TxBuffer)) (i j : ℕ) (o : maybe.Option TxBuffer) → j ≢ i → AtHome homes j → AtHome (set homes i o) j
home_else homes i j o apart h = (h.0, set_else homes i j o apart ∙ h.1)

-- two positions in one lap
pub apart : (n low p q : ℕ) → p ≢ q → low ≤ p → low ≤ q → p < low + n → q < low + n → p % n ≢ q % n
apart n low p q other a b c d = dite (dec_lt p q)
    (λ less e. elsewhere n p q less (omega arith) (sym e))
    (λ more. elsewhere n q p (omega arith) (omega arith))

module _ (Told : Telling) (m : TxMade) (d : TxDriverAt) (e : TxDeviceAt) (ws : List ℕ) (hs : List (maybe.Option TxBuffer)) where
  abbrev n : ℕ
  n = m.size

  abbrev now : List TxPiece
  now = pieces m d.sent ++ d.staged

  -- the driver stores the first word of the next descriptor, and takes its buffer out
  pub opens : Ring Told m d e ws hs → d.opened ≡ false → next_of m d < returned_of m d + n
      → Ring Told m (record d { opened = true }) e (set ws (n + next_of m d % n) (address m.name.queue (next_in_data m d.staged) (next_of m d % n))) (set hs (next_of m d % n) none)
  opens r idle near = let c = r.core in let w = r.words_are in let sl = r.slots in let h : ℕ = next_of m d in let i : ℕ = h % n in let a : ℕ = address m.name.queue (next_in_data m d.staged) i in let low : i < n = mod-lt h c.some_slot in let st = w.stand in
      let long = entries-length m 0 now in let bd = bounds Told m d e ws hs r in let b1 = bd.low in let b2 = bd.read_in in let b3 = bd.posted_in in record {
        words_are = record {
          firsts = set w.firsts i a;
          seconds = w.seconds;
          others = w.others;
          are = ap (λ l. set l (n + i) a) w.are ∙ set_second n w.seconds w.firsts w.others st.as_many_seconds st.as_many_firsts i a low;
          stand = subst (λ (q : ℕ). StandFor n 14 (set w.firsts (q % n) a) w.seconds (descriptor_ring m d.sent d.staged true d.reaped)) long
              (stores_first n 14 a w.firsts w.seconds (descriptor_ring m d.sent d.staged d.opened d.reaped) c.some_slot st (omega arith));
          told = w.told;
        };
        core = same_core m d e d.staged true c;
        slots = record {
          as_many = length-set hs i none ∙ sl.as_many;
          at_home = λ j less filled emptied. home_else hs i j none (filled refl) (sl.at_home j less (λ o. absurd (true≢false (sym o ∙ idle))) emptied);
          shows = λ p x le at still. let q = sl.shows p x le at still in let in_ = at_below now p x at in (q.0, set_else hs i (p % n) none (apart n (returned_of m d) p h (omega arith) le (omega arith) (omega arith) (omega arith)) ∙ q.1, q.2);
        };
      }

  -- it stages the entry, and puts the buffer home
  pub stages : (x : TxPiece) (b : TxBuffer) (new : ℕ) → Ring Told m d e ws hs → d.opened ≡ true → x.in_data ≡ next_in_data m d.staged → Shows x b → length x.bytes ≤ 4096 → NumbersFit x.numbers
      → (length d.staged ≡ 0 → new ≡ flipped 14 (descriptor m (next_of m d) x).second) → (0 < length d.staged → new ≡ (descriptor m (next_of m d) x).second)
      → Ring Told m (record d { staged = d.staged ++ x ∷ []; opened = false }) e (set ws (next_of m d % n) new) (set hs (next_of m d % n) (some b))
  stages x b new r state lies_so shown short fit first later = let c = r.core in let w = r.words_are in let sl = r.slots in let h : ℕ = next_of m d in let i : ℕ = h % n in let low : i < n = mod-lt h c.some_slot in let st = w.stand in
      let long = entries-length m 0 now in let bd = bounds Told m d e ws hs r in let b1 = bd.low in let b2 = bd.read_in in let b3 = bd.posted_in in let ps : List TxPiece = pieces m d.sent in let more = length-append ps d.staged in let count = pieces-length m d.sent in
      let is : word_if d.opened (address m.name.queue (next_in_data m d.staged) i) ≡ Some (descriptor m h x).first = ap₂ (λ o z. word_if o (address m.name.queue z i)) state (sym lies_so) in
      let near : h < returned_of m d + n = let k = st.next_room (descriptor m h x).first is in omega arith in
      let gen : bit_at (descriptor m h x).second 14 ≡ generation_bit n (length (entries m 0 now)) = (piece-tells (generation_bit n h) x short (generation_small n h) fit).generation_is ∙ ap (generation_bit n) (sym long) in
      let by_staged : StandFor n 14 w.firsts (set w.seconds (length (entries m 0 now) % n) new) (record (descriptor_ring m d.sent d.staged false d.reaped) { entries = entries m 0 now ++ descriptor m h x ∷ [] }) = dite (dec_lt 0 (length d.staged))
      (λ some_in. subst (λ (z : ℕ). StandFor n 14 w.firsts (set w.seconds (length (entries m 0 now) % n) z) (record (descriptor_ring m d.sent d.staged false d.reaped) { entries = entries m 0 now ++ descriptor m h x ∷ [] })) (sym (later some_in))
      (stages_later n 14 w.firsts w.seconds (descriptor_ring m d.sent d.staged d.opened d.reaped) (descriptor m h x) c.some_slot st is gen (omega arith)))
      (λ none_in. subst (λ (z : ℕ). StandFor n 14 w.firsts (set w.seconds (length (entries m 0 now) % n) z) (record (descriptor_ring m d.sent d.staged false d.reaped) { entries = entries m 0 now ++ descriptor m h x ∷ [] })) (sym (first (omega arith)))
      (stages_first n 14 w.firsts w.seconds (descriptor_ring m d.sent d.staged d.opened d.reaped) (descriptor m h x) c.some_slot st is gen (omega arith))) in
      let longer : next_of m (record d { staged = d.staged ++ x ∷ []; opened = false }) ≡ h + 1 = length-append ps (d.staged ++ x ∷ []) ∙ (let k = length-append d.staged (x ∷ []) in omega arith) in record {
        words_are = record {
          firsts = w.firsts;
          seconds = set w.seconds i new;
          others = w.others;
          are = ap (λ l. set l i new) w.are ∙ set_first n w.seconds w.firsts w.others st.as_many_seconds st.as_many_firsts i new low;
          stand = subst (λ (z : ℕ × List _). StandFor n 14 w.firsts (set w.seconds (z.0 % n) new) (record (descriptor_ring m d.sent d.staged false d.reaped) { entries = z.1 })) (λ k. (long k, sym (entries-snoc m ps d.staged x) k)) by_staged;
          told = w.told;
        };
        core = same_core m d e (d.staged ++ x ∷ []) false c;
        slots = record {
          as_many = length-set hs i (some b) ∙ sl.as_many;
          at_home = λ j less filled emptied. dite (ℕ_discrete j i)
              (λ here. (b, ap (λ (k : ℕ). get_elem? (set hs i (some b)) k) here ∙ set_here hs i (some b) (let k = sl.as_many in omega arith)))
              (λ other. home_else hs i j (some b) other (sl.at_home j less (λ _. other) emptied));
          shows = λ p z le at still. ⊎_elim
              (λ (k : (p ≡ h) × (x ≡ z)). (b, ap (λ (q : ℕ). get_elem? (set hs i (some b)) (q % n)) k.0 ∙ set_here hs i (some b) (let q = sl.as_many in omega arith), subst (λ q. Shows q b) k.1 shown))
              (λ (k : (p < h) × (get_elem? now p ≡ some z)). let less = k.0 in let q = sl.shows p z le k.1 still in (q.0, set_else hs i (p % n) (some b) (apart n (returned_of m d) p h (omega arith) le (omega arith) (omega arith) (omega arith)) ∙ q.1, q.2))
              (snoc_cases now x z p (ap (λ l. get_elem? l p) (append_assoc ps d.staged (x ∷ [])) ∙ at));
        };
      }

  -- it stores the first staged entry's second word as it is: the frame is sent
  pub publishes : IsStable Told → (x : TxPiece) (more : List TxPiece) (s : Sent) → Ring Told m d e ws hs → d.opened ≡ false → d.staged ≡ x ∷ more → d.staged ≡ chain m s → IsFrame s.frame → HasLawfulMark s
      → Ring Told m (record d { sent = d.sent ++ s ∷ []; staged = [] }) e (set ws (descriptors m d.sent % n) (descriptor m (descriptors m d.sent) x).second) hs
  publishes stable x more s r idle begins_so is frame mark = let c = r.core in let w = r.words_are in let sl = r.slots in let u : ℕ = descriptors m d.sent in let i : ℕ = u % n in let low : i < n = mod-lt u c.some_slot in let st = w.stand in
      let long = entries-length m 0 now in let ps : List TxPiece = pieces m d.sent in let more_long = length-append ps d.staged in let count = pieces-length m d.sent in let some_staged = ap length begins_so in
      let a = c.reaped_first in let b = c.completed_first in let t = c.taken_first in let new : ℕ = (descriptor m u x).second in
      let same : pieces m (d.sent ++ s ∷ []) ++ [] ≡ now = pieces-snoc m d.sent s ∙ ap (λ l. ps ++ l) (sym is) in
      let here : get_elem? now u ≡ some x = ap (λ (k : ℕ). get_elem? now k) (sym count) ∙ at_behind ps d.staged x more begins_so in
      let word : (entry_at (entries m 0 now) u).second ≡ new = ap (λ z. z.second) (entry-is m 0 now u x here) ∙ (let k : 0 + u ≡ u = omega arith in ap (λ (q : ℕ). (descriptor m q x).second) k) in
      let total : length (entries m 0 now) ≡ descriptors m (d.sent ++ s ∷ []) = long ∙ ap length (sym same) ∙ ap length (append-nil (pieces m (d.sent ++ s ∷ []))) ∙ pieces-length m (d.sent ++ s ∷ []) in
      let front : take d.reaped (d.sent ++ s ∷ []) ≡ take d.reaped d.sent = take-append-le d.reaped d.sent (s ∷ []) (omega arith) in
      let closed : (k : Bool) (z : List TxPiece) (b : Bool) → d.opened ≡ false → word_if d.opened (address m.name.queue k (length z % n)) ≡ None = λ k z b o. ap (λ q. word_if q (address m.name.queue k (length z % n))) o in
      let done : StandFor n 14 w.firsts (set w.seconds i (entry_at (entries m 0 now) u).second) (record (descriptor_ring m d.sent d.staged d.opened d.reaped) { published = length (entries m 0 now) })
      = publishes_staged n 14 w.firsts w.seconds (descriptor_ring m d.sent d.staged d.opened d.reaped) c.some_slot st (omega arith) in
      record {
        words_are = record {
          firsts = w.firsts;
          seconds = set w.seconds i new;
          others = w.others;
          are = ap (λ l. set l i new) w.are ∙ set_first n w.seconds w.firsts w.others st.as_many_seconds st.as_many_firsts i new low;
          stand = subst (λ (z : ℕ × List TxPiece × Option ℕ × ℕ × List Sent). StandFor n 14 w.firsts (set w.seconds i z.0) (record { entries = entries m 0 z.1; next = z.2; published = z.3; consumed = descriptors m z.4 }))
              (λ k. (word k, sym same k, (closed (next_in_data m d.staged) now true idle ∙ sym (closed m.with_data (pieces m (d.sent ++ s ∷ []) ++ []) true idle)) k, total k, sym front k)) done;
          told = stable m d.sent s e.completed e.closing d.reaped w.others (omega arith) (λ o. let k = c.closing_taken o in omega arith) w.told;
        };
        core = record {
          some_slot = c.some_slot;
          full = c.full;
          piece = c.piece;
          reaped_first = c.reaped_first;
          completed_first = c.completed_first;
          one_ahead = c.one_ahead;
          taken_first = let k = length-append d.sent (s ∷ []) in omega arith;
          taken_is = c.taken_is ∙ sym (take-append-le (length e.taken) d.sent (s ∷ []) t);
          exact = c.exact;
          frames = all_more IsLong d.sent s c.frames frame;
          marks = all_more HasLawfulMark d.sent s c.marks mark;
          read_is = c.read_is;
          ahead_is = let bd = bounds Told m d e ws hs r in let k = bd.read_in in ap (drop (e.read + one_if e.emptying)) (pieces-append m d.sent (s ∷ [])) ∙ drop-append-le (e.read + one_if e.emptying) ps (pieces m (s ∷ [])) (omega arith)
              ∙ ap (λ l. l ++ pieces m (s ∷ [])) c.ahead_is ∙ append_assoc e.ahead (pieces m (drop (length e.taken) d.sent)) (pieces m (s ∷ []))
              ∙ ap (λ l. e.ahead ++ l) (sym (pieces-append m (drop (length e.taken) d.sent) (s ∷ [])) ∙ ap (pieces m) (sym (drop-append-le (length e.taken) d.sent (s ∷ []) t)));
          hand_is = λ o. ap (λ l. get_elem? l e.read) (pieces-append m d.sent (s ∷ [])) ∙ at_first ps (pieces m (s ∷ [])) e.read e.at_hand (c.hand_is o);
          begun = let k = c.begun in let f : take e.completed (d.sent ++ s ∷ []) ≡ take e.completed d.sent = take-append-le e.completed d.sent (s ∷ []) (omega arith) in subst (λ (l : List Sent). descriptors m l ≤ e.read) (sym f) k;
          closing_taken = c.closing_taken;
        };
        slots = record {
          as_many = sl.as_many;
          at_home = λ j less filled emptied. sl.at_home j less (λ o. absurd (true≢false (sym o ∙ idle))) emptied;
          shows = λ p z le at still. sl.shows p z (subst (λ (l : List Sent). descriptors m l ≤ p) front le) (ap (λ l. get_elem? l p) (sym same) ∙ at) still;
        };
      }

  -- the device takes the buffer of the next piece out
  pub grabs_slot : (taken : List Taken) (x : TxPiece) (ahead : List TxPiece) → Ring Told m d e ws hs → e.emptying ≡ false → e.read < descriptors m d.sent → Slots m d (record e { taken = taken; ahead = ahead; emptying = true; at_hand = x }) (set hs (e.read % n) none)
  grabs_slot taken x ahead r idle in_front = let sl = r.slots in let bd = bounds Told m d e ws hs r in let b1 = bd.low in let b2 = bd.room in let b4 = bd.posted_in in record {
    as_many = length-set hs (e.read % n) none ∙ sl.as_many;
    at_home = λ j less filled emptied. home_else hs (e.read % n) j none (emptied refl) (sl.at_home j less filled (λ o. absurd (true≢false (sym o ∙ idle))));
    shows = λ p z le at still. let q = sl.shows p z le at (λ _. idle) in let in_ = at_below now p z at in dite (ℕ_discrete p e.read)
        (λ here. absurd (true≢false (still here)))
        (λ other. (q.0, set_else hs (e.read % n) (p % n) none (apart n (returned_of m d) p e.read other le b1 (omega arith) (omega arith)) ∙ q.1, q.2));
  }

  -- words that tell the same of another place of the device's end
  same_words : (e' : TxDeviceAt) → e'.completed ≡ e.completed → e'.closing ≡ e.closing → Words Told m d e ws → Words Told m d e' ws
  same_words e' a b w = record { firsts = w.firsts; seconds = w.seconds; others = w.others; are = w.are; stand = w.stand; told = subst (λ (z : ℕ × Bool). Told m d.sent z.0 z.1 d.reaped w.others) (λ i. (sym a i, sym b i)) w.told }

  -- with its load of the first descriptor of the next frame
  pub takes_frame : (s : Sent) (x : TxPiece) (more : List TxPiece) → Ring Told m d e ws hs → e.emptying ≡ false → e.ahead ≡ [] → e.completed ≡ length e.taken → get_elem? d.sent (length e.taken) ≡ some s → chain m s ≡ x ∷ more
      → Ring Told m d (record e { taken = e.taken ++ record { sent = s; descriptors = need m (length s.frame) } ∷ []; ahead = more; emptying = true; at_hand = x }) ws (set hs (e.read % n) none) × (get_elem? (pieces m d.sent) e.read ≡ some x)
  takes_frame s x more r idle none_ahead whole at cuts_so = let c = r.core in let t : ℕ = length e.taken in let z : Taken = record { sent = s; descriptors = need m (length s.frame) } in let longer : length (e.taken ++ z ∷ []) ≡ t + 1 = length-append e.taken (z ∷ []) in
      let on : sent_of (e.taken ++ z ∷ []) ≡ sent_of e.taken ++ s ∷ [] = sent_of-append e.taken (z ∷ []) in let some_in = at_below d.sent t s at in let size = ap length cuts_so in let as_needed = chain-length m s in
      let e0 = found-append e.taken (z ∷ []) in let e1 = ap (descriptors m) on in let e2 = descriptors-append m (sent_of e.taken) (s ∷ []) in let e3 = c.exact in let e4 = c.read_is in let e5 = ap length none_ahead in let e6 = ap one_if idle in
      let stands : e.read + one_if e.emptying ≡ e.read = omega arith in
      let behind : drop e.read (pieces m d.sent) ≡ x ∷ (more ++ pieces m (drop (suc t) d.sent)) = ap (λ (k : ℕ). drop k (pieces m d.sent)) (sym stands) ∙ c.ahead_is ∙ ap (λ l. l ++ pieces m (drop t d.sent)) none_ahead ∙ ap (pieces m) (drop_at d.sent t s at) ∙ ap (λ l. l ++ pieces m (drop (suc t) d.sent)) cuts_so in
      let next = drop_tail (pieces m d.sent) e.read x (more ++ pieces m (drop (suc t) d.sent)) behind in let in_front = at_below (pieces m d.sent) e.read x next.0 in let count = pieces-length m d.sent in (
        record {
          words_are = same_words (record e { taken = e.taken ++ z ∷ []; ahead = more; emptying = true; at_hand = x }) refl refl r.words_are;
          core = record {
            some_slot = c.some_slot;
            full = c.full;
            piece = c.piece;
            reaped_first = c.reaped_first;
            completed_first = omega arith;
            one_ahead = omega arith;
            taken_first = omega arith;
            taken_is = on ∙ ap (λ l. l ++ s ∷ []) c.taken_is ∙ sym (take_one_more d.sent t s at) ∙ ap (λ (k : ℕ). take k d.sent) (let q : suc t ≡ length (e.taken ++ z ∷ []) = omega arith in q);
            exact = omega arith;
            frames = c.frames;
            marks = c.marks;
            read_is = omega arith;
            ahead_is = (let q : e.read + 1 ≡ suc e.read = omega arith in ap (λ (k : ℕ). drop k (pieces m d.sent)) q) ∙ next.1 ∙ (let q : suc t ≡ length (e.taken ++ z ∷ []) = omega arith in ap (λ (k : ℕ). more ++ pieces m (drop k d.sent)) q);
            hand_is = λ o. next.0;
            begun = c.begun;
            closing_taken = λ o. omega arith;
          };
          slots = grabs_slot (e.taken ++ z ∷ []) x more r idle (omega arith);
        },
        next.0,
      )

  -- with its load of a further one
  pub goes_on : (x : TxPiece) (more : List TxPiece) → Ring Told m d e ws hs → e.emptying ≡ false → e.ahead ≡ x ∷ more
      → Ring Told m d (record e { ahead = more; emptying = true; at_hand = x }) ws (set hs (e.read % n) none) × (get_elem? (pieces m d.sent) e.read ≡ some x)
  goes_on x more r idle is_ahead = let c = r.core in let t : ℕ = length e.taken in let e4 = c.read_is in let e5 = ap length is_ahead in let e6 = ap one_if idle in
      let stands : e.read + one_if e.emptying ≡ e.read = omega arith in
      let behind : drop e.read (pieces m d.sent) ≡ x ∷ (more ++ pieces m (drop t d.sent)) = ap (λ (k : ℕ). drop k (pieces m d.sent)) (sym stands) ∙ c.ahead_is ∙ ap (λ l. l ++ pieces m (drop t d.sent)) is_ahead in
      let next = drop_tail (pieces m d.sent) e.read x (more ++ pieces m (drop t d.sent)) behind in let in_front = at_below (pieces m d.sent) e.read x next.0 in let count = pieces-length m d.sent in (
        record {
          words_are = same_words (record e { ahead = more; emptying = true; at_hand = x }) refl refl r.words_are;
          core = record {
            some_slot = c.some_slot;
            full = c.full;
            piece = c.piece;
            reaped_first = c.reaped_first;
            completed_first = c.completed_first;
            one_ahead = c.one_ahead;
            taken_first = c.taken_first;
            taken_is = c.taken_is;
            exact = c.exact;
            frames = c.frames;
            marks = c.marks;
            read_is = omega arith;
            ahead_is = (let q : e.read + 1 ≡ suc e.read = omega arith in ap (λ (k : ℕ). drop k (pieces m d.sent)) q) ∙ next.1;
            hand_is = λ o. next.0;
            begun = c.begun;
            closing_taken = c.closing_taken;
          };
          slots = grabs_slot e.taken x more r idle (omega arith);
        },
        next.0,
      )

  -- it puts the buffer home
  pub returns : (b : TxBuffer) → Ring Told m d e ws hs → e.emptying ≡ true → Shows e.at_hand b → Ring Told m d (record e { emptying = false; read = suc e.read }) ws (set hs (e.read % n) (some b))
  returns b r state shown = let c = r.core in let x : TxPiece = e.at_hand in let there = c.hand_is state in let sl = r.slots in let bd = bounds Told m d e ws hs r in let b1 = bd.low in let b2 = bd.room in let b3 = bd.read_in in let b4 = bd.posted_in in
      let i : ℕ = e.read % n in let low : i < n = mod-lt e.read c.some_slot in let e6 = ap one_if state in let e4 = c.read_is in
      let stands : e.read + one_if e.emptying ≡ suc e.read + 0 = omega arith in record {
        words_are = same_words (record e { emptying = false; read = suc e.read }) refl refl r.words_are;
        core = record {
          some_slot = c.some_slot;
          full = c.full;
          piece = c.piece;
          reaped_first = c.reaped_first;
          completed_first = c.completed_first;
          one_ahead = c.one_ahead;
          taken_first = c.taken_first;
          taken_is = c.taken_is;
          exact = c.exact;
          frames = c.frames;
          marks = c.marks;
          read_is = omega arith;
          ahead_is = ap (λ (k : ℕ). drop k (pieces m d.sent)) (sym stands) ∙ c.ahead_is;
          hand_is = λ o. absurd (true≢false (sym o));
          begun = let k = c.begun in omega arith;
          closing_taken = c.closing_taken;
        };
        slots = record {
          as_many = length-set hs i (some b) ∙ sl.as_many;
          at_home = λ j less filled emptied. dite (ℕ_discrete j i)
              (λ here. (b, ap (λ (k : ℕ). get_elem? (set hs i (some b)) k) here ∙ set_here hs i (some b) (let k = sl.as_many in omega arith)))
              (λ other. home_else hs i j (some b) other (sl.at_home j less filled (λ _. other)));
          shows = λ p z le at still. dite (ℕ_discrete p e.read)
              (λ here. let same : x ≡ z = some-injective x z (sym (at_first (pieces m d.sent) d.staged e.read x there) ∙ ap (λ (k : ℕ). get_elem? now k) (sym here) ∙ at) in
              (b, ap (λ (q : ℕ). get_elem? (set hs i (some b)) (q % n)) here ∙ set_here hs i (some b) (let q = sl.as_many in omega arith), subst (λ q. Shows q b) same shown))
              (λ other. let q = sl.shows p z le at (λ k. absurd (other k)) in let in_ = at_below now p z at in (q.0, set_else hs i (p % n) (some b) (apart n (returned_of m d) p e.read other le b1 (omega arith) (omega arith)) ∙ q.1, q.2));
        };
      }

  -- the slots know nothing of completions, but that fewer buffers are held when a frame is reaped
  slots_done : (reaped completed : ℕ) (checking closing : Bool) → d.reaped ≤ reaped → Slots m d e hs → Slots m (record d { reaped = reaped; checking = checking }) (record e { completed = completed; closing = closing }) hs
  slots_done reaped completed checking closing up sl = record {
    as_many = sl.as_many;
    at_home = sl.at_home;
    shows = λ p x le at still. let k = take-grows m d.sent d.reaped reaped up in sl.shows p x (omega arith) at still;
  }

  pub core_done : (reaped completed : ℕ) (checking closing : Bool) → Core m d e → reaped + one_if checking ≤ completed → completed ≤ length e.taken → length e.taken ≤ suc completed → descriptors m (take completed d.sent) ≤ e.read
      → (closing ≡ true → completed < length e.taken) → Core m (record d { reaped = reaped; checking = checking }) (record e { completed = completed; closing = closing })
  core_done reaped completed checking closing c e0 e1 e2 e3 e4 = record {
    some_slot = c.some_slot;
    full = c.full;
    piece = c.piece;
    reaped_first = e0;
    completed_first = e1;
    one_ahead = e2;
    taken_first = c.taken_first;
    taken_is = c.taken_is;
    exact = c.exact;
    frames = c.frames;
    marks = c.marks;
    read_is = c.read_is;
    ahead_is = c.ahead_is;
    hand_is = c.hand_is;
    begun = e3;
    closing_taken = e4;
  }

  -- no more frames are under way than descriptors, so a ring of as many completions is never overrun
  pub few_sent : Ring Told m d e ws hs → length d.sent ≤ d.reaped + n
  few_sent r = let c = r.core in let bd = bounds Told m d e ws hs r in let u = under_way m d.sent d.reaped c.piece c.frames in let p = parts m d.sent d.reaped in let b2 = bd.room in let b4 = bd.posted_in in omega arith

  -- the words behind the descriptors tell something else of completions, and nothing is reaped
  pub tells_done : (completed : ℕ) (checking closing : Bool) (others : List ℕ) (new : List ℕ) (r : Ring Told m d e ws hs) → new ≡ r.words_are.seconds ++ (r.words_are.firsts ++ others) → Told m d.sent completed closing d.reaped others
      → Core m (record d { checking = checking }) (record e { completed = completed; closing = closing }) → Ring Told m (record d { checking = checking }) (record e { completed = completed; closing = closing }) new hs
  tells_done completed checking closing others new r are told core = let w = r.words_are in record {
    words_are = record { firsts = w.firsts; seconds = w.seconds; others = others; are = are; stand = w.stand; told = told };
    core = core;
    slots = slots_done d.reaped completed checking closing (omega arith) r.slots;
  }

  -- the driver's load of the last of what tells a completion gives the frame's descriptors back
  pub reaps : (s : Sent) → Ring Told m d e ws hs → d.reaped < e.completed → get_elem? d.sent d.reaped ≡ some s → ((others : List ℕ) → Told m d.sent e.completed e.closing d.reaped others → Told m d.sent e.completed e.closing (suc d.reaped) others)
      → Ring Told m (record d { reaped = suc d.reaped; checking = false }) e ws hs
  reaps s r less at on = let c = r.core in let w = r.words_are in let k : ℕ = d.reaped in
      let more : descriptors m (take (suc k) d.sent) ≡ descriptors m (take k d.sent) + need m (length s.frame) = take_one m d.sent k s at in
      let all = take-all m d.sent (suc k) in record {
        words_are = record {
          firsts = w.firsts;
          seconds = w.seconds;
          others = w.others;
          are = w.are;
          stand = subst (λ (q : ℕ). StandFor n 14 w.firsts w.seconds (record (descriptor_ring m d.sent d.staged d.opened k) { consumed = q })) (sym more)
              (consumes n 14 (need m (length s.frame)) w.firsts w.seconds (descriptor_ring m d.sent d.staged d.opened k) w.stand (omega arith));
          told = on w.others w.told;
        };
        core = core_done (suc k) e.completed false e.closing c (omega arith) c.completed_first c.one_ahead c.begun c.closing_taken;
        slots = slots_done (suc k) e.completed false e.closing (omega arith) r.slots;
      }

  -- where a frame that is read whole is completed, the core is in order
  pub completed_core : Core m d e → e.completed < length e.taken → e.ahead ≡ [] → e.emptying ≡ false → Core m d (record e { completed = suc e.completed; closing = false })
  completed_core c less none_ahead idle = let k : ℕ = e.completed in let one = c.one_ahead in let f = c.reaped_first in
      let all : suc k ≡ length e.taken = omega arith in let e1 = c.read_is in let e2 = c.exact in let e3 = ap (descriptors m) c.taken_is in let e4 = ap length none_ahead in let e5 = ap one_if idle in let e6 = ap (λ (q : ℕ). descriptors m (take q d.sent)) all in
      core_done d.reaped (suc k) d.checking false c (omega arith) (omega arith) (omega arith) (omega arith) (λ o. absurd (true≢false (sym o)))
