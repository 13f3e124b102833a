-- The rule at the start: both descriptor rings are posted full, and no completion is there.
use Rattle.std.proofs.Common.{Bool, true, false, map, vec_len, ⊎_elim, ◌≡◌, ℕ, zero, suc, ◌++◌, replicate, length-append, append_assoc, ◌+◌, ◌%◌, ◌<◌, inl, inr, List, [], ◌∷◌, length, slice_index, true≢false, not, ◌==◌, sym, refl, ap, ◌∙◌, subst, arith}
use Rattle.std.proofs.lemmas.List.{length-map}
use Rattle.std.proofs.lemmas.List.Elements.{All-nil}
use Rattle.std.proofs.Math.Nat.{mod-eq_of_lt, div-eq_of_lt}
use Rattle.std.proofs.lemmas.Bool.{cases_lt}
use mathlib.Core.Option.{some, some-ne-none, some-injective}
use lib.ListN.{get_elem?}
use Rattle.vmx_ring_laws.specs.Lists.{snoc_cases}
use Rattle.atomic_table.specs.Table.{opening}
use Rattle.atomic_table.proofs.Lists.{some_there}
use Rattle.vmx_ring_laws.specs.Views.{all_snoc}
use Rattle.vmx_ends.specs.Words.{bit}
use Rattle.vmx_ends.specs.ReceiveClauses.{made_of, IsRefusal}
use Rattle.vmx_ends.specs.declared.made.RxMade.{RxMade}
use Rattle.vmx_ends.specs.declared.made.RxShape.{RxShape}
use Rattle.vmx_rx_ring.specs.declared.known.Buffer.{Buffer}
use Rattle.std.proofs.lemmas.List.{get_or_append_left, get_or-append-add, get_or_push, get_or-replicate, length-replicate}
use Rattle.vmx_rx_ring.specs.Words.{count, more_words, cell, Waits, Counts, room_at, second1, second2, address}
use Rattle.vmx_rx_ends.specs.Opening.{row, opening_words, HaveRoom}
use Rattle.vmx_rx_ring.specs.Rule.{Rooms, Fits, Queue}
use Rattle.vmx_rx_ring.specs.Seats.{newcomer, new_device, new_driver}
use Rattle.vmx_rx_ring.specs.Shapes.{IsShape}

waits_first : (how : Bool) (n p : ℕ) (w : ℕ × ℕ) → p < n → w.0 ≡ 0 → Waits how n p w
waits_first true n p w less none_ = tt
waits_first false n p w less none_ = ap (bit 63) none_ ∙ ap (λ (q : ℕ). not (q % 2 == 0)) (sym (div-eq_of_lt less))

-- a row of values has as many as it says, and each stands at its number
row_length : (f : ℕ → ℕ) (n : ℕ) → length (row f n) ≡ n
row_length f zero = refl
row_length f (suc n) = let a = length-append (row f n) (f n ∷ []) in let b = row_length f n in omega arith

row_at : (f : ℕ → ℕ) (n p : ℕ) → p < n → slice_index (row f n) p ≡ f p
row_at f zero p less = absurd (omega arith)
row_at f (suc n) p less = let len = row_length f n in elim (cases_lt p n) [
  | inl low ↦ get_or_append_left (row f n) (f n ∷ []) 0 p (omega arith) ∙ row_at f n p low
  | inr high ↦ let is : p ≡ n = omega arith in ap (slice_index (row f n ++ f n ∷ [])) is ∙ get_or_push (row f n) (f n) 0 n len ∙ ap f (sym is)
]

-- one more value behind a row
pub row_next : (f : ℕ → ℕ) (n : ℕ) → row f (n + 1) ≡ row f n ++ f n ∷ []
row_next f n = let e : n + 1 ≡ suc n = omega arith in ap (row f) e

-- no buffer, and one more buffer
pub no_room : (m : RxMade) → HaveRoom m []
no_room m k x at = absurd (some-ne-none x (sym at))

pub one_room : (m : RxMade) (xs : List Buffer) (b : Buffer) → HaveRoom m xs → vec_len b.bytes ≡ room_at m (length xs) → HaveRoom m (xs ++ b ∷ [])
one_room m xs b all here k x at = ⊎_elim
    (λ (c : (k ≡ length xs) × (b ≡ x)). subst (λ (z : ℕ × Buffer). vec_len z.1.bytes ≡ room_at m z.0) (λ i. (sym c.0 i, c.1 i)) here)
    (λ (c : (k < length xs) × (get_elem? xs k ≡ some x)). all k x c.1)
    (snoc_cases xs b x k at)

-- the buffers at home have it
homes_have : (m : RxMade) (xs : List Buffer) → HaveRoom m xs → Rooms m (map some xs)
homes_have m xs all k x at = all k x (there xs k x at)
  where
    there : (ys : List Buffer) (k : ℕ) (x : Buffer) → get_elem? (map some ys) k ≡ some (some x) → get_elem? ys k ≡ some x
    there [] k x e = absurd (some-ne-none (some x) (sym e))
    there (y ∷ ys) zero x e = some-injective (some y) (some x) e
    there (y ∷ ys) (suc k) x e = there ys k x e

-- reading behind a part
behind : (n : ℕ) (a b : List ℕ) (i : ℕ) → length a ≡ n → slice_index (a ++ b) (n + i) ≡ slice_index b i
behind n a b i wide = ap (λ (k : ℕ). slice_index (a ++ b) (k + i)) (sym wide) ∙ get_or-append-add a b i 0

-- as many words as both rings have descriptors, four times
pub opening_length : (how : Bool) (m : RxMade) → length (opening_words how m) ≡ count m + count m + count m + count m + more_words how
opening_length how m = total
  where
    a : List ℕ
    a = row (second1 m) m.size1

    b : List ℕ
    b = row (second2 m) m.size2

    c : List ℕ
    c = row (address m) (count m)

    d : List ℕ
    d = replicate (count m + count m + more_words how) 0

    total : length (((a ++ b) ++ c) ++ d) ≡ count m + count m + count m + count m + more_words how
    total = let p = length-append ((a ++ b) ++ c) d in let q = length-append (a ++ b) c in let r = length-append a b in let x : length a ≡ m.size1 = row_length (second1 m) m.size1 in let y : length b ≡ m.size2 = row_length (second2 m) m.size2 in let w : length c ≡ count m = row_length (address m) (count m) in let z : length d ≡ count m + count m + more_words how = length-replicate (count m + count m + more_words how) 0 in omega arith

pub wide_some : (how : Bool) (s : RxShape) (w : ℕ) → IsShape s → w ≡ count (made_of s) + count (made_of s) + count (made_of s) + count (made_of s) + more_words how → 0 < w
wide_some how s w shape is = let z = shape.0 in omega arith

counts_none : (how : Bool) (m : RxMade) (words : List ℕ) → ((i : ℕ) → i < count m + count m + more_words how → slice_index words (count m + count m + i) ≡ 0) → Counts how m words 0
counts_none true m words zeros = ap (slice_index words) (let e : count m + count m + count m + count m ≡ count m + count m + (count m + count m) = omega arith in e) ∙ zeros (count m + count m) (omega arith)
counts_none false m words zeros = tt

begins_by : (how : Bool) (s : RxShape) (words : List ℕ) (xs : List Buffer) → IsShape s → length xs ≡ count (made_of s) → HaveRoom (made_of s) xs → length words ≡ count (made_of s) + count (made_of s) + count (made_of s) + count (made_of s) + more_words how
    → ((p : ℕ) → p < s.size1 → slice_index words p ≡ second1 (made_of s) p) → ((p : ℕ) → p < s.size2 → slice_index words (s.size1 + p) ≡ second2 (made_of s) p) → ((k : ℕ) → k < count (made_of s) → slice_index words (count (made_of s) + k) ≡ address (made_of s) k)
    → ((i : ℕ) → i < count (made_of s) + count (made_of s) + more_words how → slice_index words (count (made_of s) + count (made_of s) + i) ≡ 0) → Queue how (opening words xs (newcomer s))
begins_by how s words xs shape slots rooms wide ones twos lows zeros = let m : RxMade = made_of s in let a = shape.0 in let b = shape.2 in record {
  story = record { made = m; device_seat = 0; driver_seat = 0; e = new_device m; d = new_driver m };
  kept = record {
    rings = record {
      some1 = omega arith;
      some2 = omega arith;
      as_many_words = wide;
      posts1 = λ p less near. let low : p < s.size1 = omega arith in ap (λ (i : ℕ). slice_index words i) (let z = mod-eq_of_lt low in let e : 0 + p % s.size1 ≡ p = omega arith in e) ∙ ones p low;
      posts2 = λ p less near. let low : p < s.size2 = omega arith in ap (λ (i : ℕ). slice_index words (s.size1 + i)) (mod-eq_of_lt low) ∙ twos p low;
      low = lows;
      lap = record {
        some_cell = omega arith;
        behind = omega arith;
        within = omega arith;
        full = λ p e le at. absurd (some-ne-none e (sym at));
        free = λ p le less. let low : p < count m = omega arith in waits_first how (count m) p (cell (count m) words (p % count m)) low (ap (λ (i : ℕ). slice_index words (count m + count m + i)) (mod-eq_of_lt low) ∙ zeros p (omega arith));
      };
      count_word = counts_none how m words zeros;
      read_published = omega arith;
      published_log = omega arith;
      rising = (omega arith, omega arith);
      within1 = omega arith;
      within2 = omega arith;
      reach = λ ring p e. absurd (cc e);
      there = λ e. absurd (true≢false (sym e));
      opened_word = λ w e. absurd (cc e);
    };
    homes = record {
      as_many_slots = length-map _ _ ∙ slots;
      rooms = homes_have m xs rooms;
      at_home = λ k less f g. some_there xs k (omega arith);
      filled = λ q e le at still. absurd (some-ne-none e (sym at));
    };
    knows = record {
      full = refl;
      received = ([], refl);
      placed = λ t x at. absurd (some-ne-none x (sym at));
      seen1 = omega arith;
      seen2 = omega arith;
      refusals = All-nil (IsRefusal m);
      heard = ([], refl);
      heard1 = omega arith;
      heard2 = omega arith;
      told = ([], refl);
      latest = record { driver's = (([], refl), refl); device's = (([], refl), refl); posted = (omega arith, omega arith); gone = (omega arith, omega arith) };
    };
    each = all_snoc (Fits _) [] (newcomer s)
        record { device's = λ _. (refl, refl, refl); driver's = λ _. (refl, refl, refl); news = record { device's = λ e. absurd (true≢false (sym e)); driver's = λ e. absurd (true≢false (sym e)) } }
        (λ j u less e. absurd (omega arith));
    device_notes = refl;
    driver_notes = refl;
  };
}

pub begins : (how : Bool) (s : RxShape) (words : List ℕ) (xs : List Buffer) → IsShape s → length xs ≡ count (made_of s) → HaveRoom (made_of s) xs → words ≡ opening_words how (made_of s) → Queue how (opening words xs (newcomer s))
begins how s words xs shape slots rooms is = subst (λ (ws : List ℕ). Queue how (opening ws xs (newcomer s))) (sym (is ∙ regrouped))
    (begins_by how s parts xs shape slots rooms wide
    (λ p less. get_or_append_left a (b ++ (c ++ d)) 0 p (omega (arith, la)) ∙ row_at (second1 m) s.size1 p less)
    (λ p less. behind s.size1 a (b ++ (c ++ d)) p la ∙ get_or_append_left b (c ++ d) 0 p (omega (arith, lb)) ∙ row_at (second2 m) s.size2 p less)
    (λ k less. ap (slice_index parts) (regroup s.size1 s.size2 k) ∙ behind s.size1 a (b ++ (c ++ d)) (s.size2 + k) la ∙ behind s.size2 b (c ++ d) k lb ∙ get_or_append_left c d 0 k (omega (arith, lc)) ∙ row_at (address m) (count m) k less)
    (λ i less. ap (slice_index parts) (regroup2 s.size1 s.size2 i) ∙ behind s.size1 a (b ++ (c ++ d)) (s.size2 + (count m + i)) la ∙ behind s.size2 b (c ++ d) (count m + i) lb ∙ behind (count m) c d i lc ∙ get_or-replicate (count m + count m + more_words how) i 0 0 less))
  where
    m : RxMade
    m = made_of s

    a : List ℕ
    a = row (second1 m) s.size1

    b : List ℕ
    b = row (second2 m) s.size2

    c : List ℕ
    c = row (address m) (count m)

    d : List ℕ
    d = replicate (count m + count m + more_words how) 0

    la : length a ≡ s.size1
    la = row_length (second1 m) s.size1

    lb : length b ≡ s.size2
    lb = row_length (second2 m) s.size2

    lc : length c ≡ count m
    lc = row_length (address m) (count m)

    parts : List ℕ
    parts = a ++ (b ++ (c ++ d))

    regrouped : opening_words how m ≡ parts
    regrouped = append_assoc (a ++ b) c d ∙ append_assoc a b (c ++ d)

    wide : length parts ≡ count m + count m + count m + count m + more_words how
    wide = let p = length-append a (b ++ (c ++ d)) in let q = length-append b (c ++ d) in let r = length-append c d in let z : length d ≡ count m + count m + more_words how = length-replicate (count m + count m + more_words how) 0 in let x = la in let y = lb in let w = lc in omega arith

    regroup : (n1 n2 k : ℕ) → n1 + n2 + k ≡ n1 + (n2 + k)
    regroup n1 n2 k = omega arith

    regroup2 : (n1 n2 i : ℕ) → n1 + n2 + (n1 + n2) + i ≡ n1 + (n2 + (n1 + n2 + i))
    regroup2 n1 n2 i = omega arith
