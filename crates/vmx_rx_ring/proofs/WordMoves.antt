-- What each kind of step does to the words.
use Rattle.std.proofs.Common.{◌≡◌, ◌≢◌, ℕ, suc, ◌+◌, ◌%◌, ◌^◌, ◌<◌, ◌≤◌, ◌⊎◌, List, [], ◌∷◌, ◌++◌, length, drop, slice_set, slice_index, inl, inr, Bool, true, false, true≢false, not, None, sym, refl, ap, ◌∙◌, subst, ⊎_elim, arith, mod-lt, length-append, length-set, get_or-set_other, get_or-set_same, ne_eqb, eq-eqb, cond}
use Rattle.std.proofs.lemmas.List.{drop-append-le}
use mathlib.Core.Logic.{dite}
use mathlib.Core.Option.{some, some-injective}
use native.Mathlib.Decide.{ℕ_discrete, dec_lt}
use native.Mathlib.Nat.{add-mod_right}
use lib.ListN.{get_elem?}
use Rattle.atomic_table.proofs.Lists.{one_turn}
use Rattle.vmx_ring_laws.specs.Lap.{Lap}
use Rattle.vmx_ring_laws.specs.Lists.{at_below, there_below}
use Rattle.vmx_ring_laws.specs.Moves.{elsewhere, touches, puts, forgets}
use Rattle.vmx_genring.specs.Rings.{generation}
use Rattle.vmx_ends.specs.Words.{bit}
use Rattle.vmx_ends.specs.declared.made.RxMade.{RxMade}
use Rattle.vmx_rx_ring.specs.declared.known.Entry.{Entry}
use Rattle.vmx_rx_ring.specs.Words.{count, second1, second2, cell, with_bit, shown_bit, shown_in, Shows, Waits, Counts}
use Rattle.vmx_rx_ring.specs.Rule.{Posts, Rising, Between, Numbers, Rings}
use Rattle.vmx_rx_ring.proofs.Bits.{generation_next, not_not, bit_with}

-- the words of a descriptor ring, where another word changes, and where the next position is posted
posts_else : (words : List ℕ) (base n posted : ℕ) (entry : ℕ → ℕ) (k x : ℕ) → 0 < n → ((i : ℕ) → i < n → base + i ≢ k) → Posts words base n posted entry → Posts (slice_set words k x) base n posted entry
posts_else words base n posted entry k x pos apart f p less near = get_or-set_other words k (base + p % n) x 0 (apart (p % n) (mod-lt p pos)) ∙ f p less near

posts_more : (words : List ℕ) (base n posted : ℕ) (entry : ℕ → ℕ) → 0 < n → base + posted % n < length words → Posts words base n posted entry → Posts (slice_set words (base + posted % n) (entry posted)) base n (suc posted) entry
posts_more words base n posted entry pos within f p less near = dite (ℕ_discrete p posted)
    (λ here. subst (λ (q : ℕ). slice_index (slice_set words (base + posted % n) (entry posted)) (base + q % n) ≡ entry q) (sym here) (get_or-set_same words (base + posted % n) (entry posted) 0 within))
    (λ other. let apart = elsewhere n p posted (omega arith) (omega arith) in get_or-set_other words (base + posted % n) (base + p % n) (entry posted) 0 (λ e. apart (omega arith)) ∙ f p (omega arith) (omega arith))

posts_at : (words : List ℕ) (base n posted : ℕ) (entry : ℕ → ℕ) (k : ℕ) → k ≡ base + posted % n → 0 < n → base + posted % n < length words → Posts words base n posted entry → Posts (slice_set words k (entry posted)) base n (suc posted) entry
posts_at words base n posted entry k is pos within f = subst (λ (i : ℕ). Posts (slice_set words i (entry posted)) base n (suc posted) entry) (sym is) (posts_more words base n posted entry pos within f)

-- a look at a position of which all before are posted
pub posts_tell : (words : List ℕ) (base n back : ℕ) (rest : ℕ → ℕ) (p : ℕ) → 0 < n → ((q : ℕ) → rest q < 2 ^ 31) → Posts words base n (n + back) (λ q. with_bit 31 (rest q) (generation n q)) → back ≤ p → p ≤ n + back
    → ((p < n + back) × (bit 31 (slice_index words (base + p % n)) ≡ generation n p)) ⊎ ((p ≡ n + back) × (bit 31 (slice_index words (base + p % n)) ≡ not (generation n p)))
posts_tell words base n back rest p pos small f low high = dite (dec_lt p (n + back))
    (λ less. inl (less, ap (bit 31) (f p less (omega arith)) ∙ bit_with 31 (rest p) (generation n p) (omega arith) (small p)))
    (λ not_less. let is : p ≡ back + n = omega arith in
    let here : p % n ≡ back % n = ap (λ (q : ℕ). q % n) is ∙ add-mod_right back n in
    let shows : bit 31 (slice_index words (base + p % n)) ≡ generation n back = ap (λ (i : ℕ). bit 31 (slice_index words (base + i))) here ∙ ap (bit 31) (f back (omega arith) (omega arith)) ∙ bit_with 31 (rest back) (generation n back) (omega arith) (small back) in
    let next : generation n p ≡ not (generation n back) = ap (generation n) is ∙ generation_next n back pos in
    inr (omega arith, shows ∙ sym (not_not (generation n back)) ∙ ap not (sym next)))

-- cells that are not touched
cells_same : (n : ℕ) (words words' : List ℕ) (In : ℕ → Entry → ℕ × ℕ → Type 0) (Free : ℕ → ℕ × ℕ → Type 0) (log : List Entry) (from : ℕ) → ((i : ℕ) → i < n → cell n words' i ≡ cell n words i) → Lap n (cell n words) In Free log from → Lap n (cell n words') In Free log from
cells_same n words words' In Free log from same r = let pos = r.some_cell in record {
  some_cell = pos;
  behind = r.behind;
  within = r.within;
  full = λ p e le at. subst (In p e) (sym (same (p % n) (mod-lt p pos))) (r.full p e le at);
  free = λ p le less. subst (Free p) (sym (same (p % n) (mod-lt p pos))) (r.free p le less);
}

pub shown_else : (n published p : ℕ) → p ≢ published → shown_bit n published p ≡ generation n p
shown_else n published p other = ap (λ b. cond b (not (generation n p)) (generation n p)) (ne_eqb p published other)

pub shown_here : (n p : ℕ) → shown_bit n p p ≡ not (generation n p)
shown_here n p = ap (λ b. cond b (not (generation n p)) (generation n p)) (eq-eqb p p refl)

-- a cell whose second word stays waits as before; one that shows an entry waits for the one a lap on, where it is visible
waits_same : (how : Bool) (n p : ℕ) (a b : ℕ × ℕ) → b.0 ≡ a.0 → Waits how n p a → Waits how n p b
waits_same true n p a b same w = tt
waits_same false n p a b same w = ap (bit 63) same ∙ w

waits_next : (how : Bool) (n published p : ℕ) (e : Entry) (a : ℕ × ℕ) → 0 < n → p ≢ published → Shows how n published p e a → Waits how n (p + n) a
waits_next true n published p e a pos other f = tt
waits_next false n published p e a pos other f = ap (bit 63) f.0 ∙ bit_with 63 e.body (shown_bit n published p) (omega arith) f.1 ∙ shown_else n published p other ∙ sym (not_not (generation n p)) ∙ ap not (sym (generation_next n p pos))

-- the word that counts, where another word changes
counts_else : (how : Bool) (m : RxMade) (words : List ℕ) (published k x : ℕ) → count m + count m + count m + count m ≢ k → Counts how m words published → Counts how m (slice_set words k x) published
counts_else true m words published k x apart same = get_or-set_other words k (count m + count m + count m + count m) x 0 apart ∙ same
counts_else false m words published k x apart same = tt

module _ {how : Bool} (m : RxMade) (words : List ℕ) (y : Numbers) (r : Rings how m words y) where
  abbrev pub n : ℕ
  n = count m

  -- a first word of the next completion is stored
  pub opens : (w : ℕ) → length y.log < y.read + n → Rings how m (slice_set words (n + n + n + length y.log % n) w) (record y { opened = w ∷ [] })
  opens w room = let h : ℕ = length y.log in let i : ℕ = h % n in let k : ℕ = n + n + n + i in let pos = r.lap.some_cell in let low : i < n = mod-lt h pos in let wide = r.as_many_words in record {
    some1 = r.some1;
    some2 = r.some2;
    as_many_words = length-set words k w ∙ wide;
    posts1 = posts_else words 0 m.size1 _ _ k w r.some1 (λ j less e. omega arith) r.posts1;
    posts2 = posts_else words m.size1 m.size2 _ _ k w r.some2 (λ j less e. omega arith) r.posts2;
    low = λ j less. get_or-set_other words k (n + j) w 0 (λ e. omega arith) ∙ r.low j less;
    lap = touches n _ _ _ _ _ _ y.log y.read i r.lap
        (λ j less other t. (get_or-set_other words k (n + n + j) w 0 (λ e. omega arith) t, get_or-set_other words k (n + n + n + j) w 0 (λ e. other (omega arith)) t))
        (λ p e c le at other f. f)
        (λ p c le less other f. f)
        (λ p e le at here f. let less = at_below y.log p e at in absurd (elsewhere n p h less (omega arith) (sym here)))
        (λ p le less here f. waits_same how n p (cell n words i) (cell n (slice_set words k w) i) (get_or-set_other words k (n + n + i) w 0 (λ e. omega arith)) f);
    count_word = counts_else how m words _ k w (λ e. omega arith) r.count_word;
    read_published = r.read_published;
    published_log = r.published_log;
    rising = r.rising;
    within1 = r.within1;
    within2 = r.within2;
    reach = r.reach;
    there = r.there;
    opened_word = λ v e. get_or-set_same words k w 0 (omega arith) ∙ (let s : w ≡ v = cc e in s);
  }

  -- the completion is staged
  pub stages : (e : Entry) (g1 g2 : ℕ) → length y.log < y.read + n → y.opened ≡ e.first ∷ [] → e.body < 2 ^ 63 → Rising y.back1 y.back2 (drop y.read y.log ++ e ∷ []) g1 g2 → g1 ≤ m.size1 + y.back1 → g2 ≤ m.size2 + y.back2
      → Rings how m (slice_set words (n + n + length y.log % n) (with_bit 63 e.body (shown_in how n y.published (length y.log)))) (record y { log = y.log ++ e ∷ []; opened = []; filling = None; gone1 = g1; gone2 = g2 })
  stages e g1 g2 room was small rises in1 in2 = let h : ℕ = length y.log in let i : ℕ = h % n in let k : ℕ = n + n + i in let pos = r.lap.some_cell in let low : i < n = mod-lt h pos in let wide = r.as_many_words in
      let w : ℕ = with_bit 63 e.body (shown_in how n y.published h) in let longer : length (y.log ++ e ∷ []) ≡ h + 1 = length-append y.log (e ∷ []) in let pl = r.published_log in let behind = r.lap.behind in record {
        some1 = r.some1;
        some2 = r.some2;
        as_many_words = length-set words k w ∙ wide;
        posts1 = posts_else words 0 m.size1 _ _ k w r.some1 (λ j less z. omega arith) r.posts1;
        posts2 = posts_else words m.size1 m.size2 _ _ k w r.some2 (λ j less z. omega arith) r.posts2;
        low = λ j less. get_or-set_other words k (n + j) w 0 (λ z. omega arith) ∙ r.low j less;
        lap = puts n _ _ _ _ _ _ y.log y.read e r.lap room
            (λ j less other t. (get_or-set_other words k (n + n + j) w 0 (λ z. other (omega arith)) t, get_or-set_other words k (n + n + n + j) w 0 (λ z. omega arith) t))
            (get_or-set_same words k w 0 (omega arith), small, get_or-set_other words k (n + n + n + i) w 0 (λ z. omega arith) ∙ r.opened_word e.first was)
            (λ p z c le at f. f)
            (λ p c more less f. f);
        count_word = counts_else how m words _ k w (λ z. omega arith) r.count_word;
        read_published = r.read_published;
        published_log = omega arith;
        rising = subst (λ (es : List Entry). Rising y.back1 y.back2 es g1 g2) (sym (drop-append-le y.read y.log (e ∷ []) behind)) rises;
        within1 = in1;
        within2 = in2;
        reach = λ ring p z. absurd (cc z);
        there = r.there;
        opened_word = λ v z. absurd (cc z);
      }

  further1 : (ring p g1 g2 a1 a2 b1 b2 : ℕ) → a1 ≤ b1 → a2 ≤ b2 → Between g1 g2 ring p a1 a2 → Between g1 g2 ring p b1 b2
  further1 ring p g1 g2 a1 a2 b1 b2 up1 up2 b = ⊎_elim (λ (z : (ring ≡ 1) × (g1 ≤ p) × (p < a1)). let l = z.2 in inl (z.0, z.1, omega arith)) (λ (z : (ring ≡ 2) × (g2 ≤ p) × (p < a2)). let l = z.2 in inr (z.0, z.1, omega arith)) b

  abbrev pub posted1 : ℕ
  posted1 = m.size1 + y.back1

  abbrev pub posted2 : ℕ
  posted2 = m.size2 + y.back2

  -- a descriptor word changes: no completion does
  descriptor_cells : (k x : ℕ) → k < n → (i : ℕ) → i < n → cell n (slice_set words k x) i ≡ cell n words i
  descriptor_cells k x less i low t = (get_or-set_other words k (n + n + i) x 0 (λ e. omega arith) t, get_or-set_other words k (n + n + n + i) x 0 (λ e. omega arith) t)

  -- a buffer of ring 1 that was passed over is posted back
  pub skips : Rising (suc y.back1) y.back2 (drop y.read y.log) y.gone1 y.gone2 → Rings how m (slice_set words (posted1 % m.size1) (second1 m posted1)) (record y { back1 = suc y.back1 })
  skips rises = let k : ℕ = posted1 % m.size1 in let x : ℕ = second1 m posted1 in let low : k < m.size1 = mod-lt posted1 r.some1 in let wide = r.as_many_words in let pos = r.lap.some_cell in let in1 = r.within1 in let more : m.size1 + suc y.back1 ≡ suc posted1 = omega arith in record {
    some1 = r.some1;
    some2 = r.some2;
    as_many_words = length-set words k x ∙ wide;
    posts1 = subst (λ (q : ℕ). Posts (slice_set words k x) 0 m.size1 q (second1 m)) (sym more) (posts_at words 0 m.size1 posted1 (second1 m) k (omega arith) r.some1 (omega arith) r.posts1);
    posts2 = posts_else words m.size1 m.size2 _ _ k x r.some2 (λ j less z. omega arith) r.posts2;
    low = λ j less. get_or-set_other words k (n + j) x 0 (λ z. omega arith) ∙ r.low j less;
    lap = cells_same n words _ _ _ y.log y.read (descriptor_cells k x (omega arith)) r.lap;
    count_word = counts_else how m words _ k x (λ z. omega arith) r.count_word;
    read_published = r.read_published;
    published_log = r.published_log;
    rising = rises;
    within1 = omega arith;
    within2 = r.within2;
    reach = λ ring p e. further1 ring p _ _ _ _ _ _ (omega arith) (omega arith) (r.reach ring p e);
    there = r.there;
    opened_word = λ w e. let l : length y.log % n < n = mod-lt (length y.log) pos in get_or-set_other words k (n + n + n + length y.log % n) x 0 (λ z. omega arith) ∙ r.opened_word w e;
  }

  -- the completion is read: its cell waits for the one a lap on
  read_on : y.read < y.published → Lap n (cell n words) (Shows how n y.published) (Waits how n) y.log (suc y.read)
  read_on less = let pl = r.published_log in forgets n _ _ _ y.log y.read (suc y.read) r.lap (omega arith) (omega arith)
      (λ p e c le low at f. let is : p ≡ y.read = omega arith in waits_next how n y.published p e c r.lap.some_cell (omega arith) f)

  -- its descriptor is posted back, in ring 1 or in ring 2
  pub returns1 : y.reading ≡ true → Rising (suc y.back1) y.back2 (drop (suc y.read) y.log) y.gone1 y.gone2
      → Rings how m (slice_set words (posted1 % m.size1) (second1 m posted1)) (record y { back1 = suc y.back1; read = suc y.read; reading = false })
  returns1 reading rises = let k : ℕ = posted1 % m.size1 in let x : ℕ = second1 m posted1 in let low : k < m.size1 = mod-lt posted1 r.some1 in let wide = r.as_many_words in let pos = r.lap.some_cell in let in1 = r.within1 in let more : m.size1 + suc y.back1 ≡ suc posted1 = omega arith in
      let less = r.there reading in record {
        some1 = r.some1;
        some2 = r.some2;
        as_many_words = length-set words k x ∙ wide;
        posts1 = subst (λ (q : ℕ). Posts (slice_set words k x) 0 m.size1 q (second1 m)) (sym more) (posts_at words 0 m.size1 posted1 (second1 m) k (omega arith) r.some1 (omega arith) r.posts1);
        posts2 = posts_else words m.size1 m.size2 _ _ k x r.some2 (λ j less z. omega arith) r.posts2;
        low = λ j less. get_or-set_other words k (n + j) x 0 (λ z. omega arith) ∙ r.low j less;
        lap = cells_same n words _ _ _ y.log (suc y.read) (descriptor_cells k x (omega arith)) (read_on less);
        count_word = counts_else how m words _ k x (λ z. omega arith) r.count_word;
        read_published = omega arith;
        published_log = r.published_log;
        rising = rises;
        within1 = omega arith;
        within2 = r.within2;
        reach = λ ring p e. further1 ring p _ _ _ _ _ _ (omega arith) (omega arith) (r.reach ring p e);
        there = λ e. absurd (true≢false (sym e));
        opened_word = λ w e. let l : length y.log % n < n = mod-lt (length y.log) pos in get_or-set_other words k (n + n + n + length y.log % n) x 0 (λ z. omega arith) ∙ r.opened_word w e;
      }

  pub returns2 : y.reading ≡ true → Rising y.back1 (suc y.back2) (drop (suc y.read) y.log) y.gone1 y.gone2
      → Rings how m (slice_set words (m.size1 + posted2 % m.size2) (second2 m posted2)) (record y { back2 = suc y.back2; read = suc y.read; reading = false })
  returns2 reading rises = let i : ℕ = posted2 % m.size2 in let k : ℕ = m.size1 + i in let x : ℕ = second2 m posted2 in let low : i < m.size2 = mod-lt posted2 r.some2 in let wide = r.as_many_words in let pos = r.lap.some_cell in let in2 = r.within2 in let more : m.size2 + suc y.back2 ≡ suc posted2 = omega arith in
      let less = r.there reading in record {
        some1 = r.some1;
        some2 = r.some2;
        as_many_words = length-set words k x ∙ wide;
        posts1 = posts_else words 0 m.size1 _ _ k x r.some1 (λ j less z. omega arith) r.posts1;
        posts2 = subst (λ (q : ℕ). Posts (slice_set words k x) m.size1 m.size2 q (second2 m)) (sym more) (posts_more words m.size1 m.size2 posted2 (second2 m) r.some2 (omega arith) r.posts2);
        low = λ j less. get_or-set_other words k (n + j) x 0 (λ z. omega arith) ∙ r.low j less;
        lap = cells_same n words _ _ _ y.log (suc y.read) (descriptor_cells k x (omega arith)) (read_on less);
        count_word = counts_else how m words _ k x (λ z. omega arith) r.count_word;
        read_published = omega arith;
        published_log = r.published_log;
        rising = rises;
        within1 = r.within1;
        within2 = omega arith;
        reach = λ ring p e. further1 ring p _ _ _ _ _ _ (omega arith) (omega arith) (r.reach ring p e);
        there = λ e. absurd (true≢false (sym e));
        opened_word = λ w e. let l : length y.log % n < n = mod-lt (length y.log) pos in get_or-set_other words k (n + n + n + length y.log % n) x 0 (λ z. omega arith) ∙ r.opened_word w e;
      }

-- where each completion's generation bit tells whether it is visible
module _ (m : RxMade) (words : List ℕ) (y : Numbers) (r : Rings false m words y) where
  -- a look at a completion, of which all before are published
  pub completion_tells : ((y.read < y.published) × (bit 63 (slice_index words (count m + count m + y.read % count m)) ≡ generation (count m) y.read)) ⊎ ((y.read ≡ y.published) × (bit 63 (slice_index words (count m + count m + y.read % count m)) ≡ not (generation (count m) y.read)))
  completion_tells = let up = r.read_published in let pl = r.published_log in dite (dec_lt y.read y.published)
      (λ less. let e = there_below y.log y.read (omega arith) in let s = r.lap.full y.read e.0 (omega arith) e.1 in
      inl (less, ap (bit 63) s.0 ∙ bit_with 63 e.0.body (shown_bit (count m) y.published y.read) (omega arith) s.1 ∙ shown_else (count m) y.published y.read (omega arith)))
      (λ not_less. let is : y.read ≡ y.published = omega arith in inr (is, hidden is))
    where
      hidden : y.read ≡ y.published → bit 63 (slice_index words (count m + count m + y.read % count m)) ≡ not (generation (count m) y.read)
      hidden is = dite (dec_lt y.read (length y.log))
          (λ staged. let e = there_below y.log y.read staged in let s = r.lap.full y.read e.0 (omega arith) e.1 in
          ap (bit 63) s.0 ∙ bit_with 63 e.0.body (shown_bit (count m) y.published y.read) (omega arith) s.1 ∙ ap (λ (p : ℕ). shown_bit (count m) p y.read) (sym is) ∙ shown_here (count m) y.read)
          (λ none. let pos = r.lap.some_cell in r.lap.free y.read (omega arith) (omega arith))

  -- the staged completions become visible, all at once
  pub publishes : (e : Entry) → get_elem? y.log y.published ≡ some e → y.filling ≡ None → y.opened ≡ []
      → Rings false m (slice_set words (count m + count m + y.published % count m) (with_bit 63 e.body (generation (count m) y.published))) (record y { published = length y.log })
  publishes e there idle shut = let n : ℕ = count m in let h : ℕ = length y.log in let u : ℕ = y.published in let i : ℕ = u % n in let k : ℕ = n + n + i in let pos = r.lap.some_cell in let low : i < n = mod-lt u pos in let wide = r.as_many_words in
      let w : ℕ = with_bit 63 e.body (generation n u) in let up = r.read_published in let below = at_below y.log u e there in let within = r.lap.within in record {
        some1 = r.some1;
        some2 = r.some2;
        as_many_words = length-set words k w ∙ wide;
        posts1 = posts_else words 0 m.size1 _ _ k w r.some1 (λ j less z. omega arith) r.posts1;
        posts2 = posts_else words m.size1 m.size2 _ _ k w r.some2 (λ j less z. omega arith) r.posts2;
        low = λ j less. get_or-set_other words k (n + j) w 0 (λ z. omega arith) ∙ r.low j less;
        lap = touches n _ _ _ _ _ _ y.log y.read i r.lap
            (λ j less other t. (get_or-set_other words k (n + n + j) w 0 (λ z. other (omega arith)) t, get_or-set_other words k (n + n + n + j) w 0 (λ z. omega arith) t))
            (λ p z c le at other f. let less = at_below y.log p z at in (f.0 ∙ ap (with_bit 63 z.body) (shown_else n u p (λ q. other (ap (λ (x : ℕ). x % n) q)) ∙ sym (shown_else n h p (omega arith))), f.1, f.2))
            (λ p c le less other f. f)
            (λ p z le at here f. let less = at_below y.log p z at in let same : p ≡ u = near p u le up (omega arith) (omega arith) here in
            let is : e ≡ z = some-injective e z (sym there ∙ ap (get_elem? y.log) (sym same) ∙ at) in (
              get_or-set_same words k w 0 (omega arith) ∙ (λ t. with_bit 63 (is t).body (generation n (sym same t))) ∙ ap (with_bit 63 z.body) (sym (shown_else n h p (omega arith))),
              f.1,
              get_or-set_other words k (n + n + n + i) w 0 (λ q. omega arith) ∙ f.2,
            ))
            (λ p le less here f. absurd (elsewhere n u p (omega arith) (omega arith) here));
        count_word = tt;
        read_published = omega arith;
        published_log = omega arith;
        rising = r.rising;
        within1 = r.within1;
        within2 = r.within2;
        reach = r.reach;
        there = λ z. let t = r.there z in omega arith;
        opened_word = λ v z. absurd (cc (sym shut ∙ z));
      }
    where
      near : (p u : ℕ) → y.read ≤ p → y.read ≤ u → p < y.read + count m → u < y.read + count m → p % count m ≡ u % count m → p ≡ u
      near p u lp lu hp hu here = dite (dec_lt p u)
          (λ less. one_turn p u (count m) (omega arith) (omega arith) here)
          (λ more. sym (one_turn u p (count m) (omega arith) (omega arith) (sym here)))

-- where one word counts the visible completions
module _ (m : RxMade) (words : List ℕ) (y : Numbers) (r : Rings true m words y) where
  -- a look at it, where all completions before `read` are read
  pub count_tells : slice_index words (count m + count m + count m + count m) ≡ y.published
  count_tells = r.count_word

  -- the staged completions become visible, all at once
  pub counts_up : y.filling ≡ None → y.opened ≡ [] → Rings true m (slice_set words (count m + count m + count m + count m) (length y.log)) (record y { published = length y.log })
  counts_up idle shut = let n : ℕ = count m in let h : ℕ = length y.log in let k : ℕ = n + n + n + n in let pos = r.lap.some_cell in let wide = r.as_many_words in let up = r.read_published in let pl = r.published_log in record {
    some1 = r.some1;
    some2 = r.some2;
    as_many_words = length-set words k h ∙ wide;
    posts1 = posts_else words 0 m.size1 _ _ k h r.some1 (λ j less z. omega arith) r.posts1;
    posts2 = posts_else words m.size1 m.size2 _ _ k h r.some2 (λ j less z. omega arith) r.posts2;
    low = λ j less. get_or-set_other words k (n + j) h 0 (λ z. omega arith) ∙ r.low j less;
    lap = cells_same n words (slice_set words k h) (Shows true n h) (Waits true n) y.log y.read
        (λ i low t. (get_or-set_other words k (n + n + i) h 0 (λ z. omega arith) t, get_or-set_other words k (n + n + n + i) h 0 (λ z. omega arith) t))
        (record { some_cell = pos; behind = r.lap.behind; within = r.lap.within; full = λ p e le at. r.lap.full p e le at; free = λ p le less. tt });
    count_word = get_or-set_same words k h 0 (omega arith);
    read_published = omega arith;
    published_log = omega arith;
    rising = r.rising;
    within1 = r.within1;
    within2 = r.within2;
    reach = r.reach;
    there = λ z. let t = r.there z in omega arith;
    opened_word = λ v z. absurd (cc (sym shut ∙ z));
  }
