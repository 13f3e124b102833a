-- Each step on a mask, the line, a doorbell or the events keeps the rule of the masks, and what it tells.
use Rattle.std.proofs.Common.{◌≡◌, ◌≢◌, ℕ, ◌+◌, ◌*◌, ◌/◌, ◌%◌, ◌^◌, ◌<◌, ◌≤◌, ◌⊎◌, inl, inr, List, [], ◌∷◌, ◌++◌, length, get_or, set, Bool, true, false, true≢false, sym, refl, ap, ◌∙◌, subst, ⊎_elim, arith, length-set, get_or-set_other, get_or-set_same, append-nil, length-append}
use Rattle.std.proofs.lemmas.Bool.{eqb-true, eq-eqb}
use Rattle.std.proofs.lemmas.Nat.{and_le_l, or_of_32}
use Rattle.std.specs.Prelude.{min, ◌==◌, if◌then◌else◌, bit_or, bit_and}
use Rattle.std.specs.Int.Bits.{or_add_and}
use Rattle.std.proofs.lemmas.Nat.Bits.{and_pow, bit_at_lowest}
use Rattle.std.proofs.Math.Nat.{min-eq_left, min-eq_right, min-le_left, min-le_right, le-min}
use mathlib.Core.Logic.{dite}
use mathlib.Core.List.{IsPrefix}
use mathlib.Core.Option as maybe
use mathlib.Core.Option.{none, some}
use native.Mathlib.Decide.{ℕ_discrete, dec_le}
use lib.ListN.{get_elem?}
use Rattle.atomic_table.specs.Table.{State, Me, step}
use Rattle.atomic_table.proofs.Lists.{at_longer, at_last}
use Rattle.vmx_ring_laws.specs.Lists.{prefix_longer}
use Rattle.vmx_ring_laws.specs.Views.{all_set}
use Rattle.vmx_regs.specs.declared.known.MaskWrite.{MaskWrite}
use Rattle.vmx_regs.specs.declared.known.MaskSet.{MaskSet}
use Rattle.vmx_regs.specs.declared.known.Deed.{Deed}
use Rattle.vmx_regs.specs.declared.known.Deed.TheVariants.{Load, Store, Swap, Or, And}
use Rattle.vmx_regs.specs.declared.known.Masks.{Masks}
use Rattle.vmx_regs.specs.Masks.{words_of, capped, writes_to, last_from, IsSetAt, IsCaused, MaskFits, MaskStory, MaskSeat, WordFits, MasksKept, writing, seeing, setting, hinting, Shows, mask_looked, mask_stored, raise_looked, auto_set, hinted, hint_looked}
use Rattle.vmx_regs.specs.Both.{Plain}
use Rattle.vmx_regs.specs.declared.places.TheConstants.{LAST_COUNT}

abbrev M : Type 0 → Type 0
M S = Me S Masks

halves : (c b x : ℕ) → b ≤ 1 → x ≡ 2 * c + b → (x / 2 ≡ c) × (x % 2 ≡ b)
halves c b x small e = (omega arith, omega arith)

cap_next : (n : ℕ) → min (capped n + 1) LAST_COUNT ≡ capped (n + 1)
cap_next n = dite (dec_le (n + 1) LAST_COUNT)
    (λ low. ap (λ (z : ℕ). min (z + 1) LAST_COUNT) (min-eq_left {n = n} {m = LAST_COUNT} (omega arith)))
    (λ high. ap (λ (z : ℕ). min (z + 1) LAST_COUNT) (min-eq_right {n = LAST_COUNT} {m = n} (omega arith)) ∙ sym (min-eq_right {n = LAST_COUNT} {m = n + 1} (omega arith)))

cap_low : (n : ℕ) → capped n < LAST_COUNT → capped n ≡ n
cap_low n less = dite (dec_le n LAST_COUNT)
    (λ low. min-eq_left {n = n} {m = LAST_COUNT} low)
    (λ high. absurd (let e = min-eq_right {n = LAST_COUNT} {m = n} (omega arith) in omega arith))

cap_mono : (m n : ℕ) → m ≤ n → capped m ≤ capped n
cap_mono m n le = le-min {k = capped m} {a = n} {b = LAST_COUNT} (let e = min-le_left m LAST_COUNT in omega arith) (min-le_right m LAST_COUNT)

masked : (w m : ℕ) → m ≤ 1 → bit_or (2 * w + m) 1 ≡ 2 * w + 1
masked w m le =
    let n : ℕ = 2 * w + m in let sum : bit_or n 1 + bit_and n 1 ≡ n + 1 = or_add_and n 1 in
    let low : bit_and n 1 ≡ n % 2 = and_pow n 0 ∙ (let b = bit_at_lowest n in omega arith) in omega arith

if_append : (t m : Bool) (all xs ys : List Bool) → all ≡ xs ++ ys → (if t then m ∷ all else all) ≡ (if t then m ∷ xs else xs) ++ ys
if_append true m all xs ys e = ap (λ l. m ∷ l) e
if_append false m all xs ys e = e

writes_append : (k : ℕ) (xs ys : List MaskWrite) → writes_to k (xs ++ ys) ≡ writes_to k xs ++ writes_to k ys
writes_append k [] ys = refl
writes_append k (x ∷ xs) ys = if_append (x.word == k) x.masked (writes_to k (xs ++ ys)) (writes_to k xs) (writes_to k ys) (writes_append k xs ys)

if_none : (t b : Bool) → (t ≡ true → ⊥) → (if t then b ∷ [] else []) ≡ []
if_none true b f = absurd (f refl)
if_none false b f = refl

writes_here : (k : ℕ) (ws : List MaskWrite) (b : Bool) → writes_to k (ws ++ record { word = k; masked = b } ∷ []) ≡ writes_to k ws ++ b ∷ []
writes_here k ws b = writes_append k ws (record { word = k; masked = b } ∷ []) ∙ ap (λ (t : Bool). writes_to k ws ++ (if t then b ∷ [] else [])) (eq-eqb k k refl)

writes_else : (j k : ℕ) (ws : List MaskWrite) (b : Bool) → j ≢ k → writes_to j (ws ++ record { word = k; masked = b } ∷ []) ≡ writes_to j ws
writes_else j k ws b apart = writes_append j ws (record { word = k; masked = b } ∷ []) ∙ ap (λ l. writes_to j ws ++ l) (if_none (k == j) b (λ e. apart (sym (eqb-true k j e)))) ∙ append-nil (writes_to j ws)

last_snoc : (b x : Bool) (xs : List Bool) → last_from b (xs ++ x ∷ []) ≡ x
last_snoc b x [] = refl
last_snoc b x (y ∷ ys) = last_snoc y x ys

-- a prefix of the same length is the list
whole_prefix : {A : Type 0} (xs ys : List A) → IsPrefix xs ys → length xs ≡ length ys → xs ≡ ys
whole_prefix xs ys p same = nothing p.0 p.1 (let e = ap length p.1 in let f = length-append xs p.0 in omega arith)
  where
    nothing : (zs : List _) → xs ++ zs ≡ ys → length zs ≡ 0 → xs ≡ ys
    nothing [] e z = sym (append-nil xs) ∙ e
    nothing (z ∷ zs) e f = absurd (omega (arith, f))

own_prefix : (k : ℕ) (h ws : List MaskWrite) → IsPrefix h ws → IsPrefix (writes_to k h) (writes_to k ws)
own_prefix k h ws p = (writes_to k p.0, sym (writes_append k h p.0) ∙ ap (writes_to k) p.1)

-- what a seat may do to the word k, where it keeps all slots
turns : {S : Type 0} (n c id : ℕ) (me : M S) (k : ℕ) (f : ℕ → ℕ) (after : ℕ → M S → Type 0) → k < words_of n
    → ((s : State S Masks) (l : MasksKept n s) → get_elem? s.views id ≡ some me.0 → let x : ℕ = get_or s.words k 0 in (y : MaskStory) × (w : Masks)
    × ((j : ℕ) → j < length s.words → j ≢ k → WordFits n y j (get_or s.words j 0)) × WordFits n y k (f x)
    × MaskSeat y id w × ((j : ℕ) (u : Masks) → j ≢ id → MaskSeat l.story j u → MaskSeat y j u) × after x (w, me.1))
    → Plain (MasksKept n) c id me k f after
turns n c id me k f after low step s l _ at _ = let x : ℕ = get_or s.words k 0 in let t = step s l at in let y : MaskStory = t.0 in let w : Masks = t.1 in (
  w,
  record {
    story = y;
    wide = length-set s.words k (f x) ∙ l.wide;
    words = λ j less. let wide = length-set s.words k (f x) in let less' : j < length s.words = omega arith in elim (ℕ_discrete j k) [
      | yes same ↦ subst (λ (z : ℕ). WordFits n y z (get_or (set s.words k (f x)) z 0)) (sym same) (subst (WordFits n y k) (sym (get_or-set_same s.words k (f x) 0 (omega (arith, same)))) t.3)
      | no apart ↦ subst (WordFits n y j) (sym (get_or-set_other s.words k j (f x) 0 apart)) (t.2 j less' apart)
    ];
    each = all_set (MaskSeat y) s.views id w t.4 (λ j u apart e. t.5 j u apart (l.each j u e));
  },
  t.6,
)

module _ {S : Type 0} (n c id : ℕ) (me : M S) (k : ℕ) (low : k < words_of n) where
  word_at : (s : State S Masks) (l : MasksKept n s) → WordFits n l.story k (get_or s.words k 0)
  word_at s l = l.words k (let w = l.wide in omega arith)

  -- a deed at the line, a doorbell or the events
  hints : (f say : ℕ → ℕ) (deed : Deed) (operand : ℕ) (after : ℕ → M S → Type 0) → (k ≡ 2) ⊎ (n + 3 ≤ k) → ((x : ℕ) → n + 3 ≤ k → x < 2 ^ 32 → f x < 2 ^ 32)
      → ((x : ℕ) → (n + 3 ≤ k → x < 2 ^ 32) → after x (hinting me.0 k deed operand (say x), me.1)) → Plain (MasksKept n) c id me k f after
  hints f say deed operand after place small told = turns n c id me k f after low (λ s l at. let own = l.each id me.0 at in let x : ℕ = get_or s.words k 0 in let here = word_at s l in (
    l.story,
    hinting me.0 k deed operand (say x),
    (λ j less _. l.words j less),
    ((λ a b. absurd (⊎_elim (λ (e : k ≡ 2). omega (arith, e)) (λ (e : n + 3 ≤ k). omega (arith, e)) place)), λ high. small x high (here.1 high)),
    record { driver's = own.driver's; device's = own.device's; heard = own.heard },
    (λ j u _ g. g),
    told x here.1,
  ))

  pub hint_looks : n + 3 ≤ k → Plain (MasksKept n) c id me k (λ x. x) (hint_looked Load (step c k 0 0 none) me)
  hint_looks high = hints (λ x. x) (λ x. x) Load 0 (hint_looked Load (step c k 0 0 none) me) (inr high) (λ x _ less. less) (λ x less. (refl, less high))

  pub bell_stores : (new : ℕ) → n + 3 ≤ k → new < 2 ^ 32 → Plain (MasksKept n) c id me k (λ _. new) (λ _. hinted Store (step c k new 0 none) me new)
  bell_stores new high less = hints (λ _. new) (λ _. new) Store new (λ _. hinted Store (step c k new 0 none) me new) (inr high) (λ x _ _. less) (λ x _. refl)

  pub line_swaps : (new : ℕ) → k ≡ 2 → Plain (MasksKept n) c id me k (λ _. new) (hinted Swap (step c k new 0 none) me)
  line_swaps new is = hints (λ _. new) (λ x. x) Swap new (hinted Swap (step c k new 0 none) me) (inl is) (λ x high _. absurd (omega (arith, is))) (λ x _. refl)

  pub line_ors : (bits : ℕ) → k ≡ 2 → Plain (MasksKept n) c id me k (λ x. bit_or x bits) (hinted Or (step c k bits 0 none) me)
  line_ors bits is = hints (λ x. bit_or x bits) (λ x. x) Or bits (hinted Or (step c k bits 0 none) me) (inl is) (λ x high _. absurd (omega (arith, is))) (λ x _. refl)

  pub event_ors : (bits : ℕ) → n + 3 ≤ k → bits < 2 ^ 32 → Plain (MasksKept n) c id me k (λ x. bit_or x bits) (hinted Or (step c k bits 0 none) me)
  event_ors bits high less = hints (λ x. bit_or x bits) (λ x. x) Or bits (hinted Or (step c k bits 0 none) me) (inr high) (λ x _ small. or_of_32 x bits small less) (λ x _. refl)

  pub event_ands : (bits : ℕ) → n + 3 ≤ k → Plain (MasksKept n) c id me k (λ x. bit_and x bits) (hinted And (step c k bits 0 none) me)
  event_ands bits high = hints (λ x. bit_and x bits) (λ x. x) And bits (hinted And (step c k bits 0 none) me) (inr high) (λ x _ small. let le = and_le_l x bits in omega arith) (λ x _. refl)

  module _ (above : 3 ≤ k) (below : k < n + 3) where
    fits_at : (s : State S Masks) (l : MasksKept n s) → MaskFits l.story.writes l.story.sets k (get_or s.words k 0)
    fits_at s l = (word_at s l).0 above below

    pub mask_looks : me.0.drives ≡ true → Plain (MasksKept n) c id me k (λ x. x) (mask_looked (step c k 0 0 none) me)
    mask_looks may = turns n c id me k (λ x. x) (mask_looked (step c k 0 0 none) me) low (λ s l at. let m = fits_at s l in let own = (l.each id me.0 at).driver's may in (
      l.story,
      me.0,
      (λ j less _. l.words j less),
      word_at s l,
      l.each id me.0 at,
      (λ j u _ f. f),
      (refl, (halves (capped (length (writes_to k l.story.writes))) m.bit _ m.small m.word).0 ∙ ap (λ ws. capped (length (writes_to k ws))) (sym own.1)),
    ))

    shows : (s : State S Masks) (l : MasksKept n s) → get_elem? s.views id ≡ some me.0 → me.0.serves ≡ true → Shows me.0 k (get_or s.words k 0)
    shows s l at may =
        let m = fits_at s l in let f = l.each id me.0 at in let own = f.device's may in let told = own_prefix k me.0.heard l.story.writes f.heard in
        let ws : List Bool = writes_to k l.story.writes in let hs : List Bool = writes_to k me.0.heard in let two = halves (capped (length ws)) m.bit _ m.small m.word in
        let short : length hs ≤ length ws = (let e = ap length told.1 in let g = length-append hs told.0 in omega arith) in let mono = cap_mono (length hs) (length ws) short in let x : ℕ = get_or s.words k 0 in
        let all : x / 2 ≡ length hs → x / 2 < LAST_COUNT → hs ≡ ws = λ is small. whole_prefix hs ws told (sym is ∙ two.0 ∙ cap_low (length ws) (subst (λ (z : ℕ). z < LAST_COUNT) two.0 small)) in (
          subst (λ (z : ℕ). capped (length hs) ≤ z) (sym two.0) mono,
          (λ odd is small. let e = all is small in subst (λ (z : List Bool × List MaskSet). IsCaused z.0 z.1 k) (λ i. (sym e i, sym own.1 i)) (m.cause (sym two.1 ∙ odd) (subst (λ (z : ℕ). z < LAST_COUNT) (is ∙ ap length e) small))),
          λ even is small. ap (last_from true) (all is small) ∙ m.clear (λ one. even (two.1 ∙ one)),
        )

    pub raise_looks : me.0.serves ≡ true → Plain (MasksKept n) c id me k (λ x. x) (raise_looked (step c k 0 0 none) me)
    raise_looks may = turns n c id me k (λ x. x) (raise_looked (step c k 0 0 none) me) low (λ s l at. let f = l.each id me.0 at in (
      l.story,
      seeing me.0 k (get_or s.words k 0),
      (λ j less _. l.words j less),
      word_at s l,
      record { driver's = f.driver's; device's = f.device's; heard = f.heard },
      (λ j u _ g. g),
      (refl, shows s l at may),
    ))

    more_writes : (y : MaskStory) (b : Bool) (j : ℕ) (u : Masks) → j ≢ y.driver → MaskSeat y j u → MaskSeat (record y { writes = y.writes ++ record { word = k; masked = b } ∷ [] }) j u
    more_writes y b j u apart f = record { driver's = λ e. absurd (apart (f.driver's e).0); device's = f.device's; heard = prefix_longer u.heard y.writes (record { word = k; masked = b } ∷ []) f.heard }

    pub mask_stores : me.0.drives ≡ true → me.0.serves ≡ false → (b : Bool) (bit new : ℕ) → (b ≡ true) × (bit ≡ 1) ⊎ (b ≡ false) × (bit ≡ 0) → new ≡ 2 * min (capped (length (writes_to k me.0.writes)) + 1) LAST_COUNT + bit
        → Plain (MasksKept n) c id me k (λ _. new) (λ _. mask_stored (step c k new 0 none) me new)
    mask_stores may not b bit new which is = turns n c id me k (λ _. new) (λ _. mask_stored (step c k new 0 none) me new) low (λ s l at.
        let own = (l.each id me.0 at).driver's may in let f = l.each id me.0 at in let y : MaskStory = l.story in let b' : Bool = new % 2 == 1 in let item : MaskWrite = record { word = k; masked = b' } in
        let y' : MaskStory = record y { writes = y.writes ++ item ∷ [] } in
        let before : List Bool = writes_to k y.writes in let here = writes_here k y.writes b' in let long : length (before ++ b' ∷ []) ≡ length before + 1 = length-append before (b' ∷ []) in
        let two = halves (min (capped (length (writes_to k me.0.writes)) + 1) LAST_COUNT) bit new (⊎_elim (λ q. (let e = q.1 in omega arith)) (λ q. (let e = q.1 in omega arith)) which) is in
        let said : b' ≡ b = ap (λ (z : ℕ). z == 1) two.1 ∙ ⊎_elim (λ q. ap (λ (z : ℕ). z == 1) q.1 ∙ sym q.0) (λ q. ap (λ (z : ℕ). z == 1) q.1 ∙ sym q.0) which in (
          y',
          writing me.0 k b',
          (λ j less apart. let was = l.words j less in (
            (λ a b. let m = was.0 a b in let e = writes_else j k y.writes b' apart in record {
              bit = m.bit;
              small = m.small;
              word = m.word ∙ ap (λ l. 2 * capped (length l) + m.bit) (sym e);
              cause = λ one few. subst (λ l. IsCaused l y.sets j) (sym e) (m.cause one (subst (λ (l : List Bool). length l < LAST_COUNT) e few));
              clear = λ none. ap (last_from true) e ∙ m.clear none;
            }),
            was.1,
          )),
          (
            (λ _ _. record {
              bit = bit;
              small = ⊎_elim (λ q. (let e = q.1 in omega arith)) (λ q. (let e = q.1 in omega arith)) which;
              word = is ∙ ap (λ (z : ℕ). 2 * z + bit) (ap (λ ws. min (capped (length (writes_to k ws)) + 1) LAST_COUNT) own.1 ∙ cap_next (length before) ∙ ap capped (sym (ap length here ∙ long)));
              cause = λ one few. inr (inl (ap (last_from false) here ∙ last_snoc false b' before ∙ said ∙ ⊎_elim (λ q. q.0) (λ q. absurd (let e = q.1 in omega arith)) which));
              clear = λ none. ap (last_from true) here ∙ last_snoc true b' before ∙ said ∙ ⊎_elim (λ q. absurd (none q.1)) (λ q. q.0) which;
            }),
            λ high. absurd (omega (arith, below, high)),
          ),
          record { driver's = λ _. (own.0, ap (λ ws. ws ++ item ∷ []) own.1); device's = λ e. absurd (true≢false (sym e ∙ not)); heard = prefix_longer me.0.heard y.writes (item ∷ []) f.heard },
          (λ j u apart g. more_writes y b' j u (λ e. apart (e ∙ sym own.0)) g),
          refl,
        ))

    pub auto_sets : me.0.serves ≡ true → me.0.drives ≡ false → Plain (MasksKept n) c id me k (λ x. bit_or x 1) (auto_set (step c k 1 0 none) me)
    auto_sets may not = turns n c id me k (λ x. bit_or x 1) (auto_set (step c k 1 0 none) me) low (λ s l at.
        let own = (l.each id me.0 at).device's may in let f = l.each id me.0 at in let y : MaskStory = l.story in let x : ℕ = get_or s.words k 0 in let m = fits_at s l in let count : ℕ = length (writes_to k y.writes) in
        let two = halves (capped count) m.bit x m.small m.word in let item : MaskSet = record { word = k; writes = x / 2; hints = length me.0.hints } in let y' : MaskStory = record y { sets = y.sets ++ item ∷ [] } in
        let still : (bs : List Bool) (j : ℕ) → IsCaused bs y.sets j → IsCaused bs (y.sets ++ item ∷ []) j = λ bs j. ⊎_elim (λ q. inl q) (λ q. inr (⊎_elim (λ r. inl r) (λ (r : IsSetAt y.sets j (length bs)). inr (r.0, r.1, at_longer y.sets (item ∷ []) r.0 _ r.2)) q)) in (
          y',
          setting me.0 k (x / 2),
          (λ j less _. let was = l.words j less in ((λ a b. let g = was.0 a b in record { bit = g.bit; small = g.small; word = g.word; cause = λ one few. still (writes_to j y.writes) j (g.cause one few); clear = g.clear }), was.1)),
          (
            (λ _ _. record {
              bit = 1;
              small = omega arith;
              word = ap (λ (z : ℕ). bit_or z 1) m.word ∙ masked (capped count) m.bit m.small;
              cause = λ one few. inr (inr (length y.sets, length me.0.hints, at_last y.sets item (length y.sets) refl ∙ ap (λ (z : ℕ). some (record { word = k; writes = z; hints = length me.0.hints })) (two.0 ∙ min-eq_left {n = count} {m = LAST_COUNT} (omega arith))));
              clear = λ none. absurd (none refl);
            }),
            λ high. absurd (omega (arith, below, high)),
          ),
          record { driver's = λ e. absurd (true≢false (sym e ∙ not)); device's = λ _. (own.0, ap (λ ws. ws ++ item ∷ []) own.1); heard = f.heard },
          (λ j u apart g. record { driver's = g.driver's; device's = λ e. absurd (apart ((g.device's e).0 ∙ sym own.0)); heard = g.heard }),
          refl,
        ))

-- the rule says nothing of slots, and of no word below the third
pub masks_still : {S : Type 0} (n k x : ℕ) (s : State S Masks) (hs : List (maybe.Option S)) → k < 3 → MasksKept {S = S} n s → MasksKept {S = S} n record { words = set s.words k x; homes = hs; views = s.views }
masks_still n k x s hs low l = record {
  story = l.story;
  wide = length-set s.words k x ∙ l.wide;
  words = λ j less. let w = length-set s.words k x in let less' : j < length s.words = omega arith in elim (ℕ_discrete j k) [
    | yes same ↦ ((λ a b. absurd (omega (arith, same))), λ high. absurd (omega (arith, same)))
    | no apart ↦ subst (WordFits n l.story j) (sym (get_or-set_other s.words k j x 0 apart)) (l.words j less')
  ];
  each = l.each;
}
