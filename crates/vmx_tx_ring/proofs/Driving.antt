-- What the two walks know of their counters and of the pieces of a frame.
use Rattle.std.proofs.Common.{◌≡◌, ◌≢◌, ℕ, zero, suc, ◌+◌, ◌-◌, ◌*◌, ◌/◌, ◌%◌, ◌<◌, ◌≤◌, ◌==◌, List, [], ◌∷◌, ◌++◌, length, take, drop, Bool, true, false, true≢false, cond, sym, refl, ap, ◌∙◌, arith, append-nil, length-append}
use Rattle.std.proofs.Math.Seq.{take-length}
use Rattle.std.proofs.lemmas.List.{take-append-le}
use Rattle.std.proofs.Math.Nat.{zero-mul, add-mul, le-div_iff_mul-le}
use mathlib.Core.Logic.{dite}
use mathlib.Core.Option.{some}
use native.Mathlib.Decide.{ℕ_discrete}
use lib.ListN.{get_elem?}
use Rattle.vmx_ring_laws.specs.Lists.{take_one_more}
use Rattle.vmx_layout.specs.Bits.{bit}
use Rattle.vmx_genring.specs.Rings.{generation, generation_bit}
use Rattle.vmx_ends.specs.declared.made.TxMade.{TxMade}
use Rattle.vmx_ends.specs.declared.frames.Sent.{Sent}
use Rattle.vmx_ends.specs.Queues.{least_piece}
use Rattle.vmx_ends.specs.Transmit.{begun, need, descriptors}
use Rattle.vmx_tx_ring.specs.declared.known.TxKnown.{TxKnown}
use Rattle.vmx_tx_ring.specs.declared.known.TxPiece.{TxPiece}
use Rattle.vmx_tx_ring.specs.declared.known.TxBuffer.{TxBuffer}
use Rattle.vmx_tx_ring.specs.Pieces.{is_zero, no_numbers, cut, first_size, first_piece, cut_frame, chain, pieces, joined, Closes, ending, next_in_data, piece_in}
use Rattle.vmx_tx_ring.specs.Tells.{driver_at, next_at, to_fill, with_piece, with_staged, with_sent}
use Rattle.vmx_tx_ring.specs.Walks.{word_of, returned_to}
use Rattle.vmx_tx_ring.proofs.PieceLaws.{pieces-snoc, pieces-length, cut-length, joined-chain}

-- the generation as a bit
pub bit_generation : (s p : ℕ) → bit (generation s p) ≡ generation_bit s p
bit_generation s p = by_bit (p / s % 2) (omega arith)
  where
    by_bit : (k : ℕ) → k < 2 → bit (k == 0) ≡ 1 - k
    by_bit zero less = refl
    by_bit (suc zero) less = refl
    by_bit (suc (suc k)) less = absurd (omega arith)

pub cons_of : {A : Type 0} (l : List A) → 0 < length l → (x : A) × (more : List A) × (l ≡ x ∷ more)
cons_of [] less = absurd (omega arith)
cons_of (x ∷ xs) less = (x, xs, refl)

-- THE DRIVER'S WALK

pub sent_next : (v : TxKnown) (s : Sent) → v.driver.at.staged ≡ chain v.made s → next_at (with_sent v s) ≡ next_at v
sent_next v s whole = ap length (pieces-snoc v.made v.driver.at.sent s ∙ ap (λ l. pieces v.made v.driver.at.sent ++ l) (sym whole))

pub sent_posted : (v : TxKnown) (s : Sent) → v.driver.at.staged ≡ chain v.made s → descriptors v.made (with_sent v s).driver.at.sent ≡ next_at v
sent_posted v s whole = sym (pieces-length v.made (with_sent v s).driver.at.sent) ∙ ap length (sym (append-nil (pieces v.made (with_sent v s).driver.at.sent))) ∙ sent_next v s whole

pub sent_returned : (v : TxKnown) (s : Sent) → v.driver.at.reaped ≤ length v.driver.at.sent → returned_to (with_sent v s) ≡ returned_to v
sent_returned v s le = ap (descriptors v.made) (take-append-le v.driver.at.reaped v.driver.at.sent _ le)

-- the next position, counted from the published ones
pub next_is : (v : TxKnown) → next_at v ≡ descriptors v.made v.driver.at.sent + length v.driver.at.staged
next_is v = length-append (pieces v.made v.driver.at.sent) v.driver.at.staged ∙ ap (λ (k : ℕ). k + length v.driver.at.staged) (pieces-length v.made v.driver.at.sent)

pub staged_next : (v : TxKnown) (x : TxPiece) → next_at (with_piece v x) ≡ next_at v + 1
staged_next v x = let a = next_is v in let b = next_is (with_piece v x) in let c = length-append v.driver.at.staged (x ∷ []) in omega arith

-- the first staged word, where one more is staged
pub word_first : (size p : ℕ) (l : List TxPiece) (x : TxPiece) → length l ≡ 0 → word_of size p (l ++ x ∷ []) ≡ word_of size p (x ∷ [])
word_first size p [] x e = refl
word_first size p (y ∷ l) x e = absurd (omega arith)

pub word_later : (size p : ℕ) (l : List TxPiece) (x : TxPiece) → 0 < length l → word_of size p (l ++ x ∷ []) ≡ word_of size p l
word_later size p [] x e = absurd (omega arith)
word_later size p (y ∷ l) x e = refl

-- the next piece lies in the data ring, by how many are staged
pub data_first : (m : TxMade) (l : List TxPiece) → length l ≡ 0 → next_in_data m l ≡ m.with_data
data_first m [] e = refl
data_first m (x ∷ l) e = absurd (omega arith)

pub data_later : (m : TxMade) (l : List TxPiece) → 0 < length l → next_in_data m l ≡ false
data_later m [] less = absurd (omega arith)
data_later m (x ∷ l) less = refl

pub staged_now : (v w w' : TxKnown) (b : TxBuffer) (x : TxPiece) (stored : ℕ) → w ≡ to_fill v → w' ≡ with_staged w stored ((0, b) ∷ []) → piece_in (next_in_data v.made v.driver.at.staged) stored b ≡ x → w' ≡ with_piece v x
staged_now v w w' b x stored open_ put is = put ∙ ap (λ (u : TxKnown). with_staged u stored ((0, b) ∷ [])) open_ ∙ ap (with_piece v) is

-- where the walk finds that the next piece lies
pub lies_as : (v : TxKnown) (made : TxMade) (posted published : ℕ) (found : Bool) → v.made ≡ made → published + length v.driver.at.staged ≡ posted → (posted ≡ published → found ≡ made.with_data) → (posted ≢ published → found ≡ false) → found ≡ next_in_data v.made v.driver.at.staged
lies_as v made posted published found same sum first later = dite (ℕ_discrete posted published)
    (λ is. first is ∙ ap (λ z. z.with_data) (sym same) ∙ sym (data_first v.made v.driver.at.staged (omega arith)))
    (λ other. later other ∙ sym (data_later v.made v.driver.at.staged (omega arith)))

-- the buffer that is lent is the one that was taken out
pub lent : (i k : ℕ) (b z : TxBuffer) (l more : List (ℕ × TxBuffer)) → l ≡ (k, z) ∷ more → l ≡ (i, b) ∷ [] → z ≡ b
lent i k b z l more e f = ap first (sym e ∙ f)
  where
    first : List (ℕ × TxBuffer) → TxBuffer
    first [] = b
    first (c ∷ cs) = c.1

-- the piece of this place
pub cut-at : (size k : ℕ) (bytes : List ℕ) (i : ℕ) → i < k → get_elem? (cut size k bytes) i ≡ some (record { bytes = take size (drop (i * size) bytes); last = is_zero (k - suc i); in_data = false; numbers = no_numbers })
cut-at size zero bytes i less = absurd (omega arith)
cut-at size (suc k) bytes zero less = (let e : 0 * size ≡ 0 = zero-mul size in let f : k ≡ suc k - 1 = omega arith in λ j. some (record { bytes = take size (drop (sym e j) bytes); last = is_zero (f j); in_data = false; numbers = no_numbers }))
cut-at size (suc k) bytes (suc i) less = cut-at size k (drop size bytes) i (omega arith)
    ∙ (let up : suc i ≡ i + 1 = omega arith in let one : (i + 1) * size ≡ i * size + 1 * size = add-mul i 1 size in let e : i * size + size ≡ suc i * size = omega (arith, one, ap (λ (z : ℕ). z * size) up) in let f : k - suc i ≡ suc k - suc (suc i) = omega arith in
    λ j. some (record { bytes = take size ((drop-drop' size (i * size) bytes ∙ ap (λ (z : ℕ). drop z bytes) e) j); last = is_zero (f j); in_data = false; numbers = no_numbers }))
  where
    drop-drop' : (a b : ℕ) (l : List ℕ) → drop b (drop a l) ≡ drop (b + a) l
    drop-drop' zero b l = ap (λ (z : ℕ). drop z l) (omega arith)
    drop-drop' (suc a) b [] = drop-none b ∙ sym (drop-none (b + suc a))
      where
        drop-none : (n : ℕ) → drop {A = ℕ} n [] ≡ []
        drop-none zero = refl
        drop-none (suc n) = refl
    drop-drop' (suc a) b (x ∷ xs) = drop-drop' a b xs ∙ ap (λ (z : ℕ). drop z (x ∷ xs)) (let q : suc (b + a) ≡ b + suc a = omega arith in q)

pub zero_is : (k : ℕ) → k ≡ 0 → is_zero k ≡ true
zero_is zero e = refl
zero_is (suc k) e = absurd (omega arith)

pub zero_not : (k : ℕ) → 0 < k → is_zero k ≡ false
zero_not zero less = absurd (omega arith)
zero_not (suc k) less = refl

-- so many pieces are staged behind the first
abbrev pub staging : TxKnown → TxPiece → List TxPiece → TxKnown
staging v y l = driver_at v (record v.driver.at { staged = y ∷ l })

pub starts_by : (v w : TxKnown) (y z : TxPiece) → w ≡ with_piece v z → v.driver.at.staged ≡ [] → v.driver.at.opened ≡ false → z ≡ y → w ≡ staging v y []
starts_by v w y z put none idle is = put ∙ ap (with_piece v) is ∙ (λ i. driver_at v (record v.driver.at { opened = sym idle i; staged = none i ++ y ∷ [] }))

pub grows_by : (v w w' : TxKnown) (y : TxPiece) (ps : List TxPiece) (p : ℕ) (x z : TxPiece) → w ≡ staging v y (take p ps) → w' ≡ with_piece w z → v.driver.at.opened ≡ false → z ≡ x → get_elem? ps p ≡ some x → w' ≡ staging v y (take (p + 1) ps)
grows_by v w w' y ps p x z was put idle is at = put ∙ ap (λ (u : TxKnown). with_piece u z) was ∙ ap (λ (q : TxPiece). with_piece (staging v y (take p ps)) q) is
    ∙ (λ i. driver_at v (record v.driver.at { opened = sym idle i; staged = y ∷ (sym (take_one_more ps p x at) ∙ (let e : suc p ≡ p + 1 = omega arith in ap (λ (k : ℕ). take k ps) e)) i }))

-- all of them are those of the frame
pub all-staged : (m : TxMade) (s : Sent) (more p : ℕ) → need m (length s.frame) ≡ suc more → p ≡ more → first_piece m more s ∷ take p (cut m.piece more (drop (first_size m) s.frame)) ≡ chain m s
all-staged m s more p e is = let l : List TxPiece = cut m.piece more (drop (first_size m) s.frame) in
    ap (λ k. first_piece m more s ∷ k) (ap (λ (k : ℕ). take k l) (is ∙ sym (cut-length m.piece more (drop (first_size m) s.frame))) ∙ take-length l) ∙ sym (ap (λ (k : ℕ). cut_frame m k s) e)

-- a piece behind the first begins within the frame
pub begins_in : (m : TxMade) (bytes more i : ℕ) → 0 < m.piece → need m bytes ≡ suc more → i < more → i * m.piece ≤ bytes - first_size m
begins_in m bytes more i pos e less = by_data m.with_data e
  where
    by_data : (d : Bool) → cond d (1 + begun m (bytes - 128)) (begun m bytes) ≡ suc more → i * m.piece ≤ bytes - cond d 128 m.piece
    by_data true e = let all : (i + 1) * m.piece ≤ bytes - 128 + (m.piece - 1) = (le-div_iff_mul-le pos).0 (omega arith) in let one : (i + 1) * m.piece ≡ i * m.piece + 1 * m.piece = add-mul i 1 m.piece in omega arith
    by_data false e = let all : (i + 2) * m.piece ≤ bytes + (m.piece - 1) = (le-div_iff_mul-le pos).0 (omega arith) in let two : (i + 2) * m.piece ≡ i * m.piece + 2 * m.piece = add-mul i 2 m.piece in omega arith

-- THE DEVICE'S WALK

pub closes_head : (x : TxPiece) (b : Bool) (more : List TxPiece) → b ≡ x.last → Closes (x ∷ more) → Closes (ending b ∷ more)
closes_head x b [] is c = is ∙ c
closes_head x b (y ∷ more) is c = (is ∙ c.0, c.1, c.2)

-- behind a piece that does not end its frame lies another one, not in the data ring
pub closes_next : (b : Bool) (l : List TxPiece) → b ≡ false → Closes (ending b ∷ l) → (x : TxPiece) × (more : List TxPiece) × (l ≡ x ∷ more) × (x.in_data ≡ false) × Closes (x ∷ more)
closes_next b [] open_ c = absurd (true≢false (sym c ∙ open_))
closes_next b (x ∷ more) open_ c = (x, more, refl, c.1, c.2)

-- the frame is what was read first and what is read of the others
pub frame_read : (m : TxMade) (s : Sent) (x : TxPiece) (more : List TxPiece) → 0 < m.piece → 0 < length s.frame → chain m s ≡ x ∷ more → x.bytes ++ joined more ≡ s.frame
frame_read m s x more pos long e = ap joined (sym e) ∙ joined-chain m s pos long

-- bytes behind none
pub empty_first : (xs ys : List ℕ) → length xs ≡ 0 → xs ++ ys ≡ ys
empty_first [] ys e = refl
empty_first (x ∷ xs) ys e = absurd (omega arith)

-- the first of two equal lists of pieces lies where the other's does
pub head_in_data : (x y : TxPiece) (xs ys : List TxPiece) → x ∷ xs ≡ y ∷ ys → x.in_data ≡ y.in_data
head_in_data x y xs ys e = let same : x ≡ y = cc e in ap (λ z. z.in_data) same

-- a piece has some bytes
pub some_piece : (m : TxMade) → least_piece m.with_data ≤ m.piece → 0 < m.piece
some_piece m = by_data m.with_data
  where
    by_data : (d : Bool) → least_piece d ≤ m.piece → 0 < m.piece
    by_data true le = omega arith
    by_data false le = omega arith
