-- Laws of pieces, of the words that tell of them, and of the entries that these are.
use Rattle.std.proofs.Common.{◌≡◌, ℕ, zero, suc, ◌+◌, ◌-◌, ◌*◌, ◌^◌, ◌<◌, ◌≤◌, ◌==◌, List, [], ◌∷◌, ◌++◌, length, take, drop, Bool, true, false, cond, Option, Some, None, sym, refl, ap, ap₂, ◌∙◌, subst, arith, append-nil, append_assoc, length-append, take-append-drop}
use Rattle.std.proofs.lemmas.List.{length-drop}
use Rattle.std.proofs.Math.Nat.{zero-mul, add-mul}
use Rattle.std.proofs.lemmas.Nat.{div-add-mod', mod_below}
use Rattle.std.proofs.lemmas.List.Elements.{All-head, All-tail}
use Rattle.std.specs.Int.{bit_at}
use Rattle.std.specs.Prelude.{All}
use mathlib.Core.Option.{some, some-injective, some-ne-none}
use lib.ListN.{get_elem?}
use Rattle.vmx_layout.specs.Bits.{bit, field}
use Rattle.vmx_layout.specs.BitsLaws.{bit_below, cuts-stack, value_at}
use Rattle.vmx_layout.specs.TxDesc.{Second, second_word, second_fields}
use Rattle.vmx_layout.specs.TxDescLaws.{SecondFits, second-tells, second-flipped}
use Rattle.vmx_genring.specs.Rings.{generation_bit, flipped, entry_at}
use Rattle.vmx_ends.specs.declared.made.TxMade.{TxMade}
use Rattle.vmx_ends.specs.declared.meta.TxMark.{TxMark}
use Rattle.vmx_ends.specs.declared.frames.Sent.{Sent}
use Rattle.vmx_ends.specs.HandedLaws.{mark_same}
use Rattle.vmx_ends.specs.Transmit.{begun, need, descriptors}
use Rattle.vmx_ends.specs.TransmitCounts.{need_some}
use Rattle.vmx_tx_ring.specs.declared.known.MarkNumbers.{MarkNumbers}
use Rattle.vmx_tx_ring.specs.declared.known.TxPiece.{TxPiece}
use Rattle.vmx_tx_ring.specs.declared.known.TxBuffer.{TxBuffer}
use Rattle.vmx_tx_ring.specs.Pieces.{numbers_of, no_numbers, cut, first_size, first_piece, cut_frame, chain, pieces, joined, Closes, lies, Shows, tag_there, tag_bytes, TagFits, NumbersFit, told_of, descriptor, entries, numbers_in, piece_in}
use Rattle.vmx_tx_ring.specs.Rule.{HasLawfulMark}

pub generation_small : (s p : ℕ) → generation_bit s p < 2
generation_small s p = omega arith

-- THE SECOND WORD

tag_fits : (t : Option ℕ) → TagFits t → tag_bytes t < 2 ^ 16
tag_fits None f = omega arith
tag_fits (Some tci) f = f

tag_one : (t : Option ℕ) → tag_there t < 2 ^ 1
tag_one None = omega arith
tag_one (Some tci) = omega arith

-- the numbers of a piece fit into a second word
pub told_fits : (g : ℕ) (x : TxPiece) → length x.bytes ≤ 4096 → g < 2 → NumbersFit x.numbers → SecondFits (told_of g x)
told_fits g x short small fit = record {
  len = omega arith;
  generation = omega arith;
  dtype = omega arith;
  ext1 = omega arith;
  msscof = fit.msscof;
  hlen = fit.hlen;
  om = fit.om;
  eop = bit_below x.last;
  cq = bit_below x.last;
  ext2 = omega arith;
  ti = tag_one x.numbers.tci;
  tci = tag_fits x.numbers.tci fit.tci;
}

-- what the second word of a piece's descriptor shows
pub record ShowsPiece (word g : ℕ) (x : TxPiece) : Type 0 where
  pub len_is : field word 0 14 ≡ length x.bytes
  pub generation_is : bit_at word 14 ≡ g
  pub last_is : field word 44 1 ≡ bit x.last
  pub named : field word 15 1 ≡ 0
  pub numbers_are : numbers_in word ≡ x.numbers

tag_is : (t : Option ℕ) (there bytes : ℕ) → tag_there t ≡ there → tag_bytes t ≡ bytes → cond (there == 1) (Some bytes) None ≡ t
tag_is None there bytes a b = ap (λ (k : ℕ). cond (k == 1) (Some bytes) None) (sym a)
tag_is (Some tci) there bytes a b = ap₂ (λ (k z : ℕ). cond (k == 1) (Some z) None) (sym a) (sym b)

pub piece-tells : (g : ℕ) (x : TxPiece) → length x.bytes ≤ 4096 → g < 2 → NumbersFit x.numbers → ShowsPiece (second_word (told_of g x)) g x
piece-tells g x short small fit = let s : Second = told_of g x in let t = second-tells s (told_fits g x short small fit) in let f = told_fits g x short small fit in
    let all = cuts-stack (second_fields s) (f.len, (f.generation, ((omega arith), (f.dtype, (f.ext1, (f.msscof, (f.hlen, (f.om, (f.eop, (f.cq, (f.ext2, (f.ti, (f.tci, tt))))))))))))) in record {
      len_is = sym t.len;
      generation_is = sym t.generation;
      last_is = sym t.eop;
      named = ap (value_at 2) all;
      numbers_are = (let tag = tag_is x.numbers.tci (field (second_word s) 47 1) (field (second_word s) 48 16) t.ti t.tci in λ i. record { tci = tag i; om = sym t.om i; hlen = sym t.hlen i; msscof = sym t.msscof i });
    }

-- with its bit flipped, the word has the other generation
pub piece-flipped : (g : ℕ) (x : TxPiece) → length x.bytes ≤ 4096 → g < 2 → NumbersFit x.numbers → flipped 14 (second_word (told_of g x)) ≡ second_word (told_of (1 - g) x)
piece-flipped g x short small fit = second-flipped (told_of g x) (told_fits g x short small fit)

by_bit : (b : Bool) → (bit b == 1) ≡ b
by_bit true = refl
by_bit false = refl

-- word and buffer tell the piece
pub piece-told : (word g : ℕ) (x : TxPiece) (b : TxBuffer) → length x.bytes ≤ 4096 → g < 2 → NumbersFit x.numbers → Shows x b → word ≡ second_word (told_of g x) → piece_in x.in_data word b ≡ x
piece-told word g x b short small fit shown is = ap (λ (w : ℕ). piece_in x.in_data w b) is ∙ (let t = piece-tells g x short small fit in
    let bytes : take (field (second_word (told_of g x)) 0 14) (lies x.in_data b) ≡ x.bytes = ap (λ (k : ℕ). take k (lies x.in_data b)) t.len_is ∙ shown in
    let last : (field (second_word (told_of g x)) 44 1 == 1) ≡ x.last = ap (λ (k : ℕ). k == 1) t.last_is ∙ by_bit x.last in
    λ i. record { bytes = bytes i; last = last i; in_data = x.in_data; numbers = t.numbers_are i })

length-take-le : (n : ℕ) (l : List ℕ) → length (take n l) ≤ length l
length-take-le zero l = omega arith
length-take-le (suc n) [] = omega arith
length-take-le (suc n) (y ∷ l) = let r = length-take-le n l in omega arith

-- a piece is no longer than what it lies in, and so at most 4,096 bytes long
pub shown_in : (x : TxPiece) (b : TxBuffer) → Shows x b → length x.bytes ≤ length (lies x.in_data b)
shown_in x b shown = subst (λ (l : List ℕ). length l ≤ length (lies x.in_data b)) shown (length-take-le (length x.bytes) (lies x.in_data b))

pub shown_short : (x : TxPiece) (b : TxBuffer) → Shows x b → length x.bytes ≤ 4096
shown_short x b shown = by_place x.in_data (shown_in x b shown)
  where
    by_place : (d : Bool) → length x.bytes ≤ length (lies d b) → length x.bytes ≤ 4096
    by_place true le = let r = b.entry_room in omega arith
    by_place false le = let r = b.room in omega arith

-- PIECES

pub cut-length : (size k : ℕ) (bytes : List ℕ) → length (cut size k bytes) ≡ k
cut-length size zero bytes = refl
cut-length size (suc k) bytes = ap suc (cut-length size k (drop size bytes))

cut_frame-length : (m : TxMade) (k : ℕ) (s : Sent) → length (cut_frame m k s) ≡ k
cut_frame-length m zero s = refl
cut_frame-length m (suc k) s = ap suc (cut-length m.piece k (drop (first_size m) s.frame))

pub chain-length : (m : TxMade) (s : Sent) → length (chain m s) ≡ need m (length s.frame)
chain-length m s = cut_frame-length m (need m (length s.frame)) s

pub pieces-append : (m : TxMade) (xs ys : List Sent) → pieces m (xs ++ ys) ≡ pieces m xs ++ pieces m ys
pieces-append m [] ys = refl
pieces-append m (x ∷ xs) ys = ap (λ l. chain m x ++ l) (pieces-append m xs ys) ∙ sym (append_assoc (chain m x) (pieces m xs) (pieces m ys))

pub pieces-length : (m : TxMade) (xs : List Sent) → length (pieces m xs) ≡ descriptors m xs
pieces-length m [] = refl
pieces-length m (x ∷ xs) = let a = length-append (chain m x) (pieces m xs) in let b = chain-length m x in let c = pieces-length m xs in omega arith

pub joined-cut : (size k : ℕ) (bytes : List ℕ) → length bytes ≤ k * size → joined (cut size k bytes) ≡ bytes
joined-cut size zero [] le = refl
joined-cut size zero (x ∷ xs) le = absurd (omega (arith, le, zero-mul size))
joined-cut size (suc k) bytes le = let d = length-drop size bytes in let up : suc k ≡ k + 1 = omega arith in let one : (k + 1) * size ≡ k * size + 1 * size = add-mul k 1 size in let e : suc k * size ≡ k * size + 1 * size = ap (λ (z : ℕ). z * size) up ∙ one in
    ap (λ l. take size bytes ++ l) (joined-cut size k (drop size bytes) (omega arith)) ∙ take-append-drop size bytes

pub cut-closes : (size k : ℕ) (bytes : List ℕ) → Closes (cut size k bytes)
cut-closes size zero bytes = tt
cut-closes size (suc zero) bytes = refl
cut-closes size (suc (suc k)) bytes = (refl, refl, cut-closes size (suc k) (drop size bytes))

cut_frame-closes : (m : TxMade) (k : ℕ) (s : Sent) → Closes (cut_frame m k s)
cut_frame-closes m zero s = tt
cut_frame-closes m (suc zero) s = refl
cut_frame-closes m (suc (suc k)) s = (refl, refl, cut-closes m.piece (suc k) (drop (first_size m) s.frame))

pub chain-closes : (m : TxMade) (s : Sent) → Closes (chain m s)
chain-closes m s = cut_frame-closes m (need m (length s.frame)) s

-- begun pieces reach over all bytes
begun-reaches : (m : TxMade) (bytes : ℕ) → 0 < m.piece → bytes ≤ begun m bytes * m.piece
begun-reaches m bytes pos = let a = div-add-mod' (bytes + (m.piece - 1)) m.piece in let b = mod_below (bytes + (m.piece - 1)) m.piece pos in omega arith

-- the first piece and so many others reach over the frame
pub reaches : (m : TxMade) (bytes more : ℕ) → 0 < m.piece → need m bytes ≡ suc more → bytes ≤ first_size m + more * m.piece
reaches m bytes more pos = by_data m.with_data
  where
    by_data : (d : Bool) → cond d (1 + begun m (bytes - 128)) (begun m bytes) ≡ suc more → bytes ≤ cond d 128 m.piece + more * m.piece
    by_data true e = let r = begun-reaches m (bytes - 128) pos in let q : begun m (bytes - 128) ≡ more = omega arith in let p : begun m (bytes - 128) * m.piece ≡ more * m.piece = ap (λ (k : ℕ). k * m.piece) q in omega arith
    by_data false e = let r = begun-reaches m bytes pos in let one : (more + 1) * m.piece ≡ more * m.piece + 1 * m.piece = add-mul more 1 m.piece in let q : begun m bytes ≡ more + 1 = omega arith in
        let p : begun m bytes * m.piece ≡ (more + 1) * m.piece = ap (λ (k : ℕ). k * m.piece) q in omega arith

-- a frame's chain: its first piece, and so many more
pub record Chained (m : TxMade) (s : Sent) : Type 0 where
  pub more : ℕ
  pub need_is : need m (length s.frame) ≡ suc more
  pub chain_is : chain m s ≡ first_piece m more s ∷ cut m.piece more (drop (first_size m) s.frame)

pub chained : (m : TxMade) (s : Sent) → 0 < m.piece → 0 < length s.frame → Chained m s
chained m s pos long = let k : ℕ = need m (length s.frame) - 1 in let e : need m (length s.frame) ≡ suc k = let n = need_some m (length s.frame) pos long in omega arith in record {
  more = k;
  need_is = e;
  chain_is = ap (λ (n : ℕ). cut_frame m n s) e;
}

pub joined-chain : (m : TxMade) (s : Sent) → 0 < m.piece → 0 < length s.frame → joined (chain m s) ≡ s.frame
joined-chain m s pos long = let c = chained m s pos long in let f : ℕ = first_size m in let all = reaches m (length s.frame) c.more pos c.need_is in let d = length-drop f s.frame in
    ap joined c.chain_is ∙ ap (λ l. take f s.frame ++ l) (joined-cut m.piece c.more (drop f s.frame) (omega arith)) ∙ take-append-drop f s.frame

-- the first piece of a chain
pub record IsFirst (m : TxMade) (s : Sent) (x : TxPiece) : Type 0 where
  pub in_data_is : x.in_data ≡ m.with_data
  pub numbers_are : x.numbers ≡ numbers_of s.mark

pub chain-first : (m : TxMade) (s : Sent) (x : TxPiece) (more : List TxPiece) → chain m s ≡ x ∷ more → IsFirst m s x
chain-first m s x more e = by_need (need m (length s.frame)) e
  where
    by_need : (k : ℕ) → cut_frame m k s ≡ x ∷ more → IsFirst m s x
    by_need zero e = absurd (cc e)
    by_need (suc k) e = let same : first_piece m k s ≡ x = cc e in record { in_data_is = ap (λ (z : TxPiece). z.in_data) (sym same); numbers_are = ap (λ (z : TxPiece). z.numbers) (sym same) }

-- equal numbers are those of equal marks
pub same_mark : (a b : TxMark) → numbers_of a ≡ numbers_of b → a ≡ b
same_mark a b e = mark_same a b (ap (λ (n : MarkNumbers). n.tci) e) (ap (λ (n : MarkNumbers). n.om) e) (ap (λ (n : MarkNumbers). n.hlen) e) (ap (λ (n : MarkNumbers). n.msscof) e)

numbers_at : List TxPiece → MarkNumbers
numbers_at [] = no_numbers
numbers_at (x ∷ xs) = x.numbers

-- equal chains are those of equal frames
pub same_frame : (m : TxMade) (s t : Sent) → 0 < m.piece → 0 < length s.frame → 0 < length t.frame → chain m s ≡ chain m t → s ≡ t
unfolding numbers_at
same_frame m s t pos long long' e = let a = chained m s pos long in let b = chained m t pos long' in
    let frame : s.frame ≡ t.frame = sym (joined-chain m s pos long) ∙ ap joined e ∙ joined-chain m t pos long' in
    let mark : s.mark ≡ t.mark = same_mark s.mark t.mark (ap numbers_at (sym a.chain_is ∙ e ∙ b.chain_is)) in
    λ i. record { frame = frame i; mark = mark i }

-- the numbers of each piece fit
pub none_fit : NumbersFit no_numbers
none_fit = record { tci = tt; om = omega arith; hlen = omega arith; msscof = omega arith }

pub mark_fits : (k : TxMark) → TagFits k.tci → NumbersFit (numbers_of k)
mark_fits k fit = record { tci = fit; om = k.om_low; hlen = k.hlen_low; msscof = k.msscof_low }

cut-numbers : (size k : ℕ) (bytes : List ℕ) (i : ℕ) (x : TxPiece) → get_elem? (cut size k bytes) i ≡ some x → NumbersFit x.numbers
cut-numbers size zero bytes i x e = absurd (some-ne-none x (sym e))
cut-numbers size (suc k) bytes zero x e = subst (λ (z : TxPiece). NumbersFit z.numbers) (some-injective _ x e) none_fit
cut-numbers size (suc k) bytes (suc i) x e = cut-numbers size k (drop size bytes) i x e

cut_frame-numbers : (m : TxMade) (k : ℕ) (s : Sent) (i : ℕ) (x : TxPiece) → TagFits s.mark.tci → get_elem? (cut_frame m k s) i ≡ some x → NumbersFit x.numbers
cut_frame-numbers m zero s i x fit e = absurd (some-ne-none x (sym e))
cut_frame-numbers m (suc k) s zero x fit e = subst (λ (z : TxPiece). NumbersFit z.numbers) (some-injective _ x e) (mark_fits s.mark fit)
cut_frame-numbers m (suc k) s (suc i) x fit e = cut-numbers m.piece k (drop (first_size m) s.frame) i x e

pub pieces-numbers : (m : TxMade) (sent : List Sent) (p : ℕ) (x : TxPiece) → All HasLawfulMark sent → get_elem? (pieces m sent) p ≡ some x → NumbersFit x.numbers
pieces-numbers m [] p x all e = absurd (some-ne-none x (sym e))
pieces-numbers m (s ∷ ss) p x all e = in_either (chain m s) p e (λ q h. cut_frame-numbers m (need m (length s.frame)) s q x (All-head HasLawfulMark s ss all).1 h) (λ q h. pieces-numbers m ss q x (All-tail HasLawfulMark s ss all) h)
  where
    in_either : (xs : List TxPiece) (p : ℕ) → get_elem? (xs ++ pieces m ss) p ≡ some x → ((q : ℕ) → get_elem? xs q ≡ some x → NumbersFit x.numbers) → ((q : ℕ) → get_elem? (pieces m ss) q ≡ some x → NumbersFit x.numbers) → NumbersFit x.numbers
    in_either [] p e f g = g p e
    in_either (z ∷ zs) zero e f g = f 0 e
    in_either (z ∷ zs) (suc p) e f g = in_either zs p e (λ q h. f (suc q) h) g

-- ENTRIES

pub entries-append : (m : TxMade) (p : ℕ) (xs ys : List TxPiece) → entries m p (xs ++ ys) ≡ entries m p xs ++ entries m (p + length xs) ys
entries-append m p [] ys = ap (λ (q : ℕ). entries m q ys) (omega arith)
entries-append m p (x ∷ xs) ys = ap (λ l. descriptor m p x ∷ l) (entries-append m (suc p) xs ys ∙ ap (λ (q : ℕ). entries m (suc p) xs ++ entries m q ys) (omega arith))

pub entries-length : (m : TxMade) (p : ℕ) (xs : List TxPiece) → length (entries m p xs) ≡ length xs
entries-length m p [] = refl
entries-length m p (x ∷ xs) = ap suc (entries-length m (suc p) xs)

pub entry-is : (m : TxMade) (p : ℕ) (xs : List TxPiece) (i : ℕ) (x : TxPiece) → get_elem? xs i ≡ some x → entry_at (entries m p xs) i ≡ descriptor m (p + i) x
entry-is m p [] i x e = absurd (some-ne-none x (sym e))
entry-is m p (y ∷ xs) zero x e = let q : p ≡ p + 0 = omega arith in (λ j. descriptor m (q j) (some-injective y x e j))
entry-is m p (y ∷ xs) (suc i) x e = entry-is m (suc p) xs i x e ∙ ap (λ (q : ℕ). descriptor m q x) (omega arith)

pub entries-snoc : (m : TxMade) (ps ss : List TxPiece) (x : TxPiece) → entries m 0 (ps ++ (ss ++ x ∷ [])) ≡ entries m 0 (ps ++ ss) ++ descriptor m (length (ps ++ ss)) x ∷ []
entries-snoc m ps ss x = ap (entries m 0) (sym (append_assoc ps ss (x ∷ []))) ∙ entries-append m 0 (ps ++ ss) (x ∷ []) ∙ (let q : 0 + length (ps ++ ss) ≡ length (ps ++ ss) = omega arith in ap (λ (k : ℕ). entries m 0 (ps ++ ss) ++ descriptor m k x ∷ []) q)

-- the pieces with one more frame
pub pieces-snoc : (m : TxMade) (sent : List Sent) (s : Sent) → pieces m (sent ++ s ∷ []) ++ [] ≡ pieces m sent ++ chain m s
pieces-snoc m sent s = append-nil _ ∙ pieces-append m sent (s ∷ []) ∙ ap (λ l. pieces m sent ++ l) (append-nil (chain m s))

pub at_behind : {A : Type 0} (xs ys : List A) (y : A) (more : List A) → ys ≡ y ∷ more → get_elem? (xs ++ ys) (length xs) ≡ some y
at_behind [] ys y more e = ap (λ l. get_elem? l 0) e
at_behind (x ∷ xs) ys y more e = at_behind xs ys y more e

pub at_first : {A : Type 0} (xs ys : List A) (p : ℕ) (a : A) → get_elem? xs p ≡ some a → get_elem? (xs ++ ys) p ≡ some a
at_first [] ys p a e = absurd (some-ne-none a (sym e))
at_first (x ∷ xs) ys zero a e = e
at_first (x ∷ xs) ys (suc p) a e = at_first xs ys p a e

-- what is behind the position
pub drop_tail : {A : Type 0} (l : List A) (i : ℕ) (a : A) (r : List A) → drop i l ≡ a ∷ r → (get_elem? l i ≡ some a) × (drop (suc i) l ≡ r)
drop_tail [] zero a r e = absurd (cc e)
drop_tail [] (suc i) a r e = absurd (cc e)
drop_tail (x ∷ xs) zero a r e = (ap some (cc e), cc e)
drop_tail (x ∷ xs) (suc i) a r e = drop_tail xs i a r e

-- descriptors of a longer front
pub take-grows : (m : TxMade) (sent : List Sent) (a b : ℕ) → a ≤ b → descriptors m (take a sent) ≤ descriptors m (take b sent)
take-grows m sent zero b le = omega arith
take-grows m [] (suc a) zero le = absurd (omega arith)
take-grows m [] (suc a) (suc b) le = omega arith
take-grows m (x ∷ xs) (suc a) zero le = absurd (omega arith)
take-grows m (x ∷ xs) (suc a) (suc b) le = let r = take-grows m xs a b (omega arith) in omega arith

pub take-all : (m : TxMade) (sent : List Sent) (a : ℕ) → descriptors m (take a sent) ≤ descriptors m sent
take-all m sent zero = omega arith
take-all m [] (suc a) = omega arith
take-all m (x ∷ xs) (suc a) = let r = take-all m xs a in omega arith
