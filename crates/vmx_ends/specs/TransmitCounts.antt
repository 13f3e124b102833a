-- How many descriptors frames need, and how many a device found in them.
use Rattle.std.proofs.Common.{◌≡◌, ℕ, zero, suc, ◌+◌, ◌-◌, ◌*◌, ◌<◌, ◌≤◌, List, [], ◌∷◌, ◌++◌, length, take, drop, Bool, true, false, cond, sym, refl, ap, ◌∙◌, subst, arith, All, take-append-drop}
use Rattle.std.proofs.Math.Nat.{le-div_iff_mul-le, mul-le-mul_right}
use Rattle.std.proofs.lemmas.Nat.{div-add-mod'}
use Rattle.std.proofs.lemmas.List.Elements.{All-head, All-tail}
use Rattle.std.proofs.lemmas.List.{length-drop, drop-append-le}
use mathlib.Core.Logic.{dite}
use mathlib.Core.Option.{some, some-injective, some-ne-none}
use native.Mathlib.Decide.{dec_lt}
use lib.ListN.{get_elem?}
use Rattle.vmx_layout.specs.declared.addresses.TheConstants.{DATA_ENTRY_SIZE}
use Rattle.vmx_io.specs.declared.buffer.TheConstants.{MAX_FRAME}
use Rattle.vmx_ends.specs.declared.limits.TheConstants.{MAX_DESCRIPTORS}
use Rattle.vmx_ends.specs.declared.made.TxMade.{TxMade}
use Rattle.vmx_ends.specs.declared.frames.Sent.{Sent}
use Rattle.vmx_ends.specs.declared.frames.Taken.{Taken}
use Rattle.vmx_ends.specs.Frames.{IsFrame, sent_of}
use Rattle.vmx_ends.specs.Transmit.{begun, need, descriptors, found_in}
use Rattle.vmx_ends.specs.Queues.{least_piece}

abbrev pub IsLong : Sent → Type 0
IsLong s = IsFrame s.frame

-- begun pieces reach over all bytes
pub begun_some : (m : TxMade) (b : ℕ) → 0 < m.piece → 0 < b → 1 ≤ begun m b
begun_some m b pos long = (le-div_iff_mul-le pos).1 (omega arith)

-- so many pieces are at most n, where n pieces have room for all bytes
pub begun_few : (m : TxMade) (b n : ℕ) → 0 < m.piece → b + (m.piece - 1) < (n + 1) * m.piece → begun m b ≤ n
begun_few m b n pos room = let p : ℕ = m.piece in let q : ℕ = begun m b in let whole = div-add-mod' (b + (p - 1)) p in dite (dec_lt n q)
    (λ many. let up : (n + 1) * p ≤ q * p = mul-le-mul_right p (omega arith) in let w : q * p ≤ b + (p - 1) = omega arith in absurd (omega arith))
    (λ fine. omega arith)

-- a frame needs a descriptor
pub need_some : (m : TxMade) (b : ℕ) → 0 < m.piece → 0 < b → 1 ≤ need m b
need_some m b pos long = by_data m.with_data
  where
    by_data : (d : Bool) → 1 ≤ cond d (1 + begun m (b - DATA_ENTRY_SIZE)) (begun m b)
    by_data true = omega arith
    by_data false = begun_some m b pos long

-- no frame needs more than 16
pub need_few : (m : TxMade) (b : ℕ) → b ≤ MAX_FRAME → least_piece m.with_data ≤ m.piece → need m b ≤ MAX_DESCRIPTORS
need_few m b most big = by_data m.with_data big
  where
    by_data : (d : Bool) → least_piece d ≤ m.piece → cond d (1 + begun m (b - DATA_ENTRY_SIZE)) (begun m b) ≤ MAX_DESCRIPTORS
    by_data true le = let few = begun_few m (b - DATA_ENTRY_SIZE) 15 (omega arith) (omega arith) in omega arith
    by_data false le = begun_few m b 16 (omega arith) (omega arith)

pub descriptors-append : (m : TxMade) (xs ys : List Sent) → descriptors m (xs ++ ys) ≡ descriptors m xs + descriptors m ys
descriptors-append m [] ys = omega arith
descriptors-append m (x ∷ xs) ys = let r = descriptors-append m xs ys in omega arith

pub descriptors_one : (m : TxMade) (s : Sent) → descriptors m (s ∷ []) ≡ need m (length s.frame)
descriptors_one m s = omega arith

pub found-append : (xs ys : List Taken) → found_in (xs ++ ys) ≡ found_in xs + found_in ys
found-append [] ys = omega arith
found-append (x ∷ xs) ys = let r = found-append xs ys in omega arith

pub sent_of-append : (xs ys : List Taken) → sent_of (xs ++ ys) ≡ sent_of xs ++ sent_of ys
sent_of-append [] ys = refl
sent_of-append (x ∷ xs) ys = ap (λ l. x.sent ∷ l) (sent_of-append xs ys)

-- frames need no fewer descriptors than they are
pub many : (m : TxMade) (xs : List Sent) → 0 < m.piece → All IsLong xs → length xs ≤ descriptors m xs
many m [] pos all = omega arith
many m (x ∷ xs) pos all = let r = many m xs pos (All-tail IsLong x xs all) in let long = (All-head IsLong x xs all).0 in let n = need_some m (length x.frame) pos (omega arith) in omega arith

all_drop : (n : ℕ) (xs : List Sent) → All IsLong xs → All IsLong (drop n xs)
all_drop zero xs all = all
all_drop (suc n) [] all = all
all_drop (suc n) (x ∷ xs) all = all_drop n xs (All-tail IsLong x xs all)

-- no more frames are under way than descriptors in use
pub under_way : (m : TxMade) (sent : List Sent) (reaped : ℕ) → 0 < m.piece → All IsLong sent → length sent ≤ reaped + descriptors m (drop reaped sent)
under_way m sent reaped pos all = let a = many m (drop reaped sent) pos (all_drop reaped sent all) in let b = length-drop reaped sent in omega arith

pub drop_at : {A : Type 0} (n : ℕ) (xs : List A) (x : A) → get_elem? xs n ≡ some x → drop n xs ≡ x ∷ drop (suc n) xs
drop_at n [] x at = absurd (some-ne-none x (sym at))
drop_at zero (y ∷ ys) x at = ap (λ z. z ∷ ys) (some-injective y x at)
drop_at (suc n) (y ∷ ys) x at = drop_at n ys x at

-- the first frame that is not reaped gives its descriptors back
pub drop_one : (m : TxMade) (sent : List Sent) (reaped : ℕ) (s : Sent) → get_elem? sent reaped ≡ some s → descriptors m (drop reaped sent) ≡ need m (length s.frame) + descriptors m (drop (suc reaped) sent)
drop_one m sent reaped s at = ap (descriptors m) (drop_at reaped sent s at)

-- one more frame is posted
pub drop_more : (m : TxMade) (sent : List Sent) (reaped : ℕ) (s : Sent) → reaped ≤ length sent → descriptors m (drop reaped (sent ++ s ∷ [])) ≡ descriptors m (drop reaped sent) + need m (length s.frame)
drop_more m sent reaped s le = let e = descriptors-append m (drop reaped sent) (s ∷ []) in ap (descriptors m) (drop-append-le reaped sent (s ∷ []) le) ∙ e ∙ ap (λ (k : ℕ). descriptors m (drop reaped sent) + k) (descriptors_one m s)

-- the descriptors that are given back, and those that are not
pub parts : (m : TxMade) (sent : List Sent) (reaped : ℕ) → descriptors m sent ≡ descriptors m (take reaped sent) + descriptors m (drop reaped sent)
parts m sent reaped = ap (descriptors m) (sym (take-append-drop reaped sent)) ∙ descriptors-append m (take reaped sent) (drop reaped sent)

-- those of one more frame that is given back
pub take_one : (m : TxMade) (sent : List Sent) (reaped : ℕ) (s : Sent) → get_elem? sent reaped ≡ some s → descriptors m (take (suc reaped) sent) ≡ descriptors m (take reaped sent) + need m (length s.frame)
take_one m sent reaped s at = let a = parts m sent reaped in let b = parts m sent (suc reaped) in let c = drop_one m sent reaped s at in omega arith

-- what holds of all items holds of the one at a place
pub all_at : {A : Type 0} (P : A → Type 0) (xs : List A) (i : ℕ) (a : A) → All P xs → get_elem? xs i ≡ some a → P a
all_at P [] i a all e = absurd (some-ne-none a (sym e))
all_at P (x ∷ xs) zero a all e = subst P (some-injective x a e) (All-head P x xs all)
all_at P (x ∷ xs) (suc i) a all e = all_at P xs i a (All-tail P x xs all) e
