-- How many descriptors the frames from a place on need, step by step.
use Rattle.std.proofs.Common.{◌≡◌, ℕ, zero, suc, ◌+◌, ◌<◌, ◌≤◌, List, [], ◌∷◌, ◌++◌, length, get_or, drop, refl, ap, ◌∙◌, arith, Result, Ok, Err, OnOk, OnErr}
use Rattle.vmx_ends.specs.Transmit.{need, descriptors}
use Rattle.vmx_ends.specs.declared.made.TxMade.{TxMade}
use Rattle.vmx_queue_reference.specs.declared.tx.TxFrame.{TxFrame}
use Rattle.vmx_queue_reference.specs.PlainFrames.{as_sent, all_sent, IsPosted, ArePosted, needed_from}

pub needed_stop : (m : TxMade) (from : ℕ) (frames : List TxFrame) → length frames ≤ from → needed_from m from frames ≡ 0
needed_stop m zero [] le = refl
needed_stop m zero (x ∷ xs) le = absurd (omega arith)
needed_stop m (suc n) [] le = refl
needed_stop m (suc n) (x ∷ xs) le = needed_stop m n xs (omega arith)

needed_suc : (m : TxMade) (from : ℕ) (frames : List TxFrame) (d : TxFrame) → from < length frames → needed_from m from frames ≡ need m (length (get_or frames from d).frame) + needed_from m (suc from) frames
needed_suc m from [] d less = absurd (omega arith)
needed_suc m zero (x ∷ xs) d less = refl
needed_suc m (suc n) (x ∷ xs) d less = needed_suc m n xs d (omega arith)

pub needed_on : (m : TxMade) (from : ℕ) (frames : List TxFrame) (d : TxFrame) → from < length frames → needed_from m from frames ≡ need m (length (get_or frames from d).frame) + needed_from m (from + 1) frames
needed_on m from frames d less = needed_suc m from frames d less ∙ (let e : suc from ≡ from + 1 = omega arith in ap (λ (n : ℕ). need m (length (get_or frames from d).frame) + needed_from m n frames) e)

pub needed_more : (m : TxMade) (from : ℕ) (frames : List TxFrame) (f : TxFrame) → from ≤ length frames → needed_from m from (frames ++ f ∷ []) ≡ needed_from m from frames + need m (length f.frame)
needed_more m zero [] f le = omega arith
needed_more m zero (x ∷ xs) f le = let r = needed_more m zero xs f (omega arith) in omega arith
needed_more m (suc n) [] f le = absurd (omega arith)
needed_more m (suc n) (x ∷ xs) f le = needed_more m n xs f (omega arith)

-- a frame of the list may be posted with its mark
pub frame_at : (frames : List TxFrame) (i : ℕ) (d : TxFrame) → ArePosted frames → i < length frames → IsPosted (get_or frames i d)
frame_at frames i d all less = all i d less

-- the frames from a place on, as the core has them
pub drop_sent : (from : ℕ) (frames : List TxFrame) → drop from (all_sent frames) ≡ all_sent (drop from frames)
drop_sent zero frames = refl
drop_sent (suc n) [] = refl
drop_sent (suc n) (x ∷ xs) = drop_sent n xs

pub core_needs : (m : TxMade) (from : ℕ) (frames : List TxFrame) → descriptors m (drop from (all_sent frames)) ≡ needed_from m from frames
core_needs m from frames = ap (descriptors m) (drop_sent from frames)

pub sent_more : (frames : List TxFrame) (f : TxFrame) → all_sent (frames ++ f ∷ []) ≡ all_sent frames ++ as_sent f ∷ []
sent_more [] f = refl
sent_more (x ∷ xs) f = ap (λ l. as_sent x ∷ l) (sent_more xs f)

-- a call that ended well or badly, where the same follows from both
pub on_either : {T E A B C : Type 0} (r : Result T E) → OnOk r A → OnErr r B → (A → C) → (B → C) → C
on_either (Ok x) a b f g = f a
on_either (Err e) a b f g = g b
