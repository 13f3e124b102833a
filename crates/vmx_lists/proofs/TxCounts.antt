-- What a driver keeps of the descriptors that frames need.
use Rattle.std.proofs.Common.{◌≡◌, ℕ, zero, suc, ◌+◌, ◌<◌, ◌≤◌, Bool, true, false, List, [], ◌∷◌, ◌++◌, length, get_or, set, ⊎_elim, ◌%◌, mod-lt, get_or-set_other, get_or-set_same, sym, refl, ◌∙◌, subst, arith, All}
use mathlib.Core.Option.{some}
use lib.ListN.{get_elem?}
use Rattle.vmx_ring_laws.specs.Moves.{elsewhere}
use Rattle.vmx_ring_laws.specs.Lists.{snoc_cases}
use Rattle.vmx_lists.specs.TxNeeds.{AreNeeds}
use Rattle.vmx_ends.specs.declared.made.TxMade.{TxMade}
use Rattle.vmx_ends.specs.declared.frames.Sent.{Sent}
use Rattle.vmx_ends.specs.Frames.{IsMarked}
use Rattle.vmx_ends.specs.Transmit.{need}
use Rattle.vmx_ends.specs.TransmitCounts.{IsLong}
use Rattle.vmx_ends.specs.Queues.{least_piece}

-- a frame that may be sent with its mark
abbrev pub MayGo : Sent → Type 0
MayGo s = IsMarked s.frame s.mark

pub all_long : (xs : List Sent) → All MayGo xs → All IsLong xs
all_long xs all = λ i d less. (all i d less).0

-- the least size of a piece is above 0
pub piece_some : (m : TxMade) → least_piece m.with_data ≤ m.piece → 0 < m.piece
piece_some m least = by_case m.with_data least
  where
    by_case : (d : Bool) → least_piece d ≤ m.piece → 0 < m.piece
    by_case true le = omega arith
    by_case false le = omega arith

-- an index below the length reads the same whatever stands for a missing one
pub same_default : (xs : List ℕ) (i d e : ℕ) → i < length xs → get_or xs i d ≡ get_or xs i e
same_default [] i d e less = absurd (omega arith)
same_default (x ∷ xs) zero d e less = refl
same_default (x ∷ xs) (suc i) d e less = same_default xs i d e (omega arith)

-- the need of one more frame is kept
pub needs_more : (m : TxMade) (sent : List Sent) (reaped : ℕ) (needs : List ℕ) (s : Sent) (k : ℕ) → AreNeeds m sent reaped needs → length sent < reaped + m.size → length needs ≡ m.size → 0 < m.size → k ≡ need m (length s.frame)
    → AreNeeds m (sent ++ s ∷ []) reaped (set needs (length sent % m.size) k)
needs_more m sent reaped needs s k all room wide pos is p x le at = let h : ℕ = length sent in let n : ℕ = m.size in ⊎_elim
    (λ (c : (p ≡ h) × (s ≡ x)). let below = mod-lt h pos in let low : h % n < length needs = omega arith in subst (λ (z : ℕ × Sent). get_or (set needs (h % n) k) (z.0 % n) 0 ≡ need m (length z.1.frame)) (λ i. (sym c.0 i, c.1 i)) (get_or-set_same needs (h % n) k 0 low ∙ is))
    (λ (c : (p < h) × (get_elem? sent p ≡ some x)). let less = c.0 in get_or-set_other needs (h % n) (p % n) k 0 (λ e. elsewhere n p h less (omega arith) (sym e)) ∙ all p x le c.1)
    (snoc_cases sent s x p at)
