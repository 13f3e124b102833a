-- The pieces of the frame whose descriptors come back next.
use Rattle.std.proofs.Common.{◌≡◌, ℕ, zero, suc, ◌+◌, ◌-◌, ◌<◌, List, [], ◌∷◌, ◌++◌, length, take, drop, true, false, true≢false, sym, refl, ap, ◌∙◌, subst, arith}
use mathlib.Core.Option.{some, some-injective, some-ne-none}
use lib.ListN.{get_elem?}
use Rattle.vmx_ends.specs.declared.made.TxMade.{TxMade}
use Rattle.vmx_ends.specs.declared.frames.Sent.{Sent}
use Rattle.vmx_ends.specs.Transmit.{need, descriptors}
use Rattle.vmx_tx_ring.specs.declared.known.TxPiece.{TxPiece}
use Rattle.vmx_tx_ring.specs.Pieces.{is_zero, cut, first_size, first_piece, cut_frame, chain, pieces}
use Rattle.vmx_tx_ring.proofs.PieceLaws.{chain-length, at_first}

-- the piece at this place of a chain, and whether it is the last one
pub record PieceAt (l : List TxPiece) (k i : ℕ) : Type 0 where
  pub piece : TxPiece
  pub at : get_elem? l i ≡ some piece
  pub last : piece.last ≡ is_zero (k - suc i)

cut_at : (size k : ℕ) (bytes : List ℕ) (i : ℕ) → i < k → PieceAt (cut size k bytes) k i
cut_at size zero bytes i less = absurd (omega arith)
cut_at size (suc k) bytes zero less = record { piece = _; at = refl; last = ap is_zero (omega arith) }
cut_at size (suc k) bytes (suc i) less = let r = cut_at size k (drop size bytes) i (omega arith) in record { piece = r.piece; at = r.at; last = r.last ∙ ap is_zero (omega arith) }

cut_frame_at : (m : TxMade) (k : ℕ) (s : Sent) (i : ℕ) → i < k → PieceAt (cut_frame m k s) k i
cut_frame_at m zero s i less = absurd (omega arith)
cut_frame_at m (suc k) s zero less = record { piece = first_piece m k s; at = refl; last = ap is_zero (omega arith) }
cut_frame_at m (suc k) s (suc i) less = let r = cut_at m.piece k (drop (first_size m) s.frame) i (omega arith) in record { piece = r.piece; at = r.at; last = r.last ∙ ap is_zero (omega arith) }

pub chain_at : (m : TxMade) (s : Sent) (i : ℕ) → i < need m (length s.frame) → PieceAt (chain m s) (need m (length s.frame)) i
chain_at m s i less = cut_frame_at m (need m (length s.frame)) s i less

at_behind_all : (xs ys : List TxPiece) (k : ℕ) → get_elem? (xs ++ ys) (length xs + k) ≡ get_elem? ys k
at_behind_all [] ys k = ap (λ (q : ℕ). get_elem? ys q) (omega arith)
at_behind_all (x ∷ xs) ys k = let e : suc (length xs) + k ≡ suc (length xs + k) = omega arith in ap (λ (q : ℕ). get_elem? (x ∷ (xs ++ ys)) q) e ∙ at_behind_all xs ys k

-- among the pieces of all frames it lies behind those of the earlier ones
pub pieces_at : (m : TxMade) (sent : List Sent) (r : ℕ) (s : Sent) (j : ℕ) (x : TxPiece) → get_elem? sent r ≡ some s → get_elem? (chain m s) j ≡ some x → get_elem? (pieces m sent) (descriptors m (take r sent) + j) ≡ some x
pieces_at m [] r s j x at here = absurd (some-ne-none s (sym at))
pieces_at m (y ∷ ys) zero s j x at here = let e : 0 + j ≡ j = omega arith in ap (λ (q : ℕ). get_elem? (chain m y ++ pieces m ys) q) e ∙ at_first (chain m y) (pieces m ys) j x (subst (λ z. get_elem? (chain m z) j ≡ some x) (sym (some-injective y s at)) here)
pieces_at m (y ∷ ys) (suc r) s j x at here = let c = chain-length m y in let e : need m (length y.frame) + descriptors m (take r ys) + j ≡ length (chain m y) + (descriptors m (take r ys) + j) = omega arith in
    ap (λ (q : ℕ). get_elem? (chain m y ++ pieces m ys) q) e ∙ at_behind_all (chain m y) (pieces m ys) (descriptors m (take r ys) + j) ∙ pieces_at m ys r s j x at here

-- whether a piece is the last one tells how many there are
pub is_last : (k j : ℕ) → j < k → is_zero (k - suc j) ≡ true → k ≡ j + 1
is_last k j less e = by_rest (k - suc j) refl e
  where
    by_rest : (z : ℕ) → k - suc j ≡ z → is_zero z ≡ true → k ≡ j + 1
    by_rest zero e t = omega arith
    by_rest (suc z) e t = absurd (true≢false (sym t))

pub not_last : (k j : ℕ) → j < k → is_zero (k - suc j) ≡ false → j + 1 < k
not_last k j less e = by_rest (k - suc j) refl e
  where
    by_rest : (z : ℕ) → k - suc j ≡ z → is_zero z ≡ false → j + 1 < k
    by_rest zero e t = absurd (true≢false t)
    by_rest (suc z) e t = omega arith
