-- The words of new registers.
use Rattle.std.proofs.Common.{◌≡◌, ℕ, ◌+◌, ◌<◌, ◌≤◌, List, [], ◌∷◌, length, get_or, set, replicate, sym, ◌∙◌, subst, arith, length-set, get_or-set_other, get_or-set_same}
use Rattle.std.proofs.lemmas.List.{length-replicate}
use native.Mathlib.Decide.{ℕ_discrete}
use Rattle.vmx_shared_area.specs.Places.{get_or-replicate_same}
use Rattle.vmx_regs.specs.Masks.{mask_word, words_of, AreFirst}

pub first_none : (n : ℕ) → AreFirst n 0 (replicate (words_of n) 0)
first_none n = record {
  many = length-replicate (words_of n) 0;
  masks = λ k a b. absurd (omega arith);
  low = λ k _. get_or-replicate_same (words_of n) k 0;
  high = λ k _. get_or-replicate_same (words_of n) k 0;
}

pub first_more : (n i : ℕ) (ws : List ℕ) → AreFirst n i ws → i < n → AreFirst n (i + 1) (set ws (mask_word i) 1)
first_more n i ws f less = record {
  many = length-set ws (mask_word i) 1 ∙ f.many;
  masks = λ k a b. elim (ℕ_discrete k (mask_word i)) [
    | yes same ↦ subst (λ (z : ℕ). get_or (set ws (mask_word i) 1) z 0 ≡ 1) (sym same) (get_or-set_same ws (mask_word i) 1 0 (let m = f.many in omega arith))
    | no apart ↦ get_or-set_other ws (mask_word i) k 1 0 apart ∙ f.masks k a (omega (arith, apart))
  ];
  low = λ k a. get_or-set_other ws (mask_word i) k 1 0 (λ e. omega (arith, e)) ∙ f.low k a;
  high = λ k a. get_or-set_other ws (mask_word i) k 1 0 (λ e. omega (arith, e)) ∙ f.high k (omega arith);
}

-- such words begin with two that are 0
pub begins_zero : (ws : List ℕ) → 2 ≤ length ws → get_or ws 0 0 ≡ 0 → get_or ws 1 0 ≡ 0 → (more : List ℕ) × (ws ≡ 0 ∷ 0 ∷ more)
begins_zero [] le e f = absurd (omega arith)
begins_zero (a ∷ []) le e f = absurd (omega arith)
begins_zero (a ∷ b ∷ more) le e f = (more, λ i. e i ∷ f i ∷ more)
