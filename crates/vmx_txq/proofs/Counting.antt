-- How many descriptors lie up to the one with an index.
use Rattle.std.proofs.Common.{◌≡◌, ℕ, suc, ◌+◌, ◌-◌, ◌*◌, ◌/◌, ◌%◌, ◌<◌, ◌≤◌, length, take, ap, ◌∙◌, arith}
use Rattle.std.proofs.Math.Nat.{add-mul}
use Rattle.std.proofs.lemmas.Nat.{div-add-mod', mod_below, mod-mul-add}
use mathlib.Core.Logic.{dite}
use mathlib.Core.Option.{some}
use native.Mathlib.Decide.{dec_lt}
use lib.ListN.{get_elem?}
use Rattle.vmx_layout.specs.TxComp.{first_word}
use Rattle.vmx_ends.specs.declared.frames.Sent.{Sent}
use Rattle.vmx_ends.specs.Transmit.{need, descriptors}
use Rattle.vmx_ends.specs.TransmitCounts.{take_one}
use Rattle.vmx_tx_ring.specs.declared.known.TxKnown.{TxKnown}
use Rattle.vmx_tx_ring.specs.Walks.{returned_to}

pub count_is : (n last r k : ℕ) → 0 < n → 1 ≤ k → k ≤ n → last ≡ (r + k - 1) % n → (last + (n - r % n)) % n + 1 ≡ k
count_is n last r k pos least most is = let q : ℕ = r / n in let a : ℕ = r % n in let low : a < n = mod_below r n pos in let whole : q * n + a ≡ r = div-add-mod' r n in let j : ℕ = k - 1 in dite (dec_lt (a + j) n)
    (λ less. let e : r + k - 1 ≡ q * n + (a + j) = omega arith in let l : last ≡ a + j = is ∙ ap (λ (z : ℕ). z % n) e ∙ mod-mul-add q n (a + j) less in
    let f : last + (n - a) ≡ 1 * n + j = omega arith in let g : (last + (n - a)) % n ≡ j = ap (λ (z : ℕ). z % n) f ∙ mod-mul-add 1 n j (omega arith) in omega arith)
    (λ more. let b : ℕ = a + j - n in let up : (q + 1) * n ≡ q * n + 1 * n = add-mul q 1 n in let e : r + k - 1 ≡ (q + 1) * n + b = omega arith in let l : last ≡ b = is ∙ ap (λ (z : ℕ). z % n) e ∙ mod-mul-add (q + 1) n b (omega arith) in
    let f : last + (n - a) ≡ 0 * n + j = omega arith in let g : (last + (n - a)) % n ≡ j = ap (λ (z : ℕ). z % n) f ∙ mod-mul-add 0 n j (omega arith) in omega arith)

-- a completion's first word is its index
pub index_is : (i : ℕ) → first_word i ≡ i
index_is i = omega arith

-- the descriptors behind one more frame
pub returned_more : (v : TxKnown) (s : Sent) → get_elem? v.driver.at.sent v.driver.at.reaped ≡ some s → descriptors v.made (take (suc v.driver.at.reaped) v.driver.at.sent) ≡ returned_to v + need v.made (length s.frame)
returned_more v s at = take_one v.made v.driver.at.sent v.driver.at.reaped s at
