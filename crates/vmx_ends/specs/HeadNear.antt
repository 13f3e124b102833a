-- A head stands at most `bodies` positions on.
use Rattle.std.proofs.Common.{◌≡◌, ℕ, ◌+◌, ◌-◌, ◌*◌, ◌/◌, ◌%◌, ◌<◌, ◌≤◌, false, true≢false, not, ◌==◌, sym, ap, ap₂, ◌∙◌, arith, mod-eq_of_lt, mod-lt}
use Rattle.std.proofs.Math.Nat.{mul-mod_left, add-mod_right, mod-add-div', mul-add-mod_self_right}
use mathlib.Core.Logic.{dite}
use native.Mathlib.Decide.{ℕ_discrete, dec_lt}
use Rattle.vmx_ends.specs.declared.made.RxMade.{RxMade}
use Rattle.vmx_ends.specs.declared.made.Bodies.{Bodies}
use Rattle.vmx_ends.specs.declared.made.Bodies.TheVariants.{Every}
use Rattle.vmx_ends.specs.Receive.{is_body_index, is_body}
use Rattle.vmx_ends.specs.Core.{head_from}
use Rattle.vmx_ends.specs.WalkLaws.{bodies_below, first_is_head}

-- a position whose index is a multiple of bodies + 1 is HEAD
cycle_is_head : (m : RxMade) (bodies q i : ℕ) → m.bodies ≡ Every bodies → q % m.size1 ≡ i → i % (bodies + 1) ≡ 0 → is_body m q ≡ false
cycle_is_head m bodies q i every e z = ap₂ (λ (k : Bodies) (j : ℕ). is_body_index k j) every e ∙ ap (λ (k : ℕ). not (k == 0)) z

head_close : (m : RxMade) (bodies c : ℕ) → m.bodies ≡ Every bodies → 0 < m.size1 → (q : ℕ) × (c ≤ q) × (q ≤ c + bodies) × (is_body m q ≡ false)
head_close m bodies c every pos = let s : ℕ = m.size1 in let b : ℕ = bodies + 1 in let some : 0 < b = omega arith in let i : ℕ = c % s in let o : ℕ = i % b in
    let low : i < s = mod-lt c pos in let small : o < b = mod-lt i some in let t : ℕ = c / s * s in let t' : ℕ = i / b * b in let c_is : i + t ≡ c = mod-add-div' c s in let i_is : o + t' ≡ i = mod-add-div' i b in
    dite (ℕ_discrete o 0)
    (λ here. (c, omega arith, omega arith, cycle_is_head m bodies c i every (λ _. i) here))
    (λ other. let k : ℕ = b - o in dite (dec_lt (i + k) s)
    (λ inside. let q : ℕ = t + (i + k) in let j : ℕ = t' + b in let j_is : i + k ≡ j = omega arith in
    (q, omega arith, omega arith, cycle_is_head m bodies q (i + k) every (mul-add-mod_self_right (c / s) s (i + k) ∙ mod-eq_of_lt inside) (ap (λ (z : ℕ). z % b) j_is ∙ add-mod_right t' b ∙ mul-mod_left (i / b) b)))
    (λ wraps. let q : ℕ = t + s in (q, omega arith, omega arith, first_is_head m bodies q every (add-mod_right t s ∙ mul-mod_left (c / s) s))))

pub head_soon : (m : RxMade) (bodies c : ℕ) → m.bodies ≡ Every bodies → 0 < m.size1 → head_from m m.size1 c ≤ c + bodies
head_soon m bodies c every pos = let near = head_close m bodies c every pos in let le = near.1 in let most = near.2 in dite (dec_lt near.0 (head_from m m.size1 c))
    (λ far. absurd (true≢false (sym (bodies_below m m.size1 c near.0 le far) ∙ near.3)))
    (λ close. omega arith)
