-- A copy reaches guest `b`: it comes up at once, since the rings of `b` never lack a descriptor.
use Rattle.std.proofs.Common.{◌≡◌, ℕ, suc, ◌+◌, ◌-◌, ◌<◌, ◌≤◌, ◌%◌, true, false, List, length, take, refl, ap, ◌∙◌, arith, nat_lt}
use Rattle.std.proofs.Math.Seq.{take-length}
use Rattle.std.proofs.lemmas.Bool.Decides.{nat_tests}
use Rattle.vmx_filters.specs.declared.answer.Verdict.TheVariants.{Yes}
use Rattle.vmx_ends.specs.declared.made.RxMade.{RxMade}
use Rattle.vmx_ends.specs.declared.made.Bodies.TheVariants.{Every}
use Rattle.vmx_ends.specs.Core.{takes, outcome, head_from}
use Rattle.vmx_ends.specs.Receive.{is_body, used, took1, took2}
use Rattle.vmx_ends.specs.ReceiveCore.{RxCore, comes_to}
use Rattle.vmx_ends.specs.Walk.{at_head, further_pieces}
use Rattle.vmx_device_state.specs.SetupView.{SetupView}
use Rattle.vmx_model.specs.Setups.{admits}

-- ------------------------------------------------------------ the ring

-- a queue whose first ring has heads alone
pub record IsPlainRing (m : RxMade) : Type 0 where
  pub more : ℕ
  pub size : m.size1 ≡ suc more
  pub bodies : m.bodies ≡ Every 0
  pub full : m.full ≡ true

no_body : (m : RxMade) → IsPlainRing m → (p : ℕ) → is_body m p ≡ false
no_body m r p = let e : (p % m.size1) % 1 ≡ 0 = omega arith in rw (r.bodies, e) refl

head_here : (m : RxMade) → IsPlainRing m → (c : ℕ) → head_from m m.size1 c ≡ c
head_here m r c = ap (λ (n : ℕ). head_from m n c) r.size ∙ first m r r.more c
  where
    first : (m : RxMade) → IsPlainRing m → (more c : ℕ) → head_from m (suc more) c ≡ c
    first m r more c = rw (no_body m r c) refl

short_alone : (bytes : ℕ) → bytes ≤ 1518 → further_pieces bytes ≡ 0
short_alone bytes le = omega arith

-- where a head is posted, a short frame is taken
takes_here : (m : RxMade) → IsPlainRing m → (c1 c2 p1 p2 : ℕ) → c1 < p1 → c2 ≤ p2 → outcome m c1 c2 p1 p2 0 ≡ takes (c1 - c1) (at_head c1 c2)
takes_here m r c1 c2 p1 p2 lt le =
    let head = head_here m r c1 in
    let there : nat_lt c1 p1 ≡ true = grind (arith, nat_tests) in
    let enough : nat_lt p2 c2 ≡ false = grind (arith, nat_tests) in
    rw (head, there, enough) refl

-- a queue whose frames were all received, and posted back, takes a short frame
pub comes_up_here : (c : RxCore) → IsPlainRing c.made → c.received ≡ length c.delivered → (bytes : ℕ) → bytes ≤ 1518 → comes_to c bytes ≡ takes (used took1 c.delivered - used took1 c.delivered) (at_head (used took1 c.delivered) (used took2 c.delivered))
comes_up_here c r all bytes le =
    let back : take c.received c.delivered ≡ c.delivered = ap (λ (n : ℕ). take n c.delivered) all ∙ take-length c.delivered in
    let size = r.size in
    rw (back, short_alone bytes le, r.full) (takes_here c.made r (used took1 c.delivered) (used took2 c.delivered) (c.made.size1 + used took1 c.delivered) (c.made.size2 + used took2 c.delivered) (omega (arith, size)) (omega arith))

-- ------------------------------------------------------------ the filter

pub lets_in : (s : SetupView) (mac frame : List ℕ) → s.mode ≡ 16 → admits s mac frame ≡ Yes
unfolding admits
lets_in s mac frame e = rw e refl
