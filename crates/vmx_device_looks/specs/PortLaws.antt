-- Laws of the other ports of a switch.
use Rattle.std.proofs.Common.{◌≡◌, ◌≢◌, ℕ, suc, ◌-◌, ◌<◌, ◌≤◌, Bool, true, false, refl, sym, ◌∙◌, arith, subst, inl, inr, ◌⊎◌}
use Rattle.std.specs.Prelude.{nat_lt}
use Rattle.std.proofs.lemmas.Bool.{ltb-true, ltb-false}
use Rattle.vmx_device_looks.specs.Ports.{other, IsOther}

-- below the port it is the number itself, else one more
pub other_is : (port k : ℕ) → ((k < port) × (other port k ≡ k)) ⊎ ((port ≤ k) × (other port k ≡ suc k))
other_is port k = step (nat_lt k port) refl
  where
    step : (b : Bool) → nat_lt k port ≡ b → ((k < port) × (other port k ≡ k)) ⊎ ((port ≤ k) × (other port k ≡ suc k))
    step true e = inl (ltb-true k port e, rw e refl)
    step false e = inr (ltb-false k port e, rw e refl)

pub other_once : (port k k' : ℕ) → other port k ≡ other port k' → k ≡ k'
other_once port k k' e = elim (other_is port k) [
  | inl h ↦ elim (other_is port k') [
    | inl h' ↦ omega (arith, e, h.1, h'.1)
    | inr h' ↦ omega (arith, e, h.1, h'.1, h.0, h'.0)
  ]
  | inr h ↦ elim (other_is port k') [
    | inl h' ↦ omega (arith, e, h.1, h'.1, h.0, h'.0)
    | inr h' ↦ omega (arith, e, h.1, h'.1)
  ]
]

pub other_not : (port k : ℕ) → other port k ≢ port
other_not port k e = elim (other_is port k) [
  | inl h ↦ omega (arith, e, h.1, h.0)
  | inr h ↦ omega (arith, e, h.1, h.0)
]

-- another port of the switch has a link
pub is_other : (port links to : ℕ) → port < suc links → to < suc links → to ≢ port → IsOther port links to
is_other port links to in_range lt ne = step (nat_lt to port) refl
  where
    step : (b : Bool) → nat_lt to port ≡ b → IsOther port links to
    step true e = let below = ltb-true to port e in elim (other_is port to) [
      | inl h ↦ (to, omega (arith, below, in_range), sym h.1)
      | inr h ↦ absurd (omega (arith, below, h.0))
    ]
    step false e = let above = ltb-false to port e in elim (other_is port (to - 1)) [
      | inl h ↦ absurd (omega (arith, above, h.0, ne))
      | inr h ↦ (to - 1, omega (arith, above, lt, ne), omega (arith, above, ne, h.1))
    ]

-- the number of the link to another port
pub link_number : (port links to : ℕ) → IsOther port links to → ((to < port) → (to ≡ other port to) × (to < links)) × (port ≤ to → (to ≡ other port (to - 1)) × (to - 1 < links) × (1 ≤ to))
link_number port links to (k, lt, e) = elim (other_is port k) [
  | inl h ↦ (
    λ below. let same : k ≡ to = sym h.1 ∙ sym e in (subst (λ (n : ℕ). to ≡ other port n) same e, subst (λ (n : ℕ). n < links) same lt),
    λ above. absurd (omega (arith, e, h.1, h.0, above)),
  )
  | inr h ↦ (
    λ below. absurd (omega (arith, e, h.1, h.0, below)),
    λ above. let same : k ≡ to - 1 = omega (arith, e, h.1) in (subst (λ (n : ℕ). to ≡ other port n) same e, subst (λ (n : ℕ). n < links) same lt, omega (arith, e, h.1)),
  )
]
