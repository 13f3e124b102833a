-- How a check is shown to pass.
use Rattle.std.proofs.Common.{◌≡◌, ℕ, zero, suc, ◌+◌, ◌<◌, ◌≤◌, Bool, true, false, Option, Some, None, nat_lt, refl, arith}
use Rattle.std.specs.Prelude.{nat_le, nat_eq, ◌&&◌}
use Rattle.std.proofs.lemmas.Bool.Decides.{nat_tests}
use Rattle.vmx_shared_area.specs.Checks.{check, or_else, first_fault}
use Rattle.vmx_shared_area.specs.declared.fault.ImageFault.{ImageFault}

pub passes : (e : ImageFault) (b : Bool) → b ≡ true → check e b ≡ None
passes e true h = refl
passes e false h = absurd (cc h)

pub both_pass : (a b : Option ImageFault) → a ≡ None → b ≡ None → or_else a b ≡ None
both_pass None b h k = k
both_pass (Some e) b h k = absurd (cc h)

pub all_pass : (f : ℕ → Option ImageFault) (first n : ℕ) → ((k : ℕ) → k < first + n → f k ≡ None) → first_fault f first n ≡ None
unfolding first_fault
all_pass f first zero h = refl
all_pass f first (suc n) h = both_pass (f first) (first_fault f (suc first) n) (h first (omega arith)) (all_pass f (suc first) n (λ k lt. h k (omega arith)))

pub both_true : (a b : Bool) → a ≡ true → b ≡ true → a && b ≡ true
both_true true b h k = k
both_true false b h k = absurd (cc h)

pub le_true : (m n : ℕ) → m ≤ n → nat_le m n ≡ true
le_true m n h = grind (arith, nat_tests)

pub lt_true : (m n : ℕ) → m < n → nat_lt m n ≡ true
lt_true m n h = grind (arith, nat_tests)

pub eq_true : (m n : ℕ) → m ≡ n → nat_eq m n ≡ true
eq_true m n h = grind (arith, nat_tests)
