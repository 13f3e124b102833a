-- The first fault, one step at a time.
use Rattle.std.proofs.Common.{◌≡◌, ℕ, zero, suc, ◌+◌, ◌-◌, ◌<◌, ◌≤◌, Option, None, refl, add-one, arith}
use Rattle.vmx_shared_area.specs.declared.fault.ImageFault.{ImageFault}
use Rattle.vmx_shared_area.specs.Checks.{or_else, first_fault}

pub first_fault_step : (f : ℕ → Option ImageFault) (i n : ℕ) → i < n → first_fault f i (n - i) ≡ or_else (f i) (first_fault f (i + 1) (n - (i + 1)))
unfolding first_fault
first_fault_step f i n lt =
    let left : n - i ≡ suc (n - (i + 1)) = omega arith in
    rw (left, add-one) refl

-- no fault anywhere is no fault
pub no_first_fault : (f : ℕ → Option ImageFault) (i n : ℕ) → ((k : ℕ) → i ≤ k → k < i + n → f k ≡ None) → first_fault f i n ≡ None
unfolding first_fault
no_first_fault f i zero h = refl
no_first_fault f i (suc n) h = rw (h i (omega arith) (omega arith)) (no_first_fault f (suc i) n (λ k low high. h k (omega arith) (omega arith)))

pub first_fault_done : (f : ℕ → Option ImageFault) (i n : ℕ) → n ≤ i → first_fault f i (n - i) ≡ None
unfolding first_fault
first_fault_done f i n h = let none : n - i ≡ 0 = omega arith in rw none refl
