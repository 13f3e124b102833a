use Rattle.std.proofs.Common.{ℕ, zero, suc, ◌<◌, ◌≡◌, ◌^◌, replicate, slice_index, refl, arith}
use Rattle.vmx_shared_area.specs.Bounds.{below_bound}
use Rattle.vmx_model.proofs.tests.setup.Goals as goal

pub invariant_of-filter : goal.invariant_of-filter
invariant_of-filter c = record { mode_fits = omega arith; vlans_length = refl; vlans_fit = below_bound (2 ^ 32) (replicate 128 4294967295) (omega arith) refl }

pub invariant_of-result-clause-entries : goal.invariant_of-result-clause-entries
invariant_of-result-clause-entries c = λ r is i inside.
    let zeros = rw is at c.setting.ensures.zeros in
    let zero : slice_index r.table i ≡ 0 = zeros i in
    omega (arith, zero)

all_small : (n x : ℕ) → x < 2 ^ 8 → (i : ℕ) → slice_index (replicate n x) i < 2 ^ 8
all_small zero x h i = omega arith
all_small (suc n) x h zero = h
all_small (suc n) x h (suc i) = all_small n x h i

pub invariant_of-result-clause-levels_fit : goal.invariant_of-result-clause-levels_fit
invariant_of-result-clause-levels_fit c = let small : c.args.more.level < 2 ^ 8 = omega arith in all_small 25 c.args.more.level small
