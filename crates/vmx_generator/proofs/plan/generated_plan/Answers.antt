use Rattle.std.proofs.Common.{◌≡◌, ℕ, true, List, refl, sym, subst, arith}
use Rattle.std.specs.List.{AllZip, range_with_len}
use Rattle.vmx_model.specs.declared.guest.GuestPlan.{GuestPlan}
use Rattle.vmx_model.specs.Ranges.{is_prefix}
use Rattle.vmx_generator.specs.Plans.{IsGuest}
use Rattle.vmx_generator.proofs.Guests.{names_differ, ports, descriptors_few, records_few, bytes_few_all}
use Rattle.vmx_generator.proofs.plan.generated_plan.Goals as goal

-- the eight guests
pub all_guests : (number drawn : ℕ) (made gs : List GuestPlan) → drawn ≡ number → gs ≡ made → AllZip (IsGuest drawn) (range_with_len 0 8) made → AllZip (IsGuest number) (range_with_len 0 8) gs
all_guests number drawn made gs is same all =
    subst (λ (xs : List GuestPlan). AllZip (IsGuest number) (range_with_len 0 8) xs) (sym same) (subst (λ (n : ℕ). AllZip (IsGuest n) (range_with_len 0 8) made) is all)

pub invariant_of-result : goal.invariant_of-result
invariant_of-result c =
    let number = c.args.number in
    let gs = c.of-2.result in
    let all = all_guests number c.in_ok-draws.draws.number c.in_ok-guests.guests.items gs c.in_ok-draws.ensures.number c.of-2.ensures.items c.in_ok-guests.ensures.guests in
    record {
      prefix_fits = subst (λ (t : List ℕ). is_prefix t ≡ true) (sym c.in_ok-prefix.ensures.bytes) refl;
      poll_low = omega arith;
      poll_high = omega arith;
      names_differ = names_differ number gs all;
      ports = ports number gs all;
      descriptors = descriptors_few number gs all;
      records = records_few number gs all;
      bytes = bytes_few_all number gs all;
    }

pub returns : goal.returns
returns c =
    let all = all_guests c.args.number c.in_ok-draws.draws.number c.in_ok-guests.guests.items c.of-2.result c.in_ok-draws.ensures.number c.of-2.ensures.items c.in_ok-guests.ensures.guests in
    record { plan = record { prefix = c.in_ok-prefix.ensures.bytes; poll_every = refl; guests = all } }
