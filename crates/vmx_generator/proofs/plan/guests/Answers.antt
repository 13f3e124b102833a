use Rattle.std.proofs.Common.{◌≡◌, ℕ, ◌+◌, ◌∷◌, ◌++◌, [], List, ap, sym, ◌∙◌, subst, arith}
use Rattle.std.specs.List.{AllZip, range_with_len}
use Rattle.vmx_model.specs.declared.guest.GuestPlan.{GuestPlan}
use Rattle.vmx_generator.specs.Plans.{IsGuest}
use Rattle.vmx_generator.proofs.Guests.{guests_more}
use Rattle.vmx_generator.proofs.plan.guests.Goals as goal

pub loop-number-init : goal.loop-number-init
loop-number-init c = subst (λ (gs : List GuestPlan). AllZip (IsGuest c.args.draws.now.number) (range_with_len 0 0) gs) (sym c.in_ok-guests.ensures.items) tt

pub loop-number-preserved : goal.loop-number-preserved
loop-number-preserved c =
    let number = c.args.draws.now.number in
    let n = c.loop-number.number in
    subst (λ (gs : List GuestPlan). AllZip (IsGuest number) (range_with_len 0 (n + 1)) gs) (sym c.in_ok-push.ensures.items)
    (guests_more number n c.loop-number.guests.items c.in_ok-guest.guest c.loop-number.invariant c.in_ok-guest.ensures.guest)

pub returns : goal.returns
returns c =
    let end = c.loop-number.auto.number-end in
    let past = c.loop-number-test.false in
    let at : c.loop-number.number ≡ 8 = omega (arith, end, past) in
    record { guests = subst (λ (n : ℕ). AllZip (IsGuest c.args.draws.now.number) (range_with_len 0 n) c.loop-number.guests.items) at c.loop-number.invariant }
