use Rattle.std.proofs.Common.{◌≡◌, ◌<◌, ◌∙◌, List, length, get_or, ap, arith}
use Rattle.vmx_model.specs.declared.guest.GuestPlan.{GuestPlan}
use Rattle.vmx_plan_bounds.proofs.Lasts.{records_at, last_next}
use Rattle.vmx_plan_bounds.proofs.last.last_number.Goals as goal

pub last_of-requires : goal.last_of-requires
last_of-requires c =
    let gs : List GuestPlan = c.args.plan.now.guests in let i = c.loop-guest.guest-index in let g : GuestPlan = c.guest-item.result in
    let lt : i < length gs = (let n = ap length c.as_slice-guest-items.ensures.items in omega arith) in
    let is : g ≡ get_or gs i g = c.guest-item.is ∙ ap (λ (xs : List GuestPlan). get_or xs i g) c.as_slice-guest-items.ensures.items in
    let few = records_at gs i g lt is in let most = c.args.plan.now.records in record { records = omega (arith, few, most) }

pub loop-guest-preserved : goal.loop-guest-preserved
loop-guest-preserved c =
    let gs : List GuestPlan = c.args.plan.now.guests in let i = c.loop-guest.guest-index in let g : GuestPlan = c.guest-item.result in
    let lt : i < length gs = (let n = ap length c.as_slice-guest-items.ensures.items in omega arith) in
    let is : g ≡ get_or gs i g = c.guest-item.is ∙ ap (λ (xs : List GuestPlan). get_or xs i g) c.as_slice-guest-items.ensures.items in
    let next = last_next gs i g lt is in let was = c.loop-guest.invariant.last in
    record { last = omega arith; few = omega arith }
