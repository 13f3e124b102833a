use Rattle.std.proofs.Common.{◌+◌, ◌∷◌, ◌++◌, [], List, take, ap, sym, ◌∙◌, subst}
use Rattle.std.specs.List.{AllZip}
use Rattle.std.proofs.lemmas.List.{take_more}
use Rattle.vmx_model.specs.declared.guest.GuestPlan.{GuestPlan}
use Rattle.vmx_config.specs.declared.parts.GuestSettings.{GuestSettings}
use Rattle.vmx_config.specs.Plans.{IsGuest}
use Rattle.vmx_config.proofs.Plans.{zip_push}
use Rattle.vmx_config.proofs.plan.guests_of.Goals as goal

pub loop-guest-preserved : goal.loop-guest-preserved
loop-guest-preserved c =
    let settings = c.args.settings.now in
    let i = c.loop-guest.guest-index in
    let item = c.guest-item.result in
    let old = c.loop-guest.guests.items in
    let plan = c.in_ok-plan.plan in
    let more = take_more settings i item c.loop-guest-test.true ∙ ap (λ (x : GuestSettings). take i settings ++ x ∷ []) (sym c.guest-item.is) in
    subst (λ (gs : List GuestPlan). AllZip IsGuest gs (take (i + 1) settings)) (sym c.in_ok-push.ensures.items)
    (subst (λ (ss : List GuestSettings). AllZip IsGuest (old ++ plan ∷ []) ss) (sym more) (zip_push IsGuest old (take i settings) plan item c.loop-guest.invariant c.in_ok-plan.ensures.guest))
