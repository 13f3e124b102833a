use Rattle.std.proofs.Common.{◌≤◌, ◌<◌, List, ap, arith, sym, ◌∙◌, subst, length}
use mathlib.Core.List.{IsPrefix}
use Rattle.vmx_ends.specs.declared.made.RxMade.{RxMade}
use Rattle.vmx_ends.specs.declared.frames.Delivery.{Delivery}
use Rattle.vmx_ends.specs.Receive.{RxDeviceView}
use Rattle.vmx_ends.specs.ReceiveClauses.{Delivers}
use Rattle.vmx_ends.specs.declared.answers.Deliver.{Deliver}
use Rattle.vmx_ends.specs.CaughtUp.{never_refused}
use Rattle.vmx_ends.proofs.carrying.carry_rx.Goals as goal

pub returns-in-NoBuffer-clause-room : goal.returns-in-NoBuffer-clause-room
returns-in-NoBuffer-clause-room g c bodies full every pos two =
    let old = g.F.RxDevice.RxDevice.view c.pass_rx.new.device in
    let new = g.F.RxDevice.RxDevice.view c.deliver.new.self in
    let same = c.pass_rx.ensures.device in
    let made = ap (λ (v : RxDeviceView). v.made) same in
    let delivered = ap (λ (v : RxDeviceView). v.delivered) same in
    let upto = ap length c.requires.caught_up.0 in let long = ap length delivered in let heard = c.pass_rx.ensures.device_heard in
    let refuses = subst (λ (a : Deliver). Delivers old c.args.frame.now c.args.meta.now a new) c.in-NoBuffer.is c.deliver.ensures.delivers in
    absurd (never_refused bodies _ _ _ _ _ old new (ap (λ (m : RxMade). m.full) made ∙ full) (ap (λ (m : RxMade). m.bodies) made ∙ every) (subst (λ (m : RxMade). 0 < m.size1) (sym made) pos) (subst (λ (m : RxMade). 2 ≤ m.size2) (sym made) two) c.requires.frame.1
    (omega (arith, upto, long, heard)) (subst (λ (l : List Delivery). IsPrefix old.heard l) (sym delivered) c.pass_rx.ensures.told) refuses)
