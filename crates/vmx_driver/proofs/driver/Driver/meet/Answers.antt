use Rattle.std.proofs.Common.{◌≡◌, ◌+◌, map, sym, ap, ◌∙◌, subst, arith}
use Rattle.std.proofs.lemmas.List.{length-map}
use Rattle.vmx_driver_steps.specs.declared.progress.Stage.{Stage}
use Rattle.vmx_driver_steps.specs.declared.progress.Stage.TheVariants.{Held}
use Rattle.vmx_driver_steps.specs.Progress.{IsUnderway}
use Rattle.vmx_driver_steps.specs.Ending.{IsDrained, may_meet_tx, may_meet_rx, met_under, few_ended}
use Rattle.vmx_driver.specs.Stocked.{Stocked}
use Rattle.vmx_driver.specs.Holding.{meets_hold}
use Rattle.vmx_driver.specs.Beginning.{meets_told}
use Rattle.vmx_driver.proofs.driver.Driver.meet.Goals as goal

pub meet_queues-requires-clause-meet : goal.meet_queues-requires-clause-meet
meet_queues-requires-clause-meet g c κs within = may_meet_tx _ _ c.self.invariant.runs c.args.then (subst (λ (v : Stocked). v.driver.at.stage ≡ Held c.args.then) (sym c.self.view_is) c.requires.held) (subst (λ (v : Stocked). IsDrained v.driver) (sym c.self.view_is) c.requires.drained)

pub meet_rx_queues-requires-clause-meet : goal.meet_rx_queues-requires-clause-meet
meet_rx_queues-requires-clause-meet g c κs within = may_meet_rx _ _ c.self.invariant.runs c.args.then (subst (λ (v : Stocked). v.driver.at.stage ≡ Held c.args.then) (sym c.self.view_is) c.requires.held) (subst (λ (v : Stocked). IsDrained v.driver) (sym c.self.view_is) c.requires.drained)

pub meet_queues-requires-clause-room : goal.meet_queues-requires-clause-room
meet_queues-requires-clause-room g c κs within = let a = c.self.invariant.tx_room in let l = length-map c.self.inside.tx g.F.TxDriver.TxDriver.view in omega (arith, a, l)

pub meet_rx_queues-requires-clause-room : goal.meet_rx_queues-requires-clause-room
meet_rx_queues-requires-clause-room g c κs within = let a = c.self.invariant.rx_room in let l = length-map c.self.inside.rx g.F.RxDriver.RxDriver.view in omega (arith, a, l)

pub overflow_add-self : goal.overflow_add-self
overflow_add-self g c = let e = few_ended _ _ c.self.invariant.runs in omega (arith, e)

pub settle-requires-clause-under : goal.settle-requires-clause-under
settle-requires-clause-under g c =
    subst (λ (x : Stage). IsUnderway c.self.inside.plan.now (record c.self.inside.at { stage = x; ended = c.self.inside.at.ended + 1 })) (sym c.stage_after-self-inside.ensures.after)
    (met_under _ _ c.self.invariant.runs c.args.then (subst (λ (v : Stocked). v.driver.at.stage ≡ Held c.args.then) (sym c.self.view_is) c.requires.held) (subst (λ (v : Stocked). IsDrained v.driver) (sym c.self.view_is) c.requires.drained))

pub invariant_of-self : goal.invariant_of-self
invariant_of-self g c = meets_hold _ _ _ _ _ _ c.self.invariant c.args.then (subst (λ (v : Stocked). v.driver.at.stage ≡ Held c.args.then) (sym c.self.view_is) c.requires.held) (subst (λ (v : Stocked). IsDrained v.driver) (sym c.self.view_is) c.requires.drained) _ _ _ _ _ _ _ _ _
    (ap (map g.F.TxDriver.TxDriver.view) c.meet_queues.ensures.none.0) (ap (map g.F.RxDriver.RxDriver.view) c.meet_rx_queues.ensures.none.0) (ap (map g.F.TxDevice.TxDevice.view) c.meet_queues.ensures.none.1) (ap (map g.F.RxDevice.RxDevice.view) c.meet_rx_queues.ensures.none.1)
    c.meet_queues.ensures.met c.meet_rx_queues.ensures.met
    (c.settle.ensures.kept ∙ (λ i. record c.self.inside.at { stage = c.stage_after-self-inside.ensures.after i; ended = c.self.inside.at.ended + 1; next = c.settle.new.at.next })) c.settle.ensures.under c.settle.ensures.settled c.settle.ensures.frames

pub returns-clause-met : goal.returns-clause-met
returns-clause-met g c = meets_told _ _ c.args.then _ _ _ _ _ _ _ (ap (λ (x : Stocked). x.driver) c.self.view_is)
    (ap (map g.F.TxDriver.TxDriver.view) c.meet_queues.ensures.none.0) (ap (map g.F.RxDriver.RxDriver.view) c.meet_rx_queues.ensures.none.0) (ap (map g.F.TxDevice.TxDevice.view) c.meet_queues.ensures.none.1) (ap (map g.F.RxDevice.RxDevice.view) c.meet_rx_queues.ensures.none.1)
    c.meet_queues.ensures.met c.meet_rx_queues.ensures.met
    (c.settle.ensures.kept ∙ (λ i. record c.self.inside.at { stage = c.stage_after-self-inside.ensures.after i; ended = c.self.inside.at.ended + 1; next = c.settle.new.at.next })) c.settle.ensures.up c.settle.ensures.frames
