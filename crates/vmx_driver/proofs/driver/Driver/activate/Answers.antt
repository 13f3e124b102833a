use Rattle.std.proofs.Common.{Some, map, refl, ap, sym, subst}
use Rattle.vmx_ends.specs.HandedEnds.{ends_handed}
use Rattle.vmx_driver_steps.specs.Activating.{BeginDue, may_hand}
use Rattle.vmx_driver_steps.specs.Answering.{few_turns}
use Rattle.vmx_driver.specs.Stocked.{Stocked}
use Rattle.vmx_driver.specs.Beginning.{begins_under, begins_hold, begins_told}
use Rattle.vmx_driver.proofs.driver.Driver.activate.Goals as goal

pub command-requires-clause-few : goal.command-requires-clause-few
command-requires-clause-few g c κs within = few_turns _ _ c.self.invariant.runs

pub command-requires-clause-lawful : goal.command-requires-clause-lawful
command-requires-clause-lawful g c κs within = may_hand _ _ _ _ _ _ _ _ c.in_ok-fresh.ensures.queues refl

pub settle-requires-clause-under : goal.settle-requires-clause-under
settle-requires-clause-under g c = begins_under _ c.self.inside.setup _ _ _ _ c.self.invariant _ _ refl refl c.args.done (subst (λ (v : Stocked). BeginDue v.driver c.args.done) (sym c.self.view_is) c.requires.due)

pub invariant_of-self-2 : goal.invariant_of-self-2
invariant_of-self-2 g c = begins_hold _ c.self.inside.setup _ _ _ _ c.self.invariant _ _ (ap (map g.F.TxFacts.TxFacts.view) c.in_ok-fresh.ensures.same.0) (ap (map g.F.RxFacts.RxFacts.view) c.in_ok-fresh.ensures.same.1) c.args.done
    (record { number = c.number.result; image = c.in_ok-fresh.fresh.image; ends = Some (ends_handed (map g.F.TxDevice.TxDevice.view c.in_ok-fresh.fresh.ends.tx) (map g.F.RxDevice.RxDevice.view c.in_ok-fresh.fresh.ends.rx)) }) _ _ _ _ _ _ _ _ _ _
    (subst (λ (v : Stocked). BeginDue v.driver c.args.done) (sym c.self.view_is) c.requires.due) c.number.ensures.value c.in_ok-fresh.ensures.image refl c.in_ok-fresh.ensures.queues c.command.ensures.view
    c.settle.ensures.kept c.settle.ensures.under c.settle.ensures.settled c.settle.ensures.frames c.in_ok-fresh.ensures.room.0 c.in_ok-fresh.ensures.room.1

pub returns-clause-activates : goal.returns-clause-activates
returns-clause-activates g c = begins_told _ c.self.inside.setup _ _ _ _ c.self.invariant _ _ (ap (map g.F.TxFacts.TxFacts.view) c.in_ok-fresh.ensures.same.0) (ap (map g.F.RxFacts.RxFacts.view) c.in_ok-fresh.ensures.same.1) _ c.args.done
    (record { number = c.number.result; image = c.in_ok-fresh.fresh.image; ends = Some (ends_handed (map g.F.TxDevice.TxDevice.view c.in_ok-fresh.fresh.ends.tx) (map g.F.RxDevice.RxDevice.view c.in_ok-fresh.fresh.ends.rx)) }) _ _ _ _ _ _ _ _ (ap (λ (x : Stocked). x.driver) c.self.view_is)
    (subst (λ (v : Stocked). BeginDue v.driver c.args.done) (sym c.self.view_is) c.requires.due) c.number.ensures.value c.in_ok-fresh.ensures.image refl c.in_ok-fresh.ensures.queues c.command.ensures.view
    c.settle.ensures.kept c.settle.ensures.up c.settle.ensures.frames c.command.ensures.key c.command.ensures.masks
