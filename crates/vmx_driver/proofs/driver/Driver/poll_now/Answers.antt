use Rattle.std.proofs.Common.{◌<◌, ◌^◌, length, sym, refl, ap, ◌∙◌, subst, arith}
use Rattle.std.proofs.lemmas.List.{length-map}
use Rattle.vmx_regs.specs.declared.known.Calls.{Calls}
use Rattle.vmx_driver.specs.Stocked.{Stocked, HasRoom}
use Rattle.vmx_driver.specs.Polling.{all_full, all_receivable, few_queues, rx_interrupts, roomy_for, polled_holds, polled_room, polls_told}
use Rattle.vmx_driver.proofs.driver.Driver.poll_now.Goals as goal

pub poll_all-requires-clause-full : goal.poll_all-requires-clause-full
poll_all-requires-clause-full g c κs within = all_full _ _ c.self.invariant.runs

pub poll_all-requires-clause-small : goal.poll_all-requires-clause-small
poll_all-requires-clause-small g c κs within = all_receivable _ _ c.self.invariant.runs (subst (λ (x : Stocked). length x.driver.received < 2 ^ 58) (sym c.self.view_is) c.requires.few)

pub poll_all-requires-clause-queues : goal.poll_all-requires-clause-queues
poll_all-requires-clause-queues g c κs within = let e = few_queues _ _ _ _ _ _ c.self.invariant in let l = length-map c.self.inside.rx g.F.RxDriver.RxDriver.view in omega (arith, e, l)

pub poll_all-requires-clause-first : goal.poll_all-requires-clause-first
poll_all-requires-clause-first g c κs within = let e = rx_interrupts _ _ _ _ _ _ c.self.invariant in let i = ap (λ (x : Calls). x.interrupts) c.look.ensures.calls in let f = c.from.ensures in omega (arith, e, i, f)

pub poll_all-requires-clause-low : goal.poll_all-requires-clause-low
poll_all-requires-clause-low g c κs within = let e = c.self.inside.plan.now.setup.tx_queues_high in let f = c.from.ensures in omega (arith, e, f)

pub poll_all-requires-clause-room : goal.poll_all-requires-clause-room
poll_all-requires-clause-room g c κs within =
    let r = subst (λ (x : Stocked). HasRoom x.driver.plan.setup.rx_queues x) (sym c.self.view_is) c.requires.room in
    let e = roomy_for _ _ _ _ _ _ c.self.invariant _ _ r.0 r.1 in let a = e.0 in let b = e.1 in let l = length-map c.self.inside.rx g.F.RxDriver.RxDriver.view in (omega (arith, a, l), omega (arith, b, l))

pub invariant_of-self : goal.invariant_of-self
invariant_of-self g c = polled_holds _ _ _ _ _ _ c.self.invariant _ _ _ _ _ _ _ _ _ c.poll_all.ensures.polls c.poll_all.ensures.keeps (c.poll_all.ensures.regs.1 ∙ c.look.ensures.calls)
    (length-map c.poll_all.new.rx g.F.RxDriver.RxDriver.view ∙ c.poll_all.ensures.count ∙ sym (length-map c.self.inside.rx g.F.RxDriver.RxDriver.view))

pub returns-clause-polls : goal.returns-clause-polls
returns-clause-polls g c = polls_told _ _ _ _ _ _ _ _ _ _ _ _ _ (ap (λ (x : Stocked). x.driver) c.self.view_is) (c.poll_all.ensures.regs.0 ∙ c.look.ensures.key) (c.poll_all.ensures.regs.1 ∙ c.look.ensures.calls)
    refl (ap (λ (x : Calls). x.interrupts) c.look.ensures.calls) c.from.ensures refl c.look.ensures.looked c.poll_all.ensures.polls

pub returns-clause-room : goal.returns-clause-room
returns-clause-room g c =
    let l = length-map c.self.inside.rx g.F.RxDriver.RxDriver.view in let a = c.poll_all.ensures.room.0 in let b = c.poll_all.ensures.room.1 in
    polled_room _ _ _ _ _ _ c.self.invariant c.args.self.now c.self.inside.received.1 (length c.self.inside.pool) c.poll_all.new.received.1 (length c.poll_all.new.pool) _ _ _ _ _ _ _ _ _ c.self.view_is c.poll_all.ensures.polls (omega (arith, a, l)) (omega (arith, b, l))
