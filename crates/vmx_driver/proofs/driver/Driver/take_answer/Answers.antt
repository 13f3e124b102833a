use Rattle.std.proofs.Common.{◌+◌, Bool, sym, refl, ap, ◌∙◌, subst}
use Rattle.std.specs.Prelude.{IsSome, if◌then◌else◌}
use Rattle.vmx_regs.specs.Ends.{driver_masks}
use Rattle.vmx_driver_steps.specs.Hints.{unmasked}
use Rattle.vmx_driver_steps.specs.Answering.{some_of, are_pairs, few_turns, took_back}
use Rattle.vmx_driver.specs.Stocked.{Stocked}
use Rattle.vmx_driver.specs.Holding.{back_holds, no_opening}
use Rattle.vmx_driver.proofs.driver.Driver.take_answer.Goals as goal

pub answer-requires-clause-few : goal.answer-requires-clause-few
answer-requires-clause-few g c κs within = few_turns _ _ c.self.invariant.runs

pub pass_all_tx-requires-clause-pairs : goal.pass_all_tx-requires-clause-pairs
pass_all_tx-requires-clause-pairs g c κs within = let a = some_of _ (subst (λ (v : Stocked). IsSome v.driver.calls.asked) (sym c.self.view_is) c.requires.asked) in
    (are_pairs _ _ _ c.in-Done.value c.in-Done.bag _ c.self.invariant.runs a.0 a.1 c.in-Done.ensures.answer c.in-Stopping.then c.in-Some.ends _ _ c.in-Stopping.is c.in-Some.is refl).0

pub pass_all_rx-requires-clause-pairs : goal.pass_all_rx-requires-clause-pairs
pass_all_rx-requires-clause-pairs g c κs within = let a = some_of _ (subst (λ (v : Stocked). IsSome v.driver.calls.asked) (sym c.self.view_is) c.requires.asked) in
    (are_pairs _ _ _ c.in-Done.value c.in-Done.bag _ c.self.invariant.runs a.0 a.1 c.in-Done.ensures.answer c.in-Stopping.then c.in-Some.ends _ _ c.in-Stopping.is c.in-Some.is refl).1

pub invariant_of-self-in-Some : goal.invariant_of-self-in-Some
invariant_of-self-in-Some g c = back_holds _ _ _ _ _ _ c.self.invariant _ (subst (λ (v : Stocked). IsSome v.driver.calls.asked) (sym c.self.view_is) c.requires.asked) c.in-Done.value c.in-Done.bag _ c.in-Done.ensures.answer c.in-Stopping.then c.in-Some.ends _ _ _ _ _ _ _ _ c.in-Stopping.is c.in-Some.is refl c.pass_all_tx.ensures.passed c.pass_all_rx.ensures.passed

pub returns-in-Some-clause-takes : goal.returns-in-Some-clause-takes
returns-in-Some-clause-takes g c e = let a = some_of _ (subst (λ (v : Stocked). IsSome v.driver.calls.asked) (sym c.self.view_is) c.requires.asked) in
    took_back _ _ _ c.in-Done.value c.in-Done.bag _ c.self.invariant.runs a.0 a.1 c.in-Done.ensures.answer _ c.in-Stopping.then c.in-Some.ends _ _ _ _ _ _ _ _ (ap (λ (x : Stocked). x.driver) c.self.view_is) c.in-Stopping.is c.in-Some.is refl c.pass_all_tx.ensures.passed c.pass_all_rx.ensures.passed
    (c.answer.ensures.masks ∙ sym (ap (λ (b : Bool). if b then unmasked (c.self.inside.plan.now.setup.tx_queues + c.self.inside.plan.now.setup.rx_queues + 1) (driver_masks c.self.inside.regs) else driver_masks c.self.inside.regs) (no_opening _ _ _ _ _ _ c.self.invariant c.in-Stopping.then c.in-Stopping.is)))
    c.answer.ensures.key
