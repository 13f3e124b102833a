use Rattle.std.proofs.Common.{◌≡◌, ℕ, List, map, sym, ap, ◌∙◌, arith, Some}
use Rattle.std.specs.List.{slice_get}
use Rattle.std.proofs.lemmas.Option.{slice_get-get_or, get_or_from_slice_get}
use Rattle.vmx_regs.specs.Ends.{driver_key, driver_view, driver_masks}
use Rattle.vmx_driver_steps.specs.Starting.{short_enough}
use Rattle.vmx_driver.specs.Holding.{starts_as, starts_so}
use Rattle.vmx_driver.proofs.driver.Driver.new.Goals as goal

pub invariant_of-result : goal.invariant_of-result
invariant_of-result g c =
    let there : slice_get c.args.plan.now.guests c.args.guest ≡ Some c.at-plan.result.now =
    slice_get-get_or c.args.plan.now.guests c.args.guest c.at-plan.result.now c.requires.guest ∙ ap Some (sym c.at-plan.ensures.value) in
    let low = short_enough c.args.plan.now.guests c.args.guest c.at-plan.result.now there in let all = c.args.plan.now.records in
    starts_as c.args.guest c.at-plan.result.now (driver_key c.args.regs) (driver_view c.args.regs) (driver_masks c.args.regs) _ _ _ _ _ _ _ _ _
    (ap (map g.F.TxDriver.TxDriver.view) c.new.ensures.empty) (ap (map g.F.RxDriver.RxDriver.view) c.new-2.ensures.empty) (ap (map g.F.TxDevice.TxDevice.view) c.new-3.ensures.empty) (ap (map g.F.RxDevice.RxDevice.view) c.new-4.ensures.empty)
    (ap (λ (x : List _ × ℕ). map g.F.TxFacts.TxFacts.view x.0) c.new-5.ensures.empty) (ap (λ (x : List _ × ℕ). map g.F.RxFacts.RxFacts.view x.0) c.new-6.ensures.empty) (ap (λ (x : List _ × ℕ). x.0) c.new-7.ensures.empty)
    c.requires.regs.0 c.requires.regs.1 (omega (arith, low, all)) c.requires.interrupts

pub returns : goal.returns
returns g c = record {
  new = λ p h.
      let same : c.at-plan.result.now ≡ p = c.at-plan.ensures.value ∙ get_or_from_slice_get c.args.plan.now.guests c.args.guest p c.at-plan.result.now h in
      starts_so c.args.guest c.at-plan.result.now p (driver_key c.args.regs) (driver_view c.args.regs) (driver_masks c.args.regs) _ _ _ _ _ _ _ same
      (ap (map g.F.TxDriver.TxDriver.view) c.new.ensures.empty) (ap (map g.F.RxDriver.RxDriver.view) c.new-2.ensures.empty) (ap (map g.F.TxDevice.TxDevice.view) c.new-3.ensures.empty) (ap (map g.F.RxDevice.RxDevice.view) c.new-4.ensures.empty)
      (ap (λ (x : List _ × ℕ). map g.F.TxFacts.TxFacts.view x.0) c.new-5.ensures.empty) (ap (λ (x : List _ × ℕ). map g.F.RxFacts.RxFacts.view x.0) c.new-6.ensures.empty) (ap (λ (x : List _ × ℕ). x.0) c.new-7.ensures.empty);
}
