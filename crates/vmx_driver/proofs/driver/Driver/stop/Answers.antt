use Rattle.std.proofs.Common.{◌≡◌, None, sym, refl, ap, subst}
use Rattle.vmx_layout.specs.Command.{number_of}
use Rattle.vmx_device_state.specs.ImageSetup.{image_setup}
use Rattle.vmx_driver_steps.specs.Progress.{setup_now}
use Rattle.vmx_driver_steps.specs.Acting.{StopDue}
use Rattle.vmx_driver_steps.specs.Answering.{few_turns}
use Rattle.vmx_driver.specs.Stocked.{Stocked}
use Rattle.vmx_driver.specs.Holding.{stops_hold, stops_told}
use Rattle.vmx_driver.proofs.driver.Driver.stop.Goals as goal

pub command-requires-clause-few : goal.command-requires-clause-few
command-requires-clause-few g c κs within = few_turns _ _ c.self.invariant.runs

pub invariant_of-self : goal.invariant_of-self
invariant_of-self g c = stops_hold _ _ _ _ _ _ c.self.invariant (number_of c.args.command) c.args.then c.args.done (record { number = c.number.result; image = c.args.image; ends = None }) _ _ _
    (subst (λ (v : Stocked). StopDue v.driver (number_of c.args.command) c.args.then c.args.done) (sym c.self.view_is) c.requires.due) c.number.ensures.value
    (subst (λ (v : Stocked). image_setup c.args.image ≡ setup_now v.driver.plan v.driver.at) (sym c.self.view_is) c.requires.image) refl c.command.ensures.view

pub returns-clause-stops : goal.returns-clause-stops
returns-clause-stops g c = stops_told _ _ _ _ _ _ c.self.invariant _ (number_of c.args.command) c.args.then c.args.done (record { number = c.number.result; image = c.args.image; ends = None }) _ _ _ (ap (λ (x : Stocked). x.driver) c.self.view_is)
    (subst (λ (v : Stocked). StopDue v.driver (number_of c.args.command) c.args.then c.args.done) (sym c.self.view_is) c.requires.due) c.number.ensures.value
    (subst (λ (v : Stocked). image_setup c.args.image ≡ setup_now v.driver.plan v.driver.at) (sym c.self.view_is) c.requires.image) refl c.command.ensures.view c.command.ensures.key c.command.ensures.masks
