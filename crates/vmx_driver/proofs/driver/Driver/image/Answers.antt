use Rattle.std.proofs.Common.{◌≡◌, subst}
use Rattle.std.proofs.lemmas.Result.{IfOk-weaker}
use Rattle.vmx_device_state.specs.ImageSetup.{image_setup}
use Rattle.vmx_driver_steps.specs.Progress.{setup_now}
use Rattle.vmx_driver.specs.Stocked.{Stocked}
use Rattle.vmx_driver.specs.Beginning.{image_now}
use Rattle.vmx_driver.proofs.driver.Driver.image.Goals as goal

pub returns : goal.returns
returns g c = record { image = IfOk-weaker _ _ _ (λ i e. subst (λ (x : Stocked). image_setup i ≡ setup_now x.driver.plan x.driver.at) c.self.view_is (image_now _ c.self.inside.setup i c.self.invariant.runs e)) c.image_for.ensures.image }
