use Rattle.std.proofs.Common.{◌≡◌, sym, subst}
use Rattle.vmx_device_state.specs.SetupView.{setup_view}
use Rattle.vmx_model.specs.Plan.{changed as changed_by}
use Rattle.vmx_driver_steps.specs.Progress.{setup_now}
use Rattle.vmx_driver_steps.specs.Acting.{ActionDue}
use Rattle.vmx_driver.specs.Stocked.{Stocked}
use Rattle.vmx_driver.specs.Beginning.{due_fits, then_setup}
use Rattle.vmx_driver.proofs.driver.Driver.changed_by.Goals as goal

pub changed-setup-requires : goal.changed-setup-requires
changed-setup-requires g c = record { fits = due_fits _ c.self.inside.setup c.args.action.now c.self.invariant.runs (subst (λ (x : Stocked). ActionDue x.driver.plan x.driver.at c.args.action.now) (sym c.self.view_is) c.requires.due) }

pub returns-clause-setup : goal.returns-clause-setup
returns-clause-setup g c = subst (λ (x : Stocked). setup_view c.changed-setup.result ≡ changed_by (setup_now x.driver.plan x.driver.at) c.args.action.now.deed) c.self.view_is (then_setup _ c.self.inside.setup c.args.action.now c.changed-setup.result c.self.invariant.runs c.changed-setup.ensures.changed)
