use Rattle.std.proofs.Common.{ℕ, ap, sym, ◌∙◌}
use Rattle.std.specs.Prelude.{Some}
use Rattle.vmx_shared_area.specs.Checks.{rss_fault}
use Rattle.vmx_device_state.specs.SetupView.{SetupView, setup_view}
use Rattle.vmx_device_state.specs.ImageSetup.{image_strip, image_csum}
use Rattle.vmx_device_state.specs.Agree.{rss_view_agrees}
use Rattle.vmx_device_state.proofs.Answered.{unless_none}
use Rattle.vmx_device_state.proofs.updates.with_features.Goals as goal

pub returns-in-Ok : goal.returns-in-Ok
returns-in-Ok c = let told = c.in-Ok.ensures.setting in
    record {
      setup = ap Some (c.with_bits.ensures.setup ∙ ap (λ (v : SetupView). record v { strip = image_strip c.args.image.now; csum = image_csum c.args.image.now }) (c.with_rss.ensures.setup ∙ ap (λ r. record (setup_view c.args.setup.now) { rss = r }) (rss_view_agrees c.args.image.now c.in-Ok.rss told.1)))
          ∙ sym (unless_none _ _ (ap (λ (k : ℕ). rss_fault c.args.image.now k) (sym c.from.ensures) ∙ told.0));
    }
