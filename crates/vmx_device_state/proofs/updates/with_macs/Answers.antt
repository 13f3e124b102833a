use Rattle.std.proofs.Common.{ap, sym, ◌∙◌}
use Rattle.std.specs.Prelude.{Some}
use Rattle.vmx_device_state.specs.SetupView.{setup_view}
use Rattle.vmx_device_state.specs.Agree.{macs_agree}
use Rattle.vmx_device_state.proofs.Answered.{unless_none}
use Rattle.vmx_device_state.proofs.updates.with_macs.Goals as goal

pub returns-in-Some : goal.returns-in-Some
returns-in-Some c = let told = c.in-Some.ensures.table in
    record { setup = ap Some (c.with_filter.ensures.setup ∙ ap (λ m. record (setup_view c.args.setup.now) { macs = m }) (macs_agree c.args.image.now c.in-Some.multicast told.1)) ∙ sym (unless_none _ _ told.0) }
