-- The switch of a plan.
use Rattle.std.specs.Prelude.{◌≡◌}
use Rattle.vmx_model.specs.declared.plan.Plan.{Plan}
use Rattle.vmx_model.specs.Totals.{macs_of, sniffers_of}
use Rattle.vmx_replay_start.specs.declared.switch.Switch.{Switch}

-- its ports have the addresses of the plan's guests, and are sniffers where these are
pub record IsSwitchOf (plan : Plan) (s : Switch) : Type 0 where
  pub macs : s.macs ≡ macs_of plan.guests
  pub sniffers : s.sniffers ≡ sniffers_of plan.guests
