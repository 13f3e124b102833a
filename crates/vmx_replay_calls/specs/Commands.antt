-- Which command a driver sent.
use Rattle.std.specs.Prelude.{◌≡◌, ℕ}
use Rattle.vmx_device_state.specs.Orders.{order_of}
use Rattle.vmx_device_state.specs.declared.order.Order.TheVariants.{Stop, Update}
use Rattle.vmx_device_state.specs.declared.order.Part.{Part}
use Rattle.vmx_driver_steps.specs.declared.progress.Then.{Then}
use Rattle.vmx_driver_steps.specs.declared.progress.Stage.TheVariants.{Active}
use Rattle.vmx_driver_steps.specs.Progress.{in_hand, setup_now}
use Rattle.vmx_driver_steps.specs.Driver.{DriverView}
use Rattle.vmx_driver_steps.specs.Driving.{ReapsAll, StopsBy, UpdatesBy, ActivatesWith}

-- a quiesce or a reset, sent after reaping, with the setup as it is
pub record SendsStop (number : ℕ) (t : Then) (v sent : DriverView) : Type 0 where
  pub active : v.at.stage ≡ Active
  pub mid : DriverView
  pub reaps : ReapsAll v mid
  pub done : ℕ
  pub stops : StopsBy number t done mid sent
  pub order : order_of number ≡ Stop
  pub setup : setup_now v.plan sent.at ≡ setup_now v.plan v.at

-- an update, sent after reaping
pub record SendsUpdate (number : ℕ) (v sent : DriverView) : Type 0 where
  pub mid : DriverView
  pub reaps : ReapsAll v mid
  pub done : ℕ
  pub updates : UpdatesBy number done mid sent
  pub part : Part
  pub order : order_of number ≡ Update part

-- an activation, with the setup as it is
pub record SendsActivation (v sent : DriverView) : Type 0 where
  pub free : in_hand v.at.stage ≡ 0
  pub done : ℕ
  pub activates : ActivatesWith done v sent
  pub setup : setup_now v.plan sent.at ≡ setup_now v.plan v.at
