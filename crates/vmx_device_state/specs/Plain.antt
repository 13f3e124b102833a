-- The state that the plain program is in.
use Rattle.std.specs.Prelude.{Option, Some, None}
use Rattle.vmx_shared_area.specs.declared.setup.Setup.{Setup}
use Rattle.vmx_device_state.specs.SetupView.{setup_view}
use Rattle.vmx_device_state.specs.DeviceState.{DeviceState, Idle, Active}
use Rattle.vmx_device_state.specs.declared.plain.PlainDevice.{PlainDevice}

abbrev pub state_by : Option Setup → DeviceState
state_by None = Idle
state_by (Some s) = Active (setup_view s)

abbrev pub state_of : PlainDevice → DeviceState
state_of d = state_by d.setup
