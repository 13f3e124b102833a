-- The two states by name.
use Rattle.vmx_device_state.specs.DeviceState.{DeviceState, Idle, Active}
use Rattle.vmx_machine_state.specs.declared.state.State.{State}
use Rattle.vmx_machine_state.specs.declared.state.State.TheVariants as state

abbrev pub state_name : DeviceState → State
state_name Idle = state.Idle
state_name (Active s) = state.Active
