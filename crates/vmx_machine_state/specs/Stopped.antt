-- Stopped queues: each has the number of the error that stopped it, until a reset.
use Rattle.std.specs.Prelude.{ℕ, ◌<◌, ◌&&◌, nat_eq, Bool, if◌then◌else◌, List, slice_index_or, slice_set, Option, Some, None}
use Rattle.vmx_layout.specs.Command.{number_of}
use Rattle.vmx_layout.specs.declared.command.Command.TheVariants.{ResetDev}
use Rattle.vmx_ends.specs.declared.answers.EndFault.{EndFault}
use Rattle.vmx_ends.specs.declared.answers.EndFault.TheVariants.{Field, Offload, Chain, Size, Address}
use Rattle.vmx_shared_area.specs.declared.stats.Side.{Side}
use Rattle.vmx_shared_area.specs.declared.stats.Side.TheVariants.{Tx, Rx}
use Rattle.vmx_device_state.specs.SetupView.{SetupView}
use Rattle.vmx_device_state.specs.DeviceState.{DeviceState, Idle, Active}
use Rattle.vmx_machine_state.specs.Views.{MachineView, no_errors}
use Rattle.vmx_machine_state.specs.declared.errors.TheConstants.{FIELD_ERROR, OFFLOAD_ERROR, CHAIN_ERROR, SIZE_ERROR, ADDRESS_ERROR}

-- the number of the error by which a fault stops its queue
abbrev pub error_of : EndFault → ℕ
error_of (Field fault) = FIELD_ERROR
error_of (Offload om) = OFFLOAD_ERROR
error_of (Chain descriptors) = CHAIN_ERROR
error_of (Size bytes) = SIZE_ERROR
error_of (Address found) = ADDRESS_ERROR

-- how many queues of a side a setup has
abbrev pub queues_on : Side → SetupView → ℕ
queues_on Tx s = s.tx_queues
queues_on Rx s = s.rx_queues

-- the device is active, and its setup has the queue
abbrev pub IsInUse : Side → ℕ → DeviceState → Type 0
IsInUse side q Idle = ⊥
IsInUse side q (Active s) = q < queues_on side s

-- the errors of a side's queues
abbrev pub errors_on : Side → MachineView → List (Option ℕ)
errors_on Tx m = m.tx_stopped
errors_on Rx m = m.rx_stopped

-- the error by which a queue is stopped; none where it is not stopped
abbrev pub error_on : Side → MachineView → ℕ → Option ℕ
error_on side m q = slice_index_or (errors_on side m) q None

-- the machine with other errors on a side
abbrev pub with_errors_on : Side → List (Option ℕ) → MachineView → MachineView
with_errors_on Tx errors m = record m { tx_stopped = errors }
with_errors_on Rx errors m = record m { rx_stopped = errors }

-- the machine after a queue was stopped; the newer error stands
abbrev pub after_stop : Side → ℕ → ℕ → MachineView → MachineView
after_stop side q error m = with_errors_on side (slice_set (errors_on side m) q (Some error)) m

-- a reset that was answered 0 clears all errors
abbrev pub clears : ℕ → ℕ → Bool
clears number value = nat_eq number (number_of ResetDev) && nat_eq value 0

-- the errors after an answer: no other answer changes one
abbrev pub errors_after : ℕ → ℕ → List (Option ℕ) → List (Option ℕ)
errors_after number value errors = if clears number value then no_errors else errors
