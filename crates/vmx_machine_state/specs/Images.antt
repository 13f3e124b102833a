-- What a GET writes into the image: the statistics, or the status, of the queues of the setup in force.
use Rattle.std.specs.Prelude.{◌≡◌, ℕ, zero, suc, ◌+◌, ◌*◌, ◌<◌, nat_eq, if◌then◌else◌, List, [], slice_index, slice_index_or, Option, None}
use Rattle.vmx_layout.specs.Command.{number_of}
use Rattle.vmx_layout.specs.declared.command.Command.TheVariants.{GetQueueStatus, GetStats}
use Rattle.vmx_shared_area.specs.Bytes.{number_at}
use Rattle.vmx_shared_area.specs.Layout.{descriptor_at, stats_bytes, status_bytes, with_part}
use Rattle.vmx_shared_area.specs.declared.stats.Side.{Side}
use Rattle.vmx_shared_area.specs.declared.stats.Side.TheVariants.{Tx, Rx}
use Rattle.vmx_shared_area.specs.declared.offsets.TheConstants.{STATUS, STATUS_SIZE, STATISTICS, STATISTICS_SIZE, STATISTICS_COUNT}
use Rattle.vmx_device_state.specs.SetupView.{SetupView}
use Rattle.vmx_device_state.specs.DeviceState.{DeviceState, Idle, Active}
use Rattle.vmx_machine_state.specs.Views.{MachineView, state_of}
use Rattle.vmx_machine_state.specs.Statistics.{stats_on}
use Rattle.vmx_machine_state.specs.Stopped.{queues_on}

-- the image with the statistics of the first n queues of a side, where the receive descriptors stand behind so many transmit ones
abbrev pub with_stats : ℕ → Side → List (List ℕ) → ℕ → List ℕ → List ℕ
with_stats behind side all zero image = image
with_stats behind side all (suc n) image = with_part (descriptor_at behind side n + STATISTICS) STATISTICS_SIZE (stats_bytes (slice_index_or all n [])) (with_stats behind side all n image)

-- the same with their status, where each may have an error
abbrev pub with_status : ℕ → Side → List (Option ℕ) → ℕ → List ℕ → List ℕ
with_status behind side errors zero image = image
with_status behind side errors (suc n) image = with_part (descriptor_at behind side n + STATUS) STATUS_SIZE (status_bytes (slice_index_or errors n None)) (with_status behind side errors n image)

-- the image with what the machine counted
abbrev pub stats_written : SetupView → MachineView → List ℕ → List ℕ
stats_written s m image = with_stats s.tx_queues Rx m.rx_stats s.rx_queues (with_stats s.tx_queues Tx m.tx_stats s.tx_queues image)

-- the image with the errors of its queues
abbrev pub status_written : SetupView → MachineView → List ℕ → List ℕ
status_written s m image = with_status s.tx_queues Rx m.rx_stopped s.rx_queues (with_status s.tx_queues Tx m.tx_stopped s.tx_queues image)

-- the image of an active machine tells each count of each queue in use, where it is read
abbrev pub TellsStats : DeviceState → MachineView → List ℕ → Type 0
TellsStats Idle m image = Unit {0}
TellsStats (Active s) m image = (side : Side) (q i : ℕ) → q < queues_on side s → i < STATISTICS_COUNT → number_at 8 (descriptor_at s.tx_queues side q + STATISTICS + 8 * i) image ≡ slice_index (slice_index_or (stats_on side m) q []) i

-- the image that comes back to a command: GET_STATS and GET_QUEUE_STATUS write into it while the device is active, no other command does
abbrev pub image_by : DeviceState → MachineView → ℕ → List ℕ → List ℕ
image_by Idle m number image = image
image_by (Active s) m number image =
    if nat_eq number (number_of GetStats) then stats_written s m image else
    (if nat_eq number (number_of GetQueueStatus) then status_written s m image else image)

abbrev pub image_back : MachineView → ℕ → List ℕ → List ℕ
image_back m number image = image_by (state_of m) m number image
