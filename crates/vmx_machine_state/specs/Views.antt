-- What contracts see of the command machine: plain data alone.
use Rattle.std.specs.Prelude.{◌≡◌, ℕ, List, map, replicate, Option, Some, None, option_map}
use Rattle.vmx_ends.specs.Transmit.{TxDeviceView}
use Rattle.vmx_ends.specs.Receive.{RxDeviceView}
pub use Rattle.vmx_ends.specs.HandedEnds.{EndsView, handed_of}
use Rattle.vmx_ends.specs.declared.fabric.Ends.{Ends}
use Rattle.vmx_regs.specs.declared.bag.Bag.{Bag}
use Rattle.vmx_layout.specs.declared.register.TheConstants.{MAX_QUEUES}
use Rattle.vmx_shared_area.specs.declared.offsets.TheConstants.{STATISTICS_COUNT}
use Rattle.vmx_device_state.specs.SetupView.{SetupView}
use Rattle.vmx_device_state.specs.DeviceState.{DeviceState, Idle, Active, counts_of}
use Rattle.vmx_device_state.specs.declared.turn.EndCounts.{EndCounts}

-- what contracts see of ends, by what they see of one of each kind
abbrev pub ends_view : {F TxNote TxDriver TxDevice TxFacts RxNote RxDriver RxDevice RxFacts : Type 0} → (TxDevice → TxDeviceView) → (RxDevice → RxDeviceView) → Ends F TxNote TxDriver TxDevice TxFacts RxNote RxDriver RxDevice RxFacts → EndsView
ends_view tx rx e = record { tx = map tx e.tx; rx = map rx e.rx }

-- the ends in a bag
abbrev pub ends_in : {F TxNote TxDriver TxDevice TxFacts RxNote RxDriver RxDevice RxFacts : Type 0} → (TxDevice → TxDeviceView) → (RxDevice → RxDeviceView) → Bag (Ends F TxNote TxDriver TxDevice TxFacts RxNote RxDriver RxDevice RxFacts) → Option EndsView
ends_in tx rx bag = option_map (ends_view tx rx) bag.ends

-- the numbers of the ends in a bag, where it has ends
abbrev pub counts_in : Option EndsView → Option EndCounts
counts_in ends = counts_of (option_map handed_of ends)

-- what an active machine has: the setup in force, and the queue ends
pub record ActiveView : Type 0 where
  pub setup : SetupView
  pub ends : EndsView

-- a machine: its permanent address; what it has while it is active; and of each of eight queues a side ten statistics, and the error by which it is stopped
pub record MachineView : Type 0 where
  pub mac : List ℕ
  pub active : Option ActiveView
  pub tx_stats : List (List ℕ)
  pub rx_stats : List (List ℕ)
  pub tx_stopped : List (Option ℕ)
  pub rx_stopped : List (Option ℕ)

-- statistics of eight queues that counted nothing
abbrev pub no_counts : List (List ℕ)
no_counts = replicate MAX_QUEUES (replicate STATISTICS_COUNT 0)

-- errors of eight queues of which none is stopped
abbrev pub no_errors : List (Option ℕ)
no_errors = replicate MAX_QUEUES None

-- a machine that was told nothing yet
abbrev pub new_machine : List ℕ → MachineView
new_machine mac = record { mac = mac; active = None; tx_stats = no_counts; rx_stats = no_counts; tx_stopped = no_errors; rx_stopped = no_errors }

-- the device's state
abbrev pub state_by : Option ActiveView → DeviceState
state_by None = Idle
state_by (Some a) = Active a.setup

abbrev pub state_of : MachineView → DeviceState
state_of m = state_by m.active

-- the setup in force
abbrev pub setup_of : MachineView → Option SetupView
setup_of m = option_map (λ a. a.setup) m.active

-- the ends that are held: just an active machine has some
abbrev pub ends_of : MachineView → Option EndsView
ends_of m = option_map (λ a. a.ends) m.active

abbrev pub holding : EndsView → ActiveView → ActiveView
holding e a = record a { ends = e }

-- the machine with other ends, where it is active
abbrev pub with_ends : MachineView → EndsView → MachineView
with_ends m e = record m { active = option_map (holding e) m.active }

-- What no command changes: the permanent address and the statistics.
pub record Stays (old new : MachineView) : Type 0 where
  pub mac : new.mac ≡ old.mac
  pub tx_stats : new.tx_stats ≡ old.tx_stats
  pub rx_stats : new.rx_stats ≡ old.rx_stats
