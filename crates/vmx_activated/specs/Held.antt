-- What contracts see of what a device holds while it is active.
use Rattle.std.specs.Prelude.{Option, option_map}
use Rattle.vmx_ends.specs.Transmit.{TxDeviceView}
use Rattle.vmx_ends.specs.Receive.{RxDeviceView}
use Rattle.vmx_device_state.specs.SetupView.{setup_view}
use Rattle.vmx_machine_state.specs.Views.{EndsView, ActiveView, ends_view}
use Rattle.vmx_activated.specs.declared.activated.Activated.{Activated}

-- a setup and ends, by what contracts see of one end of each kind
abbrev pub active_view : {F TxNote TxDriver TxDevice TxFacts RxNote RxDriver RxDevice RxFacts : Type 0} → (TxDevice → TxDeviceView) → (RxDevice → RxDeviceView) → Activated F TxNote TxDriver TxDevice TxFacts RxNote RxDriver RxDevice RxFacts → ActiveView
active_view tx rx a = record { setup = setup_view a.setup; ends = ends_view tx rx a.ends }

-- what is held, or nothing
abbrev pub held_view : {F TxNote TxDriver TxDevice TxFacts RxNote RxDriver RxDevice RxFacts : Type 0} → (TxDevice → TxDeviceView) → (RxDevice → RxDeviceView) → Option (Activated F TxNote TxDriver TxDevice TxFacts RxNote RxDriver RxDevice RxFacts) → Option ActiveView
held_view tx rx held = option_map (active_view tx rx) held

-- the ends of it
abbrev pub ends_by : Option ActiveView → Option EndsView
ends_by held = option_map (λ a. a.ends) held
