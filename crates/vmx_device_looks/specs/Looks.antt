-- What one look at a queue of an active machine does to what contracts see of the machine.
use Rattle.std.specs.Prelude.{◌≡◌, ◌<◌, ◌^◌, ℕ, List, Some, option_map, slice_get, slice_set, length}
use Rattle.vmx_ends.specs.Transmit.{TxDeviceView, found_in}
use Rattle.vmx_ends.specs.TransmitClauses.{IsIdle, TakesFrame, FindsNone, ShowsFault, Completes}
use Rattle.vmx_ends.specs.Receive.{RxDeviceView, consumed1, consumed2}
use Rattle.vmx_ends.specs.ReceiveClauses.{Delivers, GrowsDelivered}
use Rattle.vmx_ends.specs.declared.meta.TxMark.{TxMark}
use Rattle.vmx_ends.specs.declared.answers.EndFault.{EndFault}
use Rattle.vmx_ends.specs.declared.answers.Deliver.{Deliver}
use Rattle.vmx_machine_state.specs.Views.{ActiveView, MachineView}
use Rattle.vmx_model.specs.Meta.{Arrival}
use Rattle.vmx_device_looks.specs.declared.ends.Found.{Found}
use Rattle.vmx_device_looks.specs.declared.ends.Found.TheVariants as found

-- a machine with other transmit ends, where it is active
abbrev pub with_tx : List TxDeviceView → MachineView → MachineView
with_tx vs m = record m { active = option_map (λ (a : ActiveView). record a { ends = record a.ends { tx = vs } }) m.active }

-- the same with other receive ends
abbrev pub with_rx : List RxDeviceView → MachineView → MachineView
with_rx vs m = record m { active = option_map (λ (a : ActiveView). record a { ends = record a.ends { rx = vs } }) m.active }

-- an active machine, and its transmit end of queue q
pub record TxAt (m : MachineView) (q : ℕ) : Type 0 where
  pub active : ActiveView
  pub is_active : m.active ≡ Some active
  pub end : TxDeviceView
  pub at : slice_get active.ends.tx q ≡ Some end

-- the same of a receive end
pub record RxAt (m : MachineView) (q : ℕ) : Type 0 where
  pub active : ActiveView
  pub is_active : m.active ≡ Some active
  pub end : RxDeviceView
  pub at : slice_get active.ends.rx q ≡ Some end

-- a transmit end that may be looked at
pub record MayTake (m : MachineView) (q : ℕ) : Type 0 where
  pub here : TxAt m q
  pub idle : IsIdle here.end
  pub taken : length here.end.taken < 2 ^ 61
  pub found : found_in here.end.taken < 2 ^ 61

-- the next frame of queue q was taken and completed
pub record TakesOne (q place : ℕ) (frame : List ℕ) (mark : TxMark) (old new : MachineView) : Type 0 where
  pub here : TxAt old q
  pub mid : TxDeviceView
  pub after : TxDeviceView
  pub takes : TakesFrame here.end frame place mark mid
  pub completes : Completes mid after
  pub is : new ≡ with_tx (slice_set here.active.ends.tx q after) old

-- the look found no frame
pub record TakesNone (q : ℕ) (old new : MachineView) : Type 0 where
  pub here : TxAt old q
  pub after : TxDeviceView
  pub word : ℕ
  pub finds : FindsNone here.end word after
  pub is : new ≡ with_tx (slice_set here.active.ends.tx q after) old

-- the given words of the queue show a fault
pub record TakesBad (q : ℕ) (fault : EndFault) (old new : MachineView) : Type 0 where
  pub here : TxAt old q
  pub after : TxDeviceView
  pub words : List ℕ
  pub shows : ShowsFault here.end words fault after
  pub is : new ≡ with_tx (slice_set here.active.ends.tx q after) old

-- what a look found
abbrev pub TakesAs : ℕ → List ℕ → Found → MachineView → MachineView → Type 0
TakesAs q into (found.Frame place mark) old new = TakesOne q place into mark old new
TakesAs q into found.Nothing old new = TakesNone q old new
TakesAs q into (found.Bad fault) old new = TakesBad q fault old new

-- a receive end that may be given a frame
pub record MayDeliver (m : MachineView) (q : ℕ) : Type 0 where
  pub here : RxAt m q
  pub delivered : length here.end.delivered < 2 ^ 62
  pub refused : length here.end.refused < 2 ^ 62
  pub positions : (consumed1 here.end < 2 ^ 62) × (consumed2 here.end < 2 ^ 62)

-- queue q was given a frame, and answered
pub record DeliversAs (q : ℕ) (what : Arrival) (answer : Deliver) (old new : MachineView) : Type 0 where
  pub here : RxAt old q
  pub after : RxDeviceView
  pub gives : Delivers here.end what.frame what.meta answer after
  pub grows : GrowsDelivered here.end after
  pub is : new ≡ with_rx (slice_set here.active.ends.rx q after) old
