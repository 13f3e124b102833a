-- What notes after a step of one side say of it, and what stands between two steps.
use Rattle.std.specs.Prelude.{◌≡◌, ◌≤◌, List, length}
use mathlib.Core.List.{IsPrefix}
use Rattle.vmx_ends.specs.Frames.{sent_of}
use Rattle.vmx_ends.specs.Transmit.{TxDriverView, TxDeviceView}
use Rattle.vmx_ends.specs.Receive.{RxDriverView, RxDeviceView, posted1, posted2}
use Rattle.vmx_link.specs.Views.{LinkOutView, LinkInView}
use Rattle.vmx_model.specs.Bags.{Pairwise}
use Rattle.vmx_device_laws.specs.Views.{DeviceView}
use Rattle.vmx_device_laws.specs.Pairs.{tx_of}
use Rattle.vmx_driver_steps.specs.Driver.{DriverView}
use Rattle.vmx_driver_steps.specs.Near.{IsNearTx, IsNearRx}
use Rattle.vmx_actor_laws.specs.Joint.{AreCaughtUp}

-- all that was sent is taken
abbrev pub IsThrough : TxDriverView → TxDeviceView → Type 0
IsThrough d e = sent_of e.taken ≡ d.sent

-- the device was told of all that was sent
abbrev pub IsToldSent : TxDriverView → TxDeviceView → Type 0
IsToldSent d e = length d.sent ≤ length e.heard

-- the device took no frame but those that were sent
abbrev pub WasSent : TxDriverView → TxDeviceView → Type 0
WasSent d e = IsPrefix (sent_of e.taken) d.sent

-- the device knows of no position but those that were posted
abbrev pub WasPosted : RxDriverView → RxDeviceView → Type 0
WasPosted d e = (e.seen1 ≤ posted1 d.made d.received) × (e.seen2 ≤ posted2 d.made d.received)

-- the driver received no frame but those that were delivered
abbrev pub WasDelivered : RxDriverView → RxDeviceView → Type 0
WasDelivered d e = IsPrefix d.received e.delivered

-- the receiver pulled no packet but those that were pushed
abbrev pub WasPushed : LinkOutView → LinkInView → Type 0
WasPushed o i = IsPrefix i.pulled o.pushed

-- a driver that heard and gave notes, and did nothing else
pub record IsNoted (v w : DriverView) : Type 0 where
  pub asked : w.calls.asked ≡ v.calls.asked
  pub turns : w.calls.turns ≡ v.calls.turns
  pub tx : Pairwise IsNearTx v.tx w.tx
  pub rx : Pairwise IsNearRx v.rx w.rx
  pub is : w ≡ record v { calls = w.calls; masks = w.masks; tx = w.tx; rx = w.rx }

-- What is heard of a device after a turn, by its driver and by the senders of the links to it: it answered no command, took nothing that was not sent, and pulled nothing that was not pushed.
pub record HeardAfter (v : DriverView) (links : List LinkOutView) (new : DeviceView) : Type 0 where
  pub caught_up : AreCaughtUp v new
  pub sent : Pairwise WasSent v.tx (tx_of new.machine.active)
  pub pushed : Pairwise WasPushed links new.input
