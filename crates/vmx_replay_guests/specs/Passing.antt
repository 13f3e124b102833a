-- A guest's driver and device, and the devices of two guests, before and after notes went both ways between them.
use Rattle.std.specs.Prelude.{⊤, ◌≡◌, ◌<◌, ℕ, length, Option, Some, None, slice_get, slice_set}
use Rattle.vmx_ends.specs.Transmit.{TxDriverView, TxDeviceView}
use Rattle.vmx_ends.specs.Receive.{RxDriverView, RxDeviceView}
use Rattle.vmx_link.specs.Views.{LinkOutView, LinkInView}
use Rattle.vmx_regs.specs.Masks.{masks_note, hears_masks}
use Rattle.vmx_machine_state.specs.Views.{ActiveView, MachineView}
use Rattle.vmx_model.specs.Bags.{Pairwise}
use Rattle.vmx_device_looks.specs.Ports.{other}
use Rattle.vmx_device_looks.specs.Looks.{TxAt, RxAt, with_tx, with_rx}
use Rattle.vmx_device_laws.specs.Views.{DeviceView}
use Rattle.vmx_device_laws.specs.Pairs.{tx_of, rx_of}
use Rattle.vmx_driver_steps.specs.Driver.{DriverView}
use Rattle.vmx_actor_laws.specs.Joint.{AreOfItsQueues}
use Rattle.vmx_note_laws.specs.Each.{EachPasses}
use Rattle.vmx_note_laws.specs.UpTo.{PassedUpTo}
use Rattle.vmx_note_laws.specs.Queues.{AreOneTx, IsToldTx, PassesTx, AreOneRx, IsBehindRx, IsToldRx, PassesRx}
use Rattle.vmx_note_laws.specs.Links.{PassesLink}
use Rattle.vmx_note_laws.specs.Registers.{PassesRegs}

-- ------------------------------------------------------------ registers

-- notes of the registers went both ways, and nothing else happened
pub record RegsPassed (v : DriverView) (d : DeviceView) (v' : DriverView) (d' : DeviceView) : Type 0 where
  pub regs : PassesRegs v.calls d.calls v'.calls d'.calls
  pub driver : v' ≡ record v { calls = v'.calls }
  pub device : d' ≡ record d { calls = d'.calls; masks = hears_masks d.masks (masks_note v.masks) }

-- ------------------------------------------------------------ one queue

-- both ends of transmit queue q
pub record AreAtTx (q : ℕ) (v : DriverView) (m : MachineView) : Type 0 where
  pub end : TxDriverView
  pub at : slice_get v.tx q ≡ Some end
  pub here : TxAt m q
  pub key : end.key ≡ here.end.key

-- notes went both ways between them, and nothing else happened
pub record TxPassed (q : ℕ) (v : DriverView) (d : DeviceView) (v' : DriverView) (d' : DeviceView) : Type 0 where
  pub there : AreAtTx q v d.machine
  pub end' : TxDriverView
  pub after : TxDeviceView
  pub passes : PassesTx there.end there.here.end end' after
  pub driver : v' ≡ record v { tx = slice_set v.tx q end' }
  pub device : d' ≡ record d { machine = with_tx (slice_set there.here.active.ends.tx q after) d.machine }

-- the same of receive queue q
pub record AreAtRx (q : ℕ) (v : DriverView) (m : MachineView) : Type 0 where
  pub end : RxDriverView
  pub at : slice_get v.rx q ≡ Some end
  pub here : RxAt m q
  pub key : end.key ≡ here.end.key

pub record RxPassed (q : ℕ) (v : DriverView) (d : DeviceView) (v' : DriverView) (d' : DeviceView) : Type 0 where
  pub there : AreAtRx q v d.machine
  pub end' : RxDriverView
  pub after : RxDeviceView
  pub passes : PassesRx there.end there.here.end end' after
  pub driver : v' ≡ record v { rx = slice_set v.rx q end' }
  pub device : d' ≡ record d { machine = with_rx (slice_set there.here.active.ends.rx q after) d.machine }

-- ------------------------------------------------------------ all queues

-- between the ends of the first q transmit queues
pub record TxPassedUpTo (q : ℕ) (v : DriverView) (d : DeviceView) (v' : DriverView) (d' : DeviceView) : Type 0 where
  pub passed : PassedUpTo AreOneTx PassesTx q v.tx (tx_of d.machine.active) v'.tx (tx_of d'.machine.active)
  pub driver : v' ≡ record v { tx = v'.tx }
  pub device : d' ≡ record d { machine = with_tx (tx_of d'.machine.active) d.machine }

pub record RxPassedUpTo (q : ℕ) (v : DriverView) (d : DeviceView) (v' : DriverView) (d' : DeviceView) : Type 0 where
  pub passed : PassedUpTo AreOneRx PassesRx q v.rx (rx_of d.machine.active) v'.rx (rx_of d'.machine.active)
  pub driver : v' ≡ record v { rx = v'.rx }
  pub device : d' ≡ record d { machine = with_rx (rx_of d'.machine.active) d.machine }

-- between the ends of all transmit queues, and of all receive queues
pub record AllTxPassed (v : DriverView) (d : DeviceView) (v' : DriverView) (d' : DeviceView) : Type 0 where
  pub tx : EachPasses PassesTx v.tx (tx_of d.machine.active) v'.tx (tx_of d'.machine.active)
  pub driver : v' ≡ record v { tx = v'.tx }
  pub device : d' ≡ record d { machine = with_tx (tx_of d'.machine.active) d.machine }

pub record AllRxPassed (v : DriverView) (d : DeviceView) (v' : DriverView) (d' : DeviceView) : Type 0 where
  pub rx : EachPasses PassesRx v.rx (rx_of d.machine.active) v'.rx (rx_of d'.machine.active)
  pub driver : v' ≡ record v { rx = v'.rx }
  pub device : d' ≡ record d { machine = with_rx (rx_of d'.machine.active) d.machine }

-- a device that holds ends holds those of its driver's queues, in the same order
abbrev pub HoldsItsQueues : DriverView → Option ActiveView → Type 0
HoldsItsQueues v None = ⊤
HoldsItsQueues v (Some a) = AreOfItsQueues v a.ends

-- queue by queue, each end of a transmit queue was told all that the other did
abbrev pub AreToldTx : DriverView → DeviceView → Type 0
AreToldTx v d = Pairwise IsToldTx v.tx (tx_of d.machine.active)

-- the same of receive queues; and before notes go both ways, none of which a device's end has delivered anything, or both ends went on since
abbrev pub AreToldRx : DriverView → DeviceView → Type 0
AreToldRx v d = Pairwise IsToldRx v.rx (rx_of d.machine.active)

abbrev pub AreBehindRx : DriverView → DeviceView → Type 0
AreBehindRx v d = Pairwise IsBehindRx v.rx (rx_of d.machine.active)

-- notes went both ways between the ends of all queues of a device that holds some
pub record AllPassed (v : DriverView) (d : DeviceView) (v' : DriverView) (d' : DeviceView) : Type 0 where
  pub mid_v : DriverView
  pub mid_d : DeviceView
  pub tx : AllTxPassed v d mid_v mid_d
  pub rx : AllRxPassed mid_v mid_d v' d'

-- a device that holds none is as it was, and so is its driver
abbrev pub QueuesPassedBy : Option ActiveView → DriverView → DeviceView → DriverView → DeviceView → Type 0
QueuesPassedBy None v d v' d' = (v' ≡ v) × (d' ≡ d)
QueuesPassedBy (Some a) v d v' d' = AllPassed v d v' d' × AreToldTx v' d' × (AreBehindRx v d → AreToldRx v' d')

abbrev pub QueuesPassed : DriverView → DeviceView → DriverView → DeviceView → Type 0
QueuesPassed v d v' d' = QueuesPassedBy d.machine.active v d v' d'

-- ------------------------------------------------------------ a link

-- the link from one device to another: its sender's end is the j-th out, its receiver's the k-th in
pub record LinkAt (s r : DeviceView) : Type 0 where
  pub j : ℕ
  pub to_is : r.port ≡ other s.port j
  pub out : LinkOutView
  pub out_at : slice_get s.out j ≡ Some out
  pub k : ℕ
  pub k_below : k < length r.out
  pub from_is : s.port ≡ other r.port k
  pub input : LinkInView
  pub input_at : slice_get r.input k ≡ Some input
  pub key : out.key ≡ input.key

-- notes went both ways over it, and nothing else happened
pub record LinkPassed (s r s' r' : DeviceView) : Type 0 where
  pub link : LinkAt s r
  pub out' : LinkOutView
  pub input' : LinkInView
  pub passes : PassesLink link.out link.input out' input'
  pub sender : s' ≡ record s { out = slice_set s.out link.j out' }
  pub receiver : r' ≡ record r { input = slice_set r.input link.k input' }
