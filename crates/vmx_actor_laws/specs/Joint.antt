-- What a device and its driver have in common once each knows all that the other knows.
use Rattle.std.specs.Prelude.{◌≡◌, ℕ, List, map, Option, Some, None}
use Rattle.vmx_ends.specs.Transmit.{TxDriverView, TxDeviceView}
use Rattle.vmx_ends.specs.Receive.{RxDriverView, RxDeviceView}
use Rattle.vmx_machine_state.specs.Views.{EndsView, state_of, ends_of}
use Rattle.vmx_device_laws.specs.Views.{DeviceView}
use Rattle.vmx_device_laws.specs.Keeps.{Keeps as DeviceKeeps}
use Rattle.vmx_driver_steps.specs.declared.progress.Stage.{Stage}
use Rattle.vmx_driver_steps.specs.declared.progress.Stage.TheVariants.{Fresh, Active, Stopping, Held, Quiet, Ended}
use Rattle.vmx_driver_steps.specs.Progress.{setup_now}
use Rattle.vmx_driver_steps.specs.Driver.{DriverView, state_in, Keeps as DriverKeeps}

-- no command is outstanding, and the driver knows the answers that the device gave: the registers' `pass` ends so
pub record AreCaughtUp (v : DriverView) (d : DeviceView) : Type 0 where
  pub none : v.calls.asked ≡ None
  pub same : v.calls.turns ≡ d.calls.served

-- a device's ends are those of a driver's queues, in the same order
pub record AreOfItsQueues (v : DriverView) (e : EndsView) : Type 0 where
  pub tx : map (λ (x : TxDeviceView). x.key) e.tx ≡ map (λ (x : TxDriverView). x.key) v.tx
  pub rx : map (λ (x : RxDeviceView). x.key) e.rx ≡ map (λ (x : RxDriverView). x.key) v.rx

-- ends that are held exactly while the driver is active, and then those of its queues
abbrev pub GoWith : Stage → DriverView → Option EndsView → Type 0
GoWith Active v held = (e : EndsView) × (held ≡ Some e) × AreOfItsQueues v e
GoWith Fresh v held = held ≡ None
GoWith (Stopping t) v held = held ≡ None
GoWith (Held t) v held = held ≡ None
GoWith Quiet v held = held ≡ None
GoWith Ended v held = held ≡ None

-- the device is in the state that the driver brought it to, and holds ends exactly while the driver is active
pub record IsLed (v : DriverView) (d : DeviceView) : Type 0 where
  pub state : state_of d.machine ≡ state_in v.at.stage (setup_now v.plan v.at)
  pub ends : GoWith v.at.stage v (ends_of d.machine)

-- A device is led by its driver, whatever both did before, once they are caught up.
abbrev pub LeadsItsDevice : Type 0
LeadsItsDevice = (v : DriverView) (d : DeviceView) → DriverKeeps v → DeviceKeeps d → AreCaughtUp v d → IsLed v d
