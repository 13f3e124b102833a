-- A guest's driver and device, before and after a step of one of them and the notes behind it.
use Rattle.std.specs.Prelude.{◌≡◌, ◌<◌, ◌≤◌, ◌+◌, ◌^◌, ℕ, Bool, length, Option, Some, None}
use Rattle.vmx_device_state.specs.declared.turn.CommandView.{CommandView}
use Rattle.vmx_device_laws.specs.Views.{DeviceView, AreWhole}
use Rattle.vmx_device_laws.specs.Keeps.{Keeps as DeviceKeeps}
use Rattle.vmx_device_laws.specs.Steps.{TurnsOnce}
use Rattle.vmx_device.specs.declared.growing.TheConstants.{TURN_ENTRIES}
use Rattle.vmx_driver_steps.specs.Driver.{DriverView, IsSettled, Keeps as DriverKeeps}
use Rattle.vmx_driver_steps.specs.Driving.{PollsAll}
use Rattle.vmx_driver.specs.declared.driver.Act.{Act}
use Rattle.vmx_driver.specs.Acts.{Acts}
use Rattle.vmx_driver.specs.Stocked.{AreEven}
use Rattle.vmx_replay_guests.specs.Passing.{RegsPassed, QueuesPassed}

-- the two actors of one guest, each of whose ends heard as many notes as it gave
pub record ArePaired (v : DriverView) (d : DeviceView) : Type 0 where
  pub key : v.key ≡ d.key
  pub even : AreEven v
  pub whole : AreWhole d

-- what always holds of each; a list of frames that were handed up has a length
pub record BothKeep (v : DriverView) (d : DeviceView) : Type 0 where
  pub driver : DriverKeeps v
  pub settled : IsSettled v
  pub few : length v.received < 2 ^ 64
  pub device : DeviceKeeps d

-- ------------------------------------------------------------ notes

-- notes of the queues go both ways where no command is outstanding, and nothing happens while one is
abbrev pub QueuesSettled : Option CommandView → DriverView → DeviceView → DriverView → DeviceView → Type 0
QueuesSettled None v d v' d' = QueuesPassed v d v' d'
QueuesSettled (Some c) v d v' d' = (v' ≡ v) × (d' ≡ d)

-- notes of the registers went both ways, and then those of the queues
pub record Settles (v : DriverView) (d : DeviceView) (v' : DriverView) (d' : DeviceView) : Type 0 where
  pub told_v : DriverView
  pub told_d : DeviceView
  pub regs : RegsPassed v d told_v told_d
  pub queues : QueuesSettled told_v.calls.asked told_v told_d v' d'

-- ------------------------------------------------------------ steps

-- the driver acted, and then notes went both ways
pub record ActsSettled (v : DriverView) (d : DeviceView) (a : Act) (v' : DriverView) (d' : DeviceView) : Type 0 where
  pub acted : DriverView
  pub acts : Acts v a acted
  pub keeps : DriverKeeps acted
  pub settles : Settles acted d v' d'

-- the device had one turn, and then notes went both ways; its journal grew by so many entries at most, and it answered one command at most
pub record TurnsSettled (v : DriverView) (d : DeviceView) (v' : DriverView) (d' : DeviceView) : Type 0 where
  pub was : DeviceKeeps d
  pub worked : Bool
  pub turned : DeviceView
  pub once : TurnsOnce worked d turned
  pub keeps : DeviceKeeps turned
  pub entries : length d'.entries ≤ length d.entries + TURN_ENTRIES
  pub served : length d'.calls.served ≤ length d.calls.served + 1
  pub settles : Settles v turned v' d'

-- the driver polled, or acted where a frame is due, and then notes of the queues went both ways
pub record PollsSettled (v : DriverView) (d : DeviceView) (n : ℕ) (v' : DriverView) (d' : DeviceView) : Type 0 where
  pub polled : DriverView
  pub polls : PollsAll v n polled
  pub keeps : DriverKeeps polled
  pub passed : QueuesPassed polled d v' d'

pub record PostsSettled (v : DriverView) (d : DeviceView) (a : Act) (v' : DriverView) (d' : DeviceView) : Type 0 where
  pub acted : DriverView
  pub acts : Acts v a acted
  pub keeps : DriverKeeps acted
  pub passed : QueuesPassed acted d v' d'
