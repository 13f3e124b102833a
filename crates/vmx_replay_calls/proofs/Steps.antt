-- The steps of the calls of a replay's actors as the proofs take them, each with the notes passed; and what notes of links leave.
use Rattle.std.specs.Prelude.{◌≡◌, ◌≤◌, ◌⊎◌, ℕ, zero, suc, Bool, List, length, Some, slice_get, slice_set}
use Rattle.vmx_link.specs.Views.{LinkOutView, LinkInView}
use Rattle.vmx_model.specs.Bags.{Pairwise}
use Rattle.vmx_device_laws.specs.Views.{DeviceView}
use Rattle.vmx_device_laws.specs.Keeps.{Keeps as DeviceKeeps}
use Rattle.vmx_device_laws.specs.Steps.{TurnsOnce}
use Rattle.vmx_driver_steps.specs.declared.progress.Then.{Then}
use Rattle.vmx_driver_steps.specs.Driver.{DriverView, Keeps as DriverKeeps}
use Rattle.vmx_driver_steps.specs.Driving.{PollsAll, PostsFrame, TakesAnswer, MeetsEmpty}
use Rattle.vmx_driver_steps.specs.Dues.{FrameDue}
use Rattle.vmx_replay_guests.specs.Passing.{RegsPassed, QueuesPassed, LinkPassed}
use Rattle.vmx_replay_settled.specs.Settled.{BothKeep}
use Rattle.vmx_replay_worlds.specs.Guests.{GuestView}
use Rattle.vmx_replay_steps.specs.Commands.{HandUp}
use Rattle.vmx_replay_calls.specs.Resting.{guest_of}

-- ------------------------------------------------------------ ends of links

-- only what was heard and the counts of notes differ, and no less was heard
pub record IsNearOut (old new : LinkOutView) : Type 0 where
  pub is : new ≡ record old { freed = new.freed; notes_given = new.notes_given; notes_heard = new.notes_heard }
  pub more : length old.freed ≤ length new.freed

pub record IsNearIn (old new : LinkInView) : Type 0 where
  pub is : new ≡ record old { filled = new.filled; notes_given = new.notes_given; notes_heard = new.notes_heard }
  pub more : length old.filled ≤ length new.filled

-- ------------------------------------------------------------ guests

-- a guest whose links heard and gave notes
pub record IsNearGuest (old new : GuestView) : Type 0 where
  pub driver : new.driver ≡ old.driver
  pub is : new.device ≡ record old.device { out = new.device.out; input = new.device.input }
  pub out : Pairwise IsNearOut old.device.out new.device.out
  pub input : Pairwise IsNearIn old.device.input new.device.input

-- all guests of a run
abbrev pub AreNear : List GuestView → List GuestView → Type 0
AreNear rs rs' = Pairwise IsNearGuest rs rs'

-- ------------------------------------------------------------ notes of links

-- the guests at two ports, and the first's device with another one
abbrev pub with_device : GuestView → DeviceView → GuestView
with_device r d = record r { device = d }

-- notes of the link from one port to another went both ways
pub record LinkTold (from to : ℕ) (rs rs' : List GuestView) : Type 0 where
  pub sender : GuestView
  pub sender_at : slice_get rs from ≡ Some sender
  pub receiver : GuestView
  pub receiver_at : slice_get rs to ≡ Some receiver
  pub sender' : DeviceView
  pub receiver' : DeviceView
  pub passed : LinkPassed sender.device receiver.device sender' receiver'
  pub is : rs' ≡ slice_set (slice_set rs from (with_device sender sender')) to (with_device receiver receiver')

-- ------------------------------------------------------------ notes

-- notes of a guest's registers went both ways, and then those of all its queues
pub record GuestPassed (r r' : GuestView) : Type 0 where
  pub mid : GuestView
  pub regs : RegsPassed r.driver r.device mid.driver mid.device
  pub queues : QueuesPassed mid.driver mid.device r'.driver r'.device

-- notes of the links from the first k ports to one, in order
abbrev pub LinksTold : ℕ → ℕ → List GuestView → List GuestView → Type 0
LinksTold to zero rs rs' = rs' ≡ rs
LinksTold to (suc k) rs rs' = (mid : List GuestView) × LinksTold to k rs mid × (((k ≡ to) × (rs' ≡ mid)) ⊎ LinkTold k to mid rs')

-- ------------------------------------------------------------ a poll

-- a driver polled, and notes of its queues went both ways
pub record Polled (n : ℕ) (r r' : GuestView) : Type 0 where
  pub keep : BothKeep r.driver r.device
  pub driver : DriverView
  pub polls : PollsAll r.driver n driver
  pub passed : QueuesPassed driver r.device r'.driver r'.device

-- ------------------------------------------------------------ a turn

-- a device had a turn, and then notes of its guest and of all links to it went both ways
pub record Turned (port : ℕ) (guest : GuestView) (worked : Bool) (rs rs' : List GuestView) : Type 0 where
  pub at : slice_get rs port ≡ Some guest
  pub keep : BothKeep guest.driver guest.device
  pub device : DeviceView
  pub once : TurnsOnce worked guest.device device
  pub device_keeps : DeviceKeeps device
  pub told : GuestView
  pub kept : BothKeep told.driver told.device
  pub passed : GuestPassed (guest_of guest.driver device) told
  pub links : LinksTold port (length rs) (slice_set rs port told) rs'

-- ------------------------------------------------------------ a look

-- notes of one link went both ways, and the device at its end had a turn
pub record Looked (from to : ℕ) (worked : Bool) (rs rs' : List GuestView) : Type 0 where
  pub mid : List GuestView
  pub first : LinkTold from to rs mid
  pub guest : GuestView
  pub turned : Turned to guest worked mid rs'

-- ------------------------------------------------------------ a frame

-- a driver posted its next frame, notes of its queues went both ways, and its device had a turn
pub record Posted (port : ℕ) (worked : Bool) (rs rs' : List GuestView) : Type 0 where
  pub guest : GuestView
  pub at : slice_get rs port ≡ Some guest
  pub keep : BothKeep guest.driver guest.device
  pub due : FrameDue guest.driver.plan guest.driver.at
  pub driver : DriverView
  pub posts : PostsFrame guest.driver driver
  pub told : GuestView
  pub passed : QueuesPassed driver guest.device told.driver told.device
  pub turned : Turned port told worked (slice_set rs port told) rs'

-- ------------------------------------------------------------ a command

-- a driver sent a command; notes of the registers went both ways, the device had a turn, notes of the registers and of the links to it went both ways, the driver took the answer, and notes of its guest went both ways
pub record Commanded (port : ℕ) (guest : GuestView) (sent : DriverView) (worked : Bool) (rs rs' : List GuestView) : Type 0 where
  pub at : slice_get rs port ≡ Some guest
  pub keep : BothKeep guest.driver guest.device
  pub turns : sent.calls.turns ≡ guest.driver.calls.turns
  pub asked : GuestView
  pub asks : RegsPassed sent guest.device asked.driver asked.device
  pub asked_keeps : DeviceKeeps asked.device
  pub device : DeviceView
  pub once : TurnsOnce worked asked.device device
  pub device_keeps : DeviceKeeps device
  pub told : GuestView
  pub answers : RegsPassed asked.driver device told.driver told.device
  pub mid : List GuestView
  pub links : LinksTold port (length rs) (slice_set rs port told) mid
  pub here : GuestView
  pub here_at : slice_get mid port ≡ Some here
  pub driver : DriverView
  pub takes : TakesAnswer here.driver driver
  pub driver_keeps : DriverKeeps driver
  pub last : GuestView
  pub passed : GuestPassed (guest_of driver here.device) last
  pub kept : BothKeep last.driver last.device
  pub is : rs' ≡ slice_set mid port last

-- ------------------------------------------------------------ the meeting

-- acts of a driver that holds both ends of its queues, until all met, and notes of its guest after them
pub record Met (port : ℕ) (t : Then) (guest : GuestView) (rs rs' : List GuestView) : Type 0 where
  pub at : slice_get rs port ≡ Some guest
  pub keeps : DriverKeeps guest.driver
  pub acts : List DriverView
  pub last : DriverView
  pub up : HandUp guest.driver acts last
  pub driver : DriverView
  pub meets : MeetsEmpty t last driver
  pub driver_keeps : DriverKeeps driver
  pub told : GuestView
  pub passed : GuestPassed (guest_of driver guest.device) told
  pub kept : BothKeep told.driver told.device
  pub is : rs' ≡ slice_set rs port told
