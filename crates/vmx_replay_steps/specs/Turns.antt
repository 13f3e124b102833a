-- A turn of a device between notes, where its driver posted a frame, and where a packet waits on a link.
use Rattle.std.specs.Prelude.{◌≡◌, ◌≢◌, ◌++◌, ℕ, Bool, List, [], ◌∷◌, length, map, Some, slice_get}
use mathlib.Core.List.{IsPrefix}
use Rattle.vmx_switch.specs.Ports.{target_ports}
use Rattle.vmx_pcap.specs.declared.records.Stamped.{Stamped}
use Rattle.vmx_ends.specs.declared.packet.Packet.{Packet}
use Rattle.vmx_link.specs.Views.{LinkOutView, LinkInView}
use Rattle.vmx_model.specs.declared.journal.Entry.{Entry}
use Rattle.vmx_model.specs.Bags.{Pairwise}
use Rattle.vmx_model.specs.QueueSteps.{sent_before}
use Rattle.vmx_model.specs.Serial.{at_number, transmitted}
use Rattle.vmx_model.specs.Turns.{comes_in}
use Rattle.vmx_model.specs.Wire.{posted_form, wire_form, tx_queue}
use Rattle.vmx_device_looks.specs.Ports.{other}
use Rattle.vmx_device_looks.specs.Links.{PutsFrame}
use Rattle.vmx_device_laws.specs.Views.{DeviceView}
use Rattle.vmx_device_laws.specs.Pairs.{tx_of, rx_of}
use Rattle.vmx_device_laws.specs.Keeps.{Keeps as DeviceKeeps}
use Rattle.vmx_device_laws.specs.Steps.{TurnsOnce}
use Rattle.vmx_driver_steps.specs.declared.progress.Stage.TheVariants.{Active}
use Rattle.vmx_driver_steps.specs.Driver.{DriverView, Keeps as DriverKeeps}
use Rattle.vmx_driver_steps.specs.Driving.{PostsFrame}
use Rattle.vmx_actor_laws.specs.Joint.{AreCaughtUp}
use Rattle.vmx_note_laws.specs.Queues.{IsToldRx}
use Rattle.vmx_note_laws.specs.Links.{IsToldLink}
use Rattle.vmx_trusted_turns.specs.Trusted.{IsTrusted}
use Rattle.vmx_replay_worlds.specs.Guests.{seat_of}
use Rattle.vmx_replay_worlds.specs.Worlds.{out_part, in_part}
use Rattle.vmx_replay_worlds.specs.Moves.{IsSameGuest, noted_all, part_pulls}
use Rattle.vmx_replay_worlds.specs.Ports.{IsBare}
use Rattle.vmx_replay_steps.specs.Between.{IsThrough, IsToldSent, WasPosted, HeardAfter}

-- two actors of one guest between two steps: no command is under way, and all that was sent is taken
pub record StandsTogether (v : DriverView) (d : DeviceView) : Type 0 where
  pub driver : DriverKeeps v
  pub device : DeviceKeeps d
  pub caught_up : AreCaughtUp v d
  pub trusted : IsTrusted d.machine
  pub through : Pairwise IsThrough v.tx (tx_of d.machine.active)

-- ------------------------------------------------------------ a frame is sent

-- An active driver posted its next frame, and its device was told of it and had one turn. Nothing waits on the links to it, which end at `links`.
pub record SendsBetween (v v' : DriverView) (links : List LinkOutView) (worked : Bool) (old new : DeviceView) : Type 0 where
  pub stands : StandsTogether v old
  pub active : v.at.stage ≡ Active
  pub bare : Pairwise IsBare links old.input
  pub posts : PostsFrame v v'
  pub told : Pairwise IsToldSent v'.tx (tx_of old.machine.active)
  pub once : TurnsOnce worked old new
  pub heard : HeardAfter v' links new

-- the frame's transmit queue, and its place there
abbrev pub queue_of : DriverView → Stamped → ℕ
queue_of v frame = tx_queue frame.frame v.plan.setup.tx_queues

-- the frame went through its queue, and to its targets
pub record WasPutOut (v v' : DriverView) (old new : DeviceView) : Type 0 where
  pub frame : Stamped
  pub there_ : slice_get v.plan.capture.records v.at.next ≡ Some frame
  pub entries : List Entry
  pub seat : seat_of (record { driver = v'; device = new }) ≡ noted_all entries (transmitted v.at.ended (queue_of v frame) (posted_form v.plan frame.frame) (seat_of (record { driver = v; device = old })))
  pub puts : PutsFrame old.port (record { guest = old.port; activation = v.at.ended; queue = queue_of v frame; place = length (sent_before v.plan v.at.ended (queue_of v frame) v.at.next) }) (wire_form (posted_form v.plan frame.frame)) (target_ports old.table old.port (wire_form (posted_form v.plan frame.frame))) entries old.out new.out
  pub input : map in_part new.input ≡ map in_part old.input
  pub trusted : IsTrusted new.machine
  pub through_ : Pairwise IsThrough v'.tx (tx_of new.machine.active)

-- ------------------------------------------------------------ a packet comes in

-- A device had one turn while a packet waited on its k-th link, of which it was told, and nothing on the others.
pub record LooksBetween (v : DriverView) (links : List LinkOutView) (k : ℕ) (x : Packet) (worked : Bool) (old new : DeviceView) : Type 0 where
  pub stands : StandsTogether v old
  pub out : LinkOutView
  pub out_at : slice_get links k ≡ Some out
  pub input : LinkInView
  pub input_at : slice_get old.input k ≡ Some input
  pub next : IsPrefix (input.pulled ++ x ∷ []) out.pushed
  pub told : IsToldLink out input
  pub bare : (n : ℕ) (o : LinkOutView) (i : LinkInView) → n ≢ k → slice_get links n ≡ Some o → slice_get old.input n ≡ Some i → IsBare o i
  pub told_rx : Pairwise IsToldRx v.rx (rx_of old.machine.active)
  pub once : TurnsOnce worked old new
  pub heard : HeardAfter v links new
  pub knows : Pairwise WasPosted v.rx (rx_of new.machine.active)

-- the packet came in
pub record WasTakenIn (v : DriverView) (k : ℕ) (x : Packet) (old new : DeviceView) (input : LinkInView) : Type 0 where
  pub seat : seat_of (record { driver = v; device = new }) ≡ comes_in old.machine.mac (other old.port k) (length input.pulled) x.frame (seat_of (record { driver = v; device = old }))
  pub out : map out_part new.out ≡ map out_part old.out
  pub input_ : map in_part new.input ≡ at_number k (part_pulls x) (map in_part old.input)
  pub trusted : IsTrusted new.machine
  pub through_ : Pairwise IsThrough v.tx (tx_of new.machine.active)

-- ------------------------------------------------------------ nothing is there

-- nothing that the world has of the guest changed
pub record RestsAfter (v : DriverView) (old new : DeviceView) : Type 0 where
  pub same : IsSameGuest (record { driver = v; device = old }) (record { driver = v; device = new })
  pub trusted : IsTrusted new.machine
  pub through_ : Pairwise IsThrough v.tx (tx_of new.machine.active)

-- a device had one turn while nothing was sent and nothing waited
pub record IdlesBetween (v : DriverView) (links : List LinkOutView) (worked : Bool) (old new : DeviceView) : Type 0 where
  pub stands : StandsTogether v old
  pub bare : Pairwise IsBare links old.input
  pub once : TurnsOnce worked old new
  pub heard : HeardAfter v links new
