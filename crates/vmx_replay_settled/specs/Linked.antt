-- The devices of all guests by port, before and after notes of the links between them.
use Rattle.std.specs.Prelude.{◌≡◌, ◌≢◌, ◌<◌, ℕ, zero, suc, List, length, Some, slice_get, slice_set}
use Rattle.vmx_link.specs.Views.{LinkNoteView}
use Rattle.vmx_device_looks.specs.Ports.{IsOther}
use Rattle.vmx_device_laws.specs.declared.side.LinkSide.{LinkSide}
use Rattle.vmx_device_laws.specs.LinkNotes.{NotesLink, FitsLink, HearsLink}
use Rattle.vmx_device_laws.specs.Keeps.{Keeps}
use Rattle.vmx_device_laws.specs.Views.{DeviceView}
use Rattle.vmx_replay_guests.specs.Passing.{LinkAt, LinkPassed}

-- ------------------------------------------------------------ one end

-- the device at a port has a link to and from another port
pub record HasLinkAt (port to : ℕ) (ds : List DeviceView) : Type 0 where
  pub device : DeviceView
  pub at : slice_get ds port ≡ Some device
  pub other_ : IsOther device.port (length device.out) to

-- one of its ends gave a note
pub record NotesAt (port : ℕ) (side : LinkSide) (to : ℕ) (note : LinkNoteView) (ds ds' : List DeviceView) : Type 0 where
  pub before : DeviceView
  pub at : slice_get ds port ≡ Some before
  pub after : DeviceView
  pub notes : NotesLink side to note before after
  pub keeps : Keeps after
  pub is : ds' ≡ slice_set ds port after

-- a note fits it
pub record FitsAt (port : ℕ) (side : LinkSide) (to : ℕ) (note : LinkNoteView) (ds : List DeviceView) : Type 0 where
  pub device : DeviceView
  pub at : slice_get ds port ≡ Some device
  pub other_ : IsOther device.port (length device.out) to
  pub fits : FitsLink side to note device

-- it heard one
pub record HearsAt (port : ℕ) (side : LinkSide) (to : ℕ) (note : LinkNoteView) (ds ds' : List DeviceView) : Type 0 where
  pub before : DeviceView
  pub at : slice_get ds port ≡ Some before
  pub after : DeviceView
  pub hears : HearsLink side to note before after
  pub keeps : Keeps after
  pub is : ds' ≡ slice_set ds port after

-- ------------------------------------------------------------ a link

-- the devices at two ports, and the link from one to the other
pub record IsLinkOn (from to : ℕ) (ds : List DeviceView) : Type 0 where
  pub sender : DeviceView
  pub sender_at : slice_get ds from ≡ Some sender
  pub sender_port : sender.port ≡ from
  pub receiver : DeviceView
  pub receiver_at : slice_get ds to ≡ Some receiver
  pub receiver_port : receiver.port ≡ to
  pub link : LinkAt sender receiver

-- notes went both ways over it, and nothing else happened
pub record LinkPassedOn (from to : ℕ) (ds ds' : List DeviceView) : Type 0 where
  pub on : IsLinkOn from to ds
  pub sender' : DeviceView
  pub receiver' : DeviceView
  pub passed : LinkPassed on.sender on.receiver sender' receiver'
  pub sender_keeps : Keeps sender'
  pub receiver_keeps : Keeps receiver'
  pub is : ds' ≡ slice_set (slice_set ds from sender') to receiver'

-- ------------------------------------------------------------ all links to a port

-- there is one from each other port
abbrev pub HasLinksIn : ℕ → List DeviceView → Type 0
HasLinksIn to ds = (from : ℕ) → from < length ds → from ≢ to → IsLinkOn from to ds

-- notes went both ways over the link from a port, where it is another one
pub record PassedIfOther (from to : ℕ) (ds ds' : List DeviceView) : Type 0 where
  pub own : from ≡ to → ds' ≡ ds
  pub another : from ≢ to → LinkPassedOn from to ds ds'

-- over the links from the first n ports, in port order
abbrev pub LinksPassedFrom : ℕ → ℕ → List DeviceView → List DeviceView → Type 0
LinksPassedFrom zero to ds ds' = ds' ≡ ds
LinksPassedFrom (suc n) to ds ds' = (mid : List DeviceView) × LinksPassedFrom n to ds mid × PassedIfOther n to mid ds'

-- and over all of them
abbrev pub LinksPassedTo : ℕ → List DeviceView → List DeviceView → Type 0
LinksPassedTo to ds ds' = LinksPassedFrom (length ds) to ds ds'
