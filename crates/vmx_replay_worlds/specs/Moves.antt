-- Steps of one guest, as the world of all guests sees them.
use Rattle.std.specs.Prelude.{◌≡◌, ℕ, List, [], ◌∷◌, ◌++◌, length, map, Some, slice_get, slice_set}
use mathlib.Core.List.{IsPrefix}
use Rattle.vmx_ends.specs.declared.frames.Sent.{Sent}
use Rattle.vmx_ends.specs.declared.packet.Packet.{Packet}
use Rattle.vmx_ends.specs.declared.packet.Tag.{Tag}
use Rattle.vmx_link.specs.Views.{LinkOutView}
use Rattle.vmx_model.specs.declared.journal.Entry.{Entry}
use Rattle.vmx_model.specs.Record.{carried_of}
use Rattle.vmx_model.specs.Serial.{Seat, at_number, transmitted}
use Rattle.vmx_model.specs.Turns.{comes_in}
use Rattle.vmx_device_looks.specs.Links.{PutsFrame}
use Rattle.vmx_replay_worlds.specs.Guests.{GuestView, seat_of}
use Rattle.vmx_replay_worlds.specs.Worlds.{out_part, out_parts, in_parts, InPart}
use Rattle.vmx_replay_worlds.specs.Ports.{HaveRoom, Lies}

-- ------------------------------------------------------------ a guest by itself

-- the guest's links are as before, but for notes and looks
pub record KeepsLinks (before after : GuestView) : Type 0 where
  pub out : out_parts after ≡ out_parts before
  pub input : in_parts after ≡ in_parts before

-- nothing that the world has of the guest changed
pub record IsSameGuest (before after : GuestView) : Type 0 where
  pub seat : seat_of after ≡ seat_of before
  pub links : KeepsLinks before after

-- the guest at a port moved, and no other
pub record MovesOne (rs : List GuestView) (port : ℕ) (change : Seat → Seat) (rs' : List GuestView) : Type 0 where
  pub before : GuestView
  pub after : GuestView
  pub at : slice_get rs port ≡ Some before
  pub is : rs' ≡ slice_set rs port after
  pub seat : seat_of after ≡ change (seat_of before)
  pub links : KeepsLinks before after

-- ------------------------------------------------------------ a frame goes out

-- entries go last in a journal
abbrev pub noted_all : List Entry → Seat → Seat
noted_all es s = record s { entries = s.entries ++ es }

-- the guest of a tag posted a frame, which was taken, completed and given to the links to its targets
pub record PutsOn (rs : List GuestView) (t : Tag) (posted : Sent) (frame : List ℕ) (tos : List ℕ) (rs' : List GuestView) : Type 0 where
  pub before : GuestView
  pub after : GuestView
  pub at : slice_get rs t.guest ≡ Some before
  pub is : rs' ≡ slice_set rs t.guest after
  pub entries : List Entry
  pub out : List LinkOutView
  pub seat : seat_of after ≡ noted_all entries (transmitted t.activation t.queue posted (seat_of before))
  pub puts : PutsFrame t.guest t frame tos entries before.device.out out
  pub room : HaveRoom (length tos) before.device.out
  pub links : out_parts after ≡ map out_part out
  pub input : in_parts after ≡ in_parts before

-- ------------------------------------------------------------ a packet comes in

-- a packet is pulled
abbrev pub part_pulls : Packet → InPart → InPart
part_pulls x i = record i { pulled = i.pulled ++ carried_of x ∷ [] }

-- a packet waits next on the link between two ports
pub record Waits (rs : List GuestView) (from to : ℕ) (x : Packet) : Type 0 where
  pub lies : Lies rs from to
  pub next : IsPrefix (lies.end.pulled ++ x ∷ []) lies.link.pushed

-- the receiver pulled it, and it came in
pub record TakesOn (mac : List ℕ) (rs : List GuestView) (from to : ℕ) (x : Packet) (w : Waits rs from to x) (rs' : List GuestView) : Type 0 where
  pub after : GuestView
  pub is : rs' ≡ slice_set rs to after
  pub seat : seat_of after ≡ comes_in mac from (length w.lies.end.pulled) x.frame (seat_of w.lies.receiver)
  pub out : out_parts after ≡ out_parts w.lies.receiver
  pub input : in_parts after ≡ at_number w.lies.k (part_pulls x) (in_parts w.lies.receiver)
