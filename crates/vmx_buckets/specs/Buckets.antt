-- The entries of a device's journal by transmit queue, and by the port that a packet came from.
use Rattle.std.specs.Prelude.{◌≡◌, ℕ, ◌+◌, ◌*◌, ◌<◌, Bool, nat_eq, ◌&&◌, if◌then◌else◌, List, [], ◌++◌, length, filter_map, slice_index_or, Option, Some, None}
use Rattle.std.specs.Option.{option_to_list}
use Rattle.vmx_layout.specs.declared.register.TheConstants.{MAX_QUEUES}
use Rattle.vmx_ends.specs.declared.packet.Tag.{Tag}
use Rattle.vmx_model.specs.declared.journal.Entry.{Entry}
use Rattle.vmx_model.specs.declared.journal.Fate.{Fate}
use Rattle.vmx_model.specs.declared.journal.Entry.TheVariants as entry
use Rattle.vmx_buckets.specs.declared.sends.Switched.{Switched}
use Rattle.vmx_buckets.specs.declared.sends.Toward.{Toward}

-- the key of a queue of an activation
abbrev pub key : ℕ → ℕ → ℕ
key a q = a * MAX_QUEUES + q

-- the list of a key, none past the last
abbrev pub at_key : {X : Type 0} → List (List X) → ℕ → List X
at_key lists k = slice_index_or lists k []

-- ------------------------------------------------------------ what was given to the switch

-- a frame of this tag, where it is of this queue of this activation
abbrev pub toward_of : ℕ → ℕ → Tag → Option Toward → Option Switched
toward_of a q tag to = if nat_eq tag.activation a && nat_eq tag.queue q then Some (record { place = tag.place; to = to }) else None

-- an entry that gives a frame of this queue to the switch
abbrev pub switched_in : ℕ → ℕ → Entry → Option Switched
switched_in a q (entry.Out tag target way) = toward_of a q tag (Some (record { target = target; way = way }))
switched_in a q (entry.Lost tag) = toward_of a q tag None
switched_in a q (entry.Setting number answer setup) = None
switched_in a q (entry.In from place fate) = None

-- what a journal gives to the switch from a queue, in order
abbrev pub switched_on : ℕ → ℕ → List Entry → List Switched
switched_on a q es = filter_map (switched_in a q) es

-- lists by key that have it of each queue
pub record HasSwitched (es : List Entry) (count : ℕ) (lists : List (List Switched)) : Type 0 where
  pub long : length lists ≡ count
  pub each : (a q : ℕ) → q < MAX_QUEUES → key a q < count → at_key lists (key a q) ≡ switched_on a q es

-- lists to each of which an entry adds what it gives from its queue
pub record AddsTo (tag : Tag) (to : Option Toward) (old new : List (List Switched)) : Type 0 where
  pub long : length new ≡ length old
  pub each : (a q : ℕ) → q < MAX_QUEUES → key a q < length old → at_key new (key a q) ≡ at_key old (key a q) ++ option_to_list (toward_of a q tag to)

-- the same by the entry
pub record Adds (e : Entry) (old new : List (List Switched)) : Type 0 where
  pub long : length new ≡ length old
  pub each : (a q : ℕ) → q < MAX_QUEUES → key a q < length old → at_key new (key a q) ≡ at_key old (key a q) ++ option_to_list (switched_in a q e)

-- ------------------------------------------------------------ what came from a port

-- the fate of a packet that came from this port
abbrev pub came_in : ℕ → Entry → Option Fate
came_in port (entry.In from place fate) = if nat_eq from port then Some fate else None
came_in port (entry.Setting number answer setup) = None
came_in port (entry.Out tag target way) = None
came_in port (entry.Lost tag) = None

-- the fates of the packets from a port, in order
abbrev pub came_from : ℕ → List Entry → List Fate
came_from port es = filter_map (came_in port) es

-- lists by port that have it of each
pub record HasArrivals (es : List Entry) (ports : ℕ) (lists : List (List Fate)) : Type 0 where
  pub long : length lists ≡ ports
  pub each : (port : ℕ) → port < ports → at_key lists port ≡ came_from port es

-- lists to each of which an entry adds the fate that came from its port
pub record Comes (e : Entry) (old new : List (List Fate)) : Type 0 where
  pub long : length new ≡ length old
  pub each : (port : ℕ) → port < length old → at_key new port ≡ at_key old port ++ option_to_list (came_in port e)
