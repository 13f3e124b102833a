-- Statistics are counts of frames and entries, in the order of a queue's descriptor.
use Rattle.vmx_layout.specs.declared.register.TheConstants.{MAX_QUEUES}
use Rattle.std.specs.Prelude.{ℕ, ◌+◌, ◌-◌, ◌^◌, min, Bool, true, false, nat_eq, if◌then◌else◌, List, [], ◌∷◌, length, map, filter, flat_map}
use Rattle.vmx_frame.specs.Ethernet.{class_of}
use Rattle.vmx_frame.specs.declared.kinds.Class.{Class}
use Rattle.vmx_frame.specs.declared.kinds.Class.TheVariants.{Broadcast, Multicast, Unicast}
use Rattle.vmx_ends.specs.Frames.{sent_of}
use Rattle.vmx_ends.specs.LinkView.{LinkView}
use Rattle.vmx_ends.specs.Transmit.{TxView}
use Rattle.vmx_model.specs.declared.journal.Entry.TheVariants as entry
use Rattle.vmx_model.specs.declared.journal.Fate.TheVariants as fate
use Rattle.vmx_model.specs.Types.{Entry, Fate}
use Rattle.vmx_model.specs.Lists.{count, upto}
use Rattle.vmx_model.specs.Wire.{wire_form}
use Rattle.vmx_model.specs.Journal.{fates_in}
use Rattle.vmx_model.specs.Order.{CameUp, came_up, on_rx}

-- the three classes
abbrev pub is_unicast : Class → Bool
is_unicast Unicast = true
is_unicast Multicast = false
is_unicast Broadcast = false

-- group addresses but the broadcast
abbrev pub is_multicast : Class → Bool
is_multicast Unicast = false
is_multicast Multicast = true
is_multicast Broadcast = false

-- all ones
abbrev pub is_broadcast : Class → Bool
is_broadcast Unicast = false
is_broadcast Multicast = false
is_broadcast Broadcast = true

-- the frames of a class
abbrev pub of_class : (Class → Bool) → List (List ℕ) → List (List ℕ)
of_class test frames = filter (λ f. test (class_of f)) frames

-- the bytes of frames
abbrev pub bytes_of : List (List ℕ) → ℕ
bytes_of [] = 0
bytes_of (f ∷ fs) = length f + bytes_of fs

-- a counter stands still at its last value
abbrev pub still : ℕ → ℕ
still n = min n (2 ^ 64 - 1)

-- packets and bytes of a class
abbrev pub packets : (Class → Bool) → List (List ℕ) → ℕ
packets test frames = still (length (of_class test frames))

-- of a class
abbrev pub bytes : (Class → Bool) → List (List ℕ) → ℕ
bytes test frames = still (bytes_of (of_class test frames))

-- the ten counts: no TSO or LRO, the frames by class, and the last two
abbrev pub counted : List (List ℕ) → ℕ → ℕ → List ℕ
counted frames x y = 0 ∷ 0 ∷ packets is_unicast frames ∷ bytes is_unicast frames ∷ packets is_multicast frames ∷ bytes is_multicast frames
    ∷ packets is_broadcast frames ∷ bytes is_broadcast frames ∷ still x ∷ still y ∷ []

-- the frames that were taken from a queue, over all activations
abbrev pub taken_on : ℕ → List TxView → List (List ℕ)
taken_on q tx = flat_map (λ (f : TxView). if nat_eq f.made.name.queue q then map wire_form (sent_of f.taken) else []) tx

-- a frame of a transmit queue that has no target
abbrev pub is_lost_on : ℕ → Entry → Bool
is_lost_on q (entry.Lost tag) = nat_eq tag.queue q
is_lost_on q (entry.Setting number answer setup) = false
is_lost_on q (entry.Out tag target w) = false
is_lost_on q (entry.In from place f) = false

-- a frame that found no buffer on a receive queue
abbrev pub lacks_buffer : ℕ → Fate → Bool
lacks_buffer q (fate.NoBuffer a queue ring position look) = nat_eq queue q
lacks_buffer q f = false

-- of each of eight transmit queues: no errors, the frames without target as discards
abbrev pub tx_counts : List TxView → List Entry → List (List ℕ)
tx_counts tx es = map (λ q. counted (taken_on q tx) 0 (count (is_lost_on q) es)) (upto 0 MAX_QUEUES)

-- of each of eight receive queues: the frames without buffer, no errors
abbrev pub rx_counts : List LinkView → ℕ → List Entry → List (List ℕ)
rx_counts links port es = map (λ q. counted (map (λ (u : CameUp). u.packet.frame) (filter (on_rx q) (came_up links port es))) (count (lacks_buffer q) (fates_in es)) 0) (upto 0 MAX_QUEUES)
