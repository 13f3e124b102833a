-- The serial run: a fold over captured numbers and guests, over the cores of queues. It has no rings, no registers and no notes.
use Rattle.std.specs.Prelude.{ℕ, zero, suc, ◌+◌, ◌-◌, ◌%◌, max, Bool, true, false, ◌&&◌, not, nat_eq, if◌then◌else◌, List, [], ◌∷◌, ◌++◌, length, map, filter, filter_map, flat_map, find, fold, Option, Some, None, slice_get}
use Rattle.std.specs.Option.{option_map}
use Rattle.vmx_filters.specs.declared.answer.Verdict.TheVariants as verdict
use Rattle.vmx_ends.specs.declared.frames.Delivery.{Delivery}
use Rattle.vmx_ends.specs.declared.frames.Sent.{Sent}
use Rattle.vmx_ends.specs.Core.{Outcome, takes, misses}
use Rattle.vmx_ends.specs.TransmitCore as tx
use Rattle.vmx_ends.specs.ReceiveCore as rx
use Rattle.vmx_model.specs.declared.deeds.Deed.TheVariants as deed
use Rattle.vmx_model.specs.declared.journal.Entry.TheVariants as entry
use Rattle.vmx_model.specs.declared.journal.Fate.TheVariants as fate
use Rattle.vmx_model.specs.declared.journal.Way.TheVariants as way
use Rattle.vmx_model.specs.declared.sending.Sending.TheVariants as sending
use Rattle.vmx_model.specs.Types.{GuestPlan, Plan, Action, Deed, Tag, QueueName, Entry, Fate, Sending, Verdict, Received}
use Rattle.vmx_model.specs.Lists.{upto}
use Rattle.vmx_device_state.specs.SetupView.{SetupView}
use Rattle.vmx_model.specs.Setups.{admits}
use Rattle.vmx_model.specs.Meta.{Arrival, delivered_as, handed_as}
use Rattle.vmx_model.specs.Totals.{wiring}
use Rattle.vmx_model.specs.Wire.{wire_form, rx_queue, targets}
use Rattle.vmx_model.specs.Plan.{Captured, captured, verdict_on, changed, first_setup, activate_dev, quiesce_dev, reset_dev, deed_commands}
use Rattle.vmx_model.specs.Account.{tx_made, rx_made}

-- ------------------------------------------------------------ a guest of the run

-- a guest: whether its device is active, the setup as the deeds so far left it, how many activations began, how many copies reached it, the journal, what the driver handed up, and the queues of all activations
pub record Seat : Type 0 where
  pub active : Bool
  pub setup : SetupView
  pub begun : ℕ
  pub seen : ℕ
  pub entries : List Entry
  pub setups : List SetupView
  pub received : List Received
  pub tx : List tx.TxCore
  pub rx : List rx.RxCore

-- changes the elements that pass a test
abbrev pub where_it : {X : Type 0} → (X → Bool) → (X → X) → List X → List X
where_it test change xs = map (λ x. if test x then change x else x) xs

-- the transmit queue of this number in this activation
abbrev pub tx_is : ℕ → ℕ → tx.TxCore → Bool
tx_is a q c = nat_eq c.made.name.activation a && nat_eq c.made.name.queue q

-- the receive queue of this number in this activation
abbrev pub rx_is : ℕ → ℕ → rx.RxCore → Bool
rx_is a q c = nat_eq c.made.name.activation a && nat_eq c.made.name.queue q

-- a receive queue of this activation
abbrev pub is_of : ℕ → rx.RxCore → Bool
is_of a c = nat_eq c.made.name.activation a

-- ------------------------------------------------------------ polls

-- the first frame that was delivered and not received
abbrev pub next_of : rx.RxCore → Option Delivery
next_of c = slice_get c.delivered c.received

-- a delivered frame as the driver hands it up
abbrev pub handed : rx.RxCore → Delivery → Received
handed c d = handed_as c.made.name.activation c.made.name.queue c.received d

-- the next frame of a queue of the activation
abbrev pub up_next : ℕ → rx.RxCore → Option Received
up_next a c = if is_of a c then option_map (handed c) (next_of c) else None

-- the next frame of a queue is received
abbrev pub received_next : rx.RxCore → rx.RxCore
received_next c = rx.after c rx.receives

-- a poll: each queue of the activation, in order, hands up its next frame
abbrev pub poll : ℕ → Seat → Seat
poll a s = record s { received = s.received ++ filter_map (up_next a) s.rx; rx = where_it (is_of a) received_next s.rx }

-- so many polls
abbrev pub polls : ℕ → ℕ → Seat → Seat
polls a zero s = s
polls a (suc n) s = polls a n (poll a s)

-- how many delivered frames are not received
abbrev pub pending : List rx.RxCore → ℕ
pending [] = 0
pending (c ∷ cs) = (length c.delivered - c.received) + pending cs

-- polls until one hands up nothing: one that finds nothing changes nothing, so as many polls as frames are pending are enough
unfoldable pub emptied : Seat → Seat
emptied s = polls (s.begun - 1) (pending s.rx) s

-- an active guest is emptied
unfoldable pub drained : Seat → Seat
drained s = if s.active then emptied s else s

-- ------------------------------------------------------------ commands

-- a set command that is answered 0 while the device is idle, or goes idle
abbrev pub quiet_setting : ℕ → Seat → Seat
quiet_setting number s = record s { entries = s.entries ++ entry.Setting number 0 None ∷ [] }

-- the same while it is active, or becomes it
abbrev pub active_setting : ℕ → Seat → Seat
active_setting number s = record s { entries = s.entries ++ entry.Setting number 0 (Some (length s.setups)) ∷ []; setups = s.setups ++ s.setup ∷ [] }

-- a queue of the guest at this port
abbrev pub name_at : ℕ → ℕ → ℕ → QueueName
name_at port a q = record { guest = port; activation = a; queue = q }

-- new queues are made full
abbrev pub new_tx : ℕ → GuestPlan → ℕ → ℕ → tx.TxCore
new_tx port g a q = tx.new_core (tx_made g (name_at port a q))

-- the same for a receive queue
abbrev pub new_rx : ℕ → GuestPlan → ℕ → ℕ → rx.RxCore
new_rx port g a q = rx.new_core (rx_made g (name_at port a q))

-- ACTIVATE_DEV: the device is active with new queues
abbrev pub activated : ℕ → GuestPlan → Seat → Seat
activated port g s = active_setting activate_dev (record s {
  active = true;
  begun = s.begun + 1;
  tx = s.tx ++ map (new_tx port g s.begun) (upto 0 g.setup.tx_queues);
  rx = s.rx ++ map (new_rx port g s.begun) (upto 0 g.setup.rx_queues);
})

-- the device goes idle, and then all that was delivered is received
abbrev pub quieted : ℕ → Seat → Seat
quieted number s = emptied (record (quiet_setting number s) { active = false })

-- an update, as the state is
abbrev pub set_command : Seat → ℕ → Seat
set_command s number = if s.active then active_setting number s else quiet_setting number s

-- a plan activates quiet guests alone; elsewhere nothing is done, so that laws need no premise on scripts
abbrev pub activated_if_quiet : ℕ → GuestPlan → Seat → Seat
activated_if_quiet port g s = if s.active then s else activated port g s

-- the setup changes, and the driver tells them
abbrev pub updated_by : Deed → Seat → Seat
updated_by d s = fold set_command (record s { setup = changed s.setup d }) (deed_commands d)

-- what each deed does
abbrev pub done : ℕ → GuestPlan → Deed → Seat → Seat
done port g deed.Quiesce s = quieted quiesce_dev s
done port g deed.Activate s = activated_if_quiet port g s
done port g deed.Reset s = activated port g (quieted reset_dev s)
done port g (deed.Mode m) s = updated_by (deed.Mode m) s
done port g (deed.Multicast t) s = updated_by (deed.Multicast t) s
done port g (deed.Vlans t) s = updated_by (deed.Vlans t) s
done port g (deed.Rss n t) s = updated_by (deed.Rss n t) s

-- ------------------------------------------------------------ a copy at its target

-- what a delivery comes to
abbrev pub fate_with : ℕ → ℕ → rx.RxCore → Outcome → Fate
fate_with a q c (takes passed end) = fate.Up a q (length c.delivered)
fate_with a q c (misses ring position looks) = fate.NoBuffer a q ring position (length c.refused)

-- a delivery to the queue of the flow: the walk is sized by what is delivered
abbrev pub fate_on : ℕ → ℕ → Arrival → Option rx.RxCore → Fate
fate_on a q d None = fate.Inactive
fate_on a q d (Some c) = fate_with a q c (rx.comes_to c (length d.frame))

-- in an active guest: the filter, then the queue
abbrev pub fate_in_turn : Seat → List ℕ → Verdict → Fate
fate_in_turn s frame (verdict.No r) = fate.Filtered r
fate_in_turn s frame verdict.Yes = fate_on (s.begun - 1) (rx_queue s.setup.rss frame) (delivered_as s.setup frame) (find (rx_is (s.begun - 1) (rx_queue s.setup.rss frame)) s.rx)

-- what becomes of a frame that reaches a guest now
abbrev pub fate_at : Seat → List ℕ → List ℕ → Fate
fate_at s mac frame = if s.active then fate_in_turn s frame (admits s.setup mac frame) else fate.Inactive

-- a queue after a delivery is tried
unfoldable pub tried : Arrival → rx.RxCore → rx.RxCore
tried d c = rx.after c (rx.delivers d.frame d.meta)

-- the queue of a fate after it
abbrev pub marked : Arrival → Fate → List rx.RxCore → List rx.RxCore
marked d (fate.Up a q place) cs = where_it (rx_is a q) (tried d) cs
marked d (fate.NoBuffer a q ring position look) cs = where_it (rx_is a q) (tried d) cs
marked d f cs = cs

-- the driver polls where it is due
abbrev pub polled_if : Bool → Seat → Seat
polled_if b s = if b then drained s else s

-- a copy reaches a guest; every so many copies the driver polls
abbrev pub arrived : ℕ → List ℕ → ℕ → ℕ → List ℕ → Seat → Seat
arrived poll_every mac from place frame s = polled_if (nat_eq ((s.seen + 1) % poll_every) 0) (record s {
  seen = s.seen + 1;
  entries = s.entries ++ entry.In from place (fate_at s mac frame) ∷ [];
  rx = marked (delivered_as s.setup frame) (fate_at s mac frame) s.rx;
})

-- ------------------------------------------------------------ all guests

-- a packet
pub record Carried : Type 0 where
  pub tag : Tag
  pub frame : List ℕ

-- a link: what was pushed and what was pulled
pub record Wire : Type 0 where
  pub from : ℕ
  pub to : ℕ
  pub pushed : List Carried
  pub pulled : List Carried

-- all guests, and the links between them
pub record World : Type 0 where
  pub seats : List Seat
  pub wires : List Wire

-- changes the element of a number
abbrev pub at_number : {X : Type 0} → ℕ → (X → X) → List X → List X
at_number n change [] = []
at_number zero change (x ∷ xs) = change x ∷ xs
at_number (suc n) change (x ∷ xs) = x ∷ at_number n change xs

-- the link between two ports
abbrev pub is_wire : ℕ → ℕ → Wire → Bool
is_wire from to l = nat_eq l.from from && nat_eq l.to to

-- how many packets were pushed
abbrev pub pushed_of : Option Wire → ℕ
pushed_of None = 0
pushed_of (Some l) = length l.pushed

-- the same on the link between two ports
abbrev pub pushed_on : List Wire → ℕ → ℕ → ℕ
pushed_on wires from to = pushed_of (find (is_wire from to) wires)

-- a packet is pushed and pulled at once
abbrev pub carried : Carried → Wire → Wire
carried p l = record l { pushed = l.pushed ++ p ∷ []; pulled = l.pulled ++ p ∷ [] }

-- an entry goes last in the journal
abbrev pub noted : Entry → Seat → Seat
noted e s = record s { entries = s.entries ++ e ∷ [] }

-- the address of a guest
abbrev pub mac_or_none : Option GuestPlan → List ℕ
mac_or_none None = []
mac_or_none (Some g) = g.mac

-- the address of the guest at port g
abbrev pub mac_of : Plan → ℕ → List ℕ
mac_of plan g = mac_or_none (slice_get plan.guests g)

-- one copy crosses its link and is handled at once
abbrev pub reaches : Plan → Tag → List ℕ → World → ℕ → World
reaches plan t frame w to = record {
  seats = at_number to (arrived plan.poll_every (mac_of plan to) t.guest (pushed_on w.wires t.guest to) frame)
      (at_number t.guest (noted (entry.Out t to (way.Link (pushed_on w.wires t.guest to)))) w.seats);
  wires = where_it (is_wire t.guest to) (carried (record { tag = t; frame = frame })) w.wires;
}

-- the frame is posted, taken, completed and reaped
abbrev pub through : Sent → tx.TxCore → tx.TxCore
through posted c = tx.happens (tx.happens (tx.happens (tx.happens c (tx.posts posted)) tx.takes) tx.completes) tx.reaps

-- the frame goes through its queue
abbrev pub transmitted : ℕ → ℕ → Sent → Seat → Seat
transmitted a q posted s = record s { tx = where_it (tx_is a q) (through posted) s.tx }

-- to each target in port order, or to nobody
abbrev pub spread : Plan → Tag → List ℕ → List ℕ → World → World
spread plan t frame [] w = record w { seats = at_number t.guest (noted (entry.Lost t)) w.seats }
spread plan t frame (to ∷ tos) w = fold (reaches plan t frame) w (to ∷ tos)

-- a frame with its verdict: only one that is sent moves; it is posted as captured, and its wire form goes to its targets
abbrev pub sent_by : Plan → ℕ → Sent → Sending → World → World
sent_by plan g posted (sending.Sent a q k) w = spread plan (record { guest = g; activation = a; queue = q; place = k }) (wire_form posted) (targets (wiring plan.guests) g (wire_form posted)) (record w { seats = at_number g (transmitted a q posted) w.seats })
sent_by plan g posted sending.Down w = w
sent_by plan g posted sending.Short w = w
sent_by plan g posted sending.TooLong w = w

-- the frame of a number, if there is one
abbrev pub sends : Plan → ℕ → GuestPlan → Option Captured → World → World
sends plan g p None w = w
sends plan g p (Some c) w = sent_by plan g c.posted (verdict_on p c) w

-- the actions of number n, in order
abbrev pub acted : ℕ → GuestPlan → ℕ → Seat → Seat
acted port g n s = fold (λ s a. done port g a.deed s) s (filter (λ a. nat_eq a.at n) g.script)

-- a guest's turn at a number
abbrev pub turn_of : Plan → ℕ → ℕ → Option GuestPlan → World → World
turn_of plan n g None w = w
turn_of plan n g (Some p) w = sends plan g p (slice_get (captured p) n) (record w { seats = at_number g (acted g p n) w.seats })

-- guest g at number n: its actions, then its frame
abbrev pub turn : Plan → ℕ → ℕ → World → World
turn plan n g w = turn_of plan n g (slice_get plan.guests g) w

-- the first g guests in port order
unfoldable pub turns : Plan → ℕ → ℕ → World → World
turns plan n zero w = w
turns plan n (suc g) w = turn plan n g (turns plan n g w)

-- the first n captured numbers
unfoldable pub rounds : Plan → ℕ → World → World
rounds plan zero w = w
rounds plan (suc n) w = turns plan n (length plan.guests) (rounds plan n w)

-- the greatest number of an action, and 1
abbrev pub last_at : List Action → ℕ
last_at [] = 0
last_at (a ∷ rest) = max (a.at + 1) (last_at rest)

-- the longest capture, or the greatest action's number and 1
abbrev pub last_number : List GuestPlan → ℕ
last_number [] = 0
last_number (g ∷ gs) = max (max (length g.capture.records) (last_at g.script)) (last_number gs)

-- a guest before its first activation
abbrev pub fresh : GuestPlan → Seat
fresh g = record { active = false; setup = first_setup g; begun = 0; seen = 0; entries = []; setups = []; received = []; tx = []; rx = [] }

-- every guest is activated in port order
abbrev pub seats_from : ℕ → List GuestPlan → List Seat
seats_from port [] = []
seats_from port (g ∷ gs) = activated port g (fresh g) ∷ seats_from (port + 1) gs

-- the links from a port to all others
abbrev pub wires_from : ℕ → ℕ → List Wire
wires_from n from = filter (λ l. not (nat_eq l.from l.to)) (map (λ to. record { from = from; to = to; pushed = []; pulled = [] }) (upto 0 n))

-- the world before the first number
abbrev pub start : Plan → World
start plan = record { seats = seats_from 0 plan.guests; wires = flat_map (wires_from (length plan.guests)) (upto 0 (length plan.guests)) }

-- at the end every driver polls, and active guests are quiesced
abbrev pub closed : Seat → Seat
closed s = if s.active then quieted quiesce_dev s else s

-- the world after the last number, closed
unfoldable pub serial_run : Plan → World
serial_run plan = let w = rounds plan (last_number plan.guests) (start plan) in record { seats = map closed w.seats; wires = w.wires }
