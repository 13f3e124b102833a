-- From what a device hands back in its bags, and what its driver's facts say, to what a whole run leaves. The registers tell of a bag its ends' lists of numbers, and these determine what the ends did.
use Rattle.vmx_layout.specs.declared.register.TheConstants.{MAX_QUEUES}
use Rattle.std.specs.Prelude.{◌≡◌, ◌<◌, ◌≤◌, ℕ, suc, true, false, List, [], ◌∷◌, ◌++◌, length, map, filter, filter_map, flat_map, find, if◌then◌else◌, nat_eq, slice_get, Option, Some, None, ⊤}
use Rattle.std.specs.List.{All, AllByRecursion}
use Rattle.vmx_ends.specs.declared.frames.Sent.{Sent}
use Rattle.vmx_ends.specs.declared.frames.Delivery.{Delivery}
use Rattle.vmx_io.specs.declared.handed.HandedView.{HandedView}
use Rattle.vmx_ends.specs.Frames.{sent_of}
use Rattle.vmx_ends.specs.Transmit.{TxDeviceView, TxView}
use Rattle.vmx_ends.specs.Receive.{RxDeviceView, RxView}
use Rattle.vmx_ends.specs.ReceiveClauses.{IsRefusal}
use Rattle.vmx_ends.specs.HandedEnds.{EndsView, handed_of, ends_handed}
use Rattle.vmx_switch.specs.Ports.{Wiring}
use Rattle.vmx_ends.specs.LinkView.{LinkView}
use Rattle.vmx_model.specs.Types.{Plan, GuestPlan, Entry, Received}
use Rattle.vmx_model.specs.Totals.{wiring}
use Rattle.vmx_model.specs.Meta.{arrival_of}
use Rattle.vmx_model.specs.Lists.{count, EachAfter, Rises, upto}
use Rattle.vmx_model.specs.Wire.{wire_form}
use Rattle.vmx_model.specs.Plan.{posted_of, asks, commands, closes, is_set, ends_by_reset}
use Rattle.vmx_device_state.specs.declared.turn.Turn.{Turn}
use Rattle.vmx_device_state.specs.Deals.{Held, Deal, Begins, Stops, Passes, deal_of, held_after_turn}
use Rattle.vmx_model.specs.Journal.{Beside, IsLawfulJournal, needs}
use Rattle.vmx_model.specs.Views.{GuestView, RecordView}
use Rattle.vmx_model.specs.Fates.{entries_at}
use Rattle.vmx_model.specs.Stats.{counted, is_lost_on, rx_counts}
use Rattle.vmx_model.specs.Account.{sends_on, planned, deliveries, need, asked, ask_of, is_set_entry, IsTraffic, names, link_names, tx_made, rx_made, rx_named, from_queue, received_from, beside, PushedOfEnd, SendsOnto, PullsFrom, MetLink}

-- queue by queue, the first with the number q
abbrev pub EachQueue : {X : Type 0} → (ℕ → X → Type 0) → ℕ → List X → Type 0
EachQueue P q [] = ⊤
EachQueue P q (x ∷ xs) = P q x × EachQueue P (suc q) xs

-- queue by queue, two lists of one length
abbrev pub Pairwise : {X Y : Type 0} → (X → Y → Type 0) → List X → List Y → Type 0
Pairwise R [] [] = ⊤
Pairwise R (x ∷ xs) (y ∷ ys) = R x y × Pairwise R xs ys
Pairwise R [] (y ∷ ys) = ⊥
Pairwise R (x ∷ xs) [] = ⊥

-- ------------------------------------------------------------ the bags in which ends come back

-- the ends in an answer's bag, where a device gives up those that it held
abbrev pub gift : Deal → Option Held → Option HandedView → List HandedView
gift Stops (Some h) (Some ends) = ends ∷ []
gift Stops (Some h) None = []
gift Stops None ends = []
gift Passes held ends = []
gift Begins held ends = []

-- of several commands, where a device holds these ends
abbrev pub gifts_from : Option Held → List Turn → List HandedView
gifts_from held [] = []
gifts_from held (t ∷ ts) = gift (deal_of t.command.number t.answer.value) held t.answer.ends ++ gifts_from (held_after_turn held t) ts

-- of all commands: one bag an activation that ended
abbrev pub gifts : List Turn → List HandedView
gifts told = gifts_from None told

-- ------------------------------------------------------------ what a device says of the ends that it hands back

-- a transmit end: what it took went to its targets, as the journal says, and is completed; the packets of its tags have its frames
pub record TookAsSaid (w : Wiring) (b : Beside) (es : List Entry) (a q : ℕ) (v : TxDeviceView) : Type 0 where
  pub sends : sends_on a q es ≡ planned w b.port a q 0 (map wire_form (sent_of v.taken))
  pub completed : v.completed ≡ length v.taken
  pub packets : PushedOfEnd b.links b.port a q (sent_of v.taken)

-- a receive end: what it delivered, and the positions that it lacked, are those of the journal
pub record DeliveredAsSaid (b : Beside) (es : List Entry) (a q : ℕ) (v : RxDeviceView) : Type 0 where
  pub delivered : map arrival_of v.delivered ≡ deliveries b a q [] es
  pub refused : map need v.refused ≡ needs a q es

-- the ends of one activation did what the journal says
pub record HandsBack (w : Wiring) (b : Beside) (es : List Entry) (a : ℕ) (e : EndsView) : Type 0 where
  pub took : EachQueue (TookAsSaid w b es a) 0 e.tx
  pub gave : EachQueue (DeliveredAsSaid b es a) 0 e.rx

-- the ends of several activations, the first with the number a
abbrev pub AllHandBack : Wiring → Beside → List Entry → ℕ → List EndsView → Type 0
AllHandBack w b es a [] = ⊤
AllHandBack w b es a (e ∷ ends) = HandsBack w b es a e × AllHandBack w b es (suc a) ends

-- the frames that the transmit end of queue q took, the first end being queue n's
abbrev pub taken_by : ℕ → ℕ → List TxDeviceView → List (List ℕ)
taken_by q n [] = []
taken_by q n (v ∷ vs) = (if nat_eq n q then map wire_form (sent_of v.taken) else []) ++ taken_by q (suc n) vs

-- over all activations
abbrev pub ends_taken : ℕ → List EndsView → List (List ℕ)
ends_taken q ends = flat_map (λ (e : EndsView). taken_by q 0 e.tx) ends

-- the statistics of eight transmit queues, by what the ends took
abbrev pub ends_counts : List EndsView → List Entry → List (List ℕ)
ends_counts ends es = map (λ q. counted (ends_taken q ends) 0 (count (is_lost_on q) es)) (upto 0 MAX_QUEUES)

-- ------------------------------------------------------------ what a driver says of the ends that it got back

-- the facts of a transmit queue have the lists of the device's end
pub record MetTx (f : TxView) (v : TxDeviceView) : Type 0 where
  pub taken : f.taken ≡ v.taken
  pub completed : f.completed ≡ v.completed

-- the same of a receive queue
pub record MetRx (f : RxView) (v : RxDeviceView) : Type 0 where
  pub delivered : f.delivered ≡ v.delivered
  pub refused : f.refused ≡ v.refused

-- the ends of one activation met the driver's, queue by queue
pub record GotBack (g a : ℕ) (bag : HandedView) (tx : List TxView) (rx : List RxView) : Type 0 where
  pub tx_ends : List TxDeviceView
  pub rx_ends : List RxDeviceView
  pub handed : bag ≡ ends_handed tx_ends rx_ends
  pub met_tx : Pairwise MetTx tx tx_ends
  pub met_rx : Pairwise MetRx rx rx_ends
  pub tx_names : EachQueue (λ q (f : TxView). f.made.name ≡ record { guest = g; activation = a; queue = q }) 0 tx
  pub rx_names : EachQueue (λ q (f : RxView). f.made.name ≡ record { guest = g; activation = a; queue = q }) 0 rx

-- the facts of one activation, and those of the later ones
pub record Parted (g a : ℕ) (bag : HandedView) (tx : List TxView) (rx : List RxView) : Type 0 where
  pub tx_now : List TxView
  pub tx_later : List TxView
  pub rx_now : List RxView
  pub rx_later : List RxView
  pub tx_are : tx ≡ tx_now ++ tx_later
  pub rx_are : rx ≡ rx_now ++ rx_later
  pub got : GotBack g a bag tx_now rx_now

-- the bags of several activations, the first with the number a
abbrev pub AllGotBack : ℕ → ℕ → List HandedView → List TxView → List RxView → Type 0
AllGotBack g a [] tx rx = (tx ≡ []) × (rx ≡ [])
AllGotBack g a (bag ∷ bags) tx rx = (x : Parted g a bag tx rx) × AllGotBack g (suc a) bags x.tx_later x.rx_later

-- ------------------------------------------------------------ what follows of the facts

-- the facts of a transmit queue say what the device's journal says
pub record FactsSayTx (w : Wiring) (b : Beside) (es : List Entry) (f : TxView) : Type 0 where
  pub sends : sends_on f.made.name.activation f.made.name.queue es ≡ planned w b.port f.made.name.activation f.made.name.queue 0 (map wire_form (sent_of f.taken))
  pub completed : f.completed ≡ length f.taken
  pub packets : PushedOfEnd b.links b.port f.made.name.activation f.made.name.queue (sent_of f.taken)

-- the same of a receive queue
pub record FactsSayRx (b : Beside) (es : List Entry) (f : RxView) : Type 0 where
  pub delivered : map arrival_of f.delivered ≡ deliveries b f.made.name.activation f.made.name.queue [] es
  pub refused : map need f.refused ≡ needs f.made.name.activation f.made.name.queue es

-- ------------------------------------------------------------ what the actors of a guest leave

-- what a driver and the meeting of the ends say of a transmit queue's facts
pub record DriverSaysTx (p : GuestPlan) (f : TxView) : Type 0 where
  pub made : f.made ≡ tx_made p f.made.name
  pub sent : f.sent ≡ posted_of p f.made.name.activation f.made.name.queue
  pub met : (rest : List Sent) × (sent_of f.taken ++ rest ≡ f.sent)
  pub reaped : f.reaped ≡ f.completed
  pub whole : ends_by_reset p f.made.name.activation ≡ false → length f.taken ≡ length f.sent

-- the same of a receive queue
pub record DriverSaysRx (p : GuestPlan) (received : List Received) (f : RxView) : Type 0 where
  pub made : f.made ≡ rx_made p f.made.name
  pub met : (rest : List Delivery) × (f.received ++ rest ≡ f.delivered)
  pub drained : length f.received ≡ length f.delivered
  pub looks : All (IsRefusal f.made) f.refused
  pub handed : filter (from_queue f.made.name.activation f.made.name.queue) received ≡ received_from f.made.name.activation f.made.name.queue 0 f.received

-- a device beside which this stands: its journal is lawful, the ends that it handed back did what the journal says, and its statistics are counts of both
pub record DeviceLeaves (w : Wiring) (b : Beside) (v : GuestView) : Type 0 where
  pub lawful : IsLawfulJournal b v.entries v.setups
  pub ends : List EndsView
  pub handed : gifts v.told ≡ map handed_of ends
  pub hands_back : AllHandBack w b v.entries 0 ends
  pub tx_stats : v.tx_stats ≡ ends_counts ends v.entries
  pub rx_stats : v.rx_stats ≡ rx_counts b.links b.port v.entries

-- a driver: its facts are one per activation and queue, with the lists of the ends that it got back
pub record DriverLeaves (g : ℕ) (p : GuestPlan) (v : GuestView) : Type 0 where
  pub tx_names : map (λ (f : TxView). f.made.name) v.tx ≡ names g p p.setup.tx_queues
  pub rx_names : map (λ (f : RxView). f.made.name) v.rx ≡ names g p p.setup.rx_queues
  pub got_back : AllGotBack g 0 (gifts v.told) v.tx v.rx
  pub tx : AllByRecursion (DriverSaysTx p) v.tx
  pub rx : AllByRecursion (DriverSaysRx p v.received) v.rx
  pub received : AllByRecursion (λ (x : Received). (f : RxView) × (find (rx_named x.activation x.queue) v.rx ≡ Some f)) v.received
  pub rising : Rises (λ (x y : Received). x.activation ≤ y.activation) v.received
  pub images : map ask_of (filter (λ (t : Turn). is_set t.command.number) v.told) ≡ asks p

-- both: the commands are the plan's and are answered 0, and traffic stands between the first and the closing one
pub record Agree (p : GuestPlan) (v : GuestView) : Type 0 where
  pub told : filter_map asked v.entries ≡ map (λ (t : Turn). (t.command.number, t.answer.value)) v.told
  pub settings : filter (λ (x : ℕ × ℕ). is_set x.0) (filter_map asked v.entries) ≡ map (λ c. (c, 0)) (commands p)
  pub opens : EachAfter (λ before e. IsTraffic e → 0 < count is_set_entry before) [] v.entries
  pub ends : closes p ≡ true → EachAfter (λ before e. IsTraffic e → count is_set_entry before < length (commands p)) [] v.entries

-- the actors of a guest
pub record GuestActors (plan : Plan) (r : RecordView) (g : ℕ) (p : GuestPlan) (v : GuestView) : Type 0 where
  pub device : DeviceLeaves (wiring plan.guests) (beside r g p v) v
  pub driver : DriverLeaves g p v
  pub both : Agree p v

-- a link: what the devices at its two ends say, and their meeting
pub record LinkActors (r : RecordView) (l : LinkView) : Type 0 where
  pub sends : SendsOnto (entries_at r l.from) l
  pub pulls : PullsFrom (entries_at r l.to) l
  pub meets : MetLink l

-- what the actors of a replay leave
pub record Actors (plan : Plan) (r : RecordView) : Type 0 where
  pub guests : length r.guests ≡ length plan.guests
  pub link_order : map (λ (l : LinkView). (l.from, l.to)) r.links ≡ flat_map (link_names (length plan.guests)) (upto 0 (length plan.guests))
  pub links : AllByRecursion (LinkActors r) r.links
  pub each : (g : ℕ) (p : GuestPlan) (v : GuestView) → slice_get plan.guests g ≡ Some p → slice_get r.guests g ≡ Some v → GuestActors plan r g p v
