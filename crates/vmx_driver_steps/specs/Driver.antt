-- What contracts see of a driver, and what always holds of it.
use Rattle.std.specs.Prelude.{◌≡◌, ℕ, ◌+◌, ◌*◌, ◌<◌, ◌≤◌, true, false, List, [], ◌∷◌, ◌++◌, length, map, filter, flat_map, Option, Some, None, ⊤}
use Rattle.std.specs.List.{AllByRecursion}
use Rattle.vmx_ends.specs.declared.frames.Sent.{Sent}
use Rattle.vmx_ends.specs.Frames.{sent_of}
use Rattle.vmx_ends.specs.Transmit.{TxDriverView, TxDeviceView, TxView, posted}
use Rattle.vmx_ends.specs.Receive.{RxDriverView, RxDeviceView, RxView, used, pieces_of}
use Rattle.vmx_ends.specs.HandedEnds.{ends_handed}
use Rattle.vmx_io.specs.declared.handed.HandedView.{HandedView}
use Rattle.vmx_device_state.specs.ImageSetup.{image_setup}
use Rattle.vmx_device_state.specs.SetupView.{SetupView}
use Rattle.vmx_device_state.specs.DeviceState as state
use Rattle.vmx_device_state.specs.Orders.{order_of}
use Rattle.vmx_device_state.specs.Deals.{Held as HeldEnds, held_of, held_by, deal_by, held_after}
use Rattle.vmx_device_state.specs.declared.order.Order.TheVariants.{Stop}
use Rattle.vmx_device_state.specs.declared.turn.CommandView.{CommandView}
use Rattle.vmx_device_state.specs.declared.turn.Turn.{Turn}
use Rattle.vmx_regs.specs.declared.known.Calls.{Calls}
use Rattle.vmx_regs.specs.declared.known.Masks.{Masks}
use Rattle.vmx_regs.specs.Rule.{sent_by}
use Rattle.vmx_layout.specs.declared.register.TheConstants.{MAX_QUEUES}
use Rattle.vmx_model.specs.declared.limits.TheConstants.{MAX_RECORDS}
use Rattle.vmx_model.specs.declared.guest.GuestPlan.{GuestPlan}
use Rattle.vmx_ends.specs.declared.packet.QueueName.{QueueName}
use Rattle.vmx_model.specs.declared.journal.Received.{Received}
use Rattle.vmx_model.specs.Lists.{Rises, upto}
use Rattle.vmx_model.specs.Plan.{Ask, Captured, asks, ends_by_reset}
use Rattle.vmx_model.specs.QueueSteps.{sent_before}
use Rattle.vmx_model.specs.Account.{queue_names, tx_made, rx_made, from_queue, received_from}
use Rattle.vmx_model.specs.Bags.{EachQueue, Pairwise, AllGotBack, DriverSaysRx, gifts}
use Rattle.vmx_driver_steps.specs.declared.progress.Then.{Then}
use Rattle.vmx_driver_steps.specs.declared.progress.Then.TheVariants.{Rest, Renew, End}
use Rattle.vmx_driver_steps.specs.declared.progress.Stage.{Stage}
use Rattle.vmx_driver_steps.specs.declared.progress.Stage.TheVariants.{Fresh, Active, Stopping, Held, Quiet, Ended}
use Rattle.vmx_driver_steps.specs.declared.progress.Progress.{Progress}
use Rattle.vmx_driver_steps.specs.Progress.{in_hand, count_in, setup_now, asks_left, passes, IsUnderway}

-- A driver: its registers' side, its ends, the device's where it has them, the facts of the queues whose ends have met, and what it handed up.
pub record DriverView : Type 0 where
  pub guest : ℕ
  pub plan : GuestPlan
  pub at : Progress
  pub key : List ℕ
  pub calls : Calls
  pub masks : Masks
  pub tx : List TxDriverView
  pub rx : List RxDriverView
  pub tx_held : List TxDeviceView
  pub rx_held : List RxDeviceView
  pub tx_facts : List TxView
  pub rx_facts : List RxView
  pub received : List Received

-- a queue of an activation of guest g
abbrev pub name_of : ℕ → ℕ → ℕ → QueueName
name_of g a q = record { guest = g; activation = a; queue = q }

-- a captured frame as it is posted
abbrev pub posted_as : Captured → Sent
posted_as c = c.posted

-- ------------------------------------------------------------ ends

-- a transmit end has posted the frames that go on its queue, up to a captured number
pub record SendsPlan (g : ℕ) (p : GuestPlan) (a next : ℕ) (q : ℕ) (d : TxDriverView) : Type 0 where
  pub made : d.made ≡ tx_made p (name_of g a q)
  pub sent : d.sent ≡ map posted_as (sent_before p a q next)
  pub reaped : d.reaped ≤ length d.sent
  pub posted : posted d ≤ 16 * length d.sent

-- what a receive end has received was handed up
pub record HandsUp (g : ℕ) (p : GuestPlan) (a : ℕ) (received : List Received) (q : ℕ) (d : RxDriverView) : Type 0 where
  pub made : d.made ≡ rx_made p (name_of g a q)
  pub handed : filter (from_queue a q) received ≡ received_from a q 0 d.received
  pub positions : used pieces_of d.received ≤ 16 * length d.received

-- two ends of one queue, the device's with no frame taken and not completed
pub record AreOneTx (d : TxDriverView) (e : TxDeviceView) : Type 0 where
  pub key : d.key ≡ e.key
  pub idle : e.completed ≡ length e.taken
  pub even : e.notes_given ≡ e.notes_heard

pub record AreOneRx (d : RxDriverView) (e : RxDeviceView) : Type 0 where
  pub key : d.key ≡ e.key
  pub even : e.notes_given ≡ e.notes_heard

-- the same, where notes went both ways since the device gave its end back
pub record IsHeldTx (d : TxDriverView) (e : TxDeviceView) : Type 0 where
  pub one : AreOneTx d e
  pub told : e.completed ≤ d.heard

pub record IsHeldRx (d : RxDriverView) (e : RxDeviceView) : Type 0 where
  pub one : AreOneRx d e
  pub told : length e.delivered ≤ length d.heard

-- the device's ends of these queues, as they are held: none stands over given words
abbrev pub other_ends : List TxDriverView → List RxDriverView → HeldEnds
other_ends tx rx = record { keys = map (λ (d : TxDriverView). d.key) tx ++ map (λ (d : RxDriverView). d.key) rx; tx = length tx; rx = length rx; given = false }

-- the device's ends are in hand in this stage alone
abbrev pub AreHeld : Stage → List TxDriverView → List RxDriverView → List TxDeviceView → List RxDeviceView → Type 0
AreHeld (Held t) tx rx txs rxs = Pairwise IsHeldTx tx txs × Pairwise IsHeldRx rx rxs
AreHeld Fresh tx rx txs rxs = (txs ≡ []) × (rxs ≡ [])
AreHeld Active tx rx txs rxs = (txs ≡ []) × (rxs ≡ [])
AreHeld (Stopping t) tx rx txs rxs = (txs ≡ []) × (rxs ≡ [])
AreHeld Quiet tx rx txs rxs = (txs ≡ []) × (rxs ≡ [])
AreHeld Ended tx rx txs rxs = (txs ≡ []) × (rxs ≡ [])

-- before a quiesce all posted frames are reaped; else a scripted reset ends the activation
abbrev pub IsReady : Then → GuestPlan → ℕ → List TxDriverView → Type 0
IsReady Rest p a tx = AllByRecursion (λ (d : TxDriverView). d.reaped ≡ length d.sent) tx
IsReady End p a tx = AllByRecursion (λ (d : TxDriverView). d.reaped ≡ length d.sent) tx
IsReady Renew p a tx = ends_by_reset p a ≡ true

abbrev pub IsParting : Stage → GuestPlan → ℕ → List TxDriverView → Type 0
IsParting (Stopping t) p a tx = IsReady t p a tx
IsParting (Held t) p a tx = IsReady t p a tx
IsParting Fresh p a tx = ⊤
IsParting Active p a tx = ⊤
IsParting Quiet p a tx = ⊤
IsParting Ended p a tx = ⊤

-- ------------------------------------------------------------ facts

-- a transmit queue's facts, where the driver stands at this captured number
pub record SentPlan (p : GuestPlan) (next : ℕ) (f : TxView) : Type 0 where
  pub made : f.made ≡ tx_made p f.made.name
  pub sent : f.sent ≡ map posted_as (sent_before p f.made.name.activation f.made.name.queue next)
  pub met : (rest : List Sent) × (sent_of f.taken ++ rest ≡ f.sent)
  pub reaped : f.reaped ≡ f.completed
  pub whole : ends_by_reset p f.made.name.activation ≡ false → length f.taken ≡ length f.sent

-- ------------------------------------------------------------ commands

abbrev pub ask_by : CommandView → Ask
ask_by c = record { number = c.number; setup = image_setup c.image }

-- the device's state once the commands so far are answered
abbrev pub state_in : Stage → SetupView → state.DeviceState
state_in Active s = state.Active s
state_in Fresh s = state.Idle
state_in (Stopping t) s = state.Idle
state_in (Held t) s = state.Idle
state_in Quiet s = state.Idle
state_in Ended s = state.Idle

-- and the ends that it holds
abbrev pub held_in : Stage → HeldEnds → Option HeldEnds
held_in Active ends = Some ends
held_in Fresh ends = None
held_in (Stopping t) ends = None
held_in (Held t) ends = None
held_in Quiet ends = None
held_in Ended ends = None

-- where the turns lead, and the command that is to be answered, with 0
abbrev pub Leads : List Turn → Option CommandView → state.DeviceState → Option HeldEnds → Type 0
Leads past None d held = (state.state_after past ≡ d) × (held_after past ≡ held)
Leads past (Some c) d held =
    (state.set_answer (state.state_after past) c.number c.image (state.counts_of c.ends) ≡ Some 0)
    × (state.after_order (order_of c.number) (state.state_after past) c.image ≡ d)
    × (held_by (deal_by (order_of c.number)) (held_after past) (held_of c.ends) ≡ held)

-- a command other than a quiesce or a reset, or none
abbrev pub IsNoStop : Option CommandView → Type 0
IsNoStop None = ⊤
IsNoStop (Some c) = order_of c.number ≡ Stop → ⊥

-- a device that is asked to give its ends back holds these
abbrev pub GivesBack : Stage → List Turn → Option CommandView → HeldEnds → Type 0
GivesBack (Stopping t) past o ends = (held_after past ≡ Some ends) × (c : CommandView) × (o ≡ Some c) × (order_of c.number ≡ Stop) × (c.ends ≡ None)
GivesBack (Held t) past o ends = o ≡ None
GivesBack Fresh past o ends = o ≡ None
GivesBack Active past o ends = IsNoStop o
GivesBack Quiet past o ends = IsNoStop o
GivesBack Ended past o ends = o ≡ None

pub record Commands (p : GuestPlan) (s : Progress) (ends : HeldEnds) (v : Calls) : Type 0 where
  pub sent : map ask_by (sent_by v) ++ asks_left p s ≡ asks p
  pub zero : AllByRecursion (λ (t : Turn). t.answer.value ≡ 0) v.turns
  pub leads : Leads v.turns v.asked (state_in s.stage (setup_now p s)) (held_in s.stage ends)
  pub gives : GivesBack s.stage v.turns v.asked ends

-- the bag of the ends in hand
abbrev pub bag_in : Stage → List TxDeviceView → List RxDeviceView → List HandedView
bag_in (Held t) tx rx = ends_handed tx rx ∷ []
bag_in Fresh tx rx = []
bag_in Active tx rx = []
bag_in (Stopping t) tx rx = []
bag_in Quiet tx rx = []
bag_in Ended tx rx = []

-- ------------------------------------------------------------ all

pub record Keeps (v : DriverView) : Type 0 where
  pub under : IsUnderway v.plan v.at
  pub tx_count : length v.tx ≡ count_in v.at.stage v.plan.setup.tx_queues
  pub rx_count : length v.rx ≡ count_in v.at.stage v.plan.setup.rx_queues
  pub tx : EachQueue (SendsPlan v.guest v.plan v.at.ended v.at.next) 0 v.tx
  pub rx : EachQueue (HandsUp v.guest v.plan v.at.ended v.received) 0 v.rx
  pub held : AreHeld v.at.stage v.tx v.rx v.tx_held v.rx_held
  pub parting : IsParting v.at.stage v.plan v.at.ended v.tx
  pub commands : Commands v.plan v.at (other_ends v.tx v.rx) v.calls
  pub bags : List HandedView
  pub bags_are : length bags ≡ v.at.ended
  pub gifts_are : gifts v.calls.turns ≡ bags ++ bag_in v.at.stage v.tx_held v.rx_held
  pub got_back : AllGotBack v.guest 0 bags v.tx_facts v.rx_facts
  pub tx_names : map (λ (f : TxView). f.made.name) v.tx_facts ≡ flat_map (queue_names v.guest v.plan.setup.tx_queues) (upto 0 v.at.ended)
  pub rx_names : map (λ (f : RxView). f.made.name) v.rx_facts ≡ flat_map (queue_names v.guest v.plan.setup.rx_queues) (upto 0 v.at.ended)
  pub tx_facts : AllByRecursion (SentPlan v.plan v.at.next) v.tx_facts
  pub rx_facts : AllByRecursion (λ (f : RxView). DriverSaysRx v.plan v.received f) v.rx_facts
  pub owned : AllByRecursion (λ (x : Received). (x.activation < v.at.ended + in_hand v.at.stage) × (x.queue < v.plan.setup.rx_queues)) v.received
  pub rising : Rises (λ (x y : Received). x.activation ≤ y.activation) v.received
  -- no frame so far goes in an activation that is still to come
  pub none_yet : (a q : ℕ) → v.at.ended + in_hand v.at.stage ≤ a → sent_before v.plan a q v.at.next ≡ []

-- the driver stands at an action, at a frame that is sent, or at the end
abbrev pub IsSettled : DriverView → Type 0
IsSettled v = passes v.plan v.at ≡ false

-- all that always holds of a driver with this setup
pub record Runs (v : DriverView) (s : SetupView) : Type 0 where
  pub keeps : Keeps v
  pub settled : IsSettled v
  pub setup : s ≡ setup_now v.plan v.at
  pub short : length v.plan.capture.records ≤ MAX_RECORDS
  pub interrupts : MAX_QUEUES + MAX_QUEUES < v.calls.interrupts
