-- What becomes of a frame that came over a link.
use Rattle.std.specs.Prelude.{◌≡◌, ◌<◌, ◌⊎◌, ◌+◌, ℕ, List, length, Some, None}
use Rattle.vmx_frame.specs.Ethernet.{class_of}
use Rattle.vmx_filters.specs.declared.answer.Rule.{Rule}
use Rattle.vmx_filters.specs.declared.answer.Verdict.TheVariants as verdict
use Rattle.vmx_shared_area.specs.declared.stats.Side.TheVariants.{Rx}
use Rattle.vmx_ends.specs.declared.answers.EndFault.{EndFault}
use Rattle.vmx_ends.specs.declared.answers.Deliver.TheVariants as answer
use Rattle.vmx_device_state.specs.SetupView.{SetupView}
use Rattle.vmx_regs.specs.declared.known.Masks.{Masks}
use Rattle.vmx_machine_state.specs.declared.statistics.Count.TheVariants.{Frame, NoBuffer, Error}
use Rattle.vmx_machine_state.specs.Statistics.{after_count}
use Rattle.vmx_machine_state.specs.Stopped.{error_on, error_of, after_stop}
use Rattle.vmx_machine_state.specs.Views.{MachineView, ActiveView}
use Rattle.vmx_model.specs.declared.journal.Fate.{Fate}
use Rattle.vmx_model.specs.declared.journal.Fate.TheVariants as fate
use Rattle.vmx_model.specs.Setups.{admits}
use Rattle.vmx_model.specs.Wire.{rx_choice, rx_queue}
use Rattle.vmx_model.specs.Meta.{delivered_as}
use Rattle.vmx_device_looks.specs.Interrupts.{Signals, Alarms, masks_itself}
use Rattle.vmx_device_looks.specs.Looks.{MayDeliver, DeliversAs}
use Rattle.vmx_device_looks.specs.declared.arrivals.Admission.{Admission}
use Rattle.vmx_device_looks.specs.declared.arrivals.Admission.TheVariants as admission
use Rattle.vmx_device_looks.specs.declared.arrivals.Terms.{Terms}
use Rattle.vmx_device_looks.specs.declared.events.TheConstants.{RX_ERROR_EVENT}

-- the terms of a delivery under a setup: queue, hash and kind of the frame's flow, whether its tag is taken out, and which interrupts are raised
pub record AreTerms (s : SetupView) (frame : List ℕ) (t : Terms) : Type 0 where
  pub queue : t.queue ≡ rx_queue s.rss frame
  pub hash : t.hash ≡ (rx_choice s.rss frame).hash
  pub kind : t.kind ≡ (rx_choice s.rss frame).kind
  pub strip : t.strip ≡ s.strip
  pub auto : t.auto ≡ masks_itself s
  pub interrupt : t.interrupt ≡ s.tx_queues + t.queue
  pub event : t.event ≡ s.tx_queues + s.rx_queues
  pub below : t.queue < s.rx_queues

-- the device's state lets the frame in to the queue of its flow
pub record IsLetIn (m : MachineView) (frame : List ℕ) : Type 0 where
  pub active : ActiveView
  pub is_active : m.active ≡ Some active
  pub admitted : admits active.setup m.mac frame ≡ verdict.Yes

-- where a frame goes: an idle device takes none, a filter refuses by its rule, and else it is its flow's queue, which may be stopped
abbrev pub IsWayIn : MachineView → List ℕ → Admission → Type 0
IsWayIn m frame admission.Inactive = m.active ≡ None
IsWayIn m frame (admission.Refused r) = (a : ActiveView) × (m.active ≡ Some a) × (admits a.setup m.mac frame ≡ verdict.No r)
IsWayIn m frame (admission.Stopped q) = (x : IsLetIn m frame) × (q ≡ rx_queue x.active.setup.rss frame) × (q < x.active.setup.rx_queues) × ((e : ℕ) × (error_on Rx m q ≡ Some e))
IsWayIn m frame (admission.To t) = (x : IsLetIn m frame) × AreTerms x.active.setup frame t × (error_on Rx m t.queue ≡ None)

-- one more frame that came up
abbrev pub counted_up : ℕ → List ℕ → MachineView → MachineView
counted_up q frame m = after_count Rx q (Frame (class_of frame) (length frame)) m

-- one error more, by which the queue stops
abbrev pub counted_stop : ℕ → EndFault → MachineView → MachineView
counted_stop q fault m = after_stop Rx q (error_of fault) (after_count Rx q Error m)

-- the frame came up on queue q: it was delivered, counted, and the queue's interrupt was raised
pub record ComesUp (s : SetupView) (activation q : ℕ) (frame : List ℕ) (f : Fate) (old : MachineView) (was : Masks) (new : MachineView) (now : Masks) : Type 0 where
  pub place : ℕ
  pub mid : MachineView
  pub gives : DeliversAs q (delivered_as s frame) (answer.Done place) old mid
  pub is_fate : f ≡ fate.Up activation q place
  pub is : new ≡ counted_up q frame mid
  pub signals : Signals was (s.tx_queues + q) (masks_itself s) now

-- queue q lacked a buffer
pub record LacksBuffer (s : SetupView) (activation q : ℕ) (frame : List ℕ) (f : Fate) (old : MachineView) (was : Masks) (new : MachineView) (now : Masks) : Type 0 where
  pub ring : ℕ
  pub position : ℕ
  pub word : ℕ
  pub look : ℕ
  pub mid : MachineView
  pub gives : DeliversAs q (delivered_as s frame) (answer.NoBuffer ring position word look) old mid
  pub is_fate : f ≡ fate.NoBuffer activation q ring position look
  pub is : new ≡ after_count Rx q NoBuffer mid
  pub masks : now ≡ was

-- the given words of queue q show a fault: the error is counted, the queue stops, and the event of receive errors is set
pub record BreaksDown (s : SetupView) (activation q : ℕ) (frame : List ℕ) (interrupts : ℕ) (f : Fate) (old : MachineView) (was : Masks) (new : MachineView) (now : Masks) : Type 0 where
  pub words : List ℕ
  pub fault : EndFault
  pub mid : MachineView
  pub gives : DeliversAs q (delivered_as s frame) (answer.Bad words fault) old mid
  pub is_fate : f ≡ fate.Stopped activation q
  pub is : new ≡ counted_stop q fault mid
  pub alarms : Alarms interrupts RX_ERROR_EVENT (s.tx_queues + s.rx_queues) (masks_itself s) was now

-- what a delivery to queue q came to
abbrev pub DeliversTo : SetupView → ℕ → ℕ → List ℕ → ℕ → Fate → MachineView → Masks → MachineView → Masks → Type 0
DeliversTo s activation q frame interrupts f old was new now =
    ComesUp s activation q frame f old was new now ⊎ LacksBuffer s activation q frame f old was new now ⊎ BreaksDown s activation q frame interrupts f old was new now

-- an idle device takes no frame
pub record FindsIdle (f : Fate) (old : MachineView) (was : Masks) (new : MachineView) (now : Masks) : Type 0 where
  pub idle : old.active ≡ None
  pub is_fate : f ≡ fate.Inactive
  pub is : new ≡ old
  pub masks : now ≡ was

-- the filter refuses the frame
pub record Refuses (frame : List ℕ) (f : Fate) (old : MachineView) (was : Masks) (new : MachineView) (now : Masks) : Type 0 where
  pub active : ActiveView
  pub is_active : old.active ≡ Some active
  pub rule : Rule
  pub refused : admits active.setup old.mac frame ≡ verdict.No rule
  pub is_fate : f ≡ fate.Filtered rule
  pub is : new ≡ old
  pub masks : now ≡ was

-- the queue of the frame's flow is stopped
pub record FindsStopped (activation : ℕ) (frame : List ℕ) (f : Fate) (old : MachineView) (was : Masks) (new : MachineView) (now : Masks) : Type 0 where
  pub let_in : IsLetIn old frame
  pub below : rx_queue let_in.active.setup.rss frame < let_in.active.setup.rx_queues
  pub error : ℕ
  pub stopped : error_on Rx old (rx_queue let_in.active.setup.rss frame) ≡ Some error
  pub is_fate : f ≡ fate.Stopped activation (rx_queue let_in.active.setup.rss frame)
  pub is : new ≡ old
  pub masks : now ≡ was

-- the queue of the frame's flow is given the frame
pub record GivesFrame (activation : ℕ) (frame : List ℕ) (interrupts : ℕ) (f : Fate) (old : MachineView) (was : Masks) (new : MachineView) (now : Masks) : Type 0 where
  pub let_in : IsLetIn old frame
  pub below : rx_queue let_in.active.setup.rss frame < let_in.active.setup.rx_queues
  pub unstopped : error_on Rx old (rx_queue let_in.active.setup.rss frame) ≡ None
  pub delivers : DeliversTo let_in.active.setup activation (rx_queue let_in.active.setup.rss frame) frame interrupts f old was new now

-- what becomes of a frame, and of machine and interrupts
abbrev pub Handles : ℕ → List ℕ → ℕ → Fate → MachineView → Masks → MachineView → Masks → Type 0
Handles activation frame interrupts f old was new now =
    FindsIdle f old was new now ⊎ Refuses frame f old was new now ⊎ FindsStopped activation frame f old was new now ⊎ GivesFrame activation frame interrupts f old was new now

-- each receive queue of the setup may be given a frame, and all interrupts are there
pub record MayReceive (m : MachineView) (interrupts : ℕ) (a : ActiveView) : Type 0 where
  pub ready : (q : ℕ) → q < a.setup.rx_queues → MayDeliver m q
  pub few : a.setup.tx_queues + a.setup.rx_queues < interrupts
  pub queues : a.setup.rx_queues < 9
