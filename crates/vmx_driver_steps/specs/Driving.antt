-- What the calls of a driver do to what contracts see.
use Rattle.std.specs.Prelude.{◌≡◌, ℕ, suc, ◌+◌, ◌-◌, ◌<◌, ◌≤◌, ◌⊎◌, List, [], ◌∷◌, ◌++◌, length, slice_set, slice_index_or, Option, Some, None, slice_get, Bool, false, if◌then◌else◌, ◌==◌}
use Rattle.std.specs.List.{AllByRecursion}
use Rattle.vmx_io.specs.declared.handed.HandedView.{HandedView}
use Rattle.vmx_layout.specs.Command.{number_of}
use Rattle.vmx_layout.specs.declared.command.Command.TheVariants.{ActivateDev}
use Rattle.vmx_ends.specs.Transmit.{TxDriverView, TxDeviceView, TxView, need, used}
use Rattle.vmx_ends.specs.Receive.{RxDriverView, RxDeviceView, RxView}
use Rattle.vmx_ends.specs.HandedEnds.{ends_handed}
use Rattle.vmx_ends.specs.Queues.{AreFactsOf, AreRxFactsOf}
use Rattle.vmx_pcap.specs.declared.records.Stamped.{Stamped}
use Rattle.vmx_device_state.specs.ImageSetup.{image_setup}
use Rattle.vmx_device_state.specs.declared.turn.CommandView.{CommandView}
use Rattle.vmx_device_state.specs.declared.turn.AnswerView.{AnswerView}
use Rattle.vmx_regs.specs.declared.known.Calls.{Calls}
use Rattle.vmx_regs.specs.declared.known.Masks.{Masks}
use Rattle.vmx_regs.specs.Masks.{mask_word, writing}
use Rattle.vmx_regs.specs.Rule.{last_value, word_of, looking}
use Rattle.vmx_model.specs.declared.guest.GuestPlan.{GuestPlan}
use Rattle.vmx_model.specs.declared.journal.Received.{Received}
use Rattle.vmx_model.specs.Wire.{posted_form, tx_queue}
use Rattle.vmx_model.specs.Bags.{Pairwise}
use Rattle.vmx_model.specs.QueueSteps.{sent_before}
use Rattle.vmx_driver_steps.specs.declared.progress.Then.{Then}
use Rattle.vmx_driver_steps.specs.declared.progress.Progress.{Progress}
use Rattle.vmx_driver_steps.specs.declared.progress.Stage.{Stage}
use Rattle.vmx_driver_steps.specs.declared.progress.Stage.TheVariants.{Fresh, Active, Stopping, Held, Quiet, Ended}
use Rattle.vmx_driver_steps.specs.Progress.{setup_now}
use Rattle.vmx_driver_steps.specs.Driver.{DriverView}
use Rattle.vmx_driver_steps.specs.Hints.{index_of, rung_tx, rung_rx, unmasked, Looked}
use Rattle.vmx_driver_steps.specs.Queues.{IsReaped, PassedAllTx, PassedAllRx}
use Rattle.vmx_driver_steps.specs.Receiving.{UpNext, IsEmptied}
use Rattle.vmx_driver_steps.specs.Parting.{after}
use Rattle.vmx_driver_steps.specs.Making.{NewTxs, NewRxs}

-- ------------------------------------------------------------ the start

-- a driver before its first act
abbrev pub new_progress : Progress
new_progress = record { stage = Fresh; done = 0; next = 0; ended = 0; closed = false }

abbrev pub new_driver : ℕ → GuestPlan → List ℕ → Calls → Masks → DriverView
new_driver guest plan key calls masks = record { guest = guest; plan = plan; at = new_progress; key = key; calls = calls; masks = masks; tx = []; rx = []; tx_held = []; rx_held = []; tx_facts = []; rx_facts = []; received = [] }

-- ------------------------------------------------------------ frames

-- no frame from one captured number up to another is sent
pub record PassesOver (p : GuestPlan) (from to : ℕ) : Type 0 where
  pub up : from ≤ to
  pub none : (a q : ℕ) → sent_before p a q to ≡ sent_before p a q from

-- each transmit end took back what was completed, until a look found no more
pub record ReapsAll (old new : DriverView) : Type 0 where
  pub tx : Pairwise IsReaped old.tx new.tx
  pub is : new ≡ record old { tx = new.tx }

-- how many frames of an end are not reaped, and of all ends
abbrev pub left_on : TxDriverView → ℕ
left_on d = length d.sent - d.reaped

abbrev pub unreaped : List TxDriverView → ℕ
unreaped [] = 0
unreaped (d ∷ ds) = left_on d + unreaped ds

-- all that was posted is reaped
abbrev pub AreReaped : List TxDriverView → Type 0
AreReaped tx = AllByRecursion (λ (d : TxDriverView). d.reaped ≡ length d.sent) tx

-- the next frame is posted last on its queue, and no other queue is touched; its doorbell has the number of frames there
pub record PostsNext (old new : DriverView) : Type 0 where
  pub frame : Stamped
  pub there : slice_get old.plan.capture.records old.at.next ≡ Some frame
  pub end : TxDriverView
  pub at : end ≡ slice_index_or old.tx (tx_queue frame.frame old.plan.setup.tx_queues) end
  pub is : new ≡ record old {
    at = record old.at { next = new.at.next };
    masks = rung_tx old.calls.interrupts (tx_queue frame.frame old.plan.setup.tx_queues) (index_of (length end.sent + 1)) old.masks;
    tx = slice_set old.tx (tx_queue frame.frame old.plan.setup.tx_queues) (record end { sent = end.sent ++ posted_form old.plan frame.frame ∷ [] });
  }
  pub over : PassesOver old.plan (old.at.next + 1) new.at.next

-- the ring of the next frame's queue has fewer free descriptors than it needs, and nothing is changed
pub record FindsFull (old new : DriverView) : Type 0 where
  pub frame : Stamped
  pub there : slice_get old.plan.capture.records old.at.next ≡ Some frame
  pub end : TxDriverView
  pub at : end ≡ slice_index_or old.tx (tx_queue frame.frame old.plan.setup.tx_queues) end
  pub full : end.made.size < used end + need end.made (length frame.frame)
  pub is : new ≡ old

-- an act where a frame is due: first every transmit end is reaped
pub record PostsFrame (old new : DriverView) : Type 0 where
  pub mid : DriverView
  pub reaps : ReapsAll old mid
  pub posts : PostsNext mid new

pub record WaitsForRoom (old new : DriverView) : Type 0 where
  pub mid : DriverView
  pub reaps : ReapsAll old mid
  pub full : FindsFull mid new

-- ------------------------------------------------------------ commands

-- a look found no answer but that to the command before, and no note told of one
pub record LooksOnce (old new : DriverView) : Type 0 where
  pub word : ℕ
  pub missed : word ≡ word_of (length old.calls.turns) (last_value old.calls.turns)
  pub unheard : length old.calls.heard_served ≤ length old.calls.turns
  pub is : new ≡ record old { calls = looking old.calls (length old.calls.turns) word }

-- whether the command that is outstanding asks the device to take ends
abbrev pub is_opening : Option CommandView → Bool
is_opening None = false
is_opening (Some c) = c.number == number_of ActivateDev

-- the device's ends came back, and notes went both ways between the two ends of each queue
pub record TakesBack (t : Then) (ends : Option HandedView) (old new : DriverView) : Type 0 where
  pub stage : new.at.stage ≡ Held t
  pub txs : List TxDeviceView
  pub rxs : List RxDeviceView
  pub handed : ends ≡ Some (ends_handed txs rxs)
  pub tx : PassedAllTx old.tx txs new.tx new.tx_held
  pub rx : PassedAllRx old.rx rxs new.rx new.rx_held

-- no end moved
pub record KeepsEnds (old new : DriverView) : Type 0 where
  pub stage : new.at.stage ≡ old.at.stage
  pub tx : (new.tx ≡ old.tx) × (new.tx_held ≡ old.tx_held)
  pub rx : (new.rx ≡ old.rx) × (new.rx_held ≡ old.rx_held)

-- an answer brings ends where a quiesce or a reset was sent
abbrev pub TakesEnds : Stage → Option HandedView → DriverView → DriverView → Type 0
TakesEnds (Stopping t) ends old new = TakesBack t ends old new
TakesEnds Fresh ends old new = KeepsEnds old new
TakesEnds Active ends old new = KeepsEnds old new
TakesEnds (Held t) ends old new = KeepsEnds old new
TakesEnds Quiet ends old new = KeepsEnds old new
TakesEnds Ended ends old new = KeepsEnds old new

-- the answer was taken: one turn more, and the ends that it brings are in hand; after that to an activation all interrupts are unmasked, one for each queue and one for events
pub record TakesAnswer (old new : DriverView) : Type 0 where
  pub command : CommandView
  pub answer : AnswerView
  pub asked : old.calls.asked ≡ Some command
  pub calls : new.calls ≡ record old.calls { turns = old.calls.turns ++ record { command = command; answer = answer } ∷ []; asked = None }
  pub zero : answer.value ≡ 0
  pub at : new.at ≡ record old.at { stage = new.at.stage }
  pub ends : TakesEnds old.at.stage answer.ends old new
  pub masks : new.masks ≡ (if is_opening old.calls.asked then unmasked (old.plan.setup.tx_queues + old.plan.setup.rx_queues + 1) old.masks else old.masks)
  pub received : new.received ≡ old.received
  pub facts : (new.tx_facts ≡ old.tx_facts) × (new.rx_facts ≡ old.rx_facts)
  pub same : (new.guest ≡ old.guest) × (new.plan ≡ old.plan) × (new.key ≡ old.key)

-- a command is sent with the setup in force in its image, and with no ends
abbrev pub asking : Calls → ℕ → List ℕ → Option HandedView → Calls
asking v number image ends = record v { asked = Some (record { number = number; image = image; ends = ends }) }

-- a quiesce or a reset is sent
pub record StopsBy (number : ℕ) (t : Then) (done : ℕ) (old new : DriverView) : Type 0 where
  pub image : List ℕ
  pub setup : image_setup image ≡ setup_now old.plan new.at
  pub is : new ≡ record old { at = record old.at { stage = Stopping t; done = done }; calls = asking old.calls number image None }

-- an update is sent, with the setup as its deed leaves it
pub record UpdatesBy (number done : ℕ) (old new : DriverView) : Type 0 where
  pub image : List ℕ
  pub setup : image_setup image ≡ setup_now old.plan new.at
  pub is : new ≡ record old { at = record old.at { done = done; next = new.at.next }; calls = asking old.calls number image None }
  pub over : PassesOver old.plan old.at.next new.at.next

-- an activation is sent with the device's ends of new queues, which are named by the number of the activation
pub record ActivatesWith (done : ℕ) (old new : DriverView) : Type 0 where
  pub image : List ℕ
  pub setup : image_setup image ≡ setup_now old.plan new.at
  pub txs : List TxDeviceView
  pub rxs : List RxDeviceView
  pub tx : NewTxs old.guest old.plan old.at.ended 0 new.tx txs
  pub rx : NewRxs old.guest old.plan old.at.ended 0 new.rx rxs
  pub is : new ≡ record old { at = record old.at { stage = Active; done = done; next = new.at.next }; calls = asking old.calls (number_of ActivateDev) image (Some (ends_handed txs rxs)); tx = new.tx; rx = new.rx }
  pub over : PassesOver old.plan old.at.next new.at.next

-- ------------------------------------------------------------ polls and the meeting

-- a queue handed up its next frame, and its doorbells have the number of frames received
pub record HandsNext (interrupts a q : ℕ) (d d' : RxDriverView) (x : Received) (m m' : Masks) : Type 0 where
  pub up : UpNext a q d d' x
  pub bells : m' ≡ rung_rx interrupts q (index_of (length d.received + 1)) m

-- a look found no frame, and the queue's interrupt, which is behind those of transmit queues, was unmasked
pub record FindsNoFrame (tx q : ℕ) (d d' : RxDriverView) (m m' : Masks) : Type 0 where
  pub none : IsEmptied d d'
  pub unmasked : m' ≡ writing m (mask_word (tx + q)) false

abbrev pub PolledOne : ℕ → ℕ → ℕ → ℕ → RxDriverView → RxDriverView → List Received → Masks → Masks → Type 0
PolledOne interrupts tx a q d d' one m m' = ((x : Received) × (one ≡ x ∷ []) × HandsNext interrupts a q d d' x m m') ⊎ ((one ≡ []) × FindsNoFrame tx q d d' m m')

-- queue by queue, in order, the first with the number q
abbrev pub Polls : ℕ → ℕ → ℕ → ℕ → List RxDriverView → List RxDriverView → List Received → Masks → Masks → Type 0
Polls interrupts tx a q [] [] up m m' = (up ≡ []) × (m' ≡ m)
Polls interrupts tx a q (d ∷ ds) (d' ∷ ds') up m m' =
    (one : List Received) × (rest : List Received) × (mid : Masks) × (up ≡ one ++ rest) × PolledOne interrupts tx a q d d' one m mid × Polls interrupts tx a (suc q) ds ds' rest mid m'
Polls interrupts tx a q ds ds' up m m' = ⊥

-- a poll hands up so many frames
pub record PollsAll (old : DriverView) (n : ℕ) (new : DriverView) : Type 0 where
  pub up : List Received
  pub count : n ≡ length up
  pub mid : Masks
  pub looked : Looked old.calls.interrupts old.masks mid
  pub polls : Polls old.calls.interrupts old.plan.setup.tx_queues old.at.ended 0 old.rx new.rx up mid new.masks
  pub is : new ≡ record old { masks = new.masks; rx = new.rx; received = old.received ++ up }

-- the ends of each queue have met, and frames that are not sent are passed over
pub record MeetsAll (t : Then) (old new : DriverView) : Type 0 where
  pub tx : List TxView
  pub rx : List RxView
  pub met_tx : AreFactsOf tx old.tx old.tx_held
  pub met_rx : AreRxFactsOf rx old.rx old.rx_held
  pub is : new ≡ record old { at = record old.at { stage = after t; ended = old.at.ended + 1; next = new.at.next }; tx = []; rx = []; tx_held = []; rx_held = []; tx_facts = old.tx_facts ++ tx; rx_facts = old.rx_facts ++ rx }
  pub over : PassesOver old.plan old.at.next new.at.next

-- an act where the driver holds both ends of its queues: it reaps, and hands up a frame of each queue that has one
pub record HandsUpSome (old new : DriverView) : Type 0 where
  pub mid : DriverView
  pub reaps : ReapsAll old mid
  pub up : ℕ
  pub some : 0 < up
  pub polls : PollsAll mid up new

-- or it finds that nothing is left, and lets them meet
pub record MeetsEmpty (t : Then) (old new : DriverView) : Type 0 where
  pub mid : DriverView
  pub reaps : ReapsAll old mid
  pub emptied : DriverView
  pub polls : PollsAll mid 0 emptied
  pub meets : MeetsAll t emptied new
