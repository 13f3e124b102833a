-- Words for those who move frames between the two ends of a queue.
use Rattle.std.specs.Prelude.{ℕ, suc, ◌^◌, ◌≡◌, ◌<◌, ◌≤◌, List, [], ◌∷◌, ◌++◌, length, Bool, true, if◌then◌else◌}
use mathlib.Core.List.{IsPrefix}
use Rattle.vmx_ends.specs.declared.limits.TheConstants.{MIN_PIECE, MIN_PIECE_WITH_DATA}
use Rattle.vmx_ends.specs.Frames.{longer, larger, sent_of}
use Rattle.vmx_ends.specs.TransmitClauses as tx
use Rattle.vmx_ends.specs.ReceiveClauses as rx
use Rattle.vmx_ends.specs.Receive.{RxDriverView, RxDeviceView, RxView, used, pieces_of, consumed1, consumed2}
use Rattle.vmx_ends.specs.Transmit.{TxDriverView, TxDeviceView, TxView, posted, found_in}
use Rattle.vmx_ends.specs.declared.made.TxMade.{TxMade}
use Rattle.vmx_ends.specs.declared.made.RxMade.{RxMade}
use Rattle.vmx_ends.specs.declared.packet.QueueName.{QueueName}

-- What notes both ways change of an end: it knows what the other did, and each gave a note and heard one.
abbrev pub driver_passed : TxDriverView → TxDeviceView → TxDriverView
driver_passed d e = record d { heard = larger d.heard e.completed; notes_given = suc d.notes_given; notes_heard = suc d.notes_heard }

abbrev pub device_passed : TxDeviceView → TxDriverView → TxDeviceView
device_passed e d = record e { heard = longer e.heard d.sent; notes_given = suc e.notes_given; notes_heard = suc e.notes_heard }

abbrev pub driver_passed_rx : RxDriverView → RxDeviceView → RxDriverView
driver_passed_rx d e = record d { heard = longer d.heard e.delivered; notes_given = suc d.notes_given; notes_heard = suc d.notes_heard }

abbrev pub device_passed_rx : RxDeviceView → RxDriverView → RxDeviceView
device_passed_rx e d = record e { heard = longer e.heard d.received; notes_given = suc e.notes_given; notes_heard = suc e.notes_heard }

-- every sent frame is taken, completed and reaped
abbrev pub IsCaughtUp : TxDriverView → TxDeviceView → Type 0
IsCaughtUp d e = (sent_of e.taken ≡ d.sent) × (e.completed ≡ length e.taken) × (d.reaped ≡ length d.sent)

-- there is room for the numbers of one more frame
abbrev pub IsSmall : TxDriverView → TxDeviceView → Type 0
IsSmall d e = (length d.sent < 2 ^ 60) × (posted d < 2 ^ 60) × (length e.taken < 2 ^ 60) × (found_in e.taken < 2 ^ 60)

-- every delivered frame is received, and the device knows it
abbrev pub IsCaughtUpRx : RxDriverView → RxDeviceView → Type 0
IsCaughtUpRx d e = (d.received ≡ e.delivered) × (length d.received ≤ length e.heard) × IsPrefix e.heard e.delivered

abbrev pub IsSmallRx : RxDriverView → RxDeviceView → Type 0
IsSmallRx d e = (length e.delivered < 2 ^ 60) × (length e.refused < 2 ^ 60) × (consumed1 e < 2 ^ 60) × (consumed2 e < 2 ^ 60) × (used pieces_of d.received < 2 ^ 60)

-- the queues of a guest from the number q on
abbrev pub queue_name : ℕ → ℕ → ℕ → QueueName
queue_name guest activation q = record { guest = guest; activation = activation; queue = q }

abbrev pub made_tx : QueueName → ℕ → ℕ → Bool → TxMade
made_tx name size piece with_data = record { name = name; size = size; piece = piece; with_data = with_data; full = true }

-- the least size of a piece: with a data ring a frame has at most 16 pieces from 640 bytes on
abbrev pub least_piece : Bool → ℕ
least_piece with_data = if with_data then MIN_PIECE_WITH_DATA else MIN_PIECE

-- queue by queue, the two new ends of a queue that is made so, the first with the number q
abbrev pub AreNewQueues : (ℕ → TxMade) → ℕ → List TxDriverView → List TxDeviceView → Type 0
AreNewQueues made q [] [] = Unit {0}
AreNewQueues made q (d ∷ ds) (e ∷ es) = tx.AreNew (made q) d e × AreNewQueues made (suc q) ds es
AreNewQueues made q ds es = ⊥

-- queue by queue, two ends of one queue that may meet
abbrev pub MayMeet : List TxDriverView → List TxDeviceView → Type 0
MayMeet [] [] = Unit {0}
MayMeet (d ∷ ds) (e ∷ es) = (d.key ≡ e.key) × tx.IsIdle e × tx.AreEven d e × MayMeet ds es
MayMeet ds es = ⊥

-- queue by queue, what is left of two ends that met
abbrev pub AreFactsOf : List TxView → List TxDriverView → List TxDeviceView → Type 0
AreFactsOf [] [] [] = Unit {0}
AreFactsOf (f ∷ fs) (d ∷ ds) (e ∷ es) = (f ≡ tx.facts_of d e) × (d.made ≡ e.made) × tx.IsOrdered f × AreFactsOf fs ds es
AreFactsOf fs ds es = ⊥

-- behind the facts that were there stand those of the ends that met
pub record Met (before now : List TxView) (ds : List TxDriverView) (es : List TxDeviceView) : Type 0 where
  pub more : List TxView
  pub is : now ≡ before ++ more
  pub facts : AreFactsOf more ds es

-- the same of receive queues
abbrev pub AreNewRxQueues : (ℕ → RxMade) → ℕ → List RxDriverView → List RxDeviceView → Type 0
AreNewRxQueues made q [] [] = Unit {0}
AreNewRxQueues made q (d ∷ ds) (e ∷ es) = rx.AreNew (made q) d e × AreNewRxQueues made (suc q) ds es
AreNewRxQueues made q ds es = ⊥

abbrev pub MayMeetRx : List RxDriverView → List RxDeviceView → Type 0
MayMeetRx [] [] = Unit {0}
MayMeetRx (d ∷ ds) (e ∷ es) = (d.key ≡ e.key) × rx.AreEven d e × MayMeetRx ds es
MayMeetRx ds es = ⊥

abbrev pub AreRxFactsOf : List RxView → List RxDriverView → List RxDeviceView → Type 0
AreRxFactsOf [] [] [] = Unit {0}
AreRxFactsOf (f ∷ fs) (d ∷ ds) (e ∷ es) = (f ≡ rx.facts_of d e) × (d.made ≡ e.made) × rx.IsOrdered f × AreRxFactsOf fs ds es
AreRxFactsOf fs ds es = ⊥

pub record MetRx (before now : List RxView) (ds : List RxDriverView) (es : List RxDeviceView) : Type 0 where
  pub more : List RxView
  pub is : now ≡ before ++ more
  pub facts : AreRxFactsOf more ds es
