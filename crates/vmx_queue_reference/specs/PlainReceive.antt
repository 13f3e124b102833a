-- A plain receive queue as a state of the core, and what its calls answer.
use Rattle.std.specs.Prelude.{ℕ, ◌+◌, ◌≡◌, ◌<◌, ◌≤◌, List, [], ◌∷◌, ◌++◌, length, map, Option, Some, None, slice_index_or}
use Rattle.vmx_layout.specs.declared.TheConstants.{RX_DESC_GENERATION_BIT}
use Rattle.vmx_ends.specs.Words.{missed_word}
use Rattle.vmx_ends.specs.Core.{Outcome, takes, misses}
use Rattle.vmx_ends.specs.ReceiveClauses.{made_of, ring_size}
use Rattle.vmx_ends.specs.ReceiveCore.{RxCore, delivers, receives, comes_to, after}
use Rattle.vmx_ends.specs.declared.made.RxMade.{RxMade}
use Rattle.vmx_ends.specs.declared.meta.RxMeta.{RxMeta}
use Rattle.vmx_queue_reference.specs.declared.rx.PlainRx.{PlainRx}
use Rattle.vmx_queue_reference.specs.declared.rx.RxFrame.{RxFrame}
use Rattle.vmx_queue_reference.specs.declared.rx.Received.{Received}
use Rattle.vmx_queue_reference.specs.declared.rx.Delivered.{Delivered}
use Rattle.vmx_queue_reference.specs.declared.rx.Delivered.TheVariants.{Done, NoBuffer}
use Rattle.vmx_queue_reference.specs.PlainSupplies.{deliveries}

-- a refused look, with the word of a form that keeps no descriptors
abbrev pub as_look : RxMade → ℕ × ℕ → ℕ × ℕ × ℕ
as_look m at = (at.0, at.1, missed_word RX_DESC_GENERATION_BIT (ring_size m at.0) at.1)

abbrev pub rx_core : PlainRx → RxCore
rx_core q = let m : RxMade = made_of q.shape in record { made = m; delivered = deliveries q.delivered; received = q.received; refused = map (as_look m) q.refused }

-- the walk finds a buffer for each piece
abbrev pub IsThrough : Outcome → Type 0
IsThrough (takes passed end) = Unit {0}
IsThrough (misses ring position looks) = ⊥

-- the walk ends at a position that it needs and that has no buffer
abbrev pub IsShort : Outcome → ℕ → ℕ → Type 0
IsShort (takes passed end) ring at = ⊥
IsShort (misses r position looks) ring at = (ring ≡ r) × (at ≡ position)

-- the buffers of a frame leave the fronts of the supplies, and it goes last in the delivered list
pub record LaysFrame (old : PlainRx) (new : PlainRx) : Type 0 where
  pub last : RxFrame
  pub delivered : new.delivered ≡ old.delivered ++ last ∷ []
  pub one : last.one ++ new.one.buffers ≡ old.one.buffers
  pub two : last.two ++ new.two.buffers ≡ old.two.buffers

-- a delivery is done where the walk goes through, and else refused where it falls short
abbrev pub Delivers : PlainRx → List ℕ → RxMeta → Delivered → PlainRx → Type 0
Delivers old frame meta (Done place) new =
    IsThrough (comes_to (rx_core old) (length frame)) × (place ≡ length old.delivered) × LaysFrame old new × (rx_core new ≡ after (rx_core old) (delivers frame meta))
Delivers old frame meta (NoBuffer ring position look) new =
    IsShort (comes_to (rx_core old) (length frame)) ring position × (look ≡ length old.refused) × (rx_core new ≡ after (rx_core old) (delivers frame meta))

-- the frame of a place is handed up, and its buffers go to the ends of the supplies in the order in which they left
pub record ReceivesFrame (old : PlainRx) (into : List ℕ) (r : Received) (new : PlainRx) : Type 0 where
  pub next : r.place ≡ old.received
  pub frame : RxFrame
  pub there : frame ≡ slice_index_or old.delivered old.received frame
  pub bytes : into ≡ frame.frame
  pub meta : r.meta ≡ frame.meta
  pub count : r.descriptors ≡ frame.passed + length frame.chain
  pub one : new.one.buffers ≡ old.one.buffers ++ frame.one
  pub two : new.two.buffers ≡ old.two.buffers ++ frame.two
  pub core : rx_core new ≡ after (rx_core old) receives

abbrev pub Receives : PlainRx → List ℕ → Option Received → PlainRx → Type 0
Receives old into (Some r) new = (old.received < length old.delivered) × ReceivesFrame old into r new
Receives old into None new = (length old.delivered ≤ old.received) × (into ≡ []) × (rx_core new ≡ after (rx_core old) receives)
