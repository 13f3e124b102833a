-- A device's ends as lists of numbers, which determine what the ends did.
use Rattle.std.specs.Prelude.{ℕ, ◌==◌, ◌&&◌, ◌||◌, List, [], ◌∷◌, ◌++◌, length, map, Bool, true, false, Option, Some, None}
use Rattle.vmx_io.specs.declared.handed.HandedView.{HandedView}
use Rattle.vmx_ends.specs.Transmit.{TxDeviceView}
use Rattle.vmx_ends.specs.Receive.{RxDeviceView}
use Rattle.vmx_ends.specs.declared.meta.TxMark.{TxMark}
use Rattle.vmx_ends.specs.declared.frames.Taken.{Taken}
use Rattle.vmx_ends.specs.declared.frames.Delivery.{Delivery}

-- each item's numbers, one after the other
abbrev pub numbers : {X : Type 0} → (X → List ℕ) → List X → List ℕ
numbers f [] = []
numbers f (x ∷ xs) = f x ++ numbers f xs

-- a frame with its length first, so that it ends by itself
abbrev pub frame_numbers : List ℕ → List ℕ
frame_numbers bytes = length bytes ∷ bytes

-- a tag's two bytes, or none; either way it ends by itself
abbrev pub tci_numbers : Option ℕ → List ℕ
tci_numbers None = 0 ∷ []
tci_numbers (Some tci) = 1 ∷ tci ∷ []

abbrev pub mark_numbers : TxMark → List ℕ
mark_numbers m = m.om ∷ m.hlen ∷ m.msscof ∷ tci_numbers m.tci

abbrev pub taken_numbers : Taken → List ℕ
taken_numbers t = t.descriptors ∷ (mark_numbers t.sent.mark ++ frame_numbers t.sent.frame)

abbrev pub spot_numbers : ℕ × ℕ → List ℕ
spot_numbers spot = spot.0 ∷ spot.1 ∷ []

abbrev pub delivery_numbers : Delivery → List ℕ
delivery_numbers d = d.meta.hash ∷ d.meta.kind ∷ d.passed ∷ length d.chain ∷ (tci_numbers d.meta.tci ++ (numbers spot_numbers d.chain ++ frame_numbers d.frame))

abbrev pub look_numbers : ℕ × ℕ × ℕ → List ℕ
look_numbers look = look.0 ∷ look.1 ∷ look.2 ∷ []

-- the completed number and the taken frames of a transmit end
abbrev pub tx_numbers : TxDeviceView → List ℕ
tx_numbers v = v.completed ∷ numbers taken_numbers v.taken

-- the delivered frames with their meta, and the refused looks, of a receive end
abbrev pub rx_numbers : RxDeviceView → List ℕ
rx_numbers v = length v.delivered ∷ (numbers delivery_numbers v.delivered ++ numbers look_numbers v.refused)

abbrev pub all_of : {X : Type 0} → (X → Bool) → List X → Bool
all_of f [] = true
all_of f (x ∷ xs) = f x && all_of f xs

abbrev pub any_of : {X : Type 0} → (X → Bool) → List X → Bool
any_of f [] = false
any_of f (x ∷ xs) = f x || any_of f xs

-- no frame is taken and not completed, and each note that was given was answered by one that was heard
abbrev pub is_whole_tx : TxDeviceView → Bool
is_whole_tx v = (v.completed == length v.taken) && (v.notes_given == v.notes_heard)

abbrev pub is_whole_rx : RxDeviceView → Bool
is_whole_rx v = v.notes_given == v.notes_heard

-- nothing was taken, completed, delivered or refused
abbrev pub is_fresh_tx : TxDeviceView → Bool
is_fresh_tx v = (length v.taken == 0) && (v.completed == 0)

abbrev pub is_fresh_rx : RxDeviceView → Bool
is_fresh_rx v = (length v.delivered == 0) && (length v.refused == 0)

-- the transmit ends, and behind them the receive ends
abbrev pub ends_handed : List TxDeviceView → List RxDeviceView → HandedView
ends_handed tx rx = record {
  keys = map (λ v. v.key) tx ++ map (λ v. v.key) rx;
  lists = map tx_numbers tx ++ map rx_numbers rx;
  tx = length tx;
  rx = length rx;
  given = any_of (λ v. v.given) tx || any_of (λ v. v.given) rx;
  whole = all_of is_whole_tx tx && all_of is_whole_rx rx;
  fresh = all_of is_fresh_tx tx && all_of is_fresh_rx rx;
}

-- the device's ends of a guest's queues, each list by the queue's number
pub record EndsView : Type 0 where
  pub tx : List TxDeviceView
  pub rx : List RxDeviceView

-- what a bag tells of them
abbrev pub handed_of : EndsView → HandedView
handed_of e = ends_handed e.tx e.rx
