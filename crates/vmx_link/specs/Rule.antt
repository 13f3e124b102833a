-- The rule of a link's table, which holds between any two steps. The table has as many words as slots, n of them: a ring of n cells.
use Rattle.std.specs.Prelude.{◌≡◌, ℕ, suc, ◌+◌, ◌*◌, ◌/◌, ◌<◌, List, length, take, Option, Some, None, Bool, true, false, slice_index}
use mathlib.Core.Option.{some}
use mathlib.Core.Option as maybe
use mathlib.Core.List.{IsPrefix}
use lib.ListN.{get_elem?}
use Rattle.atomic_table.specs.Table.{State}
use Rattle.vmx_ring_laws.specs.Lap.{Lap}
use Rattle.vmx_ring_laws.specs.Views.{All, total}
use Rattle.vmx_ends.specs.declared.packet.Packet.{Packet}
use Rattle.vmx_link.specs.declared.known.Known.{Known}

-- a packet in a slot; at home, where no seat has taken it out
abbrev pub Slot : Type 0
Slot = maybe.Option (Option Packet)

-- what one index of the ring shows: the word, and what is at home in the slot
abbrev pub shown : List ℕ → List Slot → ℕ → ℕ × maybe.Option Slot
shown words homes i = (slice_index words i, get_elem? homes i)

-- the cell of position p has the packet x: the word is odd, and the packet is at home unless the receiver is just taking it
abbrev pub IsFilled : ℕ → Bool → ℕ → ℕ → Packet → ℕ × maybe.Option Slot → Type 0
IsFilled n reading taken p x c = (c.0 ≡ 2 * (p / n) + 1) × ((p ≡ taken → reading ≡ false) → c.1 ≡ some (some (Some x)))

-- the cell is free for the packet of position p: the word is even, and nothing is in the slot unless the sender is just filling it
abbrev pub IsFree : ℕ → Bool → ℕ → ℕ → ℕ × maybe.Option Slot → Type 0
IsFree n writing next p c = (c.0 ≡ 2 * (p / n)) × ((p ≡ next → writing ≡ false) → c.1 ≡ some (some None))

-- The ring holds the packets pushed, from the first that is not taken on. While a slot is out with the sender there is room, and while one is out with the receiver there is a packet.
pub record Ring (n : ℕ) (words : List ℕ) (homes : List Slot) (pushed : List Packet) (taken : ℕ) (writing reading : Bool) : Type 0 where
  pub as_many_words : length words ≡ n
  pub as_many_slots : length homes ≡ n
  pub lap : Lap n (shown words homes) (IsFilled n reading taken) (IsFree n writing (length pushed)) pushed taken
  pub room : writing ≡ true → length pushed < taken + n
  pub there : reading ≡ true → taken < length pushed

-- all that was done, and by which seats
pub record Story : Type 0 where
  pub slots : ℕ
  pub sender : ℕ
  pub receiver : ℕ
  pub pushed : List Packet
  pub taken : ℕ
  pub writing : Bool
  pub reading : Bool
  pub sender_gave : ℕ
  pub sender_heard : ℕ
  pub receiver_gave : ℕ
  pub receiver_heard : ℕ

-- how many packets the receiver has, which has the one that it is just taking already
abbrev pub had : Bool → ℕ → ℕ
had false taken = taken
had true taken = suc taken

-- the sender knows what was pushed
pub record IsSender (y : Story) (seat : ℕ) (v : Known) : Type 0 where
  pub seat_is : seat ≡ y.sender
  pub pushed_is : v.pushed ≡ y.pushed
  pub busy_is : v.busy ≡ y.writing
  pub gave_is : v.sender_gave ≡ y.sender_gave
  pub heard_is : v.sender_heard ≡ y.sender_heard

-- what was pulled is a prefix of what was pushed, and the receiver knows it
pub record IsReceiver (y : Story) (seat : ℕ) (v : Known) : Type 0 where
  pub seat_is : seat ≡ y.receiver
  pub pulled_is : v.pulled ≡ take (had y.reading y.taken) y.pushed
  pub busy_is : v.busy ≡ y.reading
  pub gave_is : v.receiver_gave ≡ y.receiver_gave
  pub heard_is : v.receiver_heard ≡ y.receiver_heard

-- what was told of packets pushed and pulled is true
pub record IsTrueNews (all : List Packet) (taken : ℕ) (pushed pulled : List Packet) : Type 0 where
  pub of_pushed : IsPrefix pushed all
  pub of_pulled : IsPrefix pulled (take taken all)

-- what a seat knows is true
pub record Fits (y : Story) (seat : ℕ) (v : Known) : Type 0 where
  pub sender's : v.sends ≡ true → IsSender y seat v
  pub receiver's : v.receives ≡ true → IsReceiver y seat v
  pub heard : IsTrueNews y.pushed y.taken v.heard_pushed v.heard_pulled
  pub last : IsTrueNews y.pushed y.taken v.last_pushed v.last_pulled

abbrev pub one_if : Bool → ℕ
one_if true = 1
one_if false = 0

abbrev pub of_sender : Known → ℕ
of_sender v = one_if v.tells_pushed

abbrev pub of_receiver : Known → ℕ
of_receiver v = one_if v.tells_pulled

-- The ring stands for what was done, each seat fits it, and each note that was given is out in one seat or was heard once
pub record Kept (y : Story) (s : State (Option Packet) Known) : Type 0 where
  pub ring : Ring y.slots s.words s.homes y.pushed y.taken y.writing y.reading
  pub each : All (Fits y) s.views
  pub sender_told : total of_sender s.views + y.receiver_heard ≡ y.sender_gave
  pub receiver_told : total of_receiver s.views + y.sender_heard ≡ y.receiver_gave

-- the rule
pub record Link (s : State (Option Packet) Known) : Type 0 where
  pub story : Story
  pub kept : Kept story s
