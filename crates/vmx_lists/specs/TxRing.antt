-- The rule of a transmit queue's table. Word 0 is the number of frames posted, word 1 that of frames completed. There are as many slots as the ring has descriptors, n, and the frame of the place p lies in the slot p % n.
use Rattle.std.specs.Prelude.{◌≡◌, ℕ, suc, ◌+◌, ◌%◌, ◌<◌, ◌≤◌, List, [], ◌∷◌, length, take, drop, Bool, true, false, slice_index, All}
use mathlib.Core.Option.{some}
use mathlib.Core.Option as maybe
use mathlib.Core.List.{IsPrefix}
use lib.ListN.{get_elem?}
use Rattle.atomic_table.specs.Table.{State}
use Rattle.vmx_ring_laws.specs.Views.{total}
use Rattle.vmx_ends.specs.declared.made.TxMade.{TxMade}
use Rattle.vmx_ends.specs.declared.frames.Sent.{Sent}
use Rattle.vmx_ends.specs.declared.frames.Taken.{Taken}
use Rattle.vmx_ends.specs.Frames.{IsMarked, longer, larger, sent_of}
use Rattle.vmx_ends.specs.Transmit.{descriptors, found_in}
use Rattle.vmx_ends.specs.TransmitClauses.{no_made}
use Rattle.vmx_lists.specs.declared.tx.log.TxLog.{TxLog}
use Rattle.vmx_lists.specs.declared.tx.log.TxParcel.{TxParcel}

-- a parcel holds a frame that was sent, with its mark
pub record Shows (s : Sent) (x : TxParcel) : Type 0 where
  pub frame : take x.len x.bytes.items ≡ s.frame
  pub mark : x.mark ≡ s.mark

abbrev pub AtHome : List (maybe.Option TxParcel) → ℕ → Type 0
AtHome homes i = (x : TxParcel) × (get_elem? homes i ≡ some (some x))

-- The numbers in order, no more descriptors in use than there are, and the slots: each from the first frame that is not reaped on is at home but the one that the driver fills and the one that the device empties, and those of frames not yet taken show them.
pub record Ring (m : TxMade) (n : ℕ) (words : List ℕ) (homes : List (maybe.Option TxParcel)) (sent : List Sent) (taken : List Taken) (completed reaped : ℕ) (filling emptying : Bool) : Type 0 where
  pub some_slot : 0 < n
  pub sized : m.size ≡ n
  pub full : m.full ≡ true
  pub piece : 0 < m.piece
  pub as_many_slots : length homes ≡ n
  pub two_words : length words ≡ 2
  pub reaped_first : reaped ≤ completed
  pub completed_first : completed ≤ length taken
  pub one_ahead : length taken ≤ suc completed
  pub taken_first : length taken ≤ length sent
  pub taken_is : sent_of taken ≡ take (length taken) sent
  pub exact : found_in taken ≡ descriptors m (sent_of taken)
  pub frames : All (λ s. IsMarked s.frame s.mark) sent
  pub within : descriptors m (drop reaped sent) ≤ m.size
  pub room : filling ≡ true → length sent < reaped + n
  pub out : emptying ≡ true → completed < length taken
  pub posted_word : slice_index words 0 ≡ length sent
  pub completed_word : slice_index words 1 ≡ completed
  pub at_home : (p : ℕ) → reaped ≤ p → p < reaped + n → (p ≡ length sent → filling ≡ false) → (suc p ≡ length taken → emptying ≡ false) → AtHome homes (p % n)
  pub shows : (p : ℕ) (s : Sent) → length taken ≤ p → get_elem? sent p ≡ some s → (x : TxParcel) × (get_elem? homes (p % n) ≡ some (some x)) × Shows s x

-- all that was done, and by which seats
pub record Story : Type 0 where
  pub made : TxMade
  pub slots : ℕ
  pub driver : ℕ
  pub device : ℕ
  pub sent : List Sent
  pub taken : List Taken
  pub completed : ℕ
  pub reaped : ℕ
  pub filling : Bool
  pub emptying : Bool
  pub driver_given : ℕ
  pub driver_heard : ℕ
  pub device_given : ℕ
  pub device_heard : ℕ

-- the driver's part of a view, and the device's
pub record Drivers (y : Story) (seat : ℕ) (v : TxLog) : Type 0 where
  pub seat_is : seat ≡ y.driver
  pub made_is : v.made ≡ y.made
  pub told_is : v.latest_made ≡ y.made
  pub sent_is : v.sent ≡ y.sent
  pub reaped_is : v.reaped ≡ y.reaped
  pub busy_is : v.filling ≡ y.filling
  pub given_is : v.driver_given ≡ y.driver_given
  pub heard_is : v.driver_heard ≡ y.driver_heard

pub record Devices (y : Story) (seat : ℕ) (v : TxLog) : Type 0 where
  pub seat_is : seat ≡ y.device
  pub made_is : v.made ≡ y.made
  pub told_is : v.latest_made ≡ y.made
  pub taken_is : v.taken ≡ y.taken
  pub completed_is : v.completed ≡ y.completed
  pub busy_is : v.emptying ≡ y.emptying
  pub given_is : v.device_given ≡ y.device_given
  pub heard_is : v.device_heard ≡ y.device_heard

pub record Fits (y : Story) (seat : ℕ) (v : TxLog) : Type 0 where
  pub driver's : v.sends ≡ true → Drivers y seat v
  pub device's : v.takes ≡ true → Devices y seat v
  pub heard_sent : IsPrefix v.heard_sent y.sent
  pub heard_completed : v.heard_completed ≤ y.completed
  pub latest : IsPrefix v.latest y.sent
  pub latest_done : v.latest_done ≤ y.completed
  pub of_driver : v.tells_sent ≡ true → v.made ≡ y.made
  pub of_device : v.tells_taken ≡ true → v.made ≡ y.made

abbrev pub one_if : Bool → ℕ
one_if true = 1
one_if false = 0

-- a view that is a note which was not heard
abbrev pub by_driver : TxLog → ℕ
by_driver v = one_if v.tells_sent

abbrev pub by_device : TxLog → ℕ
by_device v = one_if v.tells_taken

pub record Queue (s : State TxParcel TxLog) : Type 0 where
  pub story : Story
  pub ring : Ring story.made story.slots s.words s.homes story.sent story.taken story.completed story.reaped story.filling story.emptying
  pub each : (seat : ℕ) (v : TxLog) → get_elem? s.views seat ≡ some v → Fits story seat v
  -- each note that was given is out, or was heard
  pub driver_notes : total by_driver s.views + story.device_heard ≡ story.driver_given
  pub device_notes : total by_device s.views + story.driver_heard ≡ story.device_given

-- a seat that has given all that it had to another
abbrev pub nobody : TxLog
nobody = record {
  sends = false;
  takes = false;
  filling = false;
  emptying = false;
  made = no_made;
  sent = [];
  reaped = 0;
  taken = [];
  completed = 0;
  reap_looks = [];
  take_looks = [];
  heard_sent = [];
  heard_completed = 0;
  latest = [];
  latest_done = 0;
  latest_made = no_made;
  tells_sent = false;
  tells_taken = false;
  driver_given = 0;
  driver_heard = 0;
  device_given = 0;
  device_heard = 0;
}

abbrev pub newcomer : TxMade → TxLog
newcomer m = record nobody { sends = true; takes = true; made = m; latest_made = m }

abbrev pub driver_part : TxLog → TxLog
driver_part v = record v { takes = false }

abbrev pub device_part : TxLog → TxLog
device_part v = record v { sends = false }

-- the driver's seat takes in the device's
abbrev pub together : TxLog → TxLog → TxLog
together v w = record v { takes = true; taken = w.taken; completed = w.completed; emptying = w.emptying; latest_made = w.made; device_given = w.device_given; device_heard = w.device_heard }

abbrev pub gave_driver : TxLog → TxLog
gave_driver v = record v { driver_given = suc v.driver_given }

abbrev pub driver_slip : TxLog → TxLog
driver_slip v = record nobody { made = v.made; latest = v.sent; latest_done = v.reaped; tells_sent = true }

abbrev pub gave_device : TxLog → TxLog
gave_device v = record v { device_given = suc v.device_given }

abbrev pub device_slip : TxLog → TxLog
device_slip v = record nobody { made = v.made; latest = sent_of v.taken; latest_done = v.completed; tells_taken = true }

-- the driver hears the device's note, and the device the driver's
abbrev pub hears_device : TxLog → TxLog → TxLog
hears_device v w = record v { driver_heard = suc v.driver_heard; heard_completed = larger v.heard_completed w.latest_done; latest = w.latest; latest_done = w.latest_done; latest_made = w.made }

abbrev pub hears_driver : TxLog → TxLog → TxLog
hears_driver v w = record v { device_heard = suc v.device_heard; heard_sent = longer v.heard_sent w.latest; latest = w.latest; latest_done = w.latest_done; latest_made = w.made }

-- the view of a badge
abbrev pub known : List TxLog → TxLog
known [] = nobody
known (v ∷ vs) = v
