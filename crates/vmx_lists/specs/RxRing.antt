-- The rule of the table. Word 0 is the number of frames delivered, word 1 that of frames received. There are as many slots as ring 1 has buffers, n, and the frame of the place p lies in the slot p % n.
use Rattle.std.specs.Prelude.{◌≡◌, ℕ, suc, ◌+◌, ◌%◌, ◌<◌, ◌≤◌, List, [], ◌∷◌, length, take, Bool, true, false, slice_index, All}
use mathlib.Core.Option.{some}
use mathlib.Core.Option as maybe
use mathlib.Core.List.{IsPrefix}
use lib.ListN.{get_elem?}
use Rattle.atomic_table.specs.Table.{State}
use Rattle.vmx_ends.specs.declared.made.RxMade.{RxMade}
use Rattle.vmx_ends.specs.declared.frames.Delivery.{Delivery}
use Rattle.vmx_ends.specs.Receive.{used, took1, took2, posted1, posted2}
use Rattle.vmx_ends.specs.Frames.{IsFrame, longer}
use Rattle.vmx_ends.specs.ReceiveClauses.{IsRefusal, made_of, no_made}
use Rattle.vmx_ends.specs.declared.made.RxShape.{RxShape}
use Rattle.vmx_ring_laws.specs.Views.{total}
use Rattle.vmx_lists.specs.declared.rx.log.RxLog.{RxLog}
use Rattle.vmx_lists.specs.declared.rx.log.RxParcel.{RxParcel}

-- a parcel is a frame that was delivered
pub record Shows (d : Delivery) (x : RxParcel) : Type 0 where
  pub frame : take x.len x.bytes.items ≡ d.frame
  pub meta : x.meta ≡ d.meta
  pub passed : x.passed ≡ d.passed
  pub pieces : x.pieces ≡ length d.chain

-- Each supply: what the frames took is at most what is posted where the first `taken` of them were received.
pub record Ring (m : RxMade) (n : ℕ) (words : List ℕ) (homes : List (maybe.Option RxParcel)) (delivered : List Delivery) (taken : ℕ) (writing reading : Bool) : Type 0 where
  pub some_slot : 0 < n
  pub sized : m.size1 ≡ n
  pub filled : m.full ≡ true
  pub as_many_slots : length homes ≡ n
  pub two_words : length words ≡ 2
  pub behind : taken ≤ length delivered
  pub within1 : used took1 delivered ≤ posted1 m (take taken delivered)
  pub within2 : used took2 delivered ≤ posted2 m (take taken delivered)
  pub frames : All (λ d. IsFrame d.frame) delivered
  pub each_takes : (t : ℕ) → t ≤ length delivered → length delivered + used took1 (take t delivered) ≤ used took1 delivered + t
  pub room : writing ≡ true → length delivered < taken + n
  pub there : reading ≡ true → taken < length delivered
  pub delivered_word : slice_index words 0 ≡ length delivered
  pub received_word : slice_index words 1 ≡ taken
  pub in_slot : (p : ℕ) (d : Delivery) → taken ≤ p → get_elem? delivered p ≡ some d → (p ≡ taken → reading ≡ false) → (x : RxParcel) × (get_elem? homes (p % n) ≡ some (some x)) × Shows d x
  pub free_slot : (p : ℕ) → length delivered ≤ p → p < taken + n → (p ≡ length delivered → writing ≡ false) → (x : RxParcel) × (get_elem? homes (p % n) ≡ some (some x))

-- All that was done, and by which seats.
pub record Story : Type 0 where
  pub made : RxMade
  pub slots : ℕ
  pub device : ℕ
  pub driver : ℕ
  pub delivered : List Delivery
  pub taken : ℕ
  pub writing : Bool
  pub reading : Bool
  pub device_given : ℕ
  pub device_heard : ℕ
  pub driver_given : ℕ
  pub driver_heard : ℕ

abbrev pub ahead : Bool → ℕ → ℕ
ahead false t = t
ahead true t = suc t

-- the device's part of a view, and the driver's, which has the frame that it takes out already
pub record Devices (y : Story) (seat : ℕ) (v : RxLog) : Type 0 where
  pub seat_is : seat ≡ y.device
  pub made_is : v.made ≡ y.made
  pub told_is : v.latest_made ≡ y.made
  pub delivered_is : v.delivered ≡ y.delivered
  pub busy_is : v.busy ≡ y.writing
  pub given_is : v.device_given ≡ y.device_given
  pub heard_is : v.device_heard ≡ y.device_heard
  pub refusals : All (IsRefusal v.made) v.refused

pub record Drivers (y : Story) (seat : ℕ) (v : RxLog) : Type 0 where
  pub seat_is : seat ≡ y.driver
  pub made_is : v.made ≡ y.made
  pub told_is : v.latest_made ≡ y.made
  pub received_is : v.received ≡ take (ahead y.reading y.taken) y.delivered
  pub busy_is : v.busy ≡ y.reading
  pub given_is : v.driver_given ≡ y.driver_given
  pub heard_is : v.driver_heard ≡ y.driver_heard

pub record Fits (y : Story) (seat : ℕ) (v : RxLog) : Type 0 where
  pub device's : v.delivers ≡ true → Devices y seat v
  pub driver's : v.receives ≡ true → Drivers y seat v
  pub seen : v.seen ≤ y.taken
  pub heard_delivered : IsPrefix v.heard_delivered y.delivered
  pub heard_received : IsPrefix v.heard_received (take y.taken y.delivered)
  pub latest : IsPrefix v.latest y.delivered
  pub of_device : v.tells_delivered ≡ true → v.made ≡ y.made
  pub of_driver : v.tells_received ≡ true → v.made ≡ y.made
  pub told : (v.told1 ≤ posted1 y.made (take y.taken y.delivered)) × (v.told2 ≤ posted2 y.made (take y.taken y.delivered))

abbrev pub one_if : Bool → ℕ
one_if true = 1
one_if false = 0

-- a view that is a note which was not heard
abbrev pub by_device : RxLog → ℕ
by_device v = one_if v.tells_delivered

abbrev pub by_driver : RxLog → ℕ
by_driver v = one_if v.tells_received

pub record Queue (s : State RxParcel RxLog) : Type 0 where
  pub story : Story
  pub ring : Ring story.made story.slots s.words s.homes story.delivered story.taken story.writing story.reading
  pub each : (seat : ℕ) (v : RxLog) → get_elem? s.views seat ≡ some v → Fits story seat v
  -- each note that was given is out, or was heard
  pub device_notes : total by_device s.views + story.driver_heard ≡ story.device_given
  pub driver_notes : total by_driver s.views + story.device_heard ≡ story.driver_given

abbrev pub nobody : RxLog
nobody = record {
  delivers = false;
  receives = false;
  busy = false;
  made = no_made;
  delivered = [];
  received = [];
  refused = [];
  looks = [];
  missed = [];
  seen = 0;
  heard_delivered = [];
  heard_received = [];
  latest = [];
  latest_made = no_made;
  told1 = 0;
  told2 = 0;
  tells_delivered = false;
  tells_received = false;
  device_given = 0;
  device_heard = 0;
  driver_given = 0;
  driver_heard = 0;
}

abbrev pub newcomer : RxShape → RxLog
newcomer shape = record nobody { delivers = true; receives = true; made = made_of shape; latest_made = made_of shape }

abbrev pub device_part : RxLog → RxLog
device_part v = record v { receives = false }

abbrev pub driver_part : RxLog → RxLog
driver_part v = record v { delivers = false }

-- the driver's seat takes in the device's
abbrev pub together : RxLog → RxLog → RxLog
together v w = record v { delivers = true; delivered = w.delivered; refused = w.refused; looks = w.looks; latest_made = w.made; device_given = w.device_given; device_heard = w.device_heard }

abbrev pub gave_device : RxLog → RxLog
gave_device v = record v { device_given = suc v.device_given }

abbrev pub device_slip : RxLog → RxLog
device_slip v = record nobody { made = v.made; heard_delivered = v.delivered; told1 = posted1 v.made (take v.seen v.delivered); told2 = posted2 v.made (take v.seen v.delivered); tells_delivered = true }

abbrev pub gave_driver : RxLog → RxLog
gave_driver v = record v { driver_given = suc v.driver_given }

abbrev pub driver_slip : RxLog → RxLog
driver_slip v = record nobody { made = v.made; heard_received = v.received; tells_received = true }

-- the driver hears the device's note, and the device the driver's
abbrev pub hears_device : RxLog → RxLog → RxLog
hears_device v w = record v { driver_heard = suc v.driver_heard; heard_delivered = longer v.heard_delivered w.heard_delivered; latest = w.heard_delivered; latest_made = w.made; told1 = w.told1; told2 = w.told2 }

abbrev pub hears_driver : RxLog → RxLog → RxLog
hears_driver v w = record v { device_heard = suc v.device_heard; heard_received = longer v.heard_received w.heard_received; latest = w.heard_received; latest_made = w.made }

-- the view of a badge
abbrev pub known : List RxLog → RxLog
known [] = nobody
known (v ∷ vs) = v
