-- What a look from outside finds in a queue: a state that the rule allows, in which the ends did what they show.
use Rattle.std.specs.Prelude.{◌≡◌, ℕ, List, [], ◌++◌, length, Bool, false, None, slice_index}
use Rattle.std.specs.List.{flat_map}
use mathlib.Core.Option.{some}
use lib.ListN.{get_elem?}
use Rattle.atomic_table.specs.Table.{State, Step}
use Rattle.vmx_ends.specs.Receive.{RxDeviceView, RxDriverView, used, took1, took2, pieces_of}
use Rattle.vmx_rx_ring.specs.declared.known.Known.{Known}
use Rattle.vmx_rx_ring.specs.declared.known.Buffer.{Buffer}
use Rattle.vmx_rx_ring.specs.Rule.{Story, Queue}
use Rattle.vmx_rx_ring.specs.Tells.{Seated}

-- the driver did what its end shows, and is between two calls: it posted back the descriptors of the frames that it received
pub record DriverDid (y : Story) (d : RxDriverView) : Type 0 where
  pub made : y.made ≡ d.made
  pub received : y.d.received ≡ d.received
  pub read : y.d.read ≡ used pieces_of d.received
  pub back : (y.d.back1 ≡ used took1 d.received) × (y.d.back2 ≡ used took2 d.received)
  pub rests : y.d.reading ≡ false

-- and so the device
pub record DeviceDid (y : Story) (e : RxDeviceView) : Type 0 where
  pub delivered : y.e.delivered ≡ e.delivered
  pub refused : y.e.refused ≡ e.refused
  pub gone : (y.e.gone1 ≡ used took1 e.delivered) × (y.e.gone2 ≡ used took2 e.delivered)
  pub rests : (y.e.staged ≡ []) × (y.e.opened ≡ []) × (y.e.filling ≡ None)

-- the word with this index of the table, after what the driver did
pub record IsWord (counted : Bool) (d : RxDriverView) (index word : ℕ) : Type 0 where
  pub state : State Buffer Known
  pub allowed : Queue counted state
  pub driver : DriverDid allowed.story d
  pub word_is : word ≡ slice_index state.words index

-- the bytes of a buffer, and then those of its data entry
abbrev pub bytes_of : Buffer → List ℕ
bytes_of b = b.bytes.items ++ b.entry.items

-- all words of the table, and the bytes of all buffers in the order of their slots, after what both ends did
pub record StandsIn (counted : Bool) (d : RxDriverView) (e : RxDeviceView) (words bytes : List ℕ) : Type 0 where
  pub state : State Buffer Known
  pub allowed : Queue counted state
  pub driver : DriverDid allowed.story d
  pub device : DeviceDid allowed.story e
  pub words_are : words ≡ state.words
  pub buffers : List Buffer
  pub as_many : length buffers ≡ length state.homes
  pub at_home : (i : ℕ) (b : Buffer) → get_elem? state.homes i ≡ some (some b) → get_elem? buffers i ≡ some b
  pub bytes_are : bytes ≡ flat_map bytes_of buffers

-- A load that changes nothing finds the word of a state that the rule allows, in which the driver did what it knows.
pub record Seen (counted : Bool) (v : Known) (index r : ℕ) : Type 0 where
  pub state : State Buffer Known
  pub allowed : Queue counted state
  pub made_is : allowed.story.made ≡ v.made
  pub driver_is : allowed.story.d ≡ v.driver
  pub word_is : r ≡ slice_index state.words index

abbrev pub seen_only : Bool → Step Buffer → Seated → ℕ → Seated → Type 0
seen_only counted st m r m' = (m' ≡ m) × Seen counted m.0 st.word r
