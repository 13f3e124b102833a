-- What a look from outside finds in a queue: a state that the rule allows, in which the ends did what they show.
use Rattle.std.specs.Prelude.{◌≡◌, ℕ, List, [], ◌++◌, length, false, slice_index}
use Rattle.std.specs.List.{flat_map}
use mathlib.Core.Option.{some}
use lib.ListN.{get_elem?}
use Rattle.atomic_table.specs.Table.{State}
use Rattle.vmx_ends.specs.Transmit.{TxDriverView, TxDeviceView}
use Rattle.vmx_tx_ring.specs.declared.known.TxKnown.{TxKnown}
use Rattle.vmx_tx_ring.specs.declared.known.TxBuffer.{TxBuffer}
use Rattle.vmx_tx_ring.specs.Rule.{Story}
use Rattle.vmx_txq.specs.Laws.{IsAllowed}

-- the driver did what its end shows, and is between two calls
pub record DriverDid (y : Story) (d : TxDriverView) : Type 0 where
  pub made : y.made ≡ d.made
  pub sent : y.d.at.sent ≡ d.sent
  pub reaped : y.d.at.reaped ≡ d.reaped
  pub rests : (y.d.at.staged ≡ []) × (y.d.at.opened ≡ false)

-- and so the device
pub record DeviceDid (y : Story) (e : TxDeviceView) : Type 0 where
  pub taken : y.e.at.taken ≡ e.taken
  pub completed : y.e.at.completed ≡ e.completed
  pub rests : (y.e.at.ahead ≡ []) × (y.e.at.emptying ≡ false)

-- the word with this index of the table, after what the driver did
pub record IsWord (d : TxDriverView) (index word : ℕ) : Type 0 where
  pub state : State TxBuffer TxKnown
  pub allowed : IsAllowed state
  pub driver : DriverDid allowed.story d
  pub word_is : word ≡ slice_index state.words index

-- the bytes of a buffer, and then those of its data entry
abbrev pub bytes_of : TxBuffer → List ℕ
bytes_of b = b.bytes.items ++ b.entry.items

-- all words of the table, and the bytes of all buffers in the order of their slots, after what both ends did
pub record StandsIn (d : TxDriverView) (e : TxDeviceView) (words bytes : List ℕ) : Type 0 where
  pub state : State TxBuffer TxKnown
  pub allowed : IsAllowed state
  pub driver : DriverDid allowed.story d
  pub device : DeviceDid allowed.story e
  pub words_are : words ≡ state.words
  pub buffers : List TxBuffer
  pub as_many : length buffers ≡ length state.homes
  pub at_home : (i : ℕ) (b : TxBuffer) → get_elem? state.homes i ≡ some (some b) → get_elem? buffers i ≡ some b
  pub bytes_are : bytes ≡ flat_map bytes_of buffers
