-- What stands in the output: of each queue a section with its words and buffers.
use Rattle.std.specs.Prelude.{◌≡◌, ℕ, ◌++◌, List, [], ◌∷◌, Bool, true, false}
use Rattle.std.specs.Int.{from_bool}
use Rattle.vmx_ends.specs.declared.limits.TheConstants.{MAX_PIECE}
use Rattle.vmx_ends.specs.Queues.{made_tx}
use Rattle.vmx_ends.specs.Transmit.{TxDriverView, TxDeviceView}
use Rattle.vmx_ends.specs.Receive.{RxDriverView, RxDeviceView}
use Rattle.vmx_ends.specs.ReceiveClauses.{made_rx}
use Rattle.vmx_txq.specs.Standing.{StandsIn as TxStandsIn}
use Rattle.vmx_rx_ends.specs.Standing.{StandsIn as RxStandsIn}
use Rattle.vmx_ring_samples.specs.Sections.{section}
use Rattle.vmx_ring_samples.specs.declared.tx.TheConstants.{TRANSMIT, NAME as TX_NAME, SIZE as TX_SIZE}
use Rattle.vmx_ring_samples.specs.declared.rx.TheConstants.{RECEIVE, NAME as RX_NAME, QUEUES, SIZE as RX_SIZE, BODIES}

-- the numbers before a transmit queue's words: its kind and number, no count of queues, its descriptors, none of a second ring, no BODY descriptors, the bytes of a piece, and whether it has a data ring
abbrev pub tx_head : Bool → List ℕ
tx_head with_data = TRANSMIT ∷ TX_NAME.queue ∷ 0 ∷ TX_SIZE ∷ 0 ∷ 0 ∷ MAX_PIECE ∷ from_bool with_data ∷ []

-- and before a receive queue's: its kind and number, how many queues there are, the descriptors of both rings, the BODY descriptors behind each HEAD, no bytes of a piece, and whether it has a data ring
abbrev pub rx_head : Bool → List ℕ
rx_head with_data = RECEIVE ∷ RX_NAME.queue ∷ QUEUES ∷ RX_SIZE ∷ RX_SIZE ∷ BODIES ∷ 0 ∷ from_bool with_data ∷ []

-- Where each call found what it looks for, words and buffers are those that stand in a transmit queue after what its two ends show.
pub record ShowsTx (with_data done : Bool) (words buffers : List ℕ) : Type 0 where
  pub driver : TxDriverView
  pub device : TxDeviceView
  pub made : driver.made ≡ made_tx TX_NAME TX_SIZE MAX_PIECE with_data
  pub stands : done ≡ true → TxStandsIn driver device words buffers

-- and so of a receive queue
pub record ShowsRx (with_data done : Bool) (words buffers : List ℕ) : Type 0 where
  pub driver : RxDriverView
  pub device : RxDeviceView
  pub made : driver.made ≡ made_rx RX_NAME RX_SIZE RX_SIZE BODIES QUEUES with_data
  pub stands : done ≡ true → RxStandsIn false driver device words buffers

-- the section of a transmit queue goes behind what is there
pub record AddsTx (with_data done : Bool) (old new : List ℕ) : Type 0 where
  pub words : List ℕ
  pub buffers : List ℕ
  pub shows : ShowsTx with_data done words buffers
  pub is : new ≡ old ++ section (tx_head with_data) words buffers

-- and so that of a receive queue
pub record AddsRx (with_data done : Bool) (old new : List ℕ) : Type 0 where
  pub words : List ℕ
  pub buffers : List ℕ
  pub shows : ShowsRx with_data done words buffers
  pub is : new ≡ old ++ section (rx_head with_data) words buffers

-- four sections, one behind the other: a transmit queue with a data ring and one without, and so two receive queues
pub record AddsRings (done : Bool) (old new : List ℕ) : Type 0 where
  pub first : List ℕ
  pub second : List ℕ
  pub third : List ℕ
  pub sent_with_data : AddsTx true done old first
  pub sent_without : AddsTx false done first second
  pub received_with_data : AddsRx true done second third
  pub received_without : AddsRx false done third new
