-- What a clause sees of a record: of each guest its device's journal and statistics, what its driver handed up, and the facts of its queues and commands; and the links.
use Rattle.std.specs.Prelude.{ℕ, List}
use Rattle.vmx_ends.specs.Transmit.{TxView}
use Rattle.vmx_ends.specs.Receive.{RxView}
use Rattle.vmx_ends.specs.LinkView.{LinkView}
use Rattle.vmx_model.specs.Types.{Setup, Entry, Received}
use Rattle.vmx_device_state.specs.declared.turn.Turn.{Turn}

-- a needed position of a receive ring
pub record Need : Type 0 where
  pub ring : ℕ
  pub position : ℕ

-- the statistics of the eight queues of a side, ten counts each in the order of a queue's descriptor
pub record GuestView : Type 0 where
  pub entries : List Entry
  pub setups : List Setup
  pub received : List Received
  pub tx : List TxView
  pub rx : List RxView
  pub told : List Turn
  pub tx_stats : List (List ℕ)
  pub rx_stats : List (List ℕ)

-- all guests, and the links between them
pub record RecordView : Type 0 where
  pub guests : List GuestView
  pub links : List LinkView
