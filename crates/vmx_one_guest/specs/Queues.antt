-- What is kept of the driver's ends of an activation, so that the calls may be made.
use Rattle.std.specs.Prelude.{◌≡◌, ◌≤◌, ◌*◌, ℕ, true, length}
use Rattle.vmx_ends.specs.Transmit.{posted}
use Rattle.vmx_ends.specs.Receive.{used, pieces_of}
use Rattle.vmx_lists.specs.TxEnds.{driver_view as tx_view}
use Rattle.vmx_lists.specs.RxEnds.{driver_view as rx_view}
use Rattle.vmx_lists.specs.declared.tx.ListTxDriver.{ListTxDriver}
use Rattle.vmx_lists.specs.declared.rx.ListRxDriver.{ListRxDriver}

-- after so many calls
abbrev pub IsFewSent : ℕ → ListTxDriver → Type 0
IsFewSent calls e = (length (tx_view e).sent ≤ calls) × (posted (tx_view e) ≤ 16 * calls)

abbrev pub IsFewReceived : ℕ → ListRxDriver → Type 0
IsFewReceived calls e = (length (rx_view e).received ≤ calls) × ((rx_view e).made.full ≡ true) × (used pieces_of (rx_view e).received ≤ 16 * calls)
