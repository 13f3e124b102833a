-- Queues of the plain program as the cores have them.
use Rattle.std.specs.Prelude.{ℕ, List, map}
use Rattle.vmx_ends.specs.declared.meta.TxMark.{TxMark}
use Rattle.vmx_ends.specs.declared.frames.Sent.{Sent}
use Rattle.vmx_ends.specs.declared.frames.Delivery.{Delivery}
use Rattle.vmx_ends.specs.ReceiveClauses.{made_of}
use Rattle.vmx_ends.specs.TransmitCore.{TxCore}
use Rattle.vmx_ends.specs.ReceiveCore.{RxCore}
use Rattle.vmx_serial_queues.specs.declared.tx.Posted.{Posted}
use Rattle.vmx_serial_queues.specs.declared.tx.TxQueue.{TxQueue}
use Rattle.vmx_serial_queues.specs.declared.rx.Delivered.{Delivered}
use Rattle.vmx_serial_queues.specs.declared.rx.RxQueue.{RxQueue}

-- a frame with its mark
abbrev pub marked : List ℕ → TxMark → Sent
marked frame mark = record { frame = frame; mark = mark }

-- a frame that was posted
abbrev pub sent_of : Posted → Sent
sent_of p = marked p.frame p.mark

-- a transmit queue
abbrev pub tx_core : TxQueue → TxCore
tx_core q = record { made = q.made; sent = map sent_of q.sent; reaped = q.reaped; completed = q.completed; taken = q.taken }

-- a frame that was delivered
abbrev pub delivery_of : Delivered → Delivery
delivery_of d = record { frame = d.frame; meta = d.meta; passed = d.passed; chain = d.chain }

-- a receive queue
abbrev pub rx_core : RxQueue → RxCore
rx_core q = record { made = made_of q.shape; delivered = map delivery_of q.delivered; received = q.received; refused = q.refused }
