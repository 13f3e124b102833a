-- Laws of the registers: two of one BAR never share an offset.
use Rattle.std.proofs.Common.{◌≡◌, ◌≢◌, ℕ, ◌+◌, ◌*◌, ◌<◌, ap, arith}
use mathlib.Core.HLevel.{is_prop→PathP}
use Rattle.std.proofs.Props.{props}
use Rattle.vmx_layout.specs.Register.{bar_of, offset_of, IsNoRegister}
use Rattle.vmx_layout.specs.declared.register.InterruptIndex.{InterruptIndex}
use Rattle.vmx_layout.specs.declared.register.QueueIndex.{QueueIndex}
use Rattle.vmx_layout.specs.declared.register.Register.{Register}
use Rattle.vmx_layout.specs.declared.register.TheConstants.{MAX_INTERRUPTS, MAX_QUEUES, DOORBELL_BAR, IMR_OFFSET, TXPROD_OFFSET, RXPROD_OFFSET, RXPROD2_OFFSET, REGISTER_STRIDE}
use Rattle.vmx_layout.specs.declared.register.Register.TheVariants.{Imr, TxProd, RxProd, RxProd2}

pub same_interrupt : (i j : InterruptIndex) → i.number ≡ j.number → i ≡ j
same_interrupt i j e =
    λ k. record { number = e k; below = is_prop→PathP (λ m. e m < MAX_INTERRUPTS) (λ m. hlevel props) i.below j.below k }

pub same_queue : (p q : QueueIndex) → p.number ≡ q.number → p ≡ q
same_queue p q e =
    λ k. record { number = e k; below = is_prop→PathP (λ m. e m < MAX_QUEUES) (λ m. hlevel props) p.below q.below k }

-- a mask of an interrupt is alone at its offset of BAR 0
pub only_mask : (i : InterruptIndex) (r : Register) → bar_of r ≡ DOORBELL_BAR → offset_of r ≡ IMR_OFFSET + REGISTER_STRIDE * i.number → Imr i ≡ r
only_mask i (Imr other) bar offset = ap Imr (same_interrupt i other (omega arith))
only_mask i (TxProd other) bar offset = absurd (omega arith)
only_mask i (RxProd other) bar offset = absurd (omega arith)
only_mask i (RxProd2 other) bar offset = absurd (omega arith)
only_mask i _ bar offset = absurd (omega arith)

-- a doorbell of a transmit queue is alone at its offset of BAR 0
pub only_tx_doorbell : (q : QueueIndex) (r : Register) → bar_of r ≡ DOORBELL_BAR → offset_of r ≡ TXPROD_OFFSET + REGISTER_STRIDE * q.number → TxProd q ≡ r
only_tx_doorbell q (Imr other) bar offset = absurd (omega arith)
only_tx_doorbell q (TxProd other) bar offset = ap TxProd (same_queue q other (omega arith))
only_tx_doorbell q (RxProd other) bar offset = absurd (omega arith)
only_tx_doorbell q (RxProd2 other) bar offset = absurd (omega arith)
only_tx_doorbell q _ bar offset = absurd (omega arith)

-- a doorbell of a ring 1 is alone at its offset of BAR 0
pub only_rx_doorbell : (q : QueueIndex) (r : Register) → bar_of r ≡ DOORBELL_BAR → offset_of r ≡ RXPROD_OFFSET + REGISTER_STRIDE * q.number → RxProd q ≡ r
only_rx_doorbell q (Imr other) bar offset = absurd (omega arith)
only_rx_doorbell q (TxProd other) bar offset = absurd (omega arith)
only_rx_doorbell q (RxProd other) bar offset = ap RxProd (same_queue q other (omega arith))
only_rx_doorbell q (RxProd2 other) bar offset = absurd (omega arith)
only_rx_doorbell q _ bar offset = absurd (omega arith)

-- a doorbell of a ring 2 is alone at its offset of BAR 0
pub only_rx_doorbell2 : (q : QueueIndex) (r : Register) → bar_of r ≡ DOORBELL_BAR → offset_of r ≡ RXPROD2_OFFSET + REGISTER_STRIDE * q.number → RxProd2 q ≡ r
only_rx_doorbell2 q (Imr other) bar offset = absurd (omega arith)
only_rx_doorbell2 q (TxProd other) bar offset = absurd (omega arith)
only_rx_doorbell2 q (RxProd other) bar offset = absurd (omega arith)
only_rx_doorbell2 q (RxProd2 other) bar offset = ap RxProd2 (same_queue q other (omega arith))
only_rx_doorbell2 q _ bar offset = absurd (omega arith)

-- an offset of none of the four kinds has no register in BAR 0
pub no_register : (offset : ℕ)
    → ((i : InterruptIndex) → IMR_OFFSET + REGISTER_STRIDE * i.number ≢ offset)
    → ((q : QueueIndex) → TXPROD_OFFSET + REGISTER_STRIDE * q.number ≢ offset)
    → ((q : QueueIndex) → RXPROD_OFFSET + REGISTER_STRIDE * q.number ≢ offset)
    → ((q : QueueIndex) → RXPROD2_OFFSET + REGISTER_STRIDE * q.number ≢ offset)
    → IsNoRegister DOORBELL_BAR offset
no_register offset masks tx rx rx2 (Imr i) bar at = masks i at
no_register offset masks tx rx rx2 (TxProd q) bar at = tx q at
no_register offset masks tx rx rx2 (RxProd q) bar at = rx q at
no_register offset masks tx rx rx2 (RxProd2 q) bar at = rx2 q at
no_register offset masks tx rx rx2 _ bar at = absurd (omega arith)
