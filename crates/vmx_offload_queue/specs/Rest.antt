-- A transmit queue at rest, and one that holds every frame.
use Rattle.std.specs.Prelude.{◌≡◌, ℕ, ◌*◌, ◌≤◌, length}
use Rattle.vmx_io.specs.declared.buffer.TheConstants.{MAX_FRAME}
use Rattle.vmx_ends.specs.declared.limits.TheConstants.{MAX_DESCRIPTORS}
use Rattle.vmx_ends.specs.declared.made.TxMade.{TxMade}
use Rattle.vmx_ends.specs.Transmit.{TxDriverView, TxDeviceView, need, posted, found_in}
use Rattle.vmx_ends.specs.TransmitClauses.{AreEven}
use Rattle.vmx_ends.specs.Queues.{IsCaughtUp}

-- the two ends of one queue where nothing is under way: each frame that was sent is taken, completed and reaped, and each note was heard
pub record AreAtRest (d : TxDriverView) (e : TxDeviceView) : Type 0 where
  pub one : d.key ≡ e.key
  pub caught_up : IsCaughtUp d e
  pub even : AreEven d e
  pub posted_few : posted d ≤ MAX_DESCRIPTORS * length d.sent
  pub found_few : found_in e.taken ≤ MAX_DESCRIPTORS * length d.sent

-- a ring has the descriptors of every frame
abbrev pub HoldsAll : TxMade → Type 0
HoldsAll m = (bytes : ℕ) → bytes ≤ MAX_FRAME → need m bytes ≤ m.size
