-- Frames of a plain transmit queue as the core has them.
use Rattle.std.specs.Prelude.{ℕ, List, map, drop, All}
use Rattle.vmx_ends.specs.Frames.{IsMarked}
use Rattle.vmx_ends.specs.Transmit.{descriptors}
use Rattle.vmx_ends.specs.declared.frames.Sent.{Sent}
use Rattle.vmx_ends.specs.declared.made.TxMade.{TxMade}
use Rattle.vmx_queue_reference.specs.declared.tx.TxFrame.{TxFrame}

abbrev pub as_sent : TxFrame → Sent
as_sent t = record { frame = t.frame; mark = t.mark }

abbrev pub all_sent : List TxFrame → List Sent
all_sent frames = map as_sent frames

-- each frame may be posted with its mark
abbrev pub IsPosted : TxFrame → Type 0
IsPosted t = IsMarked t.frame t.mark

abbrev pub ArePosted : List TxFrame → Type 0
ArePosted frames = All IsPosted frames

-- how many buffers the frames from a place on need
abbrev pub needed_from : TxMade → ℕ → List TxFrame → ℕ
needed_from m place frames = descriptors m (all_sent (drop place frames))
