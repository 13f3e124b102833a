-- What the driver's look for the next frame does to what it knows.
use Rattle.std.specs.Prelude.{◌≡◌, ◌≤◌, [], length}
use Rattle.vmx_layout.specs.declared.TheConstants.{COMPLETION_GENERATION_BIT}
use Rattle.vmx_ends.specs.Words.{IsMissed}
use Rattle.vmx_ends.specs.declared.frames.Delivery.{Delivery}
use Rattle.vmx_rx_ring.specs.declared.known.Entry.{Entry}
use Rattle.vmx_rx_ring.specs.Words.{count}
use Rattle.vmx_rx_ring.specs.Tells.{Seated, with_driver, receives, finds_none, Found, IsNext, Tells}
use Rattle.vmx_rx_walk.specs.declared.looking.Seen.{Seen}
use Rattle.vmx_rx_walk.specs.declared.looking.Seen.TheVariants.{Visible, Missing}

-- the next frame is received, and the second word of its first completion is told; or a look is kept whose word has another generation than the position
abbrev pub Looked : Seated → Seen → Seated → Type 0
Looked m (Visible second) m' = (d : Delivery) × Found m.0 d × (m' ≡ (with_driver m.0 (receives m.0.driver d), [])) × ((x : Entry) → IsNext m'.0 x → Tells x second)
Looked m (Missing word) m' = (m' ≡ (with_driver m.0 (finds_none m.0.driver word), [])) × IsMissed COMPLETION_GENERATION_BIT (count m.0.made) m.0.driver.read word × (length m.0.driver.heard ≤ length m.0.driver.received)
