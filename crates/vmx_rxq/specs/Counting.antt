-- A load that changes nothing tells how many slots the table has.
use Rattle.std.specs.Prelude.{◌≡◌, ℕ}
use Rattle.atomic_table.specs.Table.{Step}
use Rattle.vmx_rx_ring.specs.declared.known.Buffer.{Buffer}
use Rattle.vmx_rx_ring.specs.Words.{count}
use Rattle.vmx_rx_ring.specs.Tells.{Seated}

abbrev pub counted_slots : Step Buffer → Seated → ℕ → Seated → Type 0
counted_slots st m r m' = (m' ≡ m) × (st.slots ≡ count m.0.made)
