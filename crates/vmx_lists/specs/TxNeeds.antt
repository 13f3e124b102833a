-- How many descriptors the frames that are not reaped need, kept by the place modulo the ring's size.
use Rattle.std.specs.Prelude.{◌≡◌, ℕ, ◌%◌, ◌≤◌, List, length, slice_index}
use mathlib.Core.Option.{some}
use lib.ListN.{get_elem?}
use Rattle.vmx_ends.specs.declared.made.TxMade.{TxMade}
use Rattle.vmx_ends.specs.declared.frames.Sent.{Sent}
use Rattle.vmx_ends.specs.Transmit.{need}

abbrev pub AreNeeds : TxMade → List Sent → ℕ → List ℕ → Type 0
AreNeeds m sent reaped needs = (p : ℕ) (s : Sent) → reaped ≤ p → get_elem? sent p ≡ some s → slice_index needs (p % m.size) ≡ need m (length s.frame)
