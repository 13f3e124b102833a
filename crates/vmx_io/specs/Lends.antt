-- How a list ends where a `&mut` to one of its items is handed out.
use Rattle.std.specs.Prelude.{ℕ, List, slice_set}
use Rattle.std.specs.Borrow.{Lends, Fml, RattleType, MutBor}
use Rattle.vmx_io.specs.contracts.list.List.{the_row}

module _ (T : RattleType) (v : MutBor (List T.Denot)) where
  -- once the loan r is over, index i has the last value written through r
  abbrev pub lends_item : ℕ → MutBor T.Denot → Fml
  lends_item i r = Lends (the_row T) T v r (λ w. slice_set v.now i w)
