-- What is written down of a table that no thread shares any more.
use Rattle.std.specs.Prelude.{◌≡◌, ℕ, List}
use Rattle.std.specs.List.{flat_map}
use Rattle.atomic_table.specs.Table.{State, Final, Seen}

-- The words are those of a state that the rule allows, in which the seat with this number has this view. The bytes are those of as many values as there are slots, one behind the other, and each slot that was at home has its value.
pub record Stood {S V : Type 0} (holds : State S V → Type 0) (bytes_of : S → List ℕ) (seat : ℕ) (view : V) (words bytes : List ℕ) : Type 0 where
  pub slots : List S
  pub stood : Final (Seen holds seat view) words slots
  pub bytes_are : bytes ≡ flat_map bytes_of slots
