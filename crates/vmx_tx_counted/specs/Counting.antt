-- Completed frames in one word.
use Rattle.std.specs.Prelude.{◌≡◌, ℕ, List, [], ◌∷◌, Bool, false}
use Rattle.vmx_ends.specs.declared.made.TxMade.{TxMade}
use Rattle.vmx_ends.specs.declared.frames.Sent.{Sent}

-- the one word behind the descriptors is the number of completed frames, so that none is ever begun to be completed
pub record Counted (m : TxMade) (sent : List Sent) (completed : ℕ) (closing : Bool) (reaped : ℕ) (words : List ℕ) : Type 0 where
  pub is : words ≡ completed ∷ []
  pub at_once : closing ≡ false

-- one, whatever the size is
abbrev pub count_words : ℕ → ℕ
count_words size = 1
