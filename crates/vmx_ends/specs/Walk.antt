-- The walk of one delivery over the two supplies: a function of what its loads of ring 1 for further pieces found.
use Rattle.std.specs.Prelude.{ℕ, suc, ◌+◌, ◌-◌, ◌/◌, ◌≡◌, ◌<◌, ◌≤◌, List, [], ◌∷◌, ◌++◌, true, false, if◌then◌else◌, Option, Some, None}
use Rattle.vmx_ends.specs.declared.limits.TheConstants.{HEAD_SIZE, BODY_SIZE}
use Rattle.vmx_ends.specs.Receive.{is_body}
use Rattle.vmx_ends.specs.declared.made.RxMade.{RxMade}

-- pieces of a frame behind its head: 2,048 bytes lie in the head, and 4,096 in each further one, the last the rest
abbrev pub further_pieces : ℕ → ℕ
further_pieces bytes = (bytes + (BODY_SIZE - HEAD_SIZE - 1)) / BODY_SIZE

abbrev pub pieces : ℕ → ℕ
pieces bytes = further_pieces bytes + 1

-- where a walk stands: the next position of each supply, the (ring, position) of each piece so far, and the looks at ring 1
pub record Stand : Type 0 where
  pub next1 : ℕ
  pub next2 : ℕ
  pub chain : List (ℕ × ℕ)
  pub looks : List (ℕ × ℕ)

-- the head is found at the position h
abbrev pub at_head : ℕ → ℕ → Stand
at_head h next2 = record { next1 = suc h; next2 = next2; chain = (1, h) ∷ []; looks = [] }

abbrev pub from_one : Stand → Stand
from_one a = record a { next1 = suc a.next1; chain = a.chain ++ (1, a.next1) ∷ [] }

abbrev pub from_two : Stand → Stand
from_two a = record a { next2 = suc a.next2; chain = a.chain ++ (2, a.next2) ∷ [] }

-- ring 1's next is BODY: its load found it the device's, or found this word
abbrev pub by_load : Stand → Option ℕ → Stand
by_load a None = from_one a
by_load a (Some word) = from_two (record a { looks = a.looks ++ (a.next1, word) ∷ [] })

abbrev pub further : RxMade → Stand → Option ℕ → Stand
further m a found = if is_body m a.next1 then by_load a found else from_two a

-- one load a further piece; none is made where ring 1's next is HEAD
abbrev pub walk : RxMade → Stand → List (Option ℕ) → Stand
walk m a [] = a
walk m a (found ∷ more) = walk m (further m a found) more

-- bodies alone stand in ring 1 from `from` up to `to`
abbrev pub AreBodies : RxMade → ℕ → ℕ → Type 0
AreBodies m from to = (from ≤ to) × ((p : ℕ) → from ≤ p → p < to → is_body m p ≡ true)

-- the head of a frame whose search begins at `from`
abbrev pub IsHead : RxMade → ℕ → ℕ → Type 0
IsHead m from h = AreBodies m from h × (is_body m h ≡ false)
