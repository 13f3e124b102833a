-- The walk where it is known what is posted: a function of the two supplies.
use Rattle.std.specs.Prelude.{ℕ, zero, suc, ◌-◌, List, [], if◌then◌else◌, nat_lt, Option, Some, None}
use Rattle.vmx_layout.specs.declared.TheConstants.{RX_DESC_GENERATION_BIT}
use Rattle.vmx_ends.specs.Words.{missed_word}
use Rattle.vmx_ends.specs.Receive.{is_body}
use Rattle.vmx_ends.specs.Walk.{Stand, at_head, further}
use Rattle.vmx_ends.specs.declared.made.RxMade.{RxMade}

-- the first HEAD from the position p on, looked for as many positions as fuel
abbrev pub head_from : RxMade → ℕ → ℕ → ℕ
head_from m zero p = p
head_from m (suc fuel) p = if is_body m p then head_from m fuel (suc p) else p

-- what the load of ring 1's next finds where so many positions are posted
abbrev pub finding : RxMade → ℕ → Stand → Option ℕ
finding m posted a = if nat_lt a.next1 posted then None else Some (missed_word RX_DESC_GENERATION_BIT m.size1 a.next1)

-- n further pieces, up to the first that is not posted in ring 2
abbrev pub goes : RxMade → ℕ → ℕ → ℕ → Stand → Stand
goes m posted1 posted2 zero a = a
goes m posted1 posted2 (suc n) a = let b = further m a (finding m posted1 a) in if nat_lt posted2 b.next2 then b else goes m posted1 posted2 n b

-- what a delivery comes to: the bodies passed over and where the walk ended, or the ring and the position that it missed and its looks at ring 1
pub data Outcome : Type 0 where
  takes : ℕ → Stand → Outcome
  misses : ℕ → ℕ → List (ℕ × ℕ) → Outcome

abbrev pub ended : ℕ → ℕ → Stand → Outcome
ended passed posted2 end = if nat_lt posted2 end.next2 then misses 2 posted2 end.looks else takes passed end

-- of a frame of suc n pieces, from the positions c1 and c2 of supplies of which posted1 and posted2 are posted
abbrev pub outcome : RxMade → ℕ → ℕ → ℕ → ℕ → ℕ → Outcome
outcome m c1 c2 posted1 posted2 n = let h = head_from m m.size1 c1 in
    if nat_lt h posted1 then ended (h - c1) posted2 (goes m posted1 posted2 n (at_head h c2)) else misses 1 posted1 []
