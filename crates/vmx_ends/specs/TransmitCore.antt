-- The core of a transmit queue: what may happen to it, and what then stands. It has no ring, no index and no generation.
use Rattle.std.specs.Prelude.{ℕ, suc, ◌+◌, ◌&&◌, ◌==◌, List, [], ◌∷◌, ◌++◌, length, drop, Bool, not, if◌then◌else◌, nat_lt}
use Rattle.vmx_ends.specs.Transmit.{need, descriptors}
use Rattle.vmx_ends.specs.declared.frames.Sent.{Sent}
use Rattle.vmx_ends.specs.declared.made.TxMade.{TxMade}

-- Frames below `reaped` gave their buffers back, those below `completed` are the driver's again, those below `taken` the device has taken.
pub record TxCore : Type 0 where
  pub made : TxMade
  pub sent : List Sent
  pub reaped : ℕ
  pub completed : ℕ
  pub taken : ℕ

pub data TxEvent : Type 0 where
  posts : Sent → TxEvent
  takes : TxEvent
  completes : TxEvent
  reaps : TxEvent

abbrev pub new_core : TxMade → TxCore
new_core m = record { made = m; sent = []; reaped = 0; completed = 0; taken = 0 }

-- how many buffers are not free
abbrev pub in_use : TxCore → ℕ
in_use c = descriptors c.made (drop c.reaped c.sent)

-- where an event is allowed: a post where the free buffers suffice, a take where no frame is taken and not completed and a further one was sent
abbrev pub allows : TxCore → TxEvent → Bool
allows c (posts s) = not (nat_lt c.made.size (in_use c + need c.made (length s.frame)))
allows c takes = (c.taken == c.completed) && nat_lt c.taken (length c.sent)
allows c completes = nat_lt c.completed c.taken
allows c reaps = nat_lt c.reaped c.completed

abbrev pub happens : TxCore → TxEvent → TxCore
happens c (posts s) = record c { sent = c.sent ++ s ∷ [] }
happens c takes = record c { taken = suc c.taken }
happens c completes = record c { completed = suc c.completed }
happens c reaps = record c { reaped = suc c.reaped }

-- what stands after an event that is tried
abbrev pub after : TxCore → TxEvent → TxCore
after c e = if allows c e then happens c e else c
