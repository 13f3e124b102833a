-- The core of a receive queue: what may happen to it, and what then stands. It has no ring, no index and no generation.
use Rattle.std.specs.Prelude.{ℕ, suc, List, [], ◌∷◌, ◌++◌, length, take, if◌then◌else◌, nat_lt}
use Rattle.vmx_layout.specs.declared.TheConstants.{RX_DESC_GENERATION_BIT}
use Rattle.vmx_ends.specs.Words.{missed_word}
use Rattle.vmx_ends.specs.Walk.{further_pieces}
use Rattle.vmx_ends.specs.Receive.{used, took1, took2, posted1, posted2}
use Rattle.vmx_ends.specs.ReceiveClauses.{ring_size}
use Rattle.vmx_ends.specs.Core.{Outcome, takes, misses, outcome}
use Rattle.vmx_ends.specs.declared.frames.Delivery.{Delivery}
use Rattle.vmx_ends.specs.declared.made.RxMade.{RxMade}
use Rattle.vmx_ends.specs.declared.meta.RxMeta.{RxMeta}

-- The buffers of the first `received` frames are posted back, those passed over included.
pub record RxCore : Type 0 where
  pub made : RxMade
  pub delivered : List Delivery
  pub received : ℕ
  pub refused : List (ℕ × ℕ × ℕ)

pub data RxEvent : Type 0 where
  delivers : List ℕ → RxMeta → RxEvent
  receives : RxEvent

abbrev pub new_core : RxMade → RxCore
new_core m = record { made = m; delivered = []; received = 0; refused = [] }

-- what a delivery of a frame of so many bytes comes to
abbrev pub comes_to : RxCore → ℕ → Outcome
comes_to c bytes = let back = take c.received c.delivered in
    outcome c.made (used took1 c.delivered) (used took2 c.delivered) (posted1 c.made back) (posted2 c.made back) (further_pieces bytes)

-- a frame goes last in the delivered list, or a look refused it
abbrev pub after_delivery : RxCore → List ℕ → RxMeta → Outcome → RxCore
after_delivery c frame meta (takes passed end) = record c { delivered = c.delivered ++ record { frame = frame; meta = meta; passed = passed; chain = end.chain } ∷ [] }
after_delivery c frame meta (misses ring position looks) = record c { refused = c.refused ++ (ring, position, missed_word RX_DESC_GENERATION_BIT (ring_size c.made ring) position) ∷ [] }

-- what stands after an event that is tried
abbrev pub after : RxCore → RxEvent → RxCore
after c (delivers frame meta) = after_delivery c frame meta (comes_to c (length frame))
after c receives = if nat_lt c.received (length c.delivered) then record c { received = suc c.received } else c
