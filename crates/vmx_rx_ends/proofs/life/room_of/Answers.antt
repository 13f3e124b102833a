use Rattle.std.proofs.Common.{◌≡◌, ℕ, ◌<◌, Bool, cond, sym, ap, ◌∙◌, arith}
use Rattle.std.proofs.lemmas.Bool.{lt-ltb}
use Rattle.std.proofs.Math.Nat.{mod-eq_of_lt}
use Rattle.vmx_ends.specs.Receive.{is_body, is_body_index}
use Rattle.vmx_ends.specs.ReceiveClauses.{made_of}
use Rattle.vmx_ends.specs.declared.made.RxMade.{RxMade}
use Rattle.vmx_ends.specs.declared.limits.TheConstants.{BODY_SIZE}
use Rattle.vmx_rx_ring.specs.Words.{buffer_size, room_at}
use Rattle.vmx_rx_ends.proofs.life.room_of.Goals as goal

-- a slot of ring 1 has the buffer of its kind
room_in_ring1 : (m : RxMade) (k r : ℕ) (b : Bool) → k < m.size1 → b ≡ is_body m k → r ≡ buffer_size b → r ≡ room_at m k
room_in_ring1 m k r b low body size = size ∙ ap buffer_size (body ∙ ap (is_body_index m.bodies) (mod-eq_of_lt low)) ∙ sym (ap (λ (q : Bool). cond q (buffer_size (is_body_index m.bodies k)) BODY_SIZE) (lt-ltb k m.size1 low))

pub returns-then-slot-from-clause-room : goal.returns-then-slot-from-clause-room
returns-then-slot-from-clause-room c = room_in_ring1 (made_of c.args.shape.now) c.args.slot _ _ (omega arith) c.stands_body.ensures.body c.size_of.ensures.size
