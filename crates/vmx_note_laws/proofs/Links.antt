-- Notes between the two ends of a link.
use Rattle.std.proofs.Common.{◌≡◌, ◌+◌, ◌≤◌, [], ◌∷◌, ◌++◌, length, sym, subst, arith}
use Rattle.vmx_ends.specs.declared.packet.Packet.{Packet}
use Rattle.vmx_ends.specs.CaughtUp.{whole_front}
use Rattle.vmx_link.specs.Views.{LinkOutView, LinkInView}
use Rattle.vmx_ring_laws.specs.Lists.{longer_second}
use Rattle.vmx_note_laws.specs.Links.{IsToldLink, PassesLink, PullsNext}
use Rattle.vmx_note_laws.proofs.Fronts.{next_behind}

pub passes_told_link : (o o' : LinkOutView) (i i' : LinkInView) → o.key ≡ i.key → PassesLink o i o' i' → IsToldLink o' i'
passes_told_link o o' i i' one p = subst (λ (x : LinkOutView × LinkInView). IsToldLink x.0 x.1) (λ j. (sym p.sender j, sym p.receiver j)) (record {
  key = one;
  pushed = longer_second i.filled o.pushed;
  pulled = longer_second o.freed i.pulled;
  within = p.within;
})

pub pulls_next : (o o' : LinkOutView) (i n n' : LinkInView) (x : Packet) → n.pulled ≡ i.pulled ++ x ∷ [] → PassesLink o n o' n' → PullsNext o i x
pulls_next o o' i n n' x one p = let next = next_behind i.pulled o.pushed n.pulled x one p.within in record { more = next.0; next = next.1 }

-- a look that found no packet
pub none_left_link : (o : LinkOutView) (i : LinkInView) → IsToldLink o i → length i.filled ≤ length i.pulled → i.pulled ≡ o.pushed
none_left_link o i t few = let all = t.pushed in whole_front i.pulled o.pushed t.within (omega (arith, few, all))

-- a look that found the link full
pub full_is_full : (o : LinkOutView) (i : LinkInView) → IsToldLink o i → length o.freed + o.capacity ≤ length o.pushed → length i.pulled + o.capacity ≤ length o.pushed
full_is_full o i t full = let all = t.pulled in omega (arith, full, all)
