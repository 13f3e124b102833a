use Rattle.std.proofs.Common.{◌≢◌, ◌+◌, ◌<◌, ◌^◌, map, length, sym, arith, subst, All, List, ℕ}
use Rattle.std.proofs.lemmas.List.Elements.{All-weaker}
use Rattle.vmx_model.specs.Serial.{transmitted}
use Rattle.vmx_serial_queues.specs.Queues.{marked}
use Rattle.vmx_serial_seats.specs.Seats.{seat_of}
use Rattle.vmx_serial_seats.specs.Small.{IsSmall}
use Rattle.vmx_serial_seats.proofs.SmallLaws.{small_more, small_transmitted}
use Rattle.vmx_plan_bounds.proofs.Few.{ports_of_targets}
use Rattle.vmx_serial_reference.proofs.WayLaws.{at_small}
use Rattle.vmx_serial_reference.proofs.world.World.send_on.Goals as goal

pub spread-requires-clause-ports : goal.spread-requires-clause-ports
spread-requires-clause-ports c = let a = c.args in subst (λ (ps : List ℕ). All (λ to. to < length a.plan.now.guests) ps) (sym c.in_ok-found.ensures.targets) (All-weaker (λ to. (to < length a.plan.now.guests) × (to ≢ a.tag.guest)) (λ to. to < length a.plan.now.guests) (λ to is. is.0) _ (ports_of_targets a.plan.now a.tag.guest _))

pub spread-requires-clause-small : goal.spread-requires-clause-small
spread-requires-clause-small c = let a = c.args in
    subst (All (IsSmall (2 ^ 31 + 2 ^ 9))) (sym c.in_ok-transmit_at.ensures.transmitted) (at_small (2 ^ 31 + 2 ^ 8) (2 ^ 31 + 2 ^ 9) a.tag.guest (transmitted a.tag.activation a.tag.queue (marked a.frame.now a.mark.now)) (omega arith)
    (λ s h. small_more (2 ^ 31 + 2 ^ 8) (2 ^ 31 + 2 ^ 9) (omega arith) _ (small_transmitted (2 ^ 31 + 2 ^ 8) a.tag.activation a.tag.queue (marked a.frame.now a.mark.now) s h)) (map seat_of a.self.now.seats) c.requires.small)
