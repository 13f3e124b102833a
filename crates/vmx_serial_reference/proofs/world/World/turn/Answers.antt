use Rattle.std.proofs.Common.{◌+◌, ◌^◌, ◌∙◌, map, ap, sym, arith, subst, All, List}
use Rattle.std.specs.List.{slice_get}
use Rattle.std.proofs.lemmas.List.{length-map}
use Rattle.std.proofs.lemmas.Result.{on_ok_weaker}
use Rattle.vmx_model.specs.Plan.{captured}
use Rattle.vmx_model.specs.Serial.{Seat, acted, sends}
use Rattle.vmx_serial_seats.specs.Seats.{seat_of}
use Rattle.vmx_serial_reference.specs.Worlds.{wire_of, world_of}
use Rattle.vmx_serial_seats.specs.Small.{IsSmall}
use Rattle.vmx_serial_reference.proofs.WayLaws.{at_small, small_acted}
use Rattle.vmx_model.specs.PlanSteps.{there}
use Rattle.vmx_model.proofs.Sends.{turn_there}
use Rattle.vmx_serial_reference.proofs.Turns.{queues_there}
use Rattle.vmx_serial_reference.proofs.world.World.turn.Goals as goal

pub act_at-requires-clause-queues : goal.act_at-requires-clause-queues
act_at-requires-clause-queues c = let a = c.args in λ d lt. queues_there a.plan.now (2 ^ 31) (world_of a.self.now) a.port c.at-guest.result.now d c.requires.way (let l = length-map a.self.now.seats seat_of in omega arith) (omega arith) c.at-guest.ensures.value

pub send-requires-clause-guest : goal.send-requires-clause-guest
send-requires-clause-guest c = let a = c.args in there a.plan.now.guests a.port c.at-guest.result.now (omega arith) c.at-guest.ensures.value

pub send-requires-clause-small : goal.send-requires-clause-small
send-requires-clause-small c = let a = c.args in
    subst (All (IsSmall (2 ^ 31 + 2 ^ 8))) (sym c.in_ok-act_at.ensures.acted) (at_small (2 ^ 31) (2 ^ 31 + 2 ^ 8) a.port (acted a.port c.at-guest.result.now a.number) (omega arith) (small_acted a.plan.now (2 ^ 31) a.port c.at-guest.result.now a.number) (map seat_of a.self.now.seats) c.requires.way.small)

pub returns : goal.returns
returns c = let a = c.args in let g = c.at-guest.result.now in
    record {
      turn = on_ok_weaker c.send.result (λ e. e ∙ ap (λ (ss : List Seat). sends a.plan.now a.port g (slice_get (captured g) a.number) (record { seats = ss; wires = map wire_of a.self.now.wires })) c.in_ok-act_at.ensures.acted
          ∙ turn_there a.plan.now a.number a.port g (world_of a.self.now) (there a.plan.now.guests a.port g (omega arith) c.at-guest.ensures.value)) c.send.ensures.sends;
    }
