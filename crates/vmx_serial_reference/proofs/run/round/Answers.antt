use Rattle.std.proofs.Common.{◌+◌, ◌*◌, ◌^◌, ◌∙◌, arith, ap, sym, subst}
use Rattle.vmx_model.specs.Serial.{turn}
use Rattle.vmx_model.specs.SerialSteps.{turns_none, turns_more}
use Rattle.vmx_serial_reference.specs.Worlds.{world_of, IsOnTheWay, MOST_OF_ROUND}
use Rattle.vmx_plan_bounds.proofs.Few.{guests_few}
use Rattle.vmx_serial_reference.proofs.WayLaws.{way_turns, way_more}
use Rattle.vmx_serial_reference.proofs.run.round.Goals as goal

pub loop-port-init : goal.loop-port-init
loop-port-init c = let a = c.args in sym (turns_none a.plan.now a.number (world_of a.world.now))

pub turn-requires : goal.turn-requires
turn-requires c = let a = c.args in let l = c.loop-port in let few = guests_few a.plan.now in
    record { way = subst (IsOnTheWay a.plan.now (2 ^ 31)) (sym l.invariant) (way_more a.plan.now (MOST_OF_ROUND + 272 * l.port) (2 ^ 31) _ (omega arith) (way_turns a.plan.now MOST_OF_ROUND a.number l.port (world_of a.world.now) c.requires.way)) }

pub loop-port-preserved : goal.loop-port-preserved
loop-port-preserved c = let a = c.args in let l = c.loop-port in
    c.in_ok-turn.ensures.turn ∙ ap (turn a.plan.now a.number l.port) l.invariant ∙ sym (turns_more a.plan.now a.number l.port (world_of a.world.now))
