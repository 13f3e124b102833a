use Rattle.std.proofs.Common.{◌+◌, ◌*◌, ◌∙◌, length, arith, ap, sym, subst}
use Rattle.vmx_model.specs.Serial.{turns, start}
use Rattle.vmx_model.specs.SerialSteps.{rounds_none, rounds_more}
use Rattle.vmx_serial_reference.specs.Worlds.{IsOnTheWay, MOST_OF_ROUND}
use Rattle.vmx_serial_reference.proofs.WayLaws.{way_rounds, way_more}
use Rattle.vmx_serial_reference.proofs.Begins.{way_start}
use Rattle.vmx_serial_reference.proofs.run.serial_run.Goals as goal

pub loop-number-init : goal.loop-number-init
loop-number-init c = let a = c.args in c.in_ok-world.ensures.start ∙ sym (rounds_none a.plan.now (start a.plan.now))

pub round-requires : goal.round-requires
round-requires c = let a = c.args in let l = c.loop-number in
    record { way = subst (IsOnTheWay a.plan.now MOST_OF_ROUND) (sym l.invariant) (way_more a.plan.now (1 + 4352 * l.number) MOST_OF_ROUND _ (omega arith) (way_rounds a.plan.now 1 l.number (start a.plan.now) (way_start a.plan.now))) }

pub loop-number-preserved : goal.loop-number-preserved
loop-number-preserved c = let a = c.args in let l = c.loop-number in
    c.in_ok-round.ensures.turns ∙ ap (turns a.plan.now l.number (length a.plan.now.guests)) l.invariant ∙ sym (rounds_more a.plan.now l.number (start a.plan.now))
