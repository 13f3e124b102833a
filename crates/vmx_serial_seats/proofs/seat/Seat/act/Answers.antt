use Rattle.std.proofs.Common.{◌+◌, ◌∙◌, ◌^◌, ap, sym, arith, subst, take, length, nat_eq, List, get_or}
use Rattle.std.specs.List.{filter}
use Rattle.vmx_model.specs.declared.deeds.Action.{Action}
use Rattle.vmx_model.specs.Serial.{done}
use Rattle.vmx_serial_seats.specs.Seats.{seat_of}
use Rattle.vmx_serial_seats.specs.Small.{IsSmall, MOST}
use Rattle.vmx_serial_seats.proofs.SmallLaws.{queues_in, small_deeds, small_more, kept_deeds}
use Rattle.vmx_serial_seats.proofs.Scripts.{script_fits_at, few_actions, acted_next}
use Rattle.vmx_serial_seats.proofs.seat.Seat.act.Goals as goal

pub act_if-requires-clause-fits : goal.act_if-requires-clause-fits
act_if-requires-clause-fits c = let a = c.args in let l = c.loop-action in let n = ap length c.as_slice-action-items.ensures.items in let before = filter (λ (x : Action). nat_eq x.at a.number) (take l.action-index a.plan.now.script) in
    script_fits_at a.plan.now l.action-index c.action-item.result _ (omega arith) (c.action-item.is ∙ ap (λ (xs : List Action). get_or xs l.action-index c.action-item.result) c.as_slice-action-items.ensures.items) (ap queues_in l.invariant ∙ kept_deeds a.port a.plan.now before (seat_of a.self.now) ∙ c.requires.queues)

pub act_if-requires-clause-small : goal.act_if-requires-clause-small
act_if-requires-clause-small c = let a = c.args in let l = c.loop-action in let n = ap length c.as_slice-action-items.ensures.items in let before = filter (λ (x : Action). nat_eq x.at a.number) (take l.action-index a.plan.now.script) in let few = few_actions a.plan.now a.number l.action-index in
    subst (IsSmall MOST) (sym l.invariant) (small_more (2 ^ 31 + length before) MOST (omega arith) _ (small_deeds (2 ^ 31) a.port a.plan.now before (seat_of a.self.now) c.requires.small))

pub loop-action-preserved : goal.loop-action-preserved
loop-action-preserved c = let a = c.args in let l = c.loop-action in let n = ap length c.as_slice-action-items.ensures.items in
    acted_next (λ s x. done a.port a.plan.now x.deed s) (λ (x : Action). nat_eq x.at a.number) a.plan.now.script l.action-index c.action-item.result (seat_of a.self.now) (seat_of l.self) (seat_of c.act_if.new.self) (omega arith) (c.action-item.is ∙ ap (λ (xs : List Action). get_or xs l.action-index c.action-item.result) c.as_slice-action-items.ensures.items) l.invariant c.in_ok-act_if.ensures.done
