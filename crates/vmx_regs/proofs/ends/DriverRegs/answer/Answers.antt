use Rattle.std.proofs.Common.{rules, arith, ◌+◌, ℕ, ◌%◌, ◌∷◌, Some, sym, ap, ◌∙◌, subst}
use Rattle.atomic_table.specs.Table.{rest}
use Rattle.vmx_regs.specs.Slots.{driver_slots}
use Rattle.vmx_regs.specs.Turns.{AreTurns}
use Rattle.vmx_regs.specs.Rule.{DriverAgrees}
use Rattle.vmx_regs.specs.Plays.{answered_by, answer_looked, IsLast}
use Rattle.vmx_regs.proofs.Seen.{load_allows}
use Rattle.vmx_regs.proofs.Steps.{answer_looks}
use Rattle.vmx_regs.proofs.Answered.{some_asked, same_bag}
use Rattle.vmx_regs.specs.declared.places.TheConstants.{COUNT_BIT}
use Rattle.vmx_regs.proofs.ends.DriverRegs.answer.Goals as goal

pub load-word-requires : goal.load-word-requires
load-word-requires g c = let me = c.args.self.now in let is = some_asked me.seat.me.0.calls.asked c.requires.some in (
  search rules,
  search rules,
  load_allows g.E.Handed.handed (answer_looked g.E.Handed.handed) _ _ _ _ _ (omega arith) (answer_looks _ _ _ _ is.0 me.role.0 me.role.1 is.1 (me.carries ∙ ap driver_slots is.1)),
)

pub exchange-requires : goal.exchange-requires
exchange-requires g c = let me = c.args.self.now in let took = c.load-word.ensures.2.1.0 (c.if-word-self.false ∙ ap (λ (t : ℕ). (t + 1) % 2) me.counts.0) in
    (search rules, (Some took.0, ap (λ m. m.1) took.1 ∙ (λ i. (0, Some took.0) ∷ rest (sym took.1 i).1)))

pub returns-clause-answer : goal.returns-clause-answer
returns-clause-answer g c = let me = c.args.self.now in let v = me.seat.me.0.calls in let took = c.load-word.ensures.2.1.0 (c.if-word-self.false ∙ ap (λ (t : ℕ). (t + 1) % 2) me.counts.0) in
    let word : ℕ = c.load-word.result in let e = same_bag _ _ _ _ (ap (λ m. m.1) took.1) c.exchange.ensures.2 c.unwrap-bag.ensures in (
      ap (λ m. m.0.calls) c.exchange.ensures.3 ∙ ap (λ m. m.0) took.1 ∙ ap (answered_by g.E.Handed.handed v v.asked (word % COUNT_BIT)) (sym e),
      subst AreTurns (sym (ap (λ m. m.0.calls.turns) c.exchange.ensures.3)) took.2,
      subst (IsLast g.E.Handed.handed v.turns v.asked (word % COUNT_BIT)) (sym e) took.3,
      subst DriverAgrees (sym (ap (λ m. m.0.calls) c.exchange.ensures.3)) took.4,
    )
