use Rattle.std.proofs.Common.{rules, arith, ◌+◌, ℕ, ◌*◌, ◌%◌, ◌∷◌, Some, ap, ◌∙◌}
use Rattle.atomic_table.specs.Table.{rest}
use Rattle.vmx_regs.specs.Slots.{device_slots}
use Rattle.vmx_regs.specs.Plays.{answer_stored}
use Rattle.vmx_regs.proofs.Seen.{store_allows}
use Rattle.vmx_regs.proofs.Steps.{answer_stores}
use Rattle.vmx_regs.proofs.Answered.{owed}
use Rattle.vmx_regs.specs.declared.places.TheConstants.{COUNT_BIT}
use Rattle.vmx_regs.proofs.ends.DeviceRegs.reply.Goals as goal

pub store-requires : goal.store-requires
store-requires g c = let me = c.args.self.now in let v = me.seat.me.0.calls in let b = c.args.bag in let value : ℕ = c.args.value in let o = owed g.E.Handed.handed v.served v.serving value b c.requires.lawful in (
  search rules,
  search rules,
  store_allows g.E.Handed.handed (answer_stored g.E.Handed.handed) _ _ _ _ _ _ (omega arith) (answer_stores _ _ _ _ v b value _ o.0
      (ap (λ m. (m.0.calls, m.1)) c.exchange.ensures.3 ∙ (λ i. (v, (0, Some b) ∷ rest ((me.carries ∙ ap device_slots o.1) i))))
      (ap (λ (t : ℕ). value + COUNT_BIT * ((t + 1) % 2)) me.counts) me.role.1 me.role.0 o.1 (search rules) o.2),
)
