use Rattle.std.proofs.Common.{rules, arith, ◌+◌, ℕ, ◌*◌, ◌%◌, ◌∷◌, Some, ap, ◌∙◌}
use Rattle.atomic_table.specs.Table.{rest}
use Rattle.vmx_regs.specs.Slots.{driver_slots}
use Rattle.vmx_regs.specs.Plays.{command_stored}
use Rattle.vmx_regs.proofs.Seen.{store_allows}
use Rattle.vmx_regs.proofs.Steps.{command_stores}
use Rattle.vmx_regs.specs.declared.places.TheConstants.{COUNT_BIT}
use Rattle.vmx_regs.proofs.ends.DriverRegs.command.Goals as goal

pub store-requires : goal.store-requires
store-requires g c = let me = c.args.self.now in let v = me.seat.me.0.calls in let b = c.args.bag in let number : ℕ = c.args.number in (
  search rules,
  search rules,
  store_allows g.E.Handed.handed (command_stored g.E.Handed.handed) _ _ _ _ _ _ (omega arith) (command_stores _ _ _ _ v b number _
      (ap (λ m. (m.0.calls, m.1)) c.exchange.ensures.3 ∙ (λ i. (v, (0, Some b) ∷ rest ((me.carries ∙ ap driver_slots c.requires.none) i))))
      (ap (λ (t : ℕ). number + COUNT_BIT * ((t + 1) % 2)) me.counts.0) me.role.0 me.role.1 me.role.2 c.requires.none (search rules) c.requires.lawful),
)
