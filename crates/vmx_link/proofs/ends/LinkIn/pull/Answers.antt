use Rattle.std.proofs.Common.{rules, ◌+◌, ℕ, ◌*◌, ◌/◌, ◌%◌, ◌∷◌, [], length, sym, refl, ap, ap₂, ◌∙◌, Some, arith, length-append}
use Rattle.atomic_table.specs.Table.{rest}
use Rattle.vmx_ring_laws.specs.Steps.{swaps_out}
use Rattle.vmx_link.specs.Tells.{takes_packet}
use Rattle.vmx_link.proofs.Looks.{in_loads}
use Rattle.vmx_link.proofs.Stores.{in_stores}
use Rattle.vmx_link.proofs.ends.LinkIn.pull.Goals as goal

pub load-word-requires : goal.load-word-requires
load-word-requires c = let me = c.args.self.now in let n = me.sized.0 ∙ ap (λ z. z.slots) (me.seated ∙ sym (ap (λ q. q.shared.table_id) c.deref.ensures)) in (
  search rules,
  search rules,
  in_loads _ _ _ _ me.rests.1 me.rests.0 me.rests.2 me.rests.3 (ap₂ (λ (a b : ℕ). a % b) me.counts n),
)

pub exchange-requires : goal.exchange-requires
exchange-requires c = let me = c.args.self.now in let n = me.sized.0 ∙ ap (λ z. z.slots) (me.seated ∙ sym (ap (λ q. q.shared.table_id) c.deref.ensures)) in
    let at = ap₂ (λ (a b : ℕ). a % b) me.counts n in let round = ap₂ (λ (a b : ℕ). 2 * (a / b) + 1) me.counts n in
    let took = c.load-word.ensures.2.0 (c.if-word-filled.false ∙ round) in
    (search rules, (Some took.0, ap (λ m. m.1) took.1 ∙ (λ i. (sym at i, Some took.0) ∷ rest (sym took.1 i).1)))

pub store-requires : goal.store-requires
store-requires c = let me = c.args.self.now in let n = me.sized.0 ∙ ap (λ z. z.slots) (me.seated ∙ sym (ap (λ q. q.shared.table_id) c.deref.ensures)) in
    let at = ap₂ (λ (a b : ℕ). a % b) me.counts n in let round = ap₂ (λ (a b : ℕ). 2 * (a / b) + 1) me.counts n in
    let took = c.load-word.ensures.2.0 (c.if-word-filled.false ∙ round) in let v = me.seat.me.0 in (
      search rules,
      search rules,
      in_stores _ _ _ (takes_packet v took.0) (length v.pulled) _ _ (swaps_out _ _ _ _ _ _ _ took.1 at c.exchange.ensures.3) me.rests.1 me.rests.0 refl (length-append v.pulled (took.0 ∷ []) ∙ (omega arith)) at (ap (λ (z : ℕ). z + 1) round),
    )
