use Rattle.std.proofs.Common.{rules, ◌+◌, ℕ, ◌*◌, ◌/◌, ◌%◌, sym, refl, ap, ap₂, ◌∙◌}
use Rattle.vmx_ring_laws.specs.Steps.{swaps_out}
use Rattle.vmx_link.specs.Tells.{writes}
use Rattle.vmx_link.proofs.Looks.{out_loads}
use Rattle.vmx_link.proofs.Stores.{out_stores}
use Rattle.vmx_link.proofs.ends.LinkOut.push.Goals as goal

pub load-word-requires : goal.load-word-requires
load-word-requires c = let me = c.args.self.now in let n = me.sized.0 ∙ ap (λ z. z.slots) (me.seated ∙ sym (ap (λ q. q.shared.table_id) c.deref.ensures)) in (
  search rules,
  search rules,
  out_loads _ _ _ _ me.rests.0 me.rests.1 me.rests.2 me.rests.3 (ap₂ (λ (a b : ℕ). a % b) me.counts.0 n),
)

pub store-requires : goal.store-requires
store-requires c = let me = c.args.self.now in let n = me.sized.0 ∙ ap (λ z. z.slots) (me.seated ∙ sym (ap (λ q. q.shared.table_id) c.deref.ensures)) in
    let at = ap₂ (λ (a b : ℕ). a % b) me.counts.0 n in let round = ap₂ (λ (a b : ℕ). 2 * (a / b)) me.counts.0 n in
    let took = c.load-word.ensures.2.0 (c.if-word-free.false ∙ round) in (
      search rules,
      search rules,
      out_stores _ _ _ (writes me.seat.me.0) c.args.packet _ _ (swaps_out _ _ _ _ _ _ _ took at c.exchange.ensures.3) me.rests.0 me.rests.1 refl at (ap (λ (z : ℕ). z + 1) round),
    )
