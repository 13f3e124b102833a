use Rattle.std.proofs.Common.{rules, sym, ap, ◌∙◌, arith}
use Rattle.vmx_tx_counted.proofs.CountSteps.{device_counts}
use Rattle.vmx_tx_counted.proofs.completing.complete_next.Goals as goal

pub store-requires : goal.store-requires
store-requires c = let me = c.args.reader.now in let v = me.seat.me.0 in let id_is = me.seated ∙ sym (ap (λ q. q.shared.table_id) c.deref.ensures) in let size = ap (λ z. z.size) (sym me.made_is) in let many = ap (λ z. z.words) id_is in let wide = me.words in let p2 = me.places.2 in
    (search rules, omega arith, device_counts _ _ _ _ _ me.rests.0 me.rests.1 c.requires.taken c.requires.none me.rests.2 (omega arith) (omega arith))
