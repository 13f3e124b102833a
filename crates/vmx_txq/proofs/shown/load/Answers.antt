use Rattle.std.proofs.Common.{rules, sym, ap, ◌∙◌, arith}
use Rattle.vmx_txq.proofs.Showing.{shows}
use Rattle.vmx_txq.proofs.shown.load.Goals as goal

pub load-requires : goal.load-requires
load-requires c = let me = c.args.writer.now in let id_is = me.seated ∙ sym (ap (λ q. q.shared.table_id) c.deref.ensures) in let many = ap (λ z. z.words) id_is in let low = c.requires.index in
    (search rules, omega arith, shows _ _ _ _ me.rests.0)
