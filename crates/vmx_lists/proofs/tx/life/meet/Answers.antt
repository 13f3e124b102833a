use Rattle.std.proofs.Common.{rules, ap, ◌∙◌}
use Rattle.vmx_ring_laws.specs.Keys.{same_table}
use Rattle.vmx_lists.proofs.TxParts.{meets, tells_met}
use Rattle.vmx_lists.proofs.tx.life.meet.Goals as goal

pub join_seat-requires : goal.join_seat-requires
join_seat-requires c = let o = c.args.driver in let i = c.args.device in let same = same_table _ _ c.requires.keys in
    (search rules, search rules, search rules, search rules, meets _ _ _ _ o.rests.0 o.rests.1 i.rests.0 i.rests.1 i.tells.0 i.tells.1)

pub load-requires : goal.load-requires
load-requires c = let o = c.args.driver in let now = c.join_seat.ensures.2 in
    (search rules, search rules, tells_met _ _ _ (ap (λ m. m.0.sends) now ∙ o.rests.0) (ap (λ m. m.0.takes) now))
