use Rattle.std.proofs.Common.{rules, ap, ◌∙◌}
use Rattle.vmx_ring_laws.specs.Keys.{same_table}
use Rattle.vmx_lists.proofs.RxParts.{meets, tells_met}
use Rattle.vmx_lists.proofs.rx.life.meet.Goals as goal

pub join_seat-requires : goal.join_seat-requires
join_seat-requires c = let o = c.args.driver in let i = c.args.device in let same = same_table _ _ c.requires.keys in
    (search rules, search rules, search rules, search rules, meets _ _ _ _ o.rests.0 o.rests.2 i.rests.0 i.rests.2 i.tells.0 i.tells.1)

pub load-requires : goal.load-requires
load-requires c = let o = c.args.driver in let now = c.join_seat.ensures.2 in
    (search rules, search rules, tells_met _ _ _ (ap (λ m. m.0.delivers) now) (ap (λ m. m.0.receives) now ∙ o.rests.0) (ap (λ m. m.0.busy) now ∙ o.rests.2))
