use Rattle.std.proofs.Common.{rules, sym, ap, ◌∙◌}
use Rattle.vmx_ring_laws.specs.Keys.{same_table}
use Rattle.vmx_link.proofs.Parts.{meets, tells_met}
use Rattle.vmx_link.proofs.ends.meeting.meet.Goals as goal

pub join_seat-requires : goal.join_seat-requires
join_seat-requires c = let o = c.args.output in let i = c.args.input in let here = o.seated ∙ sym (ap (λ q. q.shared.table_id) c.deref.ensures) in
    (here, sym (same_table _ _ c.requires.key) ∙ here, search rules, search rules, meets _ _ _ _ o.rests.0 o.rests.2 i.rests.1 i.rests.2 i.tells.0 i.tells.1)

pub load-requires : goal.load-requires
load-requires c = let o = c.args.output in let now = c.join_seat.ensures.2 in
    (search rules, search rules, tells_met _ _ _ (ap (λ m. m.0.sends) now ∙ o.rests.0) (ap (λ m. m.0.receives) now) (ap (λ m. m.0.busy) now ∙ o.rests.2))
