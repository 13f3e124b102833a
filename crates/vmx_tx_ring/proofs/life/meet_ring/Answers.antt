use Rattle.std.proofs.Common.{rules, ap, ◌∙◌}
use Rattle.vmx_tx_ring.proofs.Parts.{meets, tells_met}
use Rattle.vmx_tx_ring.proofs.life.meet_ring.Goals as goal

pub join_seat-requires : goal.join_seat-requires
join_seat-requires g c = let o = c.args.writer in let i = c.args.reader in
    (search rules, search rules, search rules, search rules, meets g.C.TellsCompletions.told _ _ _ _ o.rests.0 o.note.0 o.note.1 i.rests.0 i.note.0 i.note.1)

pub load-requires : goal.load-requires
load-requires g c = let o = c.args.writer in let now = c.join_seat.ensures.2 in
    (search rules, search rules, tells_met g.C.TellsCompletions.told _ _ _ (ap (λ m. m.0.drives) now ∙ o.rests.0) (ap (λ m. m.0.serves) now))
