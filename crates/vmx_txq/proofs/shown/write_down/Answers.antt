use Rattle.std.proofs.Common.{ap, sym, ◌∙◌, arith}
use Rattle.vmx_ring_laws.specs.Keys.{key_of, same_table}
use Rattle.vmx_tx_ring.specs.Tells.{Seated}
use Rattle.vmx_tx_ring.proofs.Parts.{meets}
use Rattle.vmx_txq.specs.Completions.{Rows}
use Rattle.vmx_txq.proofs.Showing.{stands_in}
use Rattle.vmx_txq.proofs.shown.write_down.Goals as goal

pub join_seat-requires : goal.join_seat-requires
join_seat-requires c = let o = c.args.driver.writer in let i = c.args.device.reader in let same = same_table _ _ c.requires.keys in let here = o.seated ∙ sym (ap (λ q. q.shared.table_id) c.deref.ensures) in let many = ap (λ z. z.words) here in let wide = o.words in
    (here, sym same ∙ here, i.rests.4, omega arith, meets Rows _ _ _ _ o.rests.0 o.note.0 o.note.1 i.rests.0 i.note.0 i.note.1)

pub returns-clause-stands : goal.returns-clause-stands
returns-clause-stands c = let o = c.args.driver.writer in let i = c.args.device.reader in let now = c.join_seat.ensures.2 in let seat = c.join_seat.new.seat in
    λ is. stands_in (key_of o.seat.table_id) (key_of i.seat.table_id) seat.id seat.me.0 o.seat.me.0 i.seat.me.0 _ _ (c.write_down.ensures.stood is)
    (ap (λ (m : Seated). m.0.drives) now ∙ o.rests.0) (ap (λ (m : Seated). m.0.serves) now) (ap (λ (m : Seated). m.0.made) now) (ap (λ (m : Seated). m.0.driver) now) (ap (λ (m : Seated). m.0.device) now)
    c.args.driver.rests o.rests.2 c.args.device.rests i.rests.2
