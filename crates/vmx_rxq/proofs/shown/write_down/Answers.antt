use Rattle.std.proofs.Common.{false, ◌≡◌, ap, sym, ◌∙◌, arith}
use Rattle.vmx_ring_laws.specs.Keys.{key_of, same_table}
use Rattle.vmx_rx_ring.specs.Words.{count}
use Rattle.vmx_rx_ring.specs.Tells.{Seated}
use Rattle.vmx_rx_ring.proofs.Parts.{meets, some_word}
use Rattle.vmx_rxq.proofs.Showing.{slots, stands_in}
use Rattle.vmx_rxq.proofs.shown.write_down.Goals as goal

pub join_seat-requires : goal.join_seat-requires
join_seat-requires c = let o = c.args.driver.reader in let i = c.args.device.filler in let same = same_table _ _ c.requires.keys in let here = o.seated.0 ∙ sym (ap (λ q. q.shared.table_id) c.deref.ensures) in
    (here, sym same ∙ here, i.device.2, some_word false _ _ o.shape (here, c.args.driver.words, o.seated.1), meets false _ _ _ _ o.driver.0 i.device.0 o.tells.0 o.tells.1 i.tells.0 i.tells.1)

pub load-requires : goal.load-requires
load-requires c = let o = c.args.driver.reader in let here = o.seated.0 ∙ sym (ap (λ q. q.shared.table_id) c.deref-2.ensures) in
    (c.join_seat.ensures.0 ∙ here, some_word false _ _ o.shape (here, c.args.driver.words, o.seated.1), slots _ _ _ _ (ap (λ (m : Seated). m.0.receives) c.join_seat.ensures.2 ∙ o.driver.0))

pub write_down-requires-clause-bytes : goal.write_down-requires-clause-bytes
write_down-requires-clause-bytes c = let o = c.args.driver.reader in let here = o.seated.0 ∙ sym (ap (λ q. q.shared.table_id) c.deref-2.ensures) in
    let many : c.load.new.seat.table_id.slots ≡ count o.seat.me.0.made = ap (λ z. z.slots) (c.load.ensures.0 ∙ c.join_seat.ensures.0 ∙ here) ∙ c.load.ensures.2.1 ∙ ap (λ (m : Seated). count m.0.made) c.join_seat.ensures.2 in let room = c.requires.bytes in omega arith

pub returns-clause-stands : goal.returns-clause-stands
returns-clause-stands c = let o = c.args.driver.reader in let i = c.args.device.filler in let now = c.load.ensures.2.0 ∙ c.join_seat.ensures.2 in let seat = c.load.new.seat in
    λ is. stands_in (key_of o.seat.table_id) (key_of i.seat.table_id) seat.id seat.me.0 o.seat.me.0 i.seat.me.0 _ _ (c.write_down.ensures.stood is)
    (ap (λ (m : Seated). m.0.delivers) now) (ap (λ (m : Seated). m.0.receives) now ∙ o.driver.0) (ap (λ (m : Seated). m.0.made) now) (ap (λ (m : Seated). m.0.driver) now) (ap (λ (m : Seated). m.0.device) now)
    (record { read = o.sums.0; back1 = o.sums.1; back2 = o.sums.2; idle = o.idle })
    (record { gone1 = i.gone.0; gone2 = i.gone.1; staged = i.none; opened = i.still.1; filling = i.still.0 })
