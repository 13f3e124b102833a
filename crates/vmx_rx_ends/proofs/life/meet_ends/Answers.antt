use Rattle.std.proofs.Common.{ap, ◌∙◌, sym}
use Rattle.vmx_ring_laws.specs.Keys.{same_table}
use Rattle.vmx_rx_ring.specs.Tells.{Seated}
use Rattle.vmx_rx_ring.proofs.Parts.{meets, tells_met, some_word}
use Rattle.vmx_rx_ends.proofs.life.meet_ends.Goals as goal

pub join_seat-requires : goal.join_seat-requires
join_seat-requires g c = let o = c.args.reader in let i = c.args.filler in let same = same_table _ _ c.requires.keys in let here = o.seated.0 ∙ sym (ap (λ q. q.shared.table_id) c.deref.ensures) in
    (here, sym same ∙ here, i.device.2, some_word g.C.TellsVisible.counted _ _ o.shape (here, c.requires.words, o.seated.1), meets g.C.TellsVisible.counted _ _ _ _ o.driver.0 i.device.0 o.tells.0 o.tells.1 i.tells.0 i.tells.1)

pub load-requires : goal.load-requires
load-requires g c = let o = c.args.reader in let i = c.args.filler in let here = o.seated.0 ∙ sym (ap (λ q. q.shared.table_id) c.deref-2.ensures) in let now = c.join_seat.ensures.2 in
    (c.join_seat.ensures.0 ∙ here, some_word g.C.TellsVisible.counted _ _ o.shape (here, c.requires.words, o.seated.1), tells_met g.C.TellsVisible.counted _ _ _ (ap (λ (m : Seated). m.0.delivers) now) (ap (λ (m : Seated). m.0.receives) now ∙ o.driver.0))

pub returns-clause-made : goal.returns-clause-made
returns-clause-made g c = let now = c.join_seat.ensures.2 in let told = c.load.ensures.2 in
    sym (sym (ap (λ (m : Seated). m.0.device.latest_made) now) ∙ told.1.made_is ∙ ap (λ (m : Seated). m.0.made) now)
