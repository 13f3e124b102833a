use Rattle.std.proofs.Common.{ap, ◌∙◌, sym, not}
use Rattle.vmx_ring_laws.specs.Keys.{same_table}
use Rattle.vmx_rx_ring.specs.Tells.{Seated}
use Rattle.vmx_rx_ring.proofs.Parts.{hears_device_keeps, tells_driver, some_word}
use Rattle.vmx_rx_ends.proofs.reader.RxReader.hear.Goals as goal

pub join_seat-requires : goal.join_seat-requires
join_seat-requires g c = let me = c.args.self.now in let here = me.seated.0 ∙ sym (ap (λ q. q.shared.table_id) c.deref.ensures) in let same = same_table _ _ c.requires.key in
    (here, same ∙ here, c.requires.slip.0, some_word g.C.TellsVisible.counted _ _ me.shape (here, c.requires.words, me.seated.1), hears_device_keeps g.C.TellsVisible.counted _ _ _ _ me.driver.0 me.driver.1 me.tells.0 me.tells.1 (c.requires.slip.1 ∙ ap not c.requires.side) c.requires.side)

pub load-requires : goal.load-requires
load-requires g c = let me = c.args.self.now in let here = me.seated.0 ∙ sym (ap (λ q. q.shared.table_id) c.deref.ensures) in let now = c.join_seat.ensures.2 in
    (c.join_seat.ensures.0 ∙ here, some_word g.C.TellsVisible.counted _ _ me.shape (here, c.requires.words, me.seated.1), tells_driver g.C.TellsVisible.counted _ _ _ (ap (λ (m : Seated). m.0.receives) now ∙ me.driver.0))
