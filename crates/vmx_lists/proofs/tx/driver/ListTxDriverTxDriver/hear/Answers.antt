use Rattle.std.proofs.Common.{rules, ap, sym, ◌∙◌, not}
use Rattle.vmx_ring_laws.specs.Keys.{same_table}
use Rattle.vmx_lists.specs.TxEnds.{note_view}
use Rattle.vmx_lists.proofs.TxParts.{hears_device_keeps, tells_driver}
use Rattle.vmx_lists.proofs.tx.driver.ListTxDriverTxDriver.hear.Goals as goal

pub join_seat-requires : goal.join_seat-requires
join_seat-requires c = let me = c.args.self.now in let note = c.in-Told.slip in
    let same = same_table note.seat.table_id me.seat.table_id (ap (λ n. (note_view n).key) (sym c.in-Told.is) ∙ c.requires.key) in let side = ap (λ n. (note_view n).of_driver) (sym c.in-Told.is) ∙ c.requires.side in
    (search rules, same ∙ search rules, search rules, search rules, hears_device_keeps _ _ _ _ me.rests.0 me.rests.1 (note.side ∙ ap not side) side)

pub load-requires : goal.load-requires
load-requires c = let me = c.args.self.now in let now = c.join_seat.ensures.2 in (search rules, search rules, tells_driver _ _ _ (ap (λ m. m.0.sends) now ∙ me.rests.0))
