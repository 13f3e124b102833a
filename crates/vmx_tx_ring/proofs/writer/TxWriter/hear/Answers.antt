use Rattle.std.proofs.Common.{rules, ap, ◌∙◌}
use Rattle.vmx_tx_ring.proofs.Parts.{hears_device_keeps, tells_driver}
use Rattle.vmx_tx_ring.proofs.writer.TxWriter.hear.Goals as goal

pub join_seat-requires : goal.join_seat-requires
join_seat-requires g c = let me = c.args.self.now in (search rules, c.requires.key ∙ search rules, c.requires.side.2, search rules, hears_device_keeps g.C.TellsCompletions.told _ _ _ _ me.rests.0 me.rests.1 me.note.0 me.note.1 c.requires.side.0 c.requires.side.1)

pub load-requires : goal.load-requires
load-requires g c = let me = c.args.self.now in let now = c.join_seat.ensures.2 in (search rules, search rules, tells_driver g.C.TellsCompletions.told _ _ _ (ap (λ m. m.0.drives) now ∙ me.rests.0))
