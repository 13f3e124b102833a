use Rattle.std.proofs.Common.{ap, ◌∙◌, sym}
use Rattle.vmx_rx_ring.proofs.Parts.{gives_device, some_word}
use Rattle.vmx_rx_ends.proofs.filler.RxFiller.note.Goals as goal

pub split_seat-requires : goal.split_seat-requires
split_seat-requires g c = let me = c.args.self.now in let same = me.seated.0 ∙ sym (ap (λ q. q.shared.table_id) c.deref.ensures) in
    (same, some_word g.C.TellsVisible.counted _ _ me.shape (same, c.requires.words, me.seated.1), gives_device g.C.TellsVisible.counted _ _ me.device.0 me.device.1 me.tells.0 me.tells.1 me.gone.0 me.gone.1)
