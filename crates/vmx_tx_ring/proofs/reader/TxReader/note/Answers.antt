use Rattle.std.proofs.Common.{rules}
use Rattle.vmx_tx_ring.proofs.Parts.{gives_device}
use Rattle.vmx_tx_ring.proofs.reader.TxReader.note.Goals as goal

pub split_seat-requires : goal.split_seat-requires
split_seat-requires g c = let me = c.args.self.now in (search rules, search rules, gives_device g.C.TellsCompletions.told _ _ me.rests.0 me.rests.1)
