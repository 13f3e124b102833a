use Rattle.std.proofs.Common.{length, sym, ap, ◌∙◌, arith, length-append}
use Rattle.vmx_tx_ring.specs.Pieces.{joined}
use Rattle.vmx_tx_ring.proofs.reader.TxReader.finish.Goals as goal

pub go_on-last-requires-clause-room : goal.go_on-last-requires-clause-room
go_on-last-requires-clause-room g c = let i = c.loop.invariant in
    let whole = sym (length-append c.loop.into.items (joined c.loop.self.seat.me.0.device.at.ahead)) ∙ ap length i.whole ∙ length-append c.args.into.now.items (joined c.args.self.now.seat.me.0.device.at.ahead) in let a = c.requires.room in let b = i.room in omega arith
