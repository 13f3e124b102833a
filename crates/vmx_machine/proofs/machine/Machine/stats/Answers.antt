use Rattle.std.proofs.Common.{◌<◌, length, refl, arith}
use Rattle.vmx_machine_state.proofs.Tallies.{tx_told, rx_told}
use Rattle.vmx_machine.proofs.machine.Machine.stats.Goals as goal

pub returns-in-Tx : goal.returns-in-Tx
returns-in-Tx g c =
    let lt : c.args.queue < length c.self.inside.tx = omega arith in
    record { stats = tx_told c.self.inside.tx c.args.queue c.index-self-queue.result lt c.index-self-queue.is _ _ c.self.view_is refl c.args.side c.in-Tx.is }

pub returns-in-Rx : goal.returns-in-Rx
returns-in-Rx g c =
    let lt : c.args.queue < length c.self.inside.rx = omega arith in
    record { stats = rx_told c.self.inside.rx c.args.queue c.index-self-queue-in-Rx.result lt c.index-self-queue-in-Rx.is _ _ c.self.view_is refl c.args.side c.in-Rx.is }
