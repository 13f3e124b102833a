use Rattle.std.proofs.Common.{◌<◌, length, refl, sym, ap, ◌∙◌, arith}
use Rattle.vmx_shared_area.specs.declared.stats.Side.{Side}
use Rattle.vmx_machine_state.specs.Views.{MachineView}
use Rattle.vmx_machine_state.specs.Statistics.{stats_on}
use Rattle.vmx_machine_state.specs.Sums.{sums_after}
use Rattle.vmx_machine_state.proofs.Tallies.{tx_counted, rx_counted, many}
use Rattle.vmx_machine.proofs.machine.Machine.count.Goals as goal

pub returns-in-Tx : goal.returns-in-Tx
returns-in-Tx g c =
    let lt : c.args.queue < length c.self.inside.tx = omega arith in
    let counted = tx_counted c.self.inside.tx c.args.queue c.index-self-queue.result lt c.index-self-queue.is _ _ c.self.view_is refl c.args.side c.in-Tx.is c.args.what c.count_in.new.stats c.count_in.ensures.counted in
    record {
      counted = counted;
      sums = sums_after c.args.side c.args.queue c.args.what c.args.self.now _ (many c.self.inside.tx c.args.queue lt (stats_on c.args.side c.args.self.now) (ap (λ (s : Side). stats_on s c.args.self.now) c.in-Tx.is ∙ sym (ap (λ (m : MachineView). m.tx_stats) c.self.view_is))) counted;
    }

pub returns-in-Rx : goal.returns-in-Rx
returns-in-Rx g c =
    let lt : c.args.queue < length c.self.inside.rx = omega arith in
    let counted = rx_counted c.self.inside.rx c.args.queue c.index-self-queue-in-Rx.result lt c.index-self-queue-in-Rx.is _ _ c.self.view_is refl c.args.side c.in-Rx.is c.args.what c.count_in-in-Rx.new.stats c.count_in-in-Rx.ensures.counted in
    record {
      counted = counted;
      sums = sums_after c.args.side c.args.queue c.args.what c.args.self.now _ (many c.self.inside.rx c.args.queue lt (stats_on c.args.side c.args.self.now) (ap (λ (s : Side). stats_on s c.args.self.now) c.in-Rx.is ∙ sym (ap (λ (m : MachineView). m.rx_stats) c.self.view_is))) counted;
    }
