use Rattle.std.proofs.Common.{◌∙◌}
use Rattle.vmx_device_laws.proofs.Lists.{some_of}
use Rattle.vmx_replay_guests.proofs.Both.{tx_pairs_of, rx_pairs_of, still_pairs, queues_passed}
use Rattle.vmx_replay_guests.proofs.queues.pass_held.Goals as goal

pub pass_all_tx-requires-clause-pairs : goal.pass_all_tx-requires-clause-pairs
pass_all_tx-requires-clause-pairs g c κs within =
    let v = c.args.guest.now.driver.driver in let d = c.args.guest.now.device in let a = some_of d.machine.active c.requires.held in tx_pairs_of v d a.0 a.1 c.requires.queues

pub pass_all_rx-requires-clause-pairs : goal.pass_all_rx-requires-clause-pairs
pass_all_rx-requires-clause-pairs g c κs within =
    let v = c.args.guest.now.driver.driver in let d = c.args.guest.now.device in let a = some_of d.machine.active c.requires.held in
    still_pairs v d c.pass_all_tx.new.guest.driver.driver c.pass_all_tx.new.guest.device c.pass_all_tx.ensures.passed (rx_pairs_of v d a.0 a.1 c.requires.queues)

pub returns : goal.returns
returns g c =
    let v = c.args.guest.now.driver.driver in let d = c.args.guest.now.device in let a = some_of d.machine.active c.requires.held in
    let one = c.pass_all_tx.ensures.room in let two = c.pass_all_rx.ensures.room in record {
      passed = queues_passed v d c.pass_all_tx.new.guest.driver.driver c.pass_all_tx.new.guest.device c.pass_all_tx.ensures.passed c.pass_all_rx.new.guest.driver.driver c.pass_all_rx.new.guest.device c.pass_all_rx.ensures.passed a.0 a.1
          (tx_pairs_of v d a.0 a.1 c.requires.queues);
      room = (two.0 ∙ one.0, two.1 ∙ one.1, two.2 ∙ one.2, two.3 ∙ one.3);
    }
