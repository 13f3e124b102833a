use Rattle.std.proofs.Common.{◌≡◌, length, refl, ◌∙◌, arith}
use Rattle.vmx_device_laws.specs.Pairs.{rx_of}
use Rattle.vmx_replay_guests.proofs.Ends.{rx_count}
use Rattle.vmx_replay_guests.proofs.AllRx.{rx_none, rx_next_there, rx_one_more, rx_all}
use Rattle.vmx_replay_guests.proofs.queues.pass_all_rx.Goals as goal

pub loop-queue-init : goal.loop-queue-init
loop-queue-init g c = record { count = c.rx_queues-queues.ensures.count; passed = rx_none c.args.guest.now.driver.driver c.args.guest.now.device c.requires.pairs; room = (refl, refl, refl, refl) }

pub pass_rx-requires-clause-there : goal.pass_rx-requires-clause-there
pass_rx-requires-clause-there g c κs within =
    let inv = c.loop-queue.invariant in let below = c.loop-queue-test.true in let count = inv.count in let many = rx_count c.args.guest.now.device.machine.active in
    rx_next_there c.loop-queue.queue c.args.guest.now.driver.driver c.args.guest.now.device c.loop-queue.guest.driver.driver c.loop-queue.guest.device inv.passed (omega (arith, below, count, many))

pub loop-queue-preserved : goal.loop-queue-preserved
loop-queue-preserved g c = let inv = c.loop-queue.invariant in let more = c.pass_rx.ensures in record {
  count = inv.count;
  passed = rx_one_more c.loop-queue.queue c.args.guest.now.driver.driver c.args.guest.now.device c.loop-queue.guest.driver.driver c.loop-queue.guest.device inv.passed c.pass_rx.new.guest.driver.driver c.pass_rx.new.guest.device more.passed;
  room = (more.room.0 ∙ inv.room.0, more.room.1 ∙ inv.room.1, more.room.2 ∙ inv.room.2, more.room.3 ∙ inv.room.3);
}

pub returns : goal.returns
returns g c =
    let inv = c.loop-queue.invariant in let no_more = c.loop-queue-test.false in let most = c.loop-queue.auto.queue-end in let count = inv.count in let many = rx_count c.args.guest.now.device.machine.active in
    let all : c.loop-queue.queue ≡ length (rx_of c.args.guest.now.device.machine.active) = omega (arith, no_more, most, count, many) in
    record { passed = rx_all c.loop-queue.queue c.args.guest.now.driver.driver c.args.guest.now.device c.loop-queue.guest.driver.driver c.loop-queue.guest.device inv.passed all; room = inv.room }
