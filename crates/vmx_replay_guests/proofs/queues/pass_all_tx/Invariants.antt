use Rattle.std.proofs.Common.{◌≡◌}
use Rattle.vmx_device_laws.specs.Views.{tx_held}
use Rattle.vmx_driver.specs.Stocked.{SameRoom}
use Rattle.vmx_replay_guests.specs.Passing.{TxPassedUpTo}
use Rattle.vmx_replay_guests.proofs.queues.pass_all_tx.Given as goal

abbrev pub invariant-loop-queue : goal.invariant-loop-queue
invariant-loop-queue g l = record {
  count : l.queues ≡ tx_held l.fn.guest.device.machine.active;
  passed : TxPassedUpTo l.queue l.fn.guest.driver.driver l.fn.guest.device l.guest.driver.driver l.guest.device;
  room : SameRoom l.fn.guest.driver l.guest.driver;
}
