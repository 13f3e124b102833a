use Rattle.std.proofs.Common.{◌≡◌, ◌*◌}
use Rattle.vmx_device_laws.specs.Views.{tx_held}
use Rattle.vmx_device_laws.specs.Steps.{TxSteps}
use Rattle.vmx_device.specs.Holds.{inner_view, Holds, LeavesRoom}
use Rattle.vmx_device.proofs.looking.look_at_queues.Given as goal

abbrev pub invariant-loop-queue : goal.invariant-loop-queue
invariant-loop-queue g l = record {
  count : l.queues ≡ tx_held l.fn.inner.machine.active;
  kept : tx_held l.inner.machine.active ≡ tx_held l.fn.inner.machine.active;
  steps : TxSteps l.queue l.found (inner_view l.fn.inner) (inner_view l.inner);
  holds : Holds l.inner;
  room : LeavesRoom (16 * l.queue) 0 (16 * l.queue) l.fn.inner l.inner;
}
