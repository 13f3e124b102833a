use Rattle.std.proofs.Common.{◌≡◌, length}
use Rattle.vmx_device_laws.specs.Steps.{InSteps}
use Rattle.vmx_device.specs.Holds.{inner_view, Holds, LeavesRoom}
use Rattle.vmx_device.proofs.looking.look_at_links.Given as goal

abbrev pub invariant-loop-index : goal.invariant-loop-index
invariant-loop-index g l = record {
  count : l.links ≡ length l.fn.inner.input;
  kept : length l.inner.input ≡ length l.fn.inner.input;
  steps : InSteps l.index l.found (inner_view l.fn.inner) (inner_view l.inner);
  holds : Holds l.inner;
  room : LeavesRoom l.index 0 0 l.fn.inner l.inner;
}
