use Rattle.std.proofs.Common.{◌≡◌, ◌≤◌, ◌+◌, length, map}
use Rattle.vmx_regs.specs.Ends.{driver_key, driver_view, driver_masks, driver_interrupts}
use Rattle.vmx_driver_ends.specs.Founds.{KeepsOn}
use Rattle.vmx_driver_ends.specs.PollUpTo.{PollsTo}
use Rattle.vmx_driver_ends.proofs.ends.poll_all.Given as goal

abbrev pub invariant-loop-q : goal.invariant-loop-q
invariant-loop-q g l = let view = g.F.RxDriver.RxDriver.view in record {
  many : length l.rx ≡ length l.fn.rx;
  polls : PollsTo (driver_interrupts l.fn.regs) l.fn.first l.fn.activation l.q (map view l.fn.rx) (map view l.rx) l.fn.received.0 l.received.0 (driver_masks l.fn.regs) (driver_masks l.regs) l.up;
  keeps : KeepsOn l.fn.activation (map view l.fn.rx) (map view l.rx) l.fn.received.0 l.received.0;
  regs : (driver_key l.regs ≡ driver_key l.fn.regs) × (driver_view l.regs ≡ driver_view l.fn.regs);
  room : (l.fn.received.1 ≤ l.received.1 + l.q) × (length l.fn.pool ≤ length l.pool + l.q);
  low : l.up ≤ l.q;
}
