use Rattle.std.proofs.Common.{◌≡◌, length, take}
use Rattle.vmx_model.specs.Totals.{macs_of, sniffers_of}
use Rattle.vmx_model.proofs.plan_checks.have_ports.Given as goal

-- the ports of the guests so far
abbrev pub invariant-loop-i : goal.invariant-loop-i
invariant-loop-i l = record {
  room : length l.macs ≡ 16;
  places : length l.sniffers ≡ 16;
  macs : take l.i l.macs ≡ macs_of (take l.i l.guests);
  sniffers : take l.i l.sniffers ≡ sniffers_of (take l.i l.guests);
}
