use Rattle.std.proofs.Common.{◌≡◌, map, take}
use Rattle.vmx_serial_reference.proofs.world.targets_of.Given as goal

abbrev pub invariant-loop-guest : goal.invariant-loop-guest
invariant-loop-guest l = record {
  macs : l.macs.items ≡ map (λ g. g.mac) (take l.guest-index l.plan.guests);
  sniffers : l.sniffers.items ≡ map (λ g. g.sniffer) (take l.guest-index l.plan.guests);
}
