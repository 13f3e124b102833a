use Rattle.std.proofs.Common.{◌≡◌, map, take}
use Rattle.vmx_copies.proofs.join.switch_of.Given as goal

abbrev pub invariant-loop-guest : goal.invariant-loop-guest
invariant-loop-guest l = record {
  macs : l.macs.items ≡ map (λ g. g.mac) (take l.guest-index l.plan.guests);
  sniffers : l.sniffers.items ≡ map (λ g. g.sniffer) (take l.guest-index l.plan.guests);
}
