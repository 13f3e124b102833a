use Rattle.std.proofs.Common.{◌≡◌, map, take}
use Rattle.vmx_replay_start.proofs.switch.switch_of.Given as goal

abbrev pub invariant-loop-guest : goal.invariant-loop-guest
invariant-loop-guest l = record {
  macs : l.macs ≡ map (λ g. g.mac) (take l.guest-index l.plan.guests);
  sniffers : l.sniffers ≡ map (λ g. g.sniffer) (take l.guest-index l.plan.guests);
}
