use Rattle.std.proofs.Common.{◌≡◌, ◌<◌, ◌^◌, List, length}
use Rattle.vmx_driver_steps.specs.Driver.{DriverView}
use Rattle.vmx_replay_settled.specs.Settled.{ArePaired}
use Rattle.vmx_replay_chains.specs.Chains.{MeetsBy}
use Rattle.vmx_replay_chains.proofs.Following.{left}
use Rattle.vmx_replay_chains.proofs.commands.meet_all.Given as goal

abbrev pub invariant-loop-guest : goal.invariant-loop-guest
invariant-loop-guest g l = record {
  meets : (steps : List DriverView) × MeetsBy l.fn.guest.driver.driver steps l.guest.driver.driver;
  few : length l.guest.driver.driver.received < 2 ^ 64;
  paired : ArePaired l.guest.driver.driver l.guest.device;
  device : l.guest.device ≡ l.fn.guest.device;
}

abbrev pub decreases-loop-guest : goal.decreases-loop-guest
decreases-loop-guest g l = left l.guest.driver.driver
