use Rattle.vmx_replay_chains.specs.Views.{guest_views}
use Rattle.vmx_replay_actors.specs.Runs.{AreBegun}
use Rattle.vmx_replay_actors.proofs.begin.activated_guests.Given as goal

abbrev pub invariant-loop-port : goal.invariant-loop-port
invariant-loop-port g l = AreBegun l.port l.plan (guest_views l.guests)
