use Rattle.vmx_replay_start.specs.Views.{guest_views}
use Rattle.vmx_replay_start.specs.Linking.{links_view}
use Rattle.vmx_replay_start.proofs.Taking.{TakenTo}
use Rattle.vmx_replay_start.proofs.guests.new_guests.Given as goal

abbrev pub invariant-loop-port : goal.invariant-loop-port
invariant-loop-port g l = TakenTo l.plan l.port (links_view l.initial.links) (links_view l.links) (guest_views l.guests)
