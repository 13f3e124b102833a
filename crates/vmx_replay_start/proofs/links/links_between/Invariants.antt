use Rattle.vmx_replay_start.specs.Linking.{links_view}
use Rattle.vmx_replay_start.proofs.Joining.{LinkedTo}
use Rattle.vmx_replay_start.proofs.links.links_between.Given as goal

abbrev pub invariant-loop-from : goal.invariant-loop-from
invariant-loop-from l = LinkedTo l.ports l.from 0 (links_view l.links)

abbrev pub invariant-loop-to : goal.invariant-loop-to
invariant-loop-to l = LinkedTo l.ports l.from l.to (links_view l.links)
