use Rattle.vmx_replay_start.specs.Linking.{AreNone, links_view}
use Rattle.vmx_replay_start.proofs.links.no_links.Given as goal

abbrev pub invariant-loop-port : goal.invariant-loop-port
invariant-loop-port l = AreNone l._port (links_view (record { out = l.out; input = l.input }))
