use Rattle.std.proofs.Common.{◌≡◌, map, drop, find}
use Rattle.vmx_model.specs.Fates.{tx_named}
use Rattle.vmx_serial_queues.specs.Queues.{tx_core}
use Rattle.vmx_serial_fates.specs.Fates.{tx_facts}
use Rattle.vmx_serial_fates.proofs.copies.taken_in.Given as goal

abbrev pub invariant-loop-at : goal.invariant-loop-at
invariant-loop-at l = find (tx_named l.activation l.queue) (map tx_facts (map tx_core l.queues)) ≡ find (tx_named l.activation l.queue) (map tx_facts (map tx_core (drop l.at-index l.queues)))
