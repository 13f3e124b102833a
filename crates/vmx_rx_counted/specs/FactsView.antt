-- What contracts see of the facts.
use Rattle.vmx_ring_laws.specs.Keys.{key_of}
use Rattle.vmx_ends.specs.Receive.{RxView}
use Rattle.vmx_rx_ring.specs.Seats.{known}
use Rattle.vmx_rx_ends.specs.Views.{facts_seen}
use Rattle.vmx_rx_counted.specs.declared.facts.RingRxFacts.{RingRxFacts}

abbrev pub facts_view : RingRxFacts → RxView
facts_view f = facts_seen (key_of f.meeting.badge.table_id) (known f.meeting.badge.views)
