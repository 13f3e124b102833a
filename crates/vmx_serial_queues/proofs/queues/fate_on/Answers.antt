use Rattle.std.proofs.Common.{arith}
use Rattle.vmx_io.specs.Views.{holds_at}
use Rattle.vmx_serial_queues.specs.Queues.{rx_core}
use Rattle.vmx_serial_queues.specs.Small.{IsShort}
use Rattle.vmx_serial_queues.proofs.queues.fate_on.Goals as goal

pub fate_at-requires-clause-short : goal.fate_at-requires-clause-short
fate_at-requires-clause-short c = holds_at rx_core c.args.queues.now c.loop-at.at-index c.at-item.result (omega arith) c.at-item.is IsShort c.requires.short
