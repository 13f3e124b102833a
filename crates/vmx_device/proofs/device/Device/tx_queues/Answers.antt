use Rattle.std.proofs.Common.{ap, ◌∙◌}
use Rattle.vmx_device.specs.Holds.{inner_view}
use Rattle.vmx_device_laws.specs.Views.{DeviceView, tx_held}
use Rattle.vmx_device_laws.proofs.Looked.{tx_few}
use Rattle.vmx_device.proofs.device.Device.tx_queues.Goals as goal

pub tx_queues-requires-clause-few : goal.tx_queues-requires-clause-few
tx_queues-requires-clause-few g c κs within = tx_few (inner_view c.self.inside.inner) c.self.invariant.keeps

pub returns : goal.returns
returns g c = record { count = c.tx_queues.ensures.count ∙ ap (λ (d : DeviceView). tx_held d.machine.active) c.self.view_is }
