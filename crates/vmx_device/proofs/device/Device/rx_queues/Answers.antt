use Rattle.std.proofs.Common.{ap, ◌∙◌}
use Rattle.vmx_device.specs.Holds.{inner_view}
use Rattle.vmx_device_laws.specs.Views.{DeviceView, rx_held}
use Rattle.vmx_device_laws.proofs.Looked.{rx_few}
use Rattle.vmx_device.proofs.device.Device.rx_queues.Goals as goal

pub rx_queues-requires-clause-few : goal.rx_queues-requires-clause-few
rx_queues-requires-clause-few g c κs within = rx_few (inner_view c.self.inside.inner) c.self.invariant.keeps

pub returns : goal.returns
returns g c = record { count = c.rx_queues.ensures.count ∙ ap (λ (d : DeviceView). rx_held d.machine.active) c.self.view_is }
