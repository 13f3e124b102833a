use Rattle.std.proofs.Common.{ap, sym, subst}
use Rattle.vmx_device_looks.specs.Notes.{HearsRx, FitsRx}
use Rattle.vmx_device_laws.specs.Views.{DeviceView}
use Rattle.vmx_device.specs.Holds.{inner_view}
use Rattle.vmx_device_laws.proofs.Noted.{keeps_heard_rx}
use Rattle.vmx_device.proofs.device.Device.hear_rx.Goals as goal

pub hear_rx_at-requires-clause-fits : goal.hear_rx_at-requires-clause-fits
hear_rx_at-requires-clause-fits g c κs within = subst (λ (d : DeviceView). FitsRx d.machine c.args.queue (g.F.RxNote.RxNote.view c.args.note)) (sym c.self.view_is) c.requires.fits

pub invariant_of-self : goal.invariant_of-self
invariant_of-self g c = record {
  keeps = keeps_heard_rx (inner_view c.self.inside.inner) c.self.invariant.keeps c.args.queue (g.F.RxNote.RxNote.view c.args.note) c.hear_rx_at.new.machine c.hear_rx_at.ensures.hears;
  rooms = c.self.invariant.rooms;
  begun = c.self.invariant.begun;
}

pub returns-clause-hears : goal.returns-clause-hears
returns-clause-hears g c = subst (λ (d : DeviceView). HearsRx c.args.queue (g.F.RxNote.RxNote.view c.args.note) d.machine c.hear_rx_at.new.machine) c.self.view_is c.hear_rx_at.ensures.hears

pub returns-clause-kept : goal.returns-clause-kept
returns-clause-kept g c = ap (λ (d : DeviceView). record d { machine = c.hear_rx_at.new.machine }) c.self.view_is
