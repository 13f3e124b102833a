use Rattle.std.proofs.Common.{ap, sym, subst}
use Rattle.vmx_device_looks.specs.Notes.{HearsTx, FitsTx}
use Rattle.vmx_device_laws.specs.Views.{DeviceView}
use Rattle.vmx_device.specs.Holds.{inner_view}
use Rattle.vmx_device_laws.proofs.Noted.{keeps_heard_tx}
use Rattle.vmx_device.proofs.device.Device.hear_tx.Goals as goal

pub hear_tx_at-requires-clause-fits : goal.hear_tx_at-requires-clause-fits
hear_tx_at-requires-clause-fits g c κs within = subst (λ (d : DeviceView). FitsTx d.machine c.args.queue (g.F.TxNote.TxNote.view c.args.note)) (sym c.self.view_is) c.requires.fits

pub invariant_of-self : goal.invariant_of-self
invariant_of-self g c = record {
  keeps = keeps_heard_tx (inner_view c.self.inside.inner) c.self.invariant.keeps c.args.queue (g.F.TxNote.TxNote.view c.args.note) c.hear_tx_at.new.machine c.hear_tx_at.ensures.hears;
  rooms = c.self.invariant.rooms;
  begun = c.self.invariant.begun;
}

pub returns-clause-hears : goal.returns-clause-hears
returns-clause-hears g c = subst (λ (d : DeviceView). HearsTx c.args.queue (g.F.TxNote.TxNote.view c.args.note) d.machine c.hear_tx_at.new.machine) c.self.view_is c.hear_tx_at.ensures.hears

pub returns-clause-kept : goal.returns-clause-kept
returns-clause-kept g c = ap (λ (d : DeviceView). record d { machine = c.hear_tx_at.new.machine }) c.self.view_is
