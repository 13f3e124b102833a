use Rattle.std.proofs.Common.{ap, sym, subst}
use Rattle.vmx_device_looks.specs.Looks.{RxAt}
use Rattle.vmx_device_looks.specs.Notes.{NotesRx}
use Rattle.vmx_device_laws.specs.Views.{DeviceView}
use Rattle.vmx_device.specs.Holds.{inner_view}
use Rattle.vmx_device_laws.proofs.Noted.{keeps_noted_rx}
use Rattle.vmx_device.proofs.device.Device.note_rx.Goals as goal

pub note_rx_of-requires-clause-here : goal.note_rx_of-requires-clause-here
note_rx_of-requires-clause-here g c κs within = subst (λ (d : DeviceView). RxAt d.machine c.args.queue) (sym c.self.view_is) c.requires.here

pub invariant_of-self : goal.invariant_of-self
invariant_of-self g c = record {
  keeps = keeps_noted_rx (inner_view c.self.inside.inner) c.self.invariant.keeps c.args.queue (g.F.RxNote.RxNote.view c.note_rx_of.result) c.note_rx_of.new.machine c.note_rx_of.ensures.notes;
  rooms = c.self.invariant.rooms;
  begun = c.self.invariant.begun;
}

pub returns-clause-notes : goal.returns-clause-notes
returns-clause-notes g c = subst (λ (d : DeviceView). NotesRx c.args.queue (g.F.RxNote.RxNote.view c.note_rx_of.result) d.machine c.note_rx_of.new.machine) c.self.view_is c.note_rx_of.ensures.notes

pub returns-clause-kept : goal.returns-clause-kept
returns-clause-kept g c = ap (λ (d : DeviceView). record d { machine = c.note_rx_of.new.machine }) c.self.view_is
