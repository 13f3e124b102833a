use Rattle.std.proofs.Common.{ap, sym, subst}
use Rattle.vmx_device_looks.specs.Looks.{TxAt}
use Rattle.vmx_device_looks.specs.Notes.{NotesTx}
use Rattle.vmx_device_laws.specs.Views.{DeviceView}
use Rattle.vmx_device.specs.Holds.{inner_view}
use Rattle.vmx_device_laws.proofs.Noted.{keeps_noted_tx}
use Rattle.vmx_device.proofs.device.Device.note_tx.Goals as goal

pub note_tx_of-requires-clause-here : goal.note_tx_of-requires-clause-here
note_tx_of-requires-clause-here g c κs within = subst (λ (d : DeviceView). TxAt d.machine c.args.queue) (sym c.self.view_is) c.requires.here

pub invariant_of-self : goal.invariant_of-self
invariant_of-self g c = record {
  keeps = keeps_noted_tx (inner_view c.self.inside.inner) c.self.invariant.keeps c.args.queue (g.F.TxNote.TxNote.view c.note_tx_of.result) c.note_tx_of.new.machine c.note_tx_of.ensures.notes;
  rooms = c.self.invariant.rooms;
  begun = c.self.invariant.begun;
}

pub returns-clause-notes : goal.returns-clause-notes
returns-clause-notes g c = subst (λ (d : DeviceView). NotesTx c.args.queue (g.F.TxNote.TxNote.view c.note_tx_of.result) d.machine c.note_tx_of.new.machine) c.self.view_is c.note_tx_of.ensures.notes

pub returns-clause-kept : goal.returns-clause-kept
returns-clause-kept g c = ap (λ (d : DeviceView). record d { machine = c.note_tx_of.new.machine }) c.self.view_is
