use Rattle.std.proofs.Common.{ap, ◌∙◌}
use Rattle.vmx_regs.specs.declared.known.Calls.{Calls}
use Rattle.vmx_regs.specs.Rule.{told_device, device_note}
use Rattle.vmx_regs.specs.Ends.{device_key, device_view, device_masks}
use Rattle.vmx_device_laws.specs.Views.{DeviceView}
use Rattle.vmx_device.specs.Holds.{inner_view}
use Rattle.vmx_device_laws.proofs.News.{keeps_calls}
use Rattle.vmx_device.proofs.device.Device.note_regs.Goals as goal

pub invariant_of-self : goal.invariant_of-self
invariant_of-self g c =
    let told = c.note.ensures.view in record {
      keeps = keeps_calls (inner_view c.self.inside.inner) c.self.invariant.keeps (device_view c.note.new.self) (device_key c.note.new.self) (device_masks c.note.new.self) (ap (λ (v : Calls). v.served) told) (ap (λ (v : Calls). v.serving) told) (ap (λ (v : Calls). v.interrupts) told);
      rooms = c.self.invariant.rooms;
      begun = c.self.invariant.begun;
    }

pub returns-clause-note : goal.returns-clause-note
returns-clause-note g c =
    (λ i. record (inner_view c.self.inside.inner) { key = c.note.ensures.key i; calls = c.note.ensures.view i; masks = c.note.ensures.masks i })
    ∙ ap (λ (d : DeviceView). record d { calls = told_device d.calls }) c.self.view_is

pub returns-clause-key : goal.returns-clause-key
returns-clause-key g c = c.note.ensures.note_key ∙ ap (λ (d : DeviceView). d.key) c.self.view_is

pub returns-clause-told : goal.returns-clause-told
returns-clause-told g c = c.note.ensures.told ∙ ap (λ (d : DeviceView). device_note d.calls) c.self.view_is
