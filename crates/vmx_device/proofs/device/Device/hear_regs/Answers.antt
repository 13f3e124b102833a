use Rattle.std.proofs.Common.{ap, sym, ◌∙◌}
use Rattle.vmx_regs.specs.declared.known.Calls.{Calls}
use Rattle.vmx_regs.specs.Rule.{hears_driver}
use Rattle.vmx_regs.specs.Masks.{hears_masks}
use Rattle.vmx_regs.specs.Ends.{device_key, device_view, device_masks, note_view, note_masks}
use Rattle.vmx_device_laws.specs.Views.{DeviceView}
use Rattle.vmx_device.specs.Holds.{inner_view}
use Rattle.vmx_device_laws.proofs.News.{keeps_calls}
use Rattle.vmx_device.proofs.device.Device.hear_regs.Goals as goal

pub hear-requires-clause-pair : goal.hear-requires-clause-pair
hear-requires-clause-pair g c κs within = c.requires.pair ∙ sym (ap (λ (d : DeviceView). d.key) c.self.view_is)

pub invariant_of-self : goal.invariant_of-self
invariant_of-self g c =
    let heard = c.hear.ensures.view in record {
      keeps = keeps_calls (inner_view c.self.inside.inner) c.self.invariant.keeps (device_view c.hear.new.self) (device_key c.hear.new.self) (device_masks c.hear.new.self) (ap (λ (v : Calls). v.served) heard) (ap (λ (v : Calls). v.serving) heard) (ap (λ (v : Calls). v.interrupts) heard);
      rooms = c.self.invariant.rooms;
      begun = c.self.invariant.begun;
    }

pub returns : goal.returns
returns g c = record {
  heard = (λ i. record (inner_view c.self.inside.inner) { key = c.hear.ensures.key i; calls = c.hear.ensures.view i; masks = c.hear.ensures.masks i })
      ∙ ap (λ (d : DeviceView). record d { calls = hears_driver d.calls (note_view c.args.note); masks = hears_masks d.masks (note_masks c.args.note) }) c.self.view_is;
  knows = c.hear.ensures.knows;
}
