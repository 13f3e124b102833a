use Rattle.std.proofs.Common.{map, true, false, arith, ap, sym, refl, ◌∙◌}
use Rattle.vmx_link.specs.Ends.{in_view}
use Rattle.vmx_regs.specs.Ends.{device_key, device_view, device_masks}
use Rattle.vmx_model.specs.Lists.{count}
use Rattle.vmx_model.specs.Journal.{is_activation}
use Rattle.vmx_device.specs.Holds.{inner_view}
use Rattle.vmx_device.proofs.HeldEnds.{active_begun}
use Rattle.vmx_device_laws.proofs.InLook.{keeps_in, may_receive, few_pulled}
use Rattle.vmx_device_laws.proofs.Looked.{begun_in}
use Rattle.vmx_device_laws.proofs.Said.{handles_packet}
use Rattle.vmx_device.proofs.looking.look_in.Goals as goal

pub pull_from-requires-clause-few : goal.pull_from-requires-clause-few
pull_from-requires-clause-few g c k i at = omega (arith, few_pulled (inner_view c.args.inner.now) c.requires.holds.keeps k i at, c.requires.few)

pub handle-fate-requires-clause-begun : goal.handle-fate-requires-clause-begun
handle-fate-requires-clause-begun g c κs within there = omega (arith, active_begun (inner_view c.args.inner.now) c.requires.holds.keeps there, c.requires.holds.begun)

pub handle-fate-requires-clause-ready : goal.handle-fate-requires-clause-ready
handle-fate-requires-clause-ready g c κs within a act = may_receive (inner_view c.args.inner.now) c.requires.holds.keeps c.requires.few a act

pub returns-in-None-clause-step : goal.returns-in-None-clause-step
returns-in-None-clause-step g c = record { input = map in_view c.pull_from.new.input; pulls = c.in-None.ensures.pulled; is = refl }

pub returns-in-None-clause-holds : goal.returns-in-None-clause-holds
returns-in-None-clause-holds g c = record {
  keeps = keeps_in (inner_view c.args.inner.now) _ c.requires.holds.keeps c.args.index false (record { input = map in_view c.pull_from.new.input; pulls = c.in-None.ensures.pulled; is = refl });
  rooms = c.requires.holds.rooms;
  begun = c.requires.holds.begun;
}

pub returns-in-Some-clause-step : goal.returns-in-Some-clause-step
returns-in-Some-clause-step g c =
    handles_packet (inner_view c.args.inner.now) c.handle-fate.new.machine (device_key c.handle-fate.new.regs) (device_view c.handle-fate.new.regs) (device_masks c.handle-fate.new.regs) c.args.index c.args.inner.now.begun c.in-Some.pulled.place c.other_port.result c.in-Some.pulled.packet c.as_slice.result.now (map in_view c.pull_from.new.input) c.handle-fate.result c.push.new.self.0
    c.requires.holds.begun c.as_slice.ensures.bytes c.in-Some.ensures.pulled c.handle-fate.ensures.handles c.handle-fate.ensures.key c.handle-fate.ensures.calls c.other_port.ensures.port c.push.ensures.items

pub returns-in-Some-clause-holds : goal.returns-in-Some-clause-holds
returns-in-Some-clause-holds g c = record {
  keeps = keeps_in (inner_view c.args.inner.now) _ c.requires.holds.keeps c.args.index true
      (handles_packet (inner_view c.args.inner.now) c.handle-fate.new.machine (device_key c.handle-fate.new.regs) (device_view c.handle-fate.new.regs) (device_masks c.handle-fate.new.regs) c.args.index c.args.inner.now.begun c.in-Some.pulled.place c.other_port.result c.in-Some.pulled.packet c.as_slice.result.now (map in_view c.pull_from.new.input) c.handle-fate.result c.push.new.self.0
      c.requires.holds.begun c.as_slice.ensures.bytes c.in-Some.ensures.pulled c.handle-fate.ensures.handles c.handle-fate.ensures.key c.handle-fate.ensures.calls c.other_port.ensures.port c.push.ensures.items);
  rooms = (c.requires.holds.rooms.0, c.handle-fate.ensures.room);
  begun = c.requires.holds.begun ∙ sym (begun_in c.args.inner.now.journal.entries.0 c.other_port.result c.in-Some.pulled.place c.handle-fate.result) ∙ ap (count is_activation) (sym c.push.ensures.items);
}
