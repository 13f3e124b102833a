use Rattle.std.proofs.Common.{ℕ, length, map, sym, subst}
use Rattle.std.proofs.lemmas.List.{length-map}
use Rattle.vmx_link.specs.Ends.{out_view, in_view, note_view}
use Rattle.vmx_device_looks.specs.Ports.{IsOther}
use Rattle.vmx_device_laws.specs.Views.{DeviceView}
use Rattle.vmx_device.specs.Holds.{inner_view}
use Rattle.vmx_device.proofs.OtherPorts.{other_few, other_in, noted_out, noted_in}
use Rattle.vmx_device_laws.proofs.Noted.{keeps_noted_out, keeps_noted_in}
use Rattle.vmx_device.proofs.device.Device.note_link.Goals as goal

pub link_to-index-requires : goal.link_to-index-requires
link_to-index-requires g c = record { port = other_few (inner_view c.self.inside.inner) c.self.invariant.keeps c.args.port (subst (λ (d : DeviceView). IsOther d.port (length d.out) c.args.port) (sym c.self.view_is) c.requires.other) }

pub note_out-requires : goal.note_out-requires
note_out-requires g c = record {
  index = c.link_to-index.ensures.below (length c.self.inside.inner.out)
      (subst (λ (n : ℕ). IsOther c.self.inside.inner.port n c.args.port) (length-map c.self.inside.inner.out out_view) (subst (λ (d : DeviceView). IsOther d.port (length d.out) c.args.port) (sym c.self.view_is) c.requires.other));
}

pub note_in-requires : goal.note_in-requires
note_in-requires g c = record {
  index = c.link_to-index.ensures.below (length c.self.inside.inner.input)
      (subst (λ (n : ℕ). IsOther c.self.inside.inner.port n c.args.port) (length-map c.self.inside.inner.input in_view)
      (other_in (inner_view c.self.inside.inner) c.self.invariant.keeps c.args.port (subst (λ (d : DeviceView). IsOther d.port (length d.out) c.args.port) (sym c.self.view_is) c.requires.other)));
}

pub returns-in-Out : goal.returns-in-Out
returns-in-Out g c = record {
  notes = noted_out (inner_view c.self.inside.inner) c.args.self.now c.self.view_is c.args.side c.args.port c.link_to-index.result (note_view c.note_out.result) c.link_to-index.ensures.index (map out_view c.note_out.new.out) c.in-Out.is c.note_out.ensures.notes;
}

pub returns-in-In : goal.returns-in-In
returns-in-In g c = record {
  notes = noted_in (inner_view c.self.inside.inner) c.args.self.now c.self.view_is c.args.side c.args.port c.link_to-index.result (note_view c.note_in.result) c.link_to-index.ensures.index (map in_view c.note_in.new.input) c.in-In.is c.note_in.ensures.notes;
}

pub invariant_of-self : goal.invariant_of-self
invariant_of-self g c = record {
  keeps = keeps_noted_out (inner_view c.self.inside.inner) c.self.invariant.keeps c.link_to-index.result (note_view c.note_out.result) (map out_view c.note_out.new.out) c.note_out.ensures.notes;
  rooms = c.self.invariant.rooms;
  begun = c.self.invariant.begun;
}

pub invariant_of-self-in-In : goal.invariant_of-self-in-In
invariant_of-self-in-In g c = record {
  keeps = keeps_noted_in (inner_view c.self.inside.inner) c.self.invariant.keeps c.link_to-index.result (note_view c.note_in.result) (map in_view c.note_in.new.input) c.note_in.ensures.notes;
  rooms = c.self.invariant.rooms;
  begun = c.self.invariant.begun;
}
