use Rattle.std.proofs.Common.{length, map, sym, subst}
use Rattle.vmx_link.specs.Ends.{out_view, in_view, note_view}
use Rattle.vmx_device_looks.specs.Ports.{IsOther}
use Rattle.vmx_device_laws.specs.Views.{DeviceView}
use Rattle.vmx_device.specs.Holds.{inner_view}
use Rattle.vmx_device_laws.specs.LinkNotes.{FitsLink}
use Rattle.vmx_device_laws.specs.declared.side.LinkSide.{LinkSide}
use Rattle.vmx_device.proofs.OtherPorts.{other_few, fits_out, fits_in, heard_out, heard_in}
use Rattle.vmx_device_laws.proofs.Noted.{keeps_heard_out, keeps_heard_in}
use Rattle.vmx_device.proofs.device.Device.hear_link.Goals as goal

pub link_to-index-requires : goal.link_to-index-requires
link_to-index-requires g c = record { port = other_few (inner_view c.self.inside.inner) c.self.invariant.keeps c.args.port (subst (λ (d : DeviceView). IsOther d.port (length d.out) c.args.port) (sym c.self.view_is) c.requires.other) }

pub hear_out-requires : goal.hear_out-requires
hear_out-requires g c = record {
  fits = fits_out (inner_view c.self.inside.inner) c.args.port c.link_to-index.result (note_view c.args.note) c.link_to-index.ensures.index
      (subst (λ (x : LinkSide × DeviceView). FitsLink x.0 c.args.port (note_view c.args.note) x.1) (λ i. (c.in-Out.is i, sym c.self.view_is i)) c.requires.fits);
}

pub hear_in-requires : goal.hear_in-requires
hear_in-requires g c = record {
  fits = fits_in (inner_view c.self.inside.inner) c.args.port c.link_to-index.result (note_view c.args.note) c.link_to-index.ensures.index
      (subst (λ (x : LinkSide × DeviceView). FitsLink x.0 c.args.port (note_view c.args.note) x.1) (λ i. (c.in-In.is i, sym c.self.view_is i)) c.requires.fits);
}

pub returns-in-Out : goal.returns-in-Out
returns-in-Out g c = record {
  hears = heard_out (inner_view c.self.inside.inner) c.args.self.now c.self.view_is c.args.side c.args.port c.link_to-index.result (note_view c.args.note) c.link_to-index.ensures.index (map out_view c.hear_out.new.out) c.in-Out.is c.hear_out.ensures.hears;
}

pub returns-in-In : goal.returns-in-In
returns-in-In g c = record {
  hears = heard_in (inner_view c.self.inside.inner) c.args.self.now c.self.view_is c.args.side c.args.port c.link_to-index.result (note_view c.args.note) c.link_to-index.ensures.index (map in_view c.hear_in.new.input) c.in-In.is c.hear_in.ensures.hears;
}

pub invariant_of-self : goal.invariant_of-self
invariant_of-self g c = record {
  keeps = keeps_heard_out (inner_view c.self.inside.inner) c.self.invariant.keeps c.link_to-index.result (note_view c.args.note) (map out_view c.hear_out.new.out) c.hear_out.ensures.hears;
  rooms = c.self.invariant.rooms;
  begun = c.self.invariant.begun;
}

pub invariant_of-self-in-In : goal.invariant_of-self-in-In
invariant_of-self-in-In g c = record {
  keeps = keeps_heard_in (inner_view c.self.inside.inner) c.self.invariant.keeps c.link_to-index.result (note_view c.args.note) (map in_view c.hear_in.new.input) c.hear_in.ensures.hears;
  rooms = c.self.invariant.rooms;
  begun = c.self.invariant.begun;
}
