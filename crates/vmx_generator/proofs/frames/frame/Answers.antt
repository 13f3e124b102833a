use Rattle.std.proofs.Common.{◌∙◌}
use Rattle.vmx_generator.proofs.Making.{framed}
use Rattle.vmx_generator.proofs.frames.frame.Goals as goal

pub returns : goal.returns
returns c = record {
  frame = c.of.ensures.bytes ∙ framed c.args.guest c.args.number c.args.draws
      c.length-length.ensures.length c.destination.ensures.destination c.address.ensures.address c.ipv4_header.ensures.header c.tcp_header.ensures.header
      c.in_ok-frame.ensures.items c.in_ok-extend_from_slice.ensures.items c.in_ok-extend_from_slice-2.ensures.items c.in_ok-extend_from_slice-3.ensures.items
      c.in_ok-extend_from_slice-4.ensures.items c.in_ok-extend_from_slice-5.ensures.items c.in_ok-fill.ensures.filled;
}
