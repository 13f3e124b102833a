use Rattle.std.proofs.Common.{length}
use Rattle.vmx_link.specs.Ends.{out_view}
use Rattle.vmx_device_looks.proofs.Pushes.{out_at, sends_to}
use Rattle.vmx_device_looks.proofs.sending.send_to.Goals as goal

pub push_on-way-requires-clause-packets : goal.push_on-way-requires-clause-packets
push_on-way-requires-clause-packets c =
    (c.requires.few c.link_to-index.result (out_view c.at_mut.result.now) (out_at c.args.out.now c.link_to-index.result c.at_mut.result.now (c.link_to-index.ensures.below (length c.args.out.now) c.requires.target) c.at_mut.ensures.value)).0

pub push_on-way-requires-clause-looks : goal.push_on-way-requires-clause-looks
push_on-way-requires-clause-looks c =
    (c.requires.few c.link_to-index.result (out_view c.at_mut.result.now) (out_at c.args.out.now c.link_to-index.result c.at_mut.result.now (c.link_to-index.ensures.below (length c.args.out.now) c.requires.target) c.at_mut.ensures.value)).1

pub returns-clause-sends : goal.returns-clause-sends
returns-clause-sends c = (
  c.push_on-way.result,
  sends_to c.args.out.now c.link_to-index.result c.at_mut.result.now (c.link_to-index.ensures.below (length c.args.out.now) c.requires.target) c.at_mut.ensures.value
      c.args.port c.args.tag c.args.frame.now c.args.to c.push_on-way.result c.push_on-way.new.link c.copy_of-packet.result c.link_to-index.ensures.index c.copy_of-packet.ensures.tag c.copy_of-packet.ensures.frame c.push_on-way.ensures.pushed,
  c.push.ensures.items,
)
