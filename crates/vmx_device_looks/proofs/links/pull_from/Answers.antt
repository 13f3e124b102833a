use Rattle.vmx_link.specs.Ends.{in_view}
use Rattle.vmx_device_looks.proofs.Pushes.{in_at, pulls_one, pulls_none}
use Rattle.vmx_device_looks.proofs.links.pull_from.Goals as goal

pub pull-requires : goal.pull-requires
pull-requires c = record { packets = c.requires.few c.args.index (in_view c.at_mut.result.now) (in_at c.args.input.now c.args.index c.at_mut.result.now c.requires.index c.at_mut.ensures.value) }

pub returns-in-Empty-clause-pulled : goal.returns-in-Empty-clause-pulled
returns-in-Empty-clause-pulled c = pulls_none c.args.input.now c.args.index c.at_mut.result.now c.requires.index c.at_mut.ensures.value c.in-Empty.word c.pull.new.self c.in-Empty.ensures.cause.0 c.in-Empty.ensures.cause.1 c.in-Empty.ensures.answer

pub returns-in-Packet-clause-pulled : goal.returns-in-Packet-clause-pulled
returns-in-Packet-clause-pulled c = pulls_one c.args.input.now c.args.index c.at_mut.result.now c.requires.index c.at_mut.ensures.value c.in-Packet.place c.in-Packet.packet c.pull.new.self c.in-Packet.ensures.answer.0 c.in-Packet.ensures.answer.1
