use Rattle.std.proofs.Common.{length}
use Rattle.vmx_checksum.specs.Segment.{segment}
use Rattle.vmx_offload_queue.proofs.Records.{marked}
use Rattle.vmx_offload_queue.proofs.filling.complete_frame.Goals as goal

pub carry-asked-requires-clause-frame : goal.carry-asked-requires-clause-frame
carry-asked-requires-clause-frame c = marked (segment c.args.frame.now) c.args.mark.now c.args.frame.now c.requires.mark c.requires.header c.requires.short

pub carry-asked-requires-clause-holds : goal.carry-asked-requires-clause-holds
carry-asked-requires-clause-holds c = c.requires.holds (length c.args.frame.now) c.requires.short

pub returns-clause-rest : goal.returns-clause-rest
returns-clause-rest c =
    let k = c.carry-asked.ensures in
    record { one = k.one; caught_up = k.caught_up; even = k.even; posted_few = k.posted_few; found_few = k.found_few }
