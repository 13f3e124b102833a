use Rattle.std.specs.String.{string_bytes}
use Rattle.vmx_offload.proofs.Ends.{save_failed, save_starved, line_failed, line_starved}
use Rattle.vmx_offload.proofs.top.finish.Goals as goal

pub returns-in-Failed-clause-ends : goal.returns-in-Failed-clause-ends
returns-in-Failed-clause-ends g c = save_failed string_bytes _ c.refuse.result.status _ _ _ _ _ _ _ c.refuse.ensures.line c.write_fault.ensures.line c.refuse.ensures.facts c.in-Failed.ensures.write_faults.1 c.in-Failed.ensures.content

pub returns-in-NoMemory-clause-ends : goal.returns-in-NoMemory-clause-ends
returns-in-NoMemory-clause-ends g c = save_starved c.out_of_memory.result.status _ _ _ _ _ _ _ c.out_of_memory.ensures.status c.out_of_memory.ensures.line c.out_of_memory.ensures.facts c.in-NoMemory.ensures.content

pub returns-in-Failed-write-clause-ends : goal.returns-in-Failed-write-clause-ends
returns-in-Failed-write-clause-ends g c =
    let saved = rw c.as_slice.ensures.bytes at c.in-Done.ensures.content in
    let wrote = rw c.as_bytes.ensures.value at c.in-Failed-write.ensures.content in
    line_failed string_bytes _ c.refuse-in-Failed-write.result.status _ _ _ _ _ _ _ _ _ wrote c.in-Failed-write.ensures.faults c.refuse-in-Failed-write.ensures.line c.write_fault-in-Failed-write.ensures.line c.refuse-in-Failed-write.ensures.facts c.in-Done.ensures.write_faults saved

pub returns-clause-ends : goal.returns-clause-ends
returns-clause-ends g c =
    let saved = rw c.as_slice.ensures.bytes at c.in-Done.ensures.content in
    line_starved c.out_of_memory-in-NoMemory-write.result.status _ _ (string_bytes c.args.filled.line) _ _ _ _ _ _ c.in-NoMemory-write.ensures.content c.out_of_memory-in-NoMemory-write.ensures.status c.out_of_memory-in-NoMemory-write.ensures.line c.out_of_memory-in-NoMemory-write.ensures.facts saved
