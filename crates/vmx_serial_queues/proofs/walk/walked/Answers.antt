use Rattle.std.proofs.Common.{arith, ap}
use Rattle.vmx_ends.specs.ReceiveClauses.{made_of}
use Rattle.vmx_ends.specs.Walk.{Stand}
use Rattle.vmx_ends.specs.WalkByNumbers.{head_most, head_up}
use Rattle.vmx_serial_queues.proofs.walk.walked.Goals as goal

pub at_head-requires : goal.at_head-requires
at_head-requires c = let a = c.args in let e = c.head_from-head.ensures.head in let most = head_most (made_of a.shape.now) a.shape.now.size1 a.used1 in let s = c.requires.shape.1 in let r = c.requires.small.0 in
    record { small = omega arith }

pub goes-requires-clause-small : goal.goes-requires-clause-small
goes-requires-clause-small c = let a = c.args in let e = c.head_from-head.ensures.head in let most = head_most (made_of a.shape.now) a.shape.now.size1 a.used1 in let s = c.requires.shape.1 in let r = c.requires.small.0 in let q = c.requires.small.1 in let n = c.requires.pieces in
    let one = ap (λ (x : Stand). x.next1) c.in_ok-at_head.ensures.stand in let two = ap (λ (x : Stand). x.next2) c.in_ok-at_head.ensures.stand in
    (omega arith, omega arith)

pub overflow_sub-result : goal.overflow_sub-result
overflow_sub-result c = let a = c.args in let e = c.head_from-head.ensures.head in let up = head_up (made_of a.shape.now) a.shape.now.size1 a.used1 in omega arith
