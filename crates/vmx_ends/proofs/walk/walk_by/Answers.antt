use Rattle.std.proofs.Common.{arith}
use Rattle.vmx_ends.specs.ReceiveClauses.{made_of}
use Rattle.vmx_ends.specs.WalkByNumbers.{head_most, head_up, plan_takes, plan_misses2}
use Rattle.vmx_ends.proofs.walk.walk_by.Goals as goal

pub way-end-requires-clause-small : goal.way-end-requires-clause-small
way-end-requires-clause-small c = let a = c.args in let e = c.head_of-head.ensures.head in let most = head_most (made_of a.shape.now) a.shape.now.size1 a.at.one in let r1 = c.requires.shape.1 in let r2 = c.requires.pieces in let r3 = c.requires.small.0 in let r4 = c.requires.small.1 in
    (omega arith, omega arith)

pub overflow_sub-result : goal.overflow_sub-result
overflow_sub-result c = let a = c.args in let e = c.head_of-head.ensures.head in let up = head_up (made_of a.shape.now) a.shape.now.size1 a.at.one in omega arith

pub returns-then-posted2-end : goal.returns-then-posted2-end
returns-then-posted2-end c = let a = c.args in let f = c.if-posted1-head.false in
    record { walk = plan_misses2 (made_of a.shape.now) a.at.one a.at.two a.posted1 a.posted2 a.n c.head_of-head.result c.head_of-head.ensures.head _ _ (omega arith) c.way-end.ensures.way c.if-posted2-end.true }

pub returns : goal.returns
returns c = let a = c.args in let f = c.if-posted1-head.false in let t = c.if-posted2-end.false in
    record { walk = plan_takes (made_of a.shape.now) a.at.one a.at.two a.posted1 a.posted2 a.n c.head_of-head.result c.head_of-head.ensures.head _ _ (omega arith) c.way-end.ensures.way (omega arith) }
