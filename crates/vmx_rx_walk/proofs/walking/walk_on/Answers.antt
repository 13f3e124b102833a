use Rattle.std.proofs.Common.{rules, refl, arith, subst}
use Rattle.vmx_rx_walk.specs.Walking.{HeadSearched}
use Rattle.vmx_rx_walk.proofs.Ways.{head_reach, head_soonest, planned}
use Rattle.vmx_rx_walk.proofs.walking.walk_on.Goals as goal

pub find_head-requires-clause-near : goal.find_head-requires-clause-near
find_head-requires-clause-near g c = head_reach c.args.shape.now c.args.one c.requires.table.2

pub overflow_add-position : goal.overflow_add-position
overflow_add-position g c = let h = head_soonest c.args.shape.now _ _ c.in-Found.position c.requires.table.2 c.requires.device.3 (subst (λ r. HeadSearched c.args.seat.now.me r c.find_head.new.seat.me) c.in-Found.is c.find_head.ensures.searched).4 in let s = c.requires.small.0 in let a = c.requires.rests.0 in let b = c.requires.rests.2.0 in search rules

pub ways-requires-clause-small : goal.ways-requires-clause-small
ways-requires-clause-small g c = let h = head_soonest c.args.shape.now _ _ c.in-Found.position c.requires.table.2 c.requires.device.3 (subst (λ r. HeadSearched c.args.seat.now.me r c.find_head.new.seat.me) c.in-Found.is c.find_head.ensures.searched).4 in let s = c.requires.small.0 in let t = c.requires.small.1 in let a = c.requires.rests.0 in let b = c.requires.rests.2.0 in (omega arith, omega arith)

pub returns-in-Found-clause-planned : goal.returns-in-Found-clause-planned
returns-in-Found-clause-planned g c = planned c.args.seat.now.me c.find_head.new.seat.me c.ways.new.seat.me c.args.n c.in-Found.position _ c.ways.result refl c.requires.rests.2 (subst (λ r. HeadSearched c.args.seat.now.me r c.find_head.new.seat.me) c.in-Found.is c.find_head.ensures.searched) c.ways.ensures.walks c.ways.ensures.first
