use Rattle.std.proofs.Common.{rules, refl, subst}
use Rattle.vmx_rx_walk.specs.Walking.{LooksOn}
use Rattle.vmx_rx_walk.proofs.Ways.{ways_more}
use Rattle.vmx_rx_walk.proofs.walking.ways.Goals as goal

pub returns-in-Ring-clause-walks : goal.returns-in-Ring-clause-walks
returns-in-Ring-clause-walks g c = ways_more c.args.seat.now.me c.find_more.new.seat.me c.last_way.new.seat.me c.args.n c.in-Ring.ring c.in-Ring.position c.args.first _ c.last_way.result (search rules) refl (subst (λ r. LooksOn c.args.seat.now.me r c.find_more.new.seat.me) c.in-Ring.is c.find_more.ensures.looks) c.last_way.ensures.walks c.last_way.ensures.firsts
