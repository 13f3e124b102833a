use Rattle.std.proofs.Common.{rules, ◌≡◌, refl, inl, inr, arith, true, false}
use Rattle.vmx_rx_ring.proofs.DeviceLooks.{takes_buffer}
use Rattle.vmx_rx_walk.proofs.Stagings.{for_two, for_head, for_one, took_at, first_below, no_data, not_sop}
use Rattle.vmx_rx_walk.proofs.staging.take_buffer.Goals as goal

pub load-requires : goal.load-requires
load-requires g c = let d = c.requires.device in let e = c.args.seat.now.me.0.device in let f = for_two e c.args.sop c.args.spot c.requires.reach (search rules) in let at = f.1 in let low = f.2 in
    (c.requires.table.0, first_below _ _ _ c.args.shape.now _ _ c.requires.table c.count_of.ensures.count c.requires.index, takes_buffer g.C.TellsVisible.counted _ _ c.args.seat.now.me _ 2 e.gone2 false d.0 d.1 d.2 c.requires.idle (inr (refl, omega arith, omega arith)))

pub returns-then-spot-ne1-clause-took : goal.returns-then-spot-ne1-clause-took
returns-then-spot-ne1-clause-took g c = let e = c.args.seat.now.me.0.device in let f = for_two e c.args.sop c.args.spot c.requires.reach (search rules) in took_at 2 e.gone2 _ _ false _ c.args.seat.now.me c.load.new.seat.me f.0 f.1 (no_data c.args.in_entry c.args.sop c.requires.whole (not_sop e c.args.sop c.args.spot c.requires.reach (search rules))) c.load.ensures.2

pub load-requires-then-sop : goal.load-requires-then-sop
load-requires-then-sop g c = let d = c.requires.device in let e = c.args.seat.now.me.0.device in let f = for_head e c.args.sop c.args.spot c.requires.reach (search rules) in let at = f.1 in let low = f.2 in let high = f.3 in
    (c.requires.table.0, first_below _ _ _ c.args.shape.now _ _ c.requires.table c.count_of.ensures.count c.requires.index, takes_buffer g.C.TellsVisible.counted _ _ c.args.seat.now.me _ 1 e.head false d.0 d.1 d.2 c.requires.idle (inl (refl, omega arith, omega arith)))

pub returns-then-sop-clause-took : goal.returns-then-sop-clause-took
returns-then-sop-clause-took g c = let e = c.args.seat.now.me.0.device in let f = for_head e c.args.sop c.args.spot c.requires.reach (search rules) in took_at 1 e.head _ _ false _ c.args.seat.now.me c.load-then-sop.new.seat.me f.0 f.1 (search rules) c.load-then-sop.ensures.2

pub load-requires-2 : goal.load-requires-2
load-requires-2 g c = let d = c.requires.device in let e = c.args.seat.now.me.0.device in let one : c.args.spot.ring ≡ 1 = search rules in let f = for_one e c.args.sop c.args.spot c.requires.reach (search rules) one in let at = f.0 in let high = f.1 in
    (c.requires.table.0, first_below _ _ _ c.args.shape.now _ _ c.requires.table c.count_of.ensures.count c.requires.index, takes_buffer g.C.TellsVisible.counted _ _ c.args.seat.now.me _ 1 e.gone1 false d.0 d.1 d.2 c.requires.idle (inl (refl, omega arith, omega arith)))

pub returns-clause-took : goal.returns-clause-took
returns-clause-took g c = let e = c.args.seat.now.me.0.device in let one : c.args.spot.ring ≡ 1 = search rules in let f = for_one e c.args.sop c.args.spot c.requires.reach (search rules) one in took_at 1 e.gone1 _ _ false _ c.args.seat.now.me c.load-2.new.seat.me one f.0 (search rules) c.load-2.ensures.2

pub load-requires-then-in_entry : goal.load-requires-then-in_entry
load-requires-then-in_entry g c = let d = c.requires.device in let e = c.args.seat.now.me.0.device in let f = for_head e c.args.sop c.args.spot c.requires.reach (c.requires.whole (search rules)) in let at = f.1 in let low = f.2 in let high = f.3 in
    (c.requires.table.0, first_below _ _ _ c.args.shape.now _ _ c.requires.table c.count_of.ensures.count c.requires.index, takes_buffer g.C.TellsVisible.counted _ _ c.args.seat.now.me _ 1 e.head true d.0 d.1 d.2 c.requires.idle (inl (refl, omega arith, omega arith)))

pub returns-then-in_entry-clause-took : goal.returns-then-in_entry-clause-took
returns-then-in_entry-clause-took g c = let e = c.args.seat.now.me.0.device in let f = for_head e c.args.sop c.args.spot c.requires.reach (c.requires.whole (search rules)) in took_at 1 e.head _ _ true _ c.args.seat.now.me c.load-then-in_entry.new.seat.me f.0 f.1 (search rules) c.load-then-in_entry.ensures.2
