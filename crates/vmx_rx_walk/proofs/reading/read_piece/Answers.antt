use Rattle.std.proofs.Common.{rules, ℕ, ◌⊎◌, length, subst, ◌+◌, ◌<◌, ◌≤◌, false, ap, sym, ◌∙◌}
use Rattle.vmx_rx_ring.specs.Words.{count}
use Rattle.vmx_rx_ring.proofs.DriverSteps.{grabs_buffer}
use Rattle.vmx_rx_walk.proofs.Stagings.{index_three, three_below}
use Rattle.vmx_rx_walk.specs.Reading.{IsNamed, Holds}
use Rattle.vmx_rx_walk.proofs.Frames.{kind_stands}
use Rattle.vmx_rx_walk.proofs.Readings.{holds_now, piece_ring, piece_part, same_next}
use Rattle.vmx_rx_ring.specs.declared.known.Entry.{Entry}
use Rattle.vmx_rx_walk.proofs.reading.read_piece.Goals as goal

pub load-first-requires : goal.load-first-requires
load-first-requires g c = let d = c.requires.driver in let n = c.count_of-n.ensures.count in
    (c.requires.table.0, three_below _ _ _ c.args.shape.now c.count_of-n.result c.args.at.read c.requires.table n, grabs_buffer g.C.TellsVisible.counted _ _ _ _ c.requires.can.piece d.0 d.1 d.2 c.requires.idle c.requires.can.next (index_three c.count_of-n.result _ c.args.at.read _ (n ∙ ap count (sym d.3)) c.requires.at.0))

pub told-completion-requires : goal.told-completion-requires
told-completion-requires g c = let g = c.load-first.ensures.2 in let k = c.requires.can in let m = c.args.seat.now.me in let first = g.2 ∙ ap (λ (z : Entry). z.first) (same_next m.0 g.0 k.piece g.1 k.next) in
    record { named = subst IsNamed (sym first) k.points.1; kind = kind_stands c.args.shape.now m c.args.second _ k }

pub read_one-back1-requires-clause-holds : goal.read_one-back1-requires-clause-holds
read_one-back1-requires-clause-holds g c = let g = c.load-first.ensures.2 in let k = c.requires.can in let m = c.args.seat.now.me in let s = c.args.shape.now in let told = c.told-completion.ensures in
    let first = g.2 ∙ ap (λ (z : Entry). z.first) (same_next m.0 g.0 k.piece g.1 k.next) in let one = subst (λ (z : ℕ). (z < s.queues) ⊎ (s.queues + s.queues ≤ z)) told.id (c.is_in_ring1.ensures.one (search rules)) in
    let part = piece_part s m c.args.second _ c.load-first.result _ k first (λ yes. subst (λ (z : ℕ). s.queues + s.queues ≤ z) told.id (c.is_in_data-in_entry.ensures.inside yes)) (λ no. subst (λ (z : ℕ). z < s.queues + s.queues) told.id (c.is_in_data-in_entry.ensures.outside no)) in
    subst (λ (z : ℕ × ℕ). Holds s c.load-first.new.seat.me 1 z.0 z.1 (length c.args.into.now.items) c.is_in_data-in_entry.result) (λ i. (sym told.index i, sym told.len i))
    (holds_now s m c.load-first.new.seat.me 1 c.args.second _ c.load-first.result _ k c.requires.driver.3 ((piece_ring s m c.args.second _ c.load-first.result k first).0 one) part g)

pub read_two-back2-requires-clause-holds : goal.read_two-back2-requires-clause-holds
read_two-back2-requires-clause-holds g c = let g = c.load-first.ensures.2 in let k = c.requires.can in let m = c.args.seat.now.me in let s = c.args.shape.now in let told = c.told-completion.ensures in
    let first = g.2 ∙ ap (λ (z : Entry). z.first) (same_next m.0 g.0 k.piece g.1 k.next) in let two = subst (λ (z : ℕ). (s.queues ≤ z) × (z < s.queues + s.queues)) told.id (c.is_in_ring1.ensures.two (search rules)) in
    subst (λ (z : ℕ × ℕ). Holds s c.load-first.new.seat.me 2 z.0 z.1 (length c.args.into.now.items) false) (λ i. (sym told.index i, sym told.len i))
    (holds_now s m c.load-first.new.seat.me 2 c.args.second _ c.load-first.result false k c.requires.driver.3 ((piece_ring s m c.args.second _ c.load-first.result k first).1 two) (piece_part s m c.args.second _ c.load-first.result false k first (λ e. absurd (cc e)) (λ _. two.1)) g)
