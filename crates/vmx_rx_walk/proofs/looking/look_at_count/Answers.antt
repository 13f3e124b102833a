use Rattle.std.proofs.Common.{◌<◌, ap, sym, ◌∙◌, subst, arith}
use Rattle.vmx_rx_ring.specs.declared.known.Entry.{Entry}
use Rattle.vmx_rx_ring.specs.Words.{count}
use Rattle.vmx_rx_ring.specs.Tells.{Seated, IsNext, Tells}
use Rattle.vmx_rx_ring.proofs.DriverSteps.{count_looks, second_loads}
use Rattle.vmx_rx_walk.proofs.Looks.{first_next}
use Rattle.vmx_rx_walk.proofs.Readings.{same_next}
use Rattle.vmx_rx_walk.proofs.Stagings.{index_two, two_below, four_below}
use Rattle.vmx_rx_walk.proofs.looking.look_at_count.Goals as goal

pub load-visible-requires : goal.load-visible-requires
load-visible-requires g c = let d = c.requires.driver in let n = c.count_of-n.ensures.count in let n' = n ∙ ap count (sym d.3) in
    (c.requires.table.0, four_below _ _ _ c.args.shape.now c.count_of-n.result c.requires.form c.requires.table n, count_looks _ c.requires.form _ _ _ _ d.0 d.1 d.2 c.requires.at.1 (omega arith))

pub load-second-requires : goal.load-second-requires
load-second-requires g c = let d = c.requires.driver in let n = c.count_of-n.ensures.count in let at = c.requires.at.0 in let less : c.args.seat.now.me.0.driver.read < c.load-visible.result = (let f = c.if-visible-read.false in omega arith) in
    let t = c.load-visible.ensures.2.0 less in let x = first_next c.args.seat.now.me.0 t.0 t.1 c.requires.at.1 in (
      c.load-visible.ensures.0 ∙ c.requires.table.0,
      two_below _ _ _ c.args.shape.now c.count_of-n.result c.args.read c.requires.table n,
      second_loads g.C.TellsVisible.counted _ _ _ _ x.0 (ap (λ (z : Seated). z.0.receives) t.2 ∙ d.0) (subst (λ (z : Seated). IsNext z.0 x.0) (sym t.2) x.1)
          (index_two c.count_of-n.result _ c.args.read _ (n ∙ ap count (sym d.3) ∙ ap (λ (z : Seated). count z.0.made) (sym t.2)) (at ∙ ap (λ (z : Seated). z.0.driver.read) (sym t.2))),
    )

pub returns-clause-looked : goal.returns-clause-looked
returns-clause-looked g c = let at = c.requires.at.0 in let less : c.args.seat.now.me.0.driver.read < c.load-visible.result = (let f = c.if-visible-read.false in omega arith) in let t = c.load-visible.ensures.2.0 less in let l = c.load-second.ensures.2 in
    (t.0, t.1, l.0 ∙ t.2, λ x next. subst (λ (z : Entry). Tells z c.load-second.result) (same_next c.load-visible.new.seat.me.0 l.1 x l.2 (subst (λ (z : Seated). IsNext z.0 x) l.0 next)) l.3)
