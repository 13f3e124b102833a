use Rattle.std.proofs.Common.{◌+◌, ◌%◌, ap, ap₂, sym, ◌∙◌, arith, subst}
use Rattle.vmx_ends.specs.Receive.{posted2}
use Rattle.vmx_rx_walk.specs.Walking.{LooksAtOne}
use Rattle.vmx_rx_ring.proofs.DeviceLooks.{two_looks}
use Rattle.vmx_rx_walk.proofs.Walks.{word2_below, hit_in, miss_in, more_one, more_two, more_none, after_one}
use Rattle.vmx_rx_walk.proofs.walking.find_more.Goals as goal

pub returns-then-is_in_one-clause-looks : goal.returns-then-is_in_one-clause-looks
returns-then-is_in_one-clause-looks g c = more_one c.args.seat.now.me c.is_in_one.new.seat.me c.args.one c.requires.at1.0 (subst (λ b. LooksAtOne c.args.seat.now.me b c.is_in_one.new.seat.me) c.if-is_in_one.true c.is_in_one.ensures.looked)

pub load-word-requires : goal.load-word-requires
load-word-requires g c = let d = c.requires.device in let tb = c.requires.table in let a = c.requires.at2 in let l = after_one c.args.seat.now.me c.is_in_one.new.seat.me (subst (λ b. LooksAtOne c.args.seat.now.me b c.is_in_one.new.seat.me) c.if-is_in_one.false c.is_in_one.ensures.looked) in
    let size1 = ap (λ m. m.size1) (l.3 ∙ d.3) in let size2 = ap (λ m. m.size2) (l.3 ∙ d.3) in let here = a.0 in let low = a.1 in let high = a.2 in let n2 = l.4 in let g2 = l.5 in let s2 = l.6 in
    (c.is_in_one.ensures.same.0 ∙ tb.0, word2_below _ _ _ c.args.shape.now c.args.two tb, two_looks g.C.TellsVisible.counted _ _ _ _ (l.0 ∙ d.0) (l.1 ∙ d.1) l.2 (omega arith) (omega arith) (λ i. sym size1 i + (here ∙ sym n2) i % sym size2 i))

pub returns-then-not-is_posted-clause-looks : goal.returns-then-not-is_posted-clause-looks
returns-then-not-is_posted-clause-looks g c = let d = c.requires.device in let at = c.requires.at2 in let is = subst (λ b. LooksAtOne c.args.seat.now.me b c.is_in_one.new.seat.me) c.if-is_in_one.false c.is_in_one.ensures.looked in let l = after_one c.args.seat.now.me c.is_in_one.new.seat.me is in
    let miss = c.is_posted.ensures.missed c.if-not-is_posted.true in let size2 = ap (λ m. m.size2) (l.3 ∙ d.3) in let now = c.load-word.ensures.2.1 (miss_in _ _ _ _ _ (sym size2) (at.0 ∙ sym l.4) miss) in let here = at.0 in let high = at.2 in
    more_none c.args.seat.now.me c.is_in_one.new.seat.me c.load-word.new.seat.me c.args.two c.load-word.result here (omega arith) is now.0 (miss_in _ _ _ _ _ (sym (ap (λ m. m.size2) d.3)) here miss)
    (let q = ap₂ posted2 l.3 l.7 in let r = now.1 in let n2 = l.4 in omega arith)

pub returns-clause-looks : goal.returns-clause-looks
returns-clause-looks g c = let d = c.requires.device in let at = c.requires.at2 in let is = subst (λ b. LooksAtOne c.args.seat.now.me b c.is_in_one.new.seat.me) c.if-is_in_one.false c.is_in_one.ensures.looked in let l = after_one c.args.seat.now.me c.is_in_one.new.seat.me is in
    let size2 = ap (λ m. m.size2) (l.3 ∙ d.3) in let hit = hit_in _ _ _ _ _ (sym size2) (at.0 ∙ sym l.4) (c.is_posted.ensures.posted c.if-not-is_posted.false) in
    more_two c.args.seat.now.me c.is_in_one.new.seat.me c.load-word.new.seat.me c.args.two at.0 is (c.load-word.ensures.2.0 hit)
