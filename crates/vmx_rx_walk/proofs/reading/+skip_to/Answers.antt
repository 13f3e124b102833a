use Rattle.std.proofs.Common.{rules, ◌≢◌, ◌+◌, ◌%◌, ap, sym, ◌∙◌}
use Rattle.vmx_ends.specs.declared.made.RxMade.{RxMade}
use Rattle.vmx_rx_ring.specs.Words.{second1}
use Rattle.vmx_rx_ring.proofs.DriverSteps.{skips_descriptor}
use Rattle.vmx_rx_walk.proofs.Readings.{not_yet, returned_below}
use Rattle.vmx_rx_walk.proofs.reading.+skip_to.Goals as goal

pub store-requires : goal.store-requires
store-requires g t c = let h = c.requires.holding in let k = c.requires.can in let other : c.args.back1 % c.args.shape.now.size1 ≢ c.args.index = search rules in
    let less = not_yet c.args.shape.now c.args.seat.now.me c.args.fuel c.args.index c.args.back1 k c.requires.at other in let size = ap (λ (m : RxMade). m.size1) h.3 in (
      c.requires.table.0,
      returned_below _ _ _ c.args.shape.now _ c.requires.table,
      skips_descriptor g.C.TellsVisible.counted _ _ _ _ _ k.piece h.0 h.1 k.next k.one less (λ i. (sym size i + c.requires.at i) % sym size i) (c.descriptor1.ensures.word ∙ (λ i. second1 (sym h.3 i) (sym size i + c.requires.at i))),
    )
