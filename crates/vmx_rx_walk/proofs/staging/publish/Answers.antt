use Rattle.std.proofs.Common.{ap, sym, ◌∙◌, arith, length-append}
use Rattle.vmx_genring.specs.Rings.{generation}
use Rattle.vmx_rx_ring.specs.Words.{count, with_bit, flat}
use Rattle.vmx_rx_ring.proofs.DeviceStores.{publishes_frame, counts_frame}
use Rattle.vmx_rx_walk.proofs.Stagings.{new_word, index_two, two_below, four_below}
use Rattle.vmx_rx_walk.proofs.staging.publish.Goals as goal

pub store-requires-2 : goal.store-requires-2
store-requires-2 g c = let d = c.requires.device in let f = c.requires.frame in let n = c.count_of-n.ensures.count in let n' = n ∙ ap count (sym d.3) in (
  c.requires.table.0,
  two_below _ _ _ c.args.shape.now c.count_of-n.result c.args.published c.requires.table n,
  publishes_frame _ (sym c.is_counted.ensures.counted ∙ c.if-is_counted.false) _ _ c.args.seat.now.me _ _ f.frame f.first d.0 d.1 d.2 c.requires.still.0 c.requires.still.1 f.whole f.first_at f.placed f.sized f.tag
      (index_two c.count_of-n.result _ c.args.published _ n' c.requires.at)
      (new_word _ _ _ (c.generation_part.ensures.part ∙ ap (with_bit 63 0) c.generation_at-generation.ensures.value) ∙ (λ i. with_bit 63 (sym f.body_is i) (generation (n' i) (c.requires.at i)))),
)

pub store-requires : goal.store-requires
store-requires g c = let d = c.requires.device in let f = c.requires.frame in let n = c.count_of-n.ensures.count in let n' = n ∙ ap count (sym d.3) in let so = sym c.is_counted.ensures.counted ∙ c.if-is_counted.true in
    let v = c.args.seat.now.me.0 in let sum = length-append (flat v.made v.device.delivered) v.device.staged in let at = c.requires.at in let pieces = c.requires.pieces in (
      c.requires.table.0,
      four_below _ _ _ c.args.shape.now c.count_of-n.result so c.requires.table n,
      counts_frame _ so _ _ c.args.seat.now.me _ _ f.frame d.0 d.1 d.2 c.requires.still.0 c.requires.still.1 f.whole f.placed f.sized f.tag (omega arith) (omega arith),
    )
