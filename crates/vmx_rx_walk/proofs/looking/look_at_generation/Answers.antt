use Rattle.std.proofs.Common.{ap, sym, ◌∙◌, subst}
use Rattle.vmx_genring.specs.Rings.{generation}
use Rattle.vmx_rx_ring.specs.Words.{count}
use Rattle.vmx_rx_ring.specs.Tells.{Seated, IsNext}
use Rattle.vmx_rx_ring.proofs.DriverSteps.{completion_looks}
use Rattle.vmx_rx_walk.proofs.Stagings.{index_two, two_below}
use Rattle.vmx_rx_walk.proofs.looking.look_at_generation.Goals as goal

pub load-word-requires : goal.load-word-requires
load-word-requires g c = let d = c.requires.driver in let n = c.count_of-n.ensures.count in
    (c.requires.table.0, two_below _ _ _ c.args.shape.now c.count_of-n.result c.args.read c.requires.table n, completion_looks _ c.requires.form _ _ _ _ d.0 d.1 d.2 c.requires.at.1 (index_two c.count_of-n.result _ c.args.read _ (n ∙ ap count (sym d.3)) c.requires.at.0))

pub returns-then-has_generation-clause-looked : goal.returns-then-has_generation-clause-looked
returns-then-has_generation-clause-looked g c = let d = c.requires.driver in let n = c.count_of-n.ensures.count ∙ ap count (sym d.3) in
    let t = c.load-word.ensures.2.0 (c.has_generation.ensures.posted c.if-has_generation.true ∙ (λ i. generation (n i) (c.requires.at.0 i))) in (t.0, t.1, t.2, λ x next. t.3 x (subst (λ (z : Seated). IsNext z.0 x) t.2 next))
