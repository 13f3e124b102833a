use Rattle.std.proofs.Common.{ℕ, true≢false, ap, sym, ◌∙◌}
use Rattle.vmx_genring.specs.Rings.{generation_bit}
use Rattle.vmx_ends.specs.Generations.{same_generation, missed_by}
use Rattle.vmx_rx_ring.proofs.words.has_generation.Goals as goal

pub returns-clause-posted : goal.returns-clause-posted
returns-clause-posted c = λ yes. (same_generation c.args.bit c.args.size c.args.position c.args.word).0 (c.owned.ensures.owner.0 yes ∙ ap (λ (s : ℕ). generation_bit s c.args.position) c.new-ring.ensures.size)

pub returns-clause-missed : goal.returns-clause-missed
returns-clause-missed c = λ no. missed_by c.args.bit c.args.size c.args.position c.args.word (λ e. true≢false (sym (c.owned.ensures.owner.1 (e ∙ sym (ap (λ (s : ℕ). generation_bit s c.args.position) c.new-ring.ensures.size))) ∙ no))
