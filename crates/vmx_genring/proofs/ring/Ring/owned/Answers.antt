use Rattle.std.proofs.Common.{ℕ, sym, ap, ◌∙◌}
use Rattle.std.specs.Int.{bit_at}
use Rattle.vmx_genring.specs.RingLaws.{tells}
use Rattle.vmx_genring.proofs.ring.Ring.owned.Goals as goal

pub returns-clause-published : goal.returns-clause-published
returns-clause-published c firsts seconds contents stand is low high =
    let owner = c.has_generation.ensures.owner in
    let told = tells c.args.self.now.size c.args.bit firsts seconds contents c.args.position c.has_generation.ensures.some stand low high in
    let same = ap (λ (w : ℕ). bit_at w c.args.bit) is in
    (λ yes. told.0 (sym same ∙ owner.0 yes), λ less. owner.1 (same ∙ told.1 less))
