use Rattle.std.proofs.Common.{◌^◌, ◌/◌, ◌-◌, ℕ, bit_and, ap, ◌∙◌}
use Rattle.std.proofs.lemmas.Nat.{and_mask, one_shl}
use Rattle.vmx_layout.proofs.bits.field.Goals as goal

pub returns-clause-value : goal.returns-clause-value
returns-clause-value c =
    ap (λ (m : ℕ). bit_and (c.args.word / 2 ^ c.args.low) (m - 1)) (one_shl c.args.width 64 c.requires.short)
    ∙ and_mask (c.args.word / 2 ^ c.args.low) c.args.width
