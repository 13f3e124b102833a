use Rattle.std.proofs.Common.{◌≡◌, ℕ, ◌+◌, ◌*◌, ◌<◌, List, length, get_or, ap, ◌∙◌, arith}
use Rattle.vmx_generator.specs.declared.draws.Draws.{Draws}
use Rattle.vmx_generator.specs.Draws.{draws_after}
use Rattle.vmx_generator.proofs.Drawing.{draws_count, draws_at}
use Rattle.vmx_generator.proofs.all_draws.AllDraws.at.Goals as goal

pub at-requires : goal.at-requires
at-requires c =
    let count : length c.args.self.now.draws ≡ 16000 = ap length c.args.self.now.drawn ∙ draws_count c.args.self.now.number 16000 in
    record { within = omega (arith, count, c.from.ensures, c.from-2.ensures, c.requires.guest, c.requires.frame) }

pub returns : goal.returns
returns c =
    let number = c.args.self.now.number in
    let i = 8 * c.from.result + c.from-2.result in
    let x = c.at.result.now in
    let within : i < 16000 = omega (arith, c.from.ensures, c.from-2.ensures, c.requires.guest, c.requires.frame) in
    let same : i ≡ 8 * c.args.frame + c.args.guest = omega (arith, c.from.ensures, c.from-2.ensures) in
    record { draws = c.at.ensures.value ∙ ap (λ (xs : List Draws). get_or xs i x) c.args.self.now.drawn ∙ draws_at number 16000 i x within ∙ ap (draws_after number) same }
