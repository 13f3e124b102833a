use Rattle.std.proofs.Common.{◌≡◌, ◌*◌}
use Rattle.vmx_generator.specs.Draws.{state_after, first_draws}
use Rattle.vmx_generator.proofs.all_draws.AllDraws.of.Given as goal

abbrev pub invariant-loop : goal.invariant-loop
invariant-loop l = record {
  state : l.state ≡ state_after l.number (3 * l.counter);
  drawn : l.draws.items ≡ first_draws l.number l.counter;
}
