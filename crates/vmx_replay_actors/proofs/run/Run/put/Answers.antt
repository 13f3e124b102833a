use Rattle.std.proofs.Common.{◌≡◌, ℕ, ◌+◌, arith, set, ap, ◌∙◌}
use Rattle.vmx_replay_chains.specs.Views.{guest_view, guest_views}
use Rattle.vmx_replay_actors.proofs.Calls.{alike_of, call_puts, few_in, links_of, pair_of}
use Rattle.vmx_replay_actors.proofs.run.Run.put.Goals as goal

pub put_on-requires-clause-pair : goal.put_on-requires-clause-pair
put_on-requires-clause-pair g c κs within = pair_of _ _ _ _ _ c.self.invariant _ c.self.view_is _ c.requires.port _ _ c.requires.short (omega arith) (omega arith)

pub put_on-requires-clause-alike : goal.put_on-requires-clause-alike
put_on-requires-clause-alike g c κs within = alike_of _ _ _ _ _ c.self.invariant _ c.self.view_is _ c.requires.port

pub put_on-requires-clause-links : goal.put_on-requires-clause-links
put_on-requires-clause-links g c κs within = links_of _ _ _ _ _ c.self.invariant _ c.self.view_is _ c.requires.port

pub put_on-requires-clause-few : goal.put_on-requires-clause-few
put_on-requires-clause-few g c κs within = few_in guest_view c.self.inside.guests _ c.self.invariant.settled.rests

pub invariant_of-result : goal.invariant_of-result
invariant_of-result g c =
    let x = c.in_ok-targets in
    let put_ : c.put_number.new.numbers ≡ set c.self.inside.passed c.args.port (c.args.number + 1) = c.put_number.ensures.put ∙ ap (λ (n : ℕ). set c.self.inside.passed c.args.port (n + 1)) c.from.ensures in
    (call_puts _ _ _ _ _ c.self.invariant _ c.self.view_is _ c.requires.port _ c.requires.passed c.requires.begun c.requires.ready (guest_views c.put_on.new.guests) x.ensures.puts x.ensures.paired c.put_number.new.numbers put_).leaves.run

pub returns-clause-puts : goal.returns-clause-puts
returns-clause-puts g c =
    let x = c.in_ok-targets in
    let put_ : c.put_number.new.numbers ≡ set c.self.inside.passed c.args.port (c.args.number + 1) = c.put_number.ensures.put ∙ ap (λ (n : ℕ). set c.self.inside.passed c.args.port (n + 1)) c.from.ensures in
    (call_puts _ _ _ _ _ c.self.invariant _ c.self.view_is _ c.requires.port _ c.requires.passed c.requires.begun c.requires.ready (guest_views c.put_on.new.guests) x.ensures.puts x.ensures.paired c.put_number.new.numbers put_).leaves.is

pub returns-clause-targets : goal.returns-clause-targets
returns-clause-targets g c =
    let x = c.in_ok-targets in
    let put_ : c.put_number.new.numbers ≡ set c.self.inside.passed c.args.port (c.args.number + 1) = c.put_number.ensures.put ∙ ap (λ (n : ℕ). set c.self.inside.passed c.args.port (n + 1)) c.from.ensures in
    x.ensures.targets ∙ (call_puts _ _ _ _ _ c.self.invariant _ c.self.view_is _ c.requires.port _ c.requires.passed c.requires.begun c.requires.ready (guest_views c.put_on.new.guests) x.ensures.puts x.ensures.paired c.put_number.new.numbers put_).targets
