use Rattle.std.proofs.Common.{◌≡◌, ◌≢◌, ◌+◌, ◌<◌, ◌∙◌, arith, ℕ, All, List, take, ap, ap₂, sym, subst, length}
use Rattle.std.specs.List.{fold}
use Rattle.vmx_model.specs.declared.plan.Plan.{Plan}
use Rattle.vmx_replay_runs.specs.Runs.{RunView, puts, ComesFrom}
use Rattle.vmx_replay_order.specs.Orders.{arrives, sends_at}
use Rattle.vmx_replay_order.proofs.Returned.{returned}
use Rattle.vmx_replay_order.proofs.Frames.{goes_all, comes_puts, sends_is}
use Rattle.vmx_switch.specs.declared.answer.TheConstants.{MAX_PORTS}
use Rattle.vmx_replay_runs.specs.Short.{AreShort, ENTRIES_AT_FRAME, ENTRIES_AT_ARRIVALS}
use Rattle.vmx_replay_order.proofs.Short.{short_more, short_puts}
use Rattle.vmx_replay_actors.specs.Runs.{run_view}
use Rattle.vmx_replay_order.proofs.order.send.Goals as goal

pub arrive_each-requires-clause-from : goal.arrive_each-requires-clause-from
arrive_each-requires-clause-from g c κs within = subst (λ (p : Plan). c.args.port < length p.guests) (sym (ap (λ (x : RunView). x.plan) c.in_ok-targets.ensures.puts)) c.requires.port

pub arrive_each-requires-clause-targets : goal.arrive_each-requires-clause-targets
arrive_each-requires-clause-targets g c κs within = let a = c.args in let r : RunView = run_view a.run in let e = c.in_ok-targets.ensures in
    subst (λ (p : Plan). All (λ to. (to < length p.guests) × (to ≢ a.port)) (take c.in_ok-targets.targets.count c.in_ok-targets.targets.ports)) (sym (ap (λ (x : RunView). x.plan) e.puts)) (subst (All (λ to. (to < length r.plan.guests) × (to ≢ a.port))) (sym e.targets) (goes_all r.plan a.port a.number))

pub arrive_each-requires-clause-alone : goal.arrive_each-requires-clause-alone
arrive_each-requires-clause-alone g c κs within = let a = c.args in let r : RunView = run_view a.run in
    subst (λ (x : RunView). ComesFrom a.port x.world) (sym c.in_ok-targets.ensures.puts) (comes_puts a.port a.number r c.requires.ready.emptied)

pub arrive_each-requires-clause-short : goal.arrive_each-requires-clause-short
arrive_each-requires-clause-short g c κs within = let a = c.args in let r : RunView = run_view a.run in
    subst (λ (x : RunView). AreShort ENTRIES_AT_ARRIVALS x.world) (sym c.in_ok-targets.ensures.puts) (short_more (ENTRIES_AT_FRAME + MAX_PORTS) ENTRIES_AT_ARRIVALS (puts a.port a.number r).world (omega arith) (short_puts ENTRIES_AT_FRAME a.port a.number r c.requires.short))

pub returns : goal.returns
returns g c = let a = c.args in let r : RunView = run_view a.run in let e = c.in_ok-targets.ensures in
    record { sends = returned c.arrive_each.result run_view (λ t. t ≡ sends_at a.port a.number r) (λ t h. h ∙ ap₂ (λ (x : RunView) (tos : List ℕ). fold (arrives a.port) x tos) e.puts e.targets ∙ sends_is a.port a.number r c.requires.ready c.requires.port) c.arrive_each.ensures.arrive }
