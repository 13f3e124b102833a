use Rattle.std.proofs.Common.{◌-◌, drop, sym, ◌∙◌}
use Rattle.vmx_replay_chains.proofs.Targeting.{next_none, next_one, found_all, found_enough, behind_all}
use Rattle.vmx_replay_chains.proofs.targets.targets_from.Goals as goal
use Rattle.vmx_replay_chains.proofs.targets.targets_from.Goals.{in-Some, in_default, else-loop-index-test, then-loop-index-test+then-count-eq-MAX_PORTS}

pub loop-index-preserved : goal.loop-index-preserved
loop-index-preserved c =
    let es = c.args.entries.now in let from = c.args.from in let i = c.loop-index.index in let found = c.loop-index.invariant.found in let le = c.loop-index.auto.index in let lt = c.loop-index-test.true in
    elim c.match-target_of.branch [
      | in-Some w ↦ rw (w.ports-is, w.count-is) (record { found = next_one es from i c.loop-index.count c.loop-index.ports found le lt _ w.in-Some.port (sym c.target_of.ensures.target ∙ w.in-Some.is) c.if-count-eq-MAX_PORTS.false })
      | in_default w ↦ rw (w.ports-is, w.count-is) (record { found = next_none es from i c.loop-index.count c.loop-index.ports found le lt _ (sym c.target_of.ensures.target ∙ w.in_default.is) })
    ]

pub returns-clause-targets : goal.returns-clause-targets
returns-clause-targets c =
    let es = c.args.entries.now in let from = c.args.from in let i = c.loop-index.index in let found = c.loop-index.invariant.found in
    elim c.loop-index-test.branch [
      | else-loop-index-test w ↦ found_all (drop from es) (i - from) c.loop-index.count c.loop-index.ports found (behind_all es from i w.loop-index-test.false)
      | then-loop-index-test+then-count-eq-MAX_PORTS w ↦ found_enough (drop from es) (i - from) c.loop-index.count c.loop-index.ports found w.if-count-eq-MAX_PORTS.true
    ]
