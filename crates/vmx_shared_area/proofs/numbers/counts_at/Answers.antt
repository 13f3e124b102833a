use Rattle.std.proofs.Common.{◌+◌, ◌≤◌, ◌*◌, inl, inr, arith}
use Rattle.std.proofs.lemmas.Bool.{cases_lt}
use Rattle.std.proofs.lemmas.List.{get_or_past}
use Rattle.vmx_shared_area.specs.Places.{number_at-below}
use Rattle.vmx_shared_area.proofs.numbers.counts_at.Goals as goal
use Rattle.vmx_shared_area.specs.declared.offsets.TheConstants.{STATISTICS_COUNT}

pub returns-clause-fit : goal.returns-clause-fit
returns-clause-fit c i =
    let ten : STATISTICS_COUNT ≤ c.loop-i.i = omega (arith, c.loop-i-test.false) in
    elim (cases_lt i STATISTICS_COUNT) [
      | inl lt ↦
          rw (c.loop-i.invariant.each i (omega arith)) (number_at-below 8 (c.args.start + 8 * i) c.args.bytes.now (λ k. omega (arith, c.type_inv.bytes k)))
      | inr past ↦ rw (get_or_past c.loop-i.counts i 0 (let len = c.loop-i.invariant.len in omega arith)) (omega arith)
    ]
