use Rattle.std.proofs.Common.{◌≡◌, ◌<◌, ◌+◌, ◌%◌, ℕ, set, get_or, List, ap, sym, ◌∙◌, subst, arith}
use Rattle.std.proofs.lemmas.List.{length-set}
use Rattle.std.proofs.lemmas.List.Edits.{fill_by_more}
use Rattle.std.proofs.lemmas.List.FromFn.{fill_by_all}
use Rattle.vmx_shared_area.specs.declared.offsets.TheConstants.{TABLE_SIZE}
use Rattle.vmx_config_lists.specs.declared.entries.Entries.{Entries}
use Rattle.vmx_config.specs.Guest.{in_turns}
use Rattle.vmx_config.proofs.guest.in_turns.Goals as goal

abbrev of_table : List ℕ → Entries
of_table t = record { size = TABLE_SIZE; table = t }

pub loop-i-preserved : goal.loop-i-preserved
loop-i-preserved c = let before = c.loop-i.invariant in let size = before.size in record {
  size = length-set c.loop-i.table c.loop-i.i (c.loop-i.i % c.from.result) ∙ before.size;
  filled = subst (λ (q : ℕ). (k : ℕ) → k < c.loop-i.i + 1 → get_or (set c.loop-i.table c.loop-i.i (c.loop-i.i % q)) k 0 ≡ k % c.args.queues) (sym c.from.ensures)
      (fill_by_more (λ i. i % c.args.queues) c.loop-i.table c.loop-i.i 0 (omega (arith, size)) before.filled);
}

pub returns : goal.returns
unfolding in_turns
returns c = let before = c.loop-i.invariant in
    record { turns = ap of_table (fill_by_all (λ i. i % c.args.queues) c.loop-i.table TABLE_SIZE 0 before.size (λ k lt. before.filled k (omega (arith, lt)))) }
