use Rattle.std.proofs.Common.{◌≡◌, ◌≤◌, ℕ, List, sym, subst, rules}
use Rattle.std.specs.Prelude.{slice_index}
use Rattle.vmx_config.proofs.plan.rss_of.Goals as goal

pub invariant_of-result : goal.invariant_of-result
invariant_of-result c = let range = c.requires.range in record {
  types_high = range.types;
  key_length = search rules;
  key_fits = c.key_of.ensures.fit;
  size_low = range.entries.size_low;
  size_high = range.entries.size_high;
  table_length = search rules;
  table_fits = c.table_of.ensures.fit;
  rest = subst (λ (t : List ℕ). (i : ℕ) → c.args.settings.now.entries.size ≤ i → slice_index t i ≡ 0) (sym c.table_of.ensures.same) range.entries.rest;
}
