use Rattle.std.proofs.Common.{◌≡◌, ◌<◌, ◌≤◌, ◌+◌, ◌%◌, ℕ, replicate, set, get_or, List, length, refl, ap, sym, ◌∙◌, subst, arith}
use Rattle.std.specs.Prelude.{slice_index}
use Rattle.std.proofs.lemmas.List.{length-set, get_or_past}
use Rattle.std.proofs.lemmas.List.Edits.{fill_by_more}
use Rattle.std.proofs.lemmas.List.FromFn.{fill_by_all}
use Rattle.vmx_shared_area.specs.Bounds.{below_bound}
use Rattle.vmx_shared_area.specs.Places.{get_or-replicate_same}
use Rattle.vmx_shared_area.specs.declared.offsets.TheConstants.{TABLE_SIZE}
use Rattle.vmx_shared_area.specs.declared.rss.TheConstants.{MICROSOFT_KEY}
use Rattle.vmx_device_state.specs.SetupView.{RssView}
use Rattle.vmx_generator.specs.Setups.{default_rss}
use Rattle.vmx_generator.proofs.Tables.{below_set}
use Rattle.vmx_generator.proofs.setups.rss.Goals as goal

pub loop-i-init : goal.loop-i-init
loop-i-init c = record {
  size = refl;
  filled = λ k lt. absurd (omega (arith, lt));
  below = λ k. (let none : slice_index (replicate TABLE_SIZE 0) k ≡ 0 = get_or-replicate_same TABLE_SIZE k 0 in omega (arith, none));
}

pub loop-i-preserved : goal.loop-i-preserved
loop-i-preserved c =
    let before = c.loop-i.invariant in
    let size = before.size in
    let low : c.loop-i.i % 4 < 4 = omega arith in
    record {
      size = length-set c.loop-i.table c.loop-i.i (c.loop-i.i % 4) ∙ size;
      filled = fill_by_more (λ i. i % 4) c.loop-i.table c.loop-i.i 0 (omega (arith, size)) before.filled;
      below = below_set 4 c.loop-i.table c.loop-i.i (c.loop-i.i % 4) (omega (arith, size)) low before.below;
    }

pub invariant_of-result : goal.invariant_of-result
invariant_of-result c = let before = c.loop-i.invariant in let size = before.size in record {
  types_high = omega arith;
  key_length = refl;
  key_fits = below_bound 256 MICROSOFT_KEY (omega arith) refl;
  size_low = omega arith;
  size_high = omega arith;
  table_length = size;
  table_fits = λ i. omega (arith, before.below i);
  rest = λ i le. get_or_past c.loop-i.table i 0 (omega (arith, size, le));
}

pub returns : goal.returns
unfolding default_rss
returns c = let before = c.loop-i.invariant in
    let end = c.loop-i.auto.i-end in
    let past = c.loop-i-test.false in
    let table = fill_by_all (λ i. i % 4) c.loop-i.table TABLE_SIZE 0 before.size (λ k lt. before.filled k (omega (arith, lt, past))) in
    record { rss = λ j. record { types = 15; key = MICROSOFT_KEY; size = TABLE_SIZE; table = table j }; queues = before.below }
