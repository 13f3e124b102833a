use Rattle.std.proofs.Common.{rules, ◌≡◌, length, arith}
use Rattle.vmx_model.proofs.Fits.{entries_below, rest_zero}
use Rattle.vmx_sketches.proofs.sketch.rss_with.Goals as goal

pub invariant_of-result : goal.invariant_of-result
invariant_of-result c = let a = c.args in
    record {
      types_high = omega arith;
      key_length = search rules;
      key_fits = search rules;
      size_low = omega arith;
      size_high = omega arith;
      table_length = search rules;
      table_fits = search rules;
      rest = rest_zero 2 4 a.table c.requires.fits;
    }

pub returns : goal.returns
returns c = let a = c.args in let long : length a.table ≡ 128 = search rules in record { below = entries_below 2 4 a.table c.requires.fits long }
