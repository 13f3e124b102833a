use Rattle.std.proofs.Common.{rules, ◌≡◌, length}
use Rattle.vmx_model.proofs.Fits.{size_low, size_high, entries_below, rest_zero}
use Rattle.vmx_model.proofs.changes.rss_of.Goals as goal

pub invariant_of-result : goal.invariant_of-result
invariant_of-result c = let a = c.args in let r = a.rss.now in
    record {
      types_high = r.types_high;
      key_length = r.key_length;
      key_fits = r.key_fits;
      size_low = size_low a.queues a.size a.table c.requires.fits;
      size_high = size_high a.queues a.size a.table c.requires.fits;
      table_length = search rules;
      table_fits = search rules;
      rest = rest_zero a.queues a.size a.table c.requires.fits;
    }

pub returns-clause-entries : goal.returns-clause-entries
returns-clause-entries c = let a = c.args in let long : length a.table ≡ 128 = search rules in entries_below a.queues a.size a.table c.requires.fits long
