use Rattle.std.proofs.Common.{◌≡◌, drop, [], length}
use Rattle.toml.specs.View.{items_view}
use Rattle.vmx_config.specs.Whole.{guests_from}
use Rattle.vmx_config.proofs.reading.read_guests.Given as goal

abbrev pub invariant-loop-i : goal.invariant-loop-i
invariant-loop-i l = record {
  read : guests_from l.i l.guests.items (items_view (drop l.i l.values)) ≡ guests_from 0 [] (items_view l.values);
  count : length l.guests.items ≡ l.i;
}
