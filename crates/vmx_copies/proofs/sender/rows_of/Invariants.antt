use Rattle.std.proofs.Common.{◌≡◌, ◌++◌, length, take}
use Rattle.std.specs.List.{flat_map}
use Rattle.vmx_model.specs.Plan.{captured}
use Rattle.vmx_copies.specs.Join.{AreInOrder, IsPassed, frame_rows}
use Rattle.vmx_copies.proofs.sender.rows_of.Given as goal

abbrev pub invariant-loop-number : goal.invariant-loop-number
invariant-loop-number l = record {
  walk : l.walk ≡ record { guest = l.sender.guest.now; next = l.number };
  cursors : length l.passed.items ≡ l.count;
  passed : AreInOrder l.sender.guest.now l.sender.entries.now → IsPassed l.sender.guest.now l.sender.entries.now l.number l.passed.items;
  rows : AreInOrder l.sender.guest.now l.sender.entries.now
      → l.rows ≡ l.fn.rows ++ flat_map (frame_rows l.sender.switch.now l.sender.arrivals.now l.sender.entries.now l.sender.port l.sender.guest.now) (take l.number (captured l.sender.guest.now));
}
