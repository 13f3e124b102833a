use Rattle.std.proofs.Common.{◌≡◌, ◌^◌, ◌+◌, ◌++◌, List, length, map, take}
use Rattle.vmx_link.specs.Ends.{out_view}
use Rattle.vmx_model.specs.declared.journal.Entry.{Entry}
use Rattle.vmx_device_looks.specs.Links.{PutsOut, AreFew}
use Rattle.vmx_device_looks.proofs.sending.spread.Given as goal

abbrev pub invariant-loop-i : goal.invariant-loop-i
invariant-loop-i l = record {
  links : length l.out ≡ length l.fn.out;
  puts : (more : List Entry) × PutsOut l.fn.port l.fn.tag l.fn.frame (take l.i l.found.ports) more (map out_view l.fn.out) (map out_view l.out) × (l.entries.0 ≡ l.fn.entries.0 ++ more);
  long : length l.entries.0 ≡ length l.fn.entries.0 + l.i;
  room : l.fn.entries.1 ≡ l.entries.1 + l.i;
  spare : length l.fn.spare ≡ length l.spare + l.i;
  few : AreFew (2 ^ 61 + l.i) (map out_view l.out);
}
