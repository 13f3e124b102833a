use Rattle.std.proofs.Common.{◌≡◌, ◌++◌, drop}
use Rattle.vmx_model.specs.Fates.{arrivals}
use Rattle.vmx_serial_fates.proofs.copies.push_arrivals.Given as goal

abbrev pub invariant-loop-entry : goal.invariant-loop-entry
invariant-loop-entry l = l.fates ++ arrivals l.sender l.place (drop l.entry-index l.came) ≡ l.fn.fates ++ arrivals l.sender l.place l.came
