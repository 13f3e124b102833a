use Rattle.std.proofs.Common.{◌≡◌, ◌++◌, map, drop}
use Rattle.vmx_copies.specs.Join.{AllInOrder, rows_from}
use Rattle.vmx_copies.proofs.join.all_rows.Given as goal

abbrev pub invariant-loop-port : goal.invariant-loop-port
invariant-loop-port l = AllInOrder l.plan.guests (map (λ j. j.now) l.journals)
    → l.rows ++ rows_from l.switch l.arrivals (map (λ j. j.now) l.journals) l.port (drop l.port l.plan.guests) ≡ rows_from l.switch l.arrivals (map (λ j. j.now) l.journals) 0 l.plan.guests
