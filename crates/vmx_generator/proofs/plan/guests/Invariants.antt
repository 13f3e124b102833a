use Rattle.std.specs.List.{AllZip, range_with_len}
use Rattle.vmx_generator.specs.Plans.{IsGuest}
use Rattle.vmx_generator.proofs.plan.guests.Given as goal

abbrev pub invariant-loop-number : goal.invariant-loop-number
invariant-loop-number l = AllZip (IsGuest l.draws.number) (range_with_len 0 l.number) l.guests.items
