-- A walk of the plain program as the core has it.
use Rattle.std.specs.Prelude.{◌≤◌, ◌<◌}
use Rattle.vmx_ends.specs.Walk as walk
use Rattle.vmx_ends.specs.Core as core
use Rattle.vmx_ends.specs.declared.made.RxShape.{RxShape}
use Rattle.vmx_serial_queues.specs.declared.walk.Stand.{Stand}
use Rattle.vmx_serial_queues.specs.declared.walk.Outcome.{Outcome}
use Rattle.vmx_serial_queues.specs.declared.walk.Outcome.TheVariants.{Takes, Misses}

-- ring sizes and bodies in their ranges
abbrev pub IsShape : RxShape → Type 0
IsShape s = (0 < s.size1) × (s.size1 ≤ 4096) × (0 < s.size2) × (s.size2 ≤ 4096) × (s.bodies ≤ 2)

-- where a walk stands
abbrev pub stand_of : Stand → walk.Stand
stand_of s = record { next1 = s.next1; next2 = s.next2; chain = s.chain; looks = s.looks }

-- what a delivery comes to
abbrev pub outcome_of : Outcome → core.Outcome
outcome_of (Takes passed end) = core.takes passed (stand_of end)
outcome_of (Misses ring position looks) = core.misses ring position looks
