-- A driver that was told of all that its device did.
use Rattle.std.specs.Prelude.{◌<◌, ◌≤◌, length}
use Rattle.std.specs.List.{AllByRecursion}
use Rattle.vmx_ends.specs.Transmit.{TxDriverView}
use Rattle.vmx_driver_steps.specs.Driver.{DriverView}

-- of each transmit queue it was told that all is completed
abbrev pub KnowsCompleted : DriverView → Type 0
KnowsCompleted v = AllByRecursion (λ (d : TxDriverView). length d.sent ≤ d.heard) v.tx

-- it was told of an answer that it has not taken
abbrev pub KnowsAnswer : DriverView → Type 0
KnowsAnswer v = length v.calls.turns < length v.calls.heard_served
