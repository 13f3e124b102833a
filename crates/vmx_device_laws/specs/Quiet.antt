-- What an idle device's turns append.
use Rattle.std.specs.Prelude.{⊤, ◌≡◌, ◌⊎◌, ◌++◌, Bool, List, [], ◌∷◌, None}
use Rattle.std.specs.List.{AllByRecursion}
use Rattle.vmx_device_state.specs.Orders.{order_of}
use Rattle.vmx_device_state.specs.declared.order.Order.TheVariants.{Stop}
use Rattle.vmx_model.specs.declared.journal.Entry.{Entry}
use Rattle.vmx_model.specs.declared.journal.Entry.TheVariants as entry
use Rattle.vmx_model.specs.declared.journal.Fate.{Fate}
use Rattle.vmx_model.specs.declared.journal.Fate.TheVariants as fate
use Rattle.vmx_device_laws.specs.Views.{DeviceView}
use Rattle.vmx_device_laws.specs.Steps.{Obeys, TurnsOnce}

abbrev pub IsInactive : Fate → Type 0
IsInactive fate.Inactive = ⊤
IsInactive f = ⊥

-- a command, or a packet that an idle device did not take
abbrev pub IsQuiet : Entry → Type 0
IsQuiet (entry.Setting number answer setup) = ⊤
IsQuiet (entry.In from place f) = IsInactive f
IsQuiet (entry.Out tag target w) = ⊥
IsQuiet (entry.Lost tag) = ⊥

-- a journal that grew by such entries alone
abbrev pub GrowsQuietly : List Entry → List Entry → Type 0
GrowsQuietly old new = (more : List Entry) × (new ≡ old ++ more) × AllByRecursion IsQuiet more

-- ------------------------------------------------------------ after a quiesce

-- a quiesce or a reset was answered 0
pub record StopsDevice (old asked : DeviceView) : Type 0 where
  pub obeys : Obeys old asked
  pub order : order_of obeys.number ≡ Stop
  pub value : obeys.value ≡ 0

-- what befalls a device that has no queue end: a turn, or between turns a call on notes, which changes neither journal nor machine
abbrev pub GoesOn : DeviceView → DeviceView → Type 0
GoesOn old new = ((worked : Bool) × TurnsOnce worked old new) ⊎ ((new.entries ≡ old.entries) × (new.machine ≡ old.machine))

-- the same one after the other
abbrev pub Goes : DeviceView → List DeviceView → Type 0
Goes d [] = ⊤
Goes d (n ∷ later) = GoesOn d n × Goes n later

-- the last of them
abbrev pub last_of : DeviceView → List DeviceView → DeviceView
last_of d [] = d
last_of d (n ∷ later) = last_of n later

-- the device has no queue end, and its journal grew by commands and by packets that it did not take
pub record StaysQuiet (old new : DeviceView) : Type 0 where
  pub idle : new.machine.active ≡ None
  pub quiet : GrowsQuietly old.entries new.entries
