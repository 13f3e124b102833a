-- What a test keeps of a device that makes turns.
use Rattle.std.specs.Prelude.{◌≤◌, ◌*◌, ℕ, length}
use Rattle.vmx_device_laws.specs.Views.{DeviceView, AreWhole}

-- its ends are whole, and at most so many turns lie behind it: the entries and the commands of each are few
abbrev pub IsReady : ℕ → DeviceView → Type 0
IsReady turns d = AreWhole d × (length d.entries ≤ 144 * turns) × (length d.calls.served ≤ turns)
