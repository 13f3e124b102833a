-- What notes tell the two sides of the registers of each other, and what a side that was told all does next.
use Rattle.std.specs.Prelude.{◌≡◌, [], ◌∷◌, ◌++◌, Some, None, length, ◌≤◌}
use Rattle.vmx_device_state.specs.declared.turn.CommandView.{CommandView}
use Rattle.vmx_device_state.specs.declared.turn.Turn.{Turn}
use Rattle.vmx_regs.specs.declared.known.Calls.{Calls}
use Rattle.vmx_regs.specs.Rule.{sent_by, told_driver, driver_note, told_device, device_note, hears_driver, hears_device, DriverKnows, DeviceKnows}

-- notes went both ways, and nothing else happened
pub record PassesRegs (v w v' w' : Calls) : Type 0 where
  pub device : w' ≡ told_device (hears_driver w (driver_note v))
  pub driver : v' ≡ hears_device (told_driver v) (device_note w)
  pub device_knows : DeviceKnows (hears_driver w (driver_note v))
  pub driver_knows : DriverKnows v'

-- Each side was told all that the other did. Where no command is outstanding both know the same turns, and the device holds no command.
pub record AreTold (v w : Calls) : Type 0 where
  pub commands : length (sent_by v) ≤ length w.heard_commands
  pub served : length w.served ≤ length v.heard_served
  pub device_knows : DeviceKnows w
  pub driver_knows : DriverKnows v
  pub same : v.asked ≡ None → (v.turns ≡ w.served) × (w.serving ≡ None)

-- a command is outstanding that the device has not answered
pub record IsAsked (v w : Calls) (c : CommandView) : Type 0 where
  pub asked : v.asked ≡ Some c
  pub served : w.served ≡ v.turns
  pub serving : w.serving ≡ None

-- it is answered, and the answer is not taken yet
pub record IsAnswered (v w : Calls) (t : Turn) : Type 0 where
  pub asked : v.asked ≡ Some t.command
  pub served : w.served ≡ v.turns ++ t ∷ []
  pub serving : w.serving ≡ None
