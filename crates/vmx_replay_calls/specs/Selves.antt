-- What a device is, whatever it does.
use Rattle.std.specs.Prelude.{◌≡◌}
use Rattle.vmx_device_laws.specs.Views.{DeviceView}
use Rattle.vmx_driver_steps.specs.Driver.{DriverView}

-- the same port, table, registers and address
pub record IsOneDevice (d d' : DeviceView) : Type 0 where
  pub port : d'.port ≡ d.port
  pub table : d'.table ≡ d.table
  pub key : d'.key ≡ d.key
  pub mac : d'.machine.mac ≡ d.machine.mac

-- a driver of the same guest, plan and registers
pub record IsOneDriver (v v' : DriverView) : Type 0 where
  pub guest : v'.guest ≡ v.guest
  pub plan : v'.plan ≡ v.plan
  pub key : v'.key ≡ v.key
