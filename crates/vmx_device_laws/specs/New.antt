-- What a new device is made of.
use Rattle.std.specs.Prelude.{◌≡◌, ℕ, List, []}
use Rattle.vmx_switch.specs.Ports.{Wiring}
use Rattle.vmx_link.specs.Views.{LinkOutView, LinkInView}
use Rattle.vmx_link.specs.Ends.{new_out, new_in}
use Rattle.vmx_regs.specs.declared.known.Calls.{Calls}
use Rattle.vmx_regs.specs.declared.known.Masks.{Masks}
use Rattle.vmx_machine_state.specs.Views.{new_machine}
use Rattle.vmx_model.specs.declared.limits.TheConstants.{LINK_CAPACITY}
use Rattle.vmx_device_looks.specs.Ports.{other}
use Rattle.vmx_device_laws.specs.Views.{DeviceView}

-- the k-th link of 64 packets to another port, with which nothing was done
abbrev pub IsNewOut : ℕ → ℕ → LinkOutView → Type 0
IsNewOut port k o = o ≡ new_out o.key LINK_CAPACITY port (other port k)

-- the same from another port
abbrev pub IsNewIn : ℕ → ℕ → LinkInView → Type 0
IsNewIn port k i = i ≡ new_in i.key LINK_CAPACITY (other port k) port

-- an idle device with an empty journal
abbrev pub new_device : ℕ → List ℕ → Wiring → List ℕ → Calls → Masks → List LinkOutView → List LinkInView → DeviceView
new_device port mac table key calls masks out input = record { port = port; table = table; machine = new_machine mac; key = key; calls = calls; masks = masks; out = out; input = input; entries = []; setups = [] }
