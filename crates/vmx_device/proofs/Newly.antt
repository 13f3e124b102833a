-- A device that was just made.
use Rattle.std.proofs.Common.{◌≡◌, ◌≤◌, ◌<◌, ℕ, suc, List, [], length, None, sym, subst}
use Rattle.vmx_machine_state.specs.Views.{new_machine}
use Rattle.vmx_model.specs.Bags.{EachQueue}
use Rattle.vmx_device_laws.specs.Views.{DeviceView}
use Rattle.vmx_device_laws.specs.Keeps.{Keeps}
use Rattle.vmx_device_laws.specs.New.{IsNewOut, IsNewIn, new_device}
use Rattle.vmx_device_laws.proofs.News.{keeps_new}

module _ (d : DeviceView) (mac : List ℕ) (machine : d.machine ≡ new_machine mac) (entries : d.entries ≡ []) (setups : d.setups ≡ []) where
  pub new_is : d ≡ new_device d.port mac d.table d.key d.calls d.masks d.out d.input
  new_is = λ i. record d { machine = machine i; entries = entries i; setups = setups i }

  pub new_keeps : d.calls.served ≡ [] → d.calls.serving ≡ None → 17 ≤ d.calls.interrupts → EachQueue (IsNewOut d.port) 0 d.out → EachQueue (IsNewIn d.port) 0 d.input
      → (d.port < length d.table.macs) × (suc (length d.out) ≡ length d.table.macs) × (length d.input ≡ length d.out) × (length d.table.macs ≤ 16) → Keeps d
  new_keeps served serving interrupts outs ins ports = subst Keeps (sym new_is) (keeps_new d.port mac d.table d.key d.calls d.masks d.out d.input served serving interrupts outs ins ports)
