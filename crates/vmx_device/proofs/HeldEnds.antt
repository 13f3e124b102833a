-- How many ends a machine holds.
use Rattle.std.proofs.Common.{◌≡◌, ◌<◌, ◌≤◌, ℕ, List, [], ◌∷◌, length, length-append, refl, sym, ap, ◌∙◌, subst, Some, None, Option, arith}
use Rattle.std.specs.Prelude.{IsSome, option_map}
use Rattle.vmx_shared_area.specs.declared.stats.Side.TheVariants.{Tx}
use Rattle.vmx_ends.specs.Transmit.{TxDeviceView}
use Rattle.vmx_device_state.specs.DeviceState.{Active}
use Rattle.vmx_machine_state.specs.declared.statistics.Count.TheVariants.{Error}
use Rattle.vmx_machine_state.specs.Views.{EndsView, ActiveView, MachineView, state_of}
use Rattle.vmx_machine_state.specs.Statistics.{after_count}
use Rattle.vmx_machine_state.specs.Stopped.{IsInUse}
use Rattle.vmx_model.specs.Lists.{count}
use Rattle.vmx_model.specs.Journal.{is_activation}
use Rattle.vmx_device_looks.specs.Looks.{with_tx}
use Rattle.vmx_device_laws.specs.Keeps.{Keeps}
use Rattle.vmx_device_laws.proofs.Held.{opened}
use Rattle.vmx_device_laws.proofs.Lists.{some_of}
use Rattle.vmx_device_laws.specs.Views.{DeviceView, tx_held, rx_held}

pub tx_count : (o : Option ActiveView) (e : EndsView) → Some e ≡ option_map (λ (a : ActiveView). a.ends) o → length e.tx ≡ tx_held o
tx_count None e h = absurd (cc h)
tx_count (Some a) e h = let same : e ≡ a.ends = cc h in ap (λ (x : EndsView). length x.tx) same

pub rx_count : (o : Option ActiveView) (e : EndsView) → Some e ≡ option_map (λ (a : ActiveView). a.ends) o → length e.rx ≡ rx_held o
rx_count None e h = absurd (cc h)
rx_count (Some a) e h = let same : e ≡ a.ends = cc h in ap (λ (x : EndsView). length x.rx) same

pub no_tx : (o : Option ActiveView) → None ≡ option_map (λ (a : ActiveView). a.ends) o → 0 ≡ tx_held o
no_tx None h = refl
no_tx (Some a) h = absurd (cc h)

pub no_rx : (o : Option ActiveView) → None ≡ option_map (λ (a : ActiveView). a.ends) o → 0 ≡ rx_held o
no_rx None h = refl
no_rx (Some a) h = absurd (cc h)

-- an active machine was activated
pub active_begun : (d : DeviceView) → Keeps d → IsSome d.machine.active → 1 ≤ count is_activation d.entries
active_begun d k there =
    let a = some_of d.machine.active there in
    let k' = opened d a.0 a.1 k in omega (arith, k'.begun, length-append k'.past (a.0.ends ∷ []))

-- a transmit queue whose end is held is in use, whatever the end did and whatever was counted
pub in_use : (d : DeviceView) → Keeps d → (a : ActiveView) → d.machine.active ≡ Some a → (q : ℕ) → q < tx_held d.machine.active → (vs : List TxDeviceView) (m new : MachineView) → m ≡ with_tx vs d.machine → new ≡ after_count Tx q Error m → IsInUse Tx q (state_of new)
in_use d k a act q lt vs m new m_is new_is =
    let state : state_of new ≡ Active a.setup = ap state_of new_is ∙ ap state_of m_is ∙ ap (λ (o : Option ActiveView). state_of (with_tx vs (record d.machine { active = o }))) act in
    let held : q < length a.ends.tx = subst (λ (o : Option ActiveView). q < tx_held o) act lt in
    subst (IsInUse Tx q) (sym state) (omega (arith, held, (opened d a act k).fit.0))
