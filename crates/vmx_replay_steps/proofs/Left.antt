-- What the looks of a turn at the transmit queues leave of a device.
use Rattle.std.proofs.Common.{◌≡◌, ℕ, zero, suc, Bool, true, false, List, refl, ap, ◌∙◌, Some, None, Option, inl, inr}
use Rattle.std.specs.Prelude.{is_some}
use Rattle.std.specs.Option.{option_map}
use Rattle.vmx_shared_area.specs.declared.stats.Side.TheVariants.{Tx}
use Rattle.vmx_ends.specs.Transmit.{TxDeviceView}
use Rattle.vmx_machine_state.specs.declared.statistics.Count.TheVariants.{Error}
use Rattle.vmx_machine_state.specs.Statistics.{after_count}
use Rattle.vmx_machine_state.specs.Stopped.{after_stop, error_of}
use Rattle.vmx_machine_state.specs.Views.{ActiveView, MachineView, setup_of}
use Rattle.vmx_device_looks.specs.Looks.{with_tx}
use Rattle.vmx_device_laws.specs.Views.{DeviceView}
use Rattle.vmx_device_laws.specs.Steps.{TxStep, TxSteps, counted_taken}
use Rattle.vmx_device_laws.specs.Pairs.{rx_of}

-- of the machine
pub record Kept (m m' : MachineView) : Type 0 where
  pub setup : setup_of m' ≡ setup_of m
  pub active : is_some m'.active ≡ is_some m.active
  pub rx : rx_of m'.active ≡ rx_of m.active
  pub mac : m'.mac ≡ m.mac

kept_refl : (m m' : MachineView) → m' ≡ m → Kept m m'
kept_refl m m' e = record {
  setup = ap setup_of e;
  active = ap (λ (x : MachineView). is_some x.active) e;
  rx = ap (λ (x : MachineView). rx_of x.active) e;
  mac = ap (λ (x : MachineView). x.mac) e;
}

kept_on : (m n m' : MachineView) → Kept m n → Kept n m' → Kept m m'
kept_on m n m' s t = record { setup = t.setup ∙ s.setup; active = t.active ∙ s.active; rx = t.rx ∙ s.rx; mac = t.mac ∙ s.mac }

module _ (vs : List TxDeviceView) where
  setup_same : (o : Option ActiveView) → option_map (λ (a : ActiveView). a.setup) (option_map (λ (a : ActiveView). record a { ends = record a.ends { tx = vs } }) o) ≡ option_map (λ (a : ActiveView). a.setup) o
  setup_same None = refl
  setup_same (Some a) = refl

  active_same : (o : Option ActiveView) → is_some (option_map (λ (a : ActiveView). record a { ends = record a.ends { tx = vs } }) o) ≡ is_some o
  active_same None = refl
  active_same (Some a) = refl

  rx_same : (o : Option ActiveView) → rx_of (option_map (λ (a : ActiveView). record a { ends = record a.ends { tx = vs } }) o) ≡ rx_of o
  rx_same None = refl
  rx_same (Some a) = refl

  ends_kept : (m m' : MachineView) → m' ≡ with_tx vs m → Kept m m'
  ends_kept m m' e = kept_on m (with_tx vs m) m' (record { setup = setup_same m.active; active = active_same m.active; rx = rx_same m.active; mac = refl }) (kept_refl (with_tx vs m) m' e)

counted_kept : (q : ℕ) (frame : List ℕ) (b : Bool) (m : MachineView) → Kept m (counted_taken q frame b m)
counted_kept q frame true m = record { setup = refl; active = refl; rx = refl; mac = refl }
counted_kept q frame false m = record { setup = refl; active = refl; rx = refl; mac = refl }

stopped_kept : (q error : ℕ) (m : MachineView) → Kept m (after_stop Tx q error (after_count Tx q Error m))
stopped_kept q error m = record { setup = refl; active = refl; rx = refl; mac = refl }

-- and of the device
pub record Left (d d' : DeviceView) : Type 0 where
  pub machine : Kept d.machine d'.machine
  pub port : d'.port ≡ d.port
  pub input : d'.input ≡ d.input
  pub setups : d'.setups ≡ d.setups

left_refl : (d d' : DeviceView) → d' ≡ d → Left d d'
left_refl d d' e = record { machine = kept_refl d.machine d'.machine (ap (λ (x : DeviceView). x.machine) e); port = ap (λ (x : DeviceView). x.port) e; input = ap (λ (x : DeviceView). x.input) e; setups = ap (λ (x : DeviceView). x.setups) e }

left_on : (d n d' : DeviceView) → Left d n → Left n d' → Left d d'
left_on d n d' s t = record { machine = kept_on d.machine n.machine d'.machine s.machine t.machine; port = t.port ∙ s.port; input = t.input ∙ s.input; setups = t.setups ∙ s.setups }

left_step : (q : ℕ) (found : Bool) (d d' : DeviceView) → TxStep q found d d' → Left d d'
left_step q false d d' s = elim s [
  | inl p ↦ left_refl d d' p.is
  | inr p ↦ record {
    machine = kept_on d.machine p.machine d'.machine (ends_kept _ d.machine p.machine p.takes.is) (kept_refl p.machine d'.machine (ap (λ (x : DeviceView). x.machine) p.is));
    port = ap (λ (x : DeviceView). x.port) p.is;
    input = ap (λ (x : DeviceView). x.input) p.is;
    setups = ap (λ (x : DeviceView). x.setups) p.is;
  }
]
left_step q true d d' s = elim s [
  | inl p ↦ record {
    machine = kept_on d.machine p.machine d'.machine (ends_kept _ d.machine p.machine p.takes.is) (kept_on p.machine _ d'.machine (counted_kept q _ _ p.machine) (kept_refl _ d'.machine (ap (λ (x : DeviceView). x.machine) p.is)));
    port = ap (λ (x : DeviceView). x.port) p.is;
    input = ap (λ (x : DeviceView). x.input) p.is;
    setups = ap (λ (x : DeviceView). x.setups) p.is;
  }
  | inr p ↦ record {
    machine = kept_on d.machine p.machine d'.machine (ends_kept _ d.machine p.machine p.takes.is) (kept_on p.machine (after_stop Tx q (error_of p.fault) (after_count Tx q Error p.machine)) d'.machine (stopped_kept q (error_of p.fault) p.machine) (kept_refl (after_stop Tx q (error_of p.fault) (after_count Tx q Error p.machine)) d'.machine (ap (λ (x : DeviceView). x.machine) p.is)));
    port = ap (λ (x : DeviceView). x.port) p.is;
    input = ap (λ (x : DeviceView). x.input) p.is;
    setups = ap (λ (x : DeviceView). x.setups) p.is;
  }
]

pub left_steps : (k : ℕ) (found : Bool) (d d' : DeviceView) → TxSteps k found d d' → Left d d'
left_steps zero found d d' s = left_refl d d' s.1
left_steps (suc k) found d d' (before, here, (mid, is, step, steps)) = left_on d mid d' (left_steps k before d mid steps) (left_step k here mid d' step)
