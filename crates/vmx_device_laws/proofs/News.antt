-- New devices, and what only tells or hears.
use Rattle.std.proofs.Common.{◌≡◌, ℕ, zero, suc, ◌<◌, ◌≤◌, false, List, [], ◌++◌, length, map, get_or, refl, sym, ap, ◌∙◌, subst, None, Option}
use Rattle.std.specs.Prelude.{is_some, replicate}
use Rattle.vmx_link.specs.Views.{LinkOutView, LinkInView}
use Rattle.vmx_switch.specs.Ports.{Wiring}
use Rattle.vmx_regs.specs.declared.known.Calls.{Calls}
use Rattle.vmx_regs.specs.declared.known.Masks.{Masks}
use Rattle.vmx_device_state.specs.DeviceState.{state_after}
use Rattle.vmx_device_state.specs.Deals.{held_after}
use Rattle.vmx_device_state.specs.declared.turn.Turn.{Turn}
use Rattle.vmx_commands.specs.Replies.{Tracks}
use Rattle.vmx_model.specs.Bags.{EachQueue, gifts}
use Rattle.vmx_model.specs.Journal.{IsLawfulJournal}
use Rattle.vmx_device_looks.specs.Queues.{each_map, each_all}
use Rattle.vmx_device_laws.specs.Views.{DeviceView, beside_of, held_ends}
use Rattle.vmx_device_laws.specs.Keeps.{Keeps, OutSays, InSays, AreOwn, EndsSay, IsUnsaid, spoken}
use Rattle.vmx_device_laws.specs.New.{IsNewOut, IsNewIn, new_device}

new_out_says : (port k : ℕ) (o : LinkOutView) → IsNewOut port k o → OutSays port [] k o
new_out_says port k o e = subst (OutSays port [] k) (sym e) (record { from = refl; to = refl; capacity = refl; tags = refl; places = refl; looks = refl; full = tt })

new_in_says : (port k : ℕ) (i : LinkInView) → IsNewIn port k i → InSays port [] k i
new_in_says port k i e = subst (InSays port [] k) (sym e) (record { to = refl; from = refl; capacity = refl; arrivals = refl })

none_stopped_yet : (x : Option ℕ) → is_some x ≡ false → (n q : ℕ) → is_some (get_or (replicate n x) q x) ≡ false
none_stopped_yet x none zero zero = none
none_stopped_yet x none zero (suc q) = none
none_stopped_yet x none (suc n) zero = none
none_stopped_yet x none (suc n) (suc q) = none_stopped_yet x none n q

pub keeps_new : (port : ℕ) (mac : List ℕ) (table : Wiring) (key : List ℕ) (calls : Calls) (masks : Masks) (outs : List LinkOutView) (ins : List LinkInView) → calls.served ≡ [] → calls.serving ≡ None → 17 ≤ calls.interrupts → EachQueue (IsNewOut port) 0 outs → EachQueue (IsNewIn port) 0 ins
    → (port < length table.macs) × (suc (length outs) ≡ length table.macs) × (length ins ≡ length outs) × (length table.macs ≤ 16) → Keeps (new_device port mac table key calls masks outs ins)
keeps_new port mac table key calls masks outs ins served serving interrupts new_outs new_ins ports = record {
  past = [];
  bags = ap gifts served;
  begun = refl;
  says = tt;
  unsaid = λ a le. record { sends = λ q. refl; deliveries_ = λ q. refl; needs_ = λ q. refl; ups_ = λ q. refl };
  fit = tt;
  lawful = record { each = tt; no_more = refl };
  told = sym (ap (map spoken) served);
  tracks = record { state = ap state_after served; held = ap held_after served };
  serving = serving;
  out = each_map (IsNewOut port) (OutSays port []) 0 outs (λ k o lo lt h. new_out_says port k o h) new_outs;
  own = each_all (IsNewOut port) (AreOwn port []) 0 outs (λ k o h. subst (AreOwn port []) (sym h) tt) new_outs;
  input = each_map (IsNewIn port) (InSays port []) 0 ins (λ k i lo lt h. new_in_says port k i h) new_ins;
  tx_errors = λ q. 0;
  rx_errors = λ q. 0;
  tx_stats = refl;
  rx_stats = refl;
  stopped = λ q lt. none_stopped_yet None refl 8 q;
  errors = refl;
  fine = λ all. record { tx = λ q. refl; rx = λ q. refl; fates = tt };
  ports = ports;
  interrupts = interrupts;
}

-- other things that the registers know change nothing
pub keeps_calls : (d : DeviceView) → Keeps d → (calls : Calls) (key : List ℕ) (masks : Masks) → calls.served ≡ d.calls.served → calls.serving ≡ d.calls.serving → calls.interrupts ≡ d.calls.interrupts → Keeps (record d { calls = calls; key = key; masks = masks })
keeps_calls d k calls key masks served serving interrupts = record {
  past = k.past;
  bags = ap gifts served ∙ k.bags;
  begun = k.begun;
  says = subst (λ (ts : List Turn). EachQueue (EndsSay d.table (record (beside_of d) { told = ts }) d.entries) 0 (k.past ++ held_ends d.machine.active)) (sym served) k.says;
  unsaid = λ a le. subst (λ (ts : List Turn). IsUnsaid (record (beside_of d) { told = ts }) d.entries a) (sym served) (k.unsaid a le);
  fit = k.fit;
  lawful = subst (λ (ts : List Turn). IsLawfulJournal (record (beside_of d) { told = ts }) d.entries d.setups) (sym served) k.lawful;
  told = k.told ∙ ap (map spoken) (sym served);
  tracks = subst (Tracks d.machine) (sym served) k.tracks;
  serving = serving ∙ k.serving;
  out = k.out;
  own = k.own;
  input = k.input;
  tx_errors = k.tx_errors;
  rx_errors = k.rx_errors;
  tx_stats = k.tx_stats;
  rx_stats = k.rx_stats;
  stopped = k.stopped;
  errors = k.errors;
  fine = k.fine;
  ports = k.ports;
  interrupts = subst (λ (n : ℕ). 17 ≤ n) (sym interrupts) k.interrupts;
}

pub keeps_masks : (d : DeviceView) → Keeps d → (masks : Masks) → Keeps (record d { masks = masks })
keeps_masks d k masks = keeps_calls d k d.calls d.key masks refl refl refl
