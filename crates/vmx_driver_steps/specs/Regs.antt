-- Calls on registers that change no turn and no outstanding command keep what always holds.
use Rattle.std.proofs.Common.{◌≡◌, ℕ, ◌<◌, List, ◌++◌, map, refl, ap, sym, ◌∙◌, subst, Option}
use Rattle.std.specs.List.{AllByRecursion}
use Rattle.vmx_device_state.specs.SetupView.{SetupView}
use Rattle.vmx_device_state.specs.Deals.{Held as HeldEnds}
use Rattle.vmx_device_state.specs.declared.turn.CommandView.{CommandView}
use Rattle.vmx_device_state.specs.declared.turn.Turn.{Turn}
use Rattle.vmx_regs.specs.declared.known.Calls.{Calls}
use Rattle.vmx_regs.specs.declared.known.Masks.{Masks}
use Rattle.vmx_regs.specs.Rule.{commands_of, with_asked, told_driver, hears_device}
use Rattle.vmx_model.specs.declared.guest.GuestPlan.{GuestPlan}
use Rattle.vmx_model.specs.Plan.{asks}
use Rattle.vmx_model.specs.Bags.{gifts}
use Rattle.vmx_driver_steps.specs.declared.progress.Progress.{Progress}
use Rattle.vmx_driver_steps.specs.Progress.{setup_now, asks_left}
use Rattle.vmx_driver_steps.specs.Driver.{DriverView, Keeps, Runs, Commands, Leads, GivesBack, ask_by, state_in, held_in, other_ends}

-- what a side of the registers keeps, whatever it looks at, tells or hears
pub record IsSameCalls (v w : Calls) : Type 0 where
  pub turns : w.turns ≡ v.turns
  pub asked : w.asked ≡ v.asked
  pub interrupts : w.interrupts ≡ v.interrupts

commands_same : (p : GuestPlan) (s : Progress) (h : HeldEnds) (v w : Calls) → IsSameCalls v w → Commands p s h v → Commands p s h w
commands_same p s h v w e c =
    let pair : (v.turns, v.asked) ≡ (w.turns, w.asked) = λ i. (sym e.turns i, sym e.asked i) in record {
      sent = subst (λ (x : List Turn × Option CommandView). map ask_by (with_asked (commands_of x.0) x.1) ++ asks_left p s ≡ asks p) pair c.sent;
      zero = subst (AllByRecursion (λ (t : Turn). t.answer.value ≡ 0)) (sym e.turns) c.zero;
      leads = subst (λ (x : List Turn × Option CommandView). Leads x.0 x.1 (state_in s.stage (setup_now p s)) (held_in s.stage h)) pair c.leads;
      gives = subst (λ (x : List Turn × Option CommandView). GivesBack s.stage x.0 x.1 h) pair c.gives;
    }

pub regs_keep : (v : DriverView) (key' : List ℕ) (calls' : Calls) (masks' : Masks) → IsSameCalls v.calls calls' → Keeps v → Keeps (record v { key = key'; calls = calls'; masks = masks' })
regs_keep v key' calls' masks' e k = record {
  under = k.under;
  tx_count = k.tx_count;
  rx_count = k.rx_count;
  tx = k.tx;
  rx = k.rx;
  held = k.held;
  parting = k.parting;
  commands = commands_same v.plan v.at (other_ends v.tx v.rx) v.calls calls' e k.commands;
  bags = k.bags;
  bags_are = k.bags_are;
  gifts_are = ap gifts e.turns ∙ k.gifts_are;
  got_back = k.got_back;
  tx_names = k.tx_names;
  rx_names = k.rx_names;
  tx_facts = k.tx_facts;
  rx_facts = k.rx_facts;
  owned = k.owned;
  rising = k.rising;
  none_yet = k.none_yet;
}

pub regs_run : (v : DriverView) (s : SetupView) (key' : List ℕ) (calls' : Calls) (masks' : Masks) → IsSameCalls v.calls calls' → Runs v s → Runs (record v { key = key'; calls = calls'; masks = masks' }) s
regs_run v s key' calls' masks' e k = record {
  keeps = regs_keep v key' calls' masks' e k.keeps;
  settled = k.settled;
  setup = k.setup;
  short = k.short;
  interrupts = subst (λ (n : ℕ). 16 < n) (sym e.interrupts) k.interrupts;
}

-- masks, and which registers they are, are nothing of which this speaks
pub regs_as : (v : DriverView) (s : SetupView) (key' : List ℕ) (masks' : Masks) → Runs v s → Runs (record v { key = key'; masks = masks' }) s
regs_as v s key' masks' k = regs_run v s key' v.calls masks' (record { turns = refl; asked = refl; interrupts = refl }) k

-- a note was given, or heard
pub told_same : (v w : Calls) → w ≡ told_driver v → IsSameCalls v w
told_same v w e = record { turns = ap (λ (x : Calls). x.turns) e; asked = ap (λ (x : Calls). x.asked) e; interrupts = ap (λ (x : Calls). x.interrupts) e }

pub heard_same : (v w n : Calls) → w ≡ hears_device v n → IsSameCalls v w
heard_same v w n e = record { turns = ap (λ (x : Calls). x.turns) e; asked = ap (λ (x : Calls). x.asked) e; interrupts = ap (λ (x : Calls). x.interrupts) e }

pub calls_same : (v w : Calls) → w ≡ v → IsSameCalls v w
calls_same v w e = record { turns = ap (λ (x : Calls). x.turns) e; asked = ap (λ (x : Calls). x.asked) e; interrupts = ap (λ (x : Calls). x.interrupts) e }
