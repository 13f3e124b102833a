-- A device is led by its driver, once both are caught up.
use Rattle.std.proofs.Common.{◌≡◌, ℕ, List, ◌++◌, length, take, drop, map, refl, ap, ap₂, sym, ◌∙◌, subst, Option, Some, None, unwrap_or}
use Rattle.std.proofs.Math.Seq.{take-append_seam, drop-append_seam}
use Rattle.std.proofs.lemmas.List.{length-map}
use Rattle.vmx_ends.specs.Transmit.{TxDriverView, TxDeviceView}
use Rattle.vmx_ends.specs.Receive.{RxDriverView, RxDeviceView}
use Rattle.vmx_device_state.specs.Deals.{Held as HeldEnds, held_as, held_after}
use Rattle.vmx_device_state.specs.DeviceState.{state_after}
use Rattle.vmx_machine_state.specs.Views.{EndsView, handed_of, state_of, ends_of}
use Rattle.vmx_commands.specs.Replies.{held_in as held_by_device}
use Rattle.vmx_device_laws.specs.Views.{DeviceView}
use Rattle.vmx_device_laws.specs.Keeps.{Keeps as DeviceKeeps}
use Rattle.vmx_driver_steps.specs.declared.progress.Stage.{Stage}
use Rattle.vmx_driver_steps.specs.declared.progress.Stage.TheVariants.{Fresh, Active, Stopping, Held, Quiet, Ended}
use Rattle.vmx_driver_steps.specs.Progress.{setup_now}
use Rattle.vmx_driver_steps.specs.Driver.{DriverView, other_ends, state_in, held_in as held_by_driver, Leads, Keeps as DriverKeeps}
use Rattle.vmx_actor_laws.specs.Joint.{AreCaughtUp, AreOfItsQueues, GoWith, IsLed, LeadsItsDevice}

-- two lists in two parts each, the first ones equally long
pub parts : {X : Type 0} (a b xs ys : List X) → length a ≡ length b → a ++ xs ≡ b ++ ys → (a ≡ b) × (xs ≡ ys)
parts a b xs ys long same = (
  sym (take-append_seam a xs) ∙ ap₂ (λ (n : ℕ) (l : List _). take n l) long same ∙ take-append_seam b ys,
  sym (drop-append_seam a xs) ∙ ap₂ (λ (n : ℕ) (l : List _). drop n l) long same ∙ drop-append_seam b ys,
)

are_of : (v : DriverView) (e : EndsView) → held_as (handed_of e) ≡ other_ends v.tx v.rx → AreOfItsQueues v e
are_of v e same =
    let ks : List (List ℕ) = map (λ (x : TxDeviceView). x.key) e.tx in let js : List (List ℕ) = map (λ (x : TxDriverView). x.key) v.tx in
    let long : length ks ≡ length js = length-map e.tx (λ (x : TxDeviceView). x.key) ∙ ap (λ (h : HeldEnds). h.tx) same ∙ sym (length-map v.tx (λ (x : TxDriverView). x.key)) in
    let two = parts ks js (map (λ (x : RxDeviceView). x.key) e.rx) (map (λ (x : RxDriverView). x.key) v.rx) long (ap (λ (h : HeldEnds). h.keys) same) in
    record { tx = two.0; rx = two.1 }

abbrev is_some_of : Option HeldEnds → Type 0
is_some_of None = ⊥
is_some_of (Some h) = Unit {0}

holds_none : (o : Option EndsView) → held_by_device o ≡ None → o ≡ None
holds_none None e = refl
holds_none (Some x) e = absurd (subst is_some_of e tt)

holds_some : (v : DriverView) (o : Option EndsView) → held_by_device o ≡ Some (other_ends v.tx v.rx) → GoWith Active v o
holds_some v None e = absurd (subst is_some_of (sym e) tt)
holds_some v (Some x) e = (x, refl, are_of v x (ap (λ (h : Option HeldEnds). unwrap_or h (other_ends v.tx v.rx)) e))

by_stage : (g : Stage) (v : DriverView) (o : Option EndsView) → held_by_device o ≡ held_by_driver g (other_ends v.tx v.rx) → GoWith g v o
by_stage Active v o e = holds_some v o e
by_stage Fresh v o e = holds_none o e
by_stage (Stopping t) v o e = holds_none o e
by_stage (Held t) v o e = holds_none o e
by_stage Quiet v o e = holds_none o e
by_stage Ended v o e = holds_none o e

pub leads_its_device : LeadsItsDevice
leads_its_device v d k j c =
    let leads = subst (λ o. Leads v.calls.turns o (state_in v.at.stage (setup_now v.plan v.at)) (held_by_driver v.at.stage (other_ends v.tx v.rx))) c.none k.commands.leads in record {
      state = sym j.tracks.state ∙ ap state_after (sym c.same) ∙ leads.0;
      ends = by_stage v.at.stage v (ends_of d.machine) (sym j.tracks.held ∙ ap held_after (sym c.same) ∙ leads.1);
    }
