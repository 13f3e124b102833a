-- One guest of a list changed, and the list as contracts see it.
use Rattle.std.proofs.Common.{◌≡◌, ◌≤◌, ◌<◌, ℕ, List, length, map, set, get_or, sym, ap, ◌∙◌, subst, arith, false, not, ◌&&◌, is_some, Option, Some, Result, Ok, Err, IfOk, OnOk}
use Rattle.std.specs.List.{slice_get}
use Rattle.std.proofs.lemmas.List.{length-map, length-set}
use mathlib.Core.List.{map-map}
use Rattle.vmx_device_state.specs.declared.turn.CommandView.{CommandView}
use Rattle.vmx_device_state.specs.declared.turn.Turn.{Turn}
use Rattle.vmx_model.specs.declared.journal.Entry.{Entry}
use Rattle.vmx_device_looks.specs.Queues.{all_set}
use Rattle.vmx_device_laws.specs.Views.{DeviceView}
use Rattle.vmx_driver_steps.specs.declared.progress.Due.TheVariants.{Frame}
use Rattle.vmx_driver_steps.specs.Progress.{due_of, is_over}
use Rattle.vmx_driver.specs.Stocked.{IsClosable}
use Rattle.vmx_actor_laws.specs.Joint.{AreCaughtUp}
use Rattle.vmx_replay_guests.proofs.Ends.{set_there}
use Rattle.vmx_replay_worlds.specs.Guests.{GuestView}
use Rattle.vmx_replay_settled.specs.Settled.{ArePaired, BothKeep}
use Rattle.vmx_replay_settled.proofs.Link.{below, view_at, view_is, view_set, view_same}
use Rattle.vmx_replay_chains.specs.Chains.{AllPaired, ChangesOn, IsPairedOn, IsAlikeOn, IsClosableOn, due_in, due_now, due_at, entries_in, entries_on, is_over_in, is_over_on, devices_of}

module _ {G : Type 0} (view : G → GuestView) (gs : List G) (port n m : ℕ) (p : IsPairedOn n m port (map view gs)) where
  pub port_below : port < length gs
  port_below = below view gs port p.guest p.at

module _ {G : Type 0} (view : G → GuestView) (gs : List G) (port : ℕ) (x : G) (lt : port < length gs) (is : x ≡ get_or gs port x) where
  pub here_is : slice_get (map view gs) port ≡ Some (view x)
  here_is = view_at view gs port x lt is

  pub due_here : due_at port (map view gs) ≡ due_now (view x).driver
  due_here = ap due_in here_is

  pub over_here : is_over_on port (map view gs) ≡ (is_over (view x).driver.at && not (is_some (view x).driver.calls.asked))
  over_here = ap is_over_in here_is

  pub closable_here : IsClosableOn port (map view gs) → IsClosable (view x).driver
  closable_here p = subst (λ (r : GuestView). IsClosable r.driver) (view_is view gs port x lt is p.guest p.at) p.closable

  pub entries_here : entries_on port (map view gs) ≡ (view x).device.entries
  entries_here = ap entries_in here_is

  module _ (n m : ℕ) (p : IsPairedOn n m port (map view gs)) where
    guest_is : p.guest ≡ view x
    guest_is = view_is view gs port x lt is p.guest p.at

    pub paired_here : ArePaired (view x).driver (view x).device
    paired_here = subst (λ (r : GuestView). ArePaired r.driver r.device) guest_is p.paired

    pub entries_few : length (view x).device.entries ≤ n
    entries_few = subst (λ (r : GuestView). length r.device.entries ≤ n) guest_is p.entries_

    pub commands_few : length (view x).device.calls.served ≤ m
    commands_few = subst (λ (r : GuestView). length r.device.calls.served ≤ m) guest_is p.commands_

    -- and so of a device with the same entries, or with the same commands
    module _ (d : DeviceView) where
      pub as_few_entries : d.entries ≡ (view x).device.entries → length d.entries ≤ n
      as_few_entries e = subst (λ (es : List Entry). length es ≤ n) (sym e) entries_few

      pub as_few_commands : d.calls.served ≡ (view x).device.calls.served → length d.calls.served ≤ m
      as_few_commands e = subst (λ (ts : List Turn). length ts ≤ m) (sym e) commands_few

  module _ (a : IsAlikeOn port (map view gs)) where
    pub alike_here : AreCaughtUp (view x).driver (view x).device
    alike_here = subst (λ (r : GuestView). AreCaughtUp r.driver r.device) (view_is view gs port x lt is a.guest a.at) a.alike

    -- a frame that is due is so whatever command was outstanding, since none is
    pub due_alike : (i : ℕ) × (due_at port (map view gs) ≡ Frame i) → (i : ℕ) × (due_of (view x).driver.plan (view x).driver.at false ≡ Frame i)
    due_alike d = (d.0, ap (λ (o : Option CommandView). due_of (view x).driver.plan (view x).driver.at (is_some o)) (sym alike_here.none) ∙ sym due_here ∙ d.1)

  module _ (y : G) where
    pub changed : (P : GuestView → GuestView → Type 0) → P (view x) (view y) → BothKeep (view y).driver (view y).device → ChangesOn port P (map view gs) (map view (set gs port y))
    changed P does keeps = record { before = view x; after = view y; at = here_is; does = does; keeps = keeps; is = view_set view gs port x lt is y }

    -- the same devices, where this one did not change
    pub devices_stay : (view y).device ≡ (view x).device → devices_of (map view (set gs port y)) ≡ devices_of (map view gs)
    devices_stay e =
        map-map (λ (r : GuestView). r.device) view (set gs port y) ∙ view_same (λ (z : G). (view z).device) gs port x lt is y e ∙ sym (map-map (λ (r : GuestView). r.device) view gs)

    -- all guests stay paired where this one is paired afterwards
    pub stay_paired : ArePaired (view y).driver (view y).device → AllPaired (map view gs) → AllPaired (map view (set gs port y))
    stay_paired p all = subst AllPaired (sym (view_set view gs port x lt is y)) (all_set (λ (r : GuestView). ArePaired r.driver r.device) (map view gs) port (view y) p all)

    after_is : slice_get (map view (set gs port y)) port ≡ Some (view y)
    after_is = ap (λ (rs : List GuestView). slice_get rs port) (view_set view gs port x lt is y) ∙ set_there (map view gs) port (view x) (view y) here_is

    pub paired_after : (n m : ℕ) → ArePaired (view y).driver (view y).device → length (view y).device.entries ≤ n → length (view y).device.calls.served ≤ m → IsPairedOn n m port (map view (set gs port y))
    paired_after n m paired entries commands = record { guest = view y; at = after_is; paired = paired; entries_ = entries; commands_ = commands }

-- two facts on a result that is returned as it is
pub if_ok_with : {T E : Type 0} (r : Result T E) (P : T → Type 0) (Q : Type 0) (R : T → Type 0) → ((x : T) → P x → Q → R x) → IfOk r P → OnOk r Q → IfOk r R
if_ok_with (Ok x) P Q R f p q = f x p q
if_ok_with (Err e) P Q R f p q = tt

pub on_ok_with : {T E : Type 0} (r : Result T E) (Q R : Type 0) → (Q → R) → OnOk r Q → OnOk r R
on_ok_with (Ok x) Q R f q = f q
on_ok_with (Err e) Q R f q = tt

-- a port is there where there are as many guests as before
pub below_on : {G : Type 0} (view : G → GuestView) (gs gs' : List G) (port : ℕ) → length (map view gs') ≡ length (map view gs) → port < length gs → port < length gs'
below_on view gs gs' port e lt = let a = length-map gs view in let b = length-map gs' view in omega (arith, a, b, e, lt)

-- as many guests as before
pub few_on : {G : Type 0} (view : G → GuestView) (gs gs' : List G) (k : ℕ) → length (map view gs') ≡ length (map view gs) → length gs ≤ k → length gs' ≤ k
few_on view gs gs' k e le = let a = length-map gs view in let b = length-map gs' view in omega (arith, a, b, e, le)

pub set_few : {G : Type 0} (gs : List G) (port : ℕ) (y : G) (k : ℕ) → length gs ≤ k → length (set gs port y) ≤ k
set_few gs port y k le = let l = length-set gs port y in omega (arith, l, le)

-- more entries and commands may be behind
pub paired_more : (n m n' m' port : ℕ) (rs : List GuestView) → IsPairedOn n m port rs → n ≤ n' → m ≤ m' → IsPairedOn n' m' port rs
paired_more n m n' m' port rs p le le' = let a = p.entries_ in let b = p.commands_ in record { guest = p.guest; at = p.at; paired = p.paired; entries_ = omega (arith, a, le); commands_ = omega (arith, b, le') }
