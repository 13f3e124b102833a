-- Images, activations, updates and the meeting, where contracts saw the driver as w.
use Rattle.std.proofs.Common.{◌≡◌, ℕ, ◌+◌, ◌≤◌, Bool, true, false, List, [], ap, sym, ◌∙◌, subst, Some, None}
use Rattle.vmx_shared_area.specs.Layout.{image_of}
use Rattle.vmx_shared_area.specs.declared.setup.Setup.{Setup}
use Rattle.vmx_layout.specs.Command.{number_of}
use Rattle.vmx_layout.specs.declared.command.Command.TheVariants.{ActivateDev}
use Rattle.vmx_ends.specs.Transmit.{TxDriverView, TxDeviceView, TxView}
use Rattle.vmx_ends.specs.Receive.{RxDriverView, RxDeviceView, RxView}
use Rattle.vmx_ends.specs.HandedEnds.{ends_handed}
use Rattle.vmx_ends.specs.Queues.{Met, MetRx}
use Rattle.vmx_device_state.specs.SetupView.{SetupView, setup_view}
use Rattle.vmx_device_state.specs.ImageSetup.{image_setup}
use Rattle.vmx_device_state.specs.declared.turn.CommandView.{CommandView}
use Rattle.vmx_regs.specs.declared.known.Calls.{Calls}
use Rattle.vmx_regs.specs.declared.known.Masks.{Masks}
use Rattle.vmx_model.specs.declared.deeds.Action.{Action}
use Rattle.vmx_model.specs.Plan.{changed, first_setup}
use Rattle.vmx_model.specs.Ranges.{fits_deed}
use Rattle.vmx_model.specs.QueueSteps.{sent_before}
use Rattle.vmx_driver_steps.specs.declared.progress.Then.{Then}
use Rattle.vmx_driver_steps.specs.declared.progress.Stage.TheVariants.{Active}
use Rattle.vmx_driver_steps.specs.declared.progress.Progress.{Progress}
use Rattle.vmx_driver_steps.specs.Progress.{setup_now, passes, begun_actions, IsUnderway}
use Rattle.vmx_driver_steps.specs.Driver.{DriverView, Runs}
use Rattle.vmx_driver_steps.specs.Sending.{says}
use Rattle.vmx_driver_steps.specs.Making.{queues_stay}
use Rattle.vmx_driver_steps.specs.Acting.{ActionDue}
use Rattle.vmx_driver_steps.specs.Activating.{BeginDue, ArePrepared, may_activate}
use Rattle.vmx_driver_steps.specs.Asking.{Waits}
use Rattle.vmx_driver_steps.specs.Updating.{is_update, update_number, MayUpdate, deed_fits, under_update}
use Rattle.vmx_driver_steps.specs.Parting.{after}
use Rattle.vmx_driver_steps.specs.Driving.{ActivatesWith, MeetsAll, UpdatesBy}
use Rattle.vmx_driver.specs.Stocked.{Stocked, Holds}
use Rattle.vmx_driver.specs.Holding.{roomy, activates_hold, activates_told, updates_hold, updates_told}

-- an image says the setup in force
pub image_now : (v : DriverView) (s : Setup) (image : List ℕ) → Runs v (setup_view s) → image ≡ image_of s → image_setup image ≡ setup_now v.plan v.at
image_now v s image k e = ap image_setup e ∙ says s ∙ k.setup

-- the deed that is due is in range
pub due_fits : (v : DriverView) (s : Setup) (a : Action) → Runs v (setup_view s) → ActionDue v.plan v.at a → fits_deed s.rx_queues true a.deed ≡ true
due_fits v s a k d = deed_fits v.plan v.at.done a s.rx_queues d.there (ap (λ (x : SetupView). x.rx_queues) k.setup ∙ (queues_stay (first_setup v.plan) (begun_actions v.plan v.at)).1)

-- and leads to the setup after it
pub then_setup : (v : DriverView) (s : Setup) (a : Action) (new : Setup) → Runs v (setup_view s) → setup_view new ≡ changed (setup_view s) a.deed → setup_view new ≡ changed (setup_now v.plan v.at) a.deed
then_setup v s a new k e = e ∙ ap (λ (x : SetupView). changed x a.deed) k.setup

module _ (v : DriverView) (s : Setup) (opening : Bool) (left n m : ℕ) (h : Holds v (setup_view s) opening left n m) (ftx : List TxView) (frx : List RxView) (same_tx : ftx ≡ v.tx_facts) (same_rx : frx ≡ v.rx_facts) where
  -- room was made for facts
  pub provided_holds : (n' m' : ℕ) → n ≤ n' → m ≤ m' → Holds (record v { tx_facts = ftx; rx_facts = frx }) (setup_view s) opening left n' m'
  provided_holds n' m' a b = subst (λ (x : List TxView × List RxView). Holds (record v { tx_facts = x.0; rx_facts = x.1 }) (setup_view s) opening left n' m') (λ i. (sym same_tx i, sym same_rx i)) (roomy v (setup_view s) opening left n m h n' m' a b)

  -- where they may begin
  pub begins_under : (done : ℕ) → BeginDue v done → IsUnderway v.plan (record v.at { stage = Active; done = done })
  begins_under done due = (may_activate v (setup_view s) done h.runs due).under

  -- an activation is sent besides
  pub begins_hold : (done : ℕ) (c : CommandView) (at' : Progress) (key' : List ℕ) (calls' : Calls) (masks' : Masks) (tx' : List TxDriverView) (rx' : List RxDriverView) (txs : List TxDeviceView) (rxs : List RxDeviceView) (n' m' : ℕ) → BeginDue v done
      → c.number ≡ number_of ActivateDev → c.image ≡ image_of s → c.ends ≡ Some (ends_handed txs rxs) → ArePrepared v.guest v.plan v.at.ended tx' rx' txs rxs → calls' ≡ record v.calls { asked = Some c }
      → at' ≡ record v.at { stage = Active; done = done; next = at'.next } → IsUnderway v.plan at' → passes v.plan at' ≡ false → ((a q : ℕ) → sent_before v.plan a q at'.next ≡ sent_before v.plan a q v.at.next)
      → v.plan.setup.tx_queues ≤ n' → v.plan.setup.rx_queues ≤ m'
      → Holds (record v { at = at'; key = key'; calls = calls'; masks = masks'; tx = tx'; rx = rx'; tx_facts = ftx; rx_facts = frx }) (setup_view s) true 0 n' m'
  begins_hold done c at' key' calls' masks' tx' rx' txs rxs n' m' due number image ends new calls is under settled frames a b =
      subst (λ (x : List TxView × List RxView). Holds (record v { at = at'; key = key'; calls = calls'; masks = masks'; tx = tx'; rx = rx'; tx_facts = x.0; rx_facts = x.1 }) (setup_view s) true 0 n' m') (λ i. (sym same_tx i, sym same_rx i))
      (activates_hold v s opening left n m h done c at' key' calls' masks' tx' rx' txs rxs n' m' due number image ends new calls is under settled frames a b)

  pub begins_told : (w : DriverView) (done : ℕ) (c : CommandView) (at' : Progress) (key' : List ℕ) (calls' : Calls) (masks' : Masks) (tx' : List TxDriverView) (rx' : List RxDriverView) (txs : List TxDeviceView) (rxs : List RxDeviceView) → v ≡ w → BeginDue v done
      → c.number ≡ number_of ActivateDev → c.image ≡ image_of s → c.ends ≡ Some (ends_handed txs rxs) → ArePrepared v.guest v.plan v.at.ended tx' rx' txs rxs → calls' ≡ record v.calls { asked = Some c }
      → at' ≡ record v.at { stage = Active; done = done; next = at'.next } → v.at.next ≤ at'.next → ((a q : ℕ) → sent_before v.plan a q at'.next ≡ sent_before v.plan a q v.at.next) → key' ≡ v.key → masks' ≡ v.masks
      → ActivatesWith done w (record v { at = at'; key = key'; calls = calls'; masks = masks'; tx = tx'; rx = rx'; tx_facts = ftx; rx_facts = frx })
  begins_told w done c at' key' calls' masks' tx' rx' txs rxs e due number image ends new calls is up frames key masks =
      subst (λ (x : DriverView × List TxView × List RxView). ActivatesWith done x.0 (record v { at = at'; key = key'; calls = calls'; masks = masks'; tx = tx'; rx = rx'; tx_facts = x.1; rx_facts = x.2 })) (λ i. (e i, sym same_tx i, sym same_rx i))
      (activates_told v s opening left n m h done c at' key' calls' masks' tx' rx' txs rxs due number image ends new calls is up frames key masks)

-- nothing but room was made
pub provided_same : (v : DriverView) (x : Stocked) (ftx : List TxView) (frx : List RxView) → x.driver ≡ v → ftx ≡ v.tx_facts → frx ≡ v.rx_facts → record { driver = record v { tx_facts = ftx; rx_facts = frx }; room = x.room; buffers = x.buffers } ≡ x
provided_same v x ftx frx e a b = λ i. record { driver = ((λ j. record v { tx_facts = a j; rx_facts = b j }) ∙ sym e) i; room = x.room; buffers = x.buffers }

-- an update is sent
module _ (v w : DriverView) (old : SetupView) (s : Setup) (opening : Bool) (left n m : ℕ) (h : Holds v old opening left n m) (a : Action) (same : v ≡ w) (waits : Waits w.at.stage) (none : w.calls.asked ≡ None) (due : ActionDue w.plan w.at a) (deed : is_update a.deed ≡ true) (setup : setup_view s ≡ changed (setup_now w.plan w.at) a.deed) where
  may_update : MayUpdate v s a
  may_update = subst (λ (x : DriverView). MayUpdate x s a) (sym same) (record { waits = waits; none = none; due = due; deed = deed; setup = setup })

  pub under_then : IsUnderway v.plan (record v.at { done = v.at.done + 1 })
  under_then = under_update v old s a h.runs may_update

  module _ (c : CommandView) (at' : Progress) (key' : List ℕ) (calls' : Calls) (masks' : Masks) (number : c.number ≡ update_number a.deed) (image : c.image ≡ image_of s) (ends : c.ends ≡ None) (calls : calls' ≡ record v.calls { asked = Some c }) (is : at' ≡ record v.at { done = v.at.done + 1; next = at'.next }) where
    pub told_hold : IsUnderway v.plan at' → passes v.plan at' ≡ false → ((x q : ℕ) → sent_before v.plan x q at'.next ≡ sent_before v.plan x q v.at.next) → Holds (record v { at = at'; key = key'; calls = calls'; masks = masks' }) (setup_view s) false left n m
    told_hold under settled frames = updates_hold v old s opening left n m h a may_update c at' key' calls' masks' number image ends calls is under settled frames

    pub told_so : (k : ℕ) → update_number a.deed ≡ k → v.at.next ≤ at'.next → ((x q : ℕ) → sent_before v.plan x q at'.next ≡ sent_before v.plan x q v.at.next) → key' ≡ v.key → masks' ≡ v.masks → UpdatesBy k (w.at.done + 1) w (record v { at = at'; key = key'; calls = calls'; masks = masks' })
    told_so k k_is up frames key masks = subst (λ (x : DriverView × ℕ). UpdatesBy x.1 (x.0.at.done + 1) x.0 (record v { at = at'; key = key'; calls = calls'; masks = masks' })) (λ i. (same i, k_is i))
        (updates_told v old s opening left n m h a may_update c at' key' calls' masks' number image ends calls is up frames key masks)

-- all ends have met
pub meets_told : (v w : DriverView) (t : Then) (at' : Progress) (ftx : List TxView) (frx : List RxView) (tx' : List TxDriverView) (rx' : List RxDriverView) (txs' : List TxDeviceView) (rxs' : List RxDeviceView) → v ≡ w → tx' ≡ [] → rx' ≡ [] → txs' ≡ [] → rxs' ≡ [] → Met v.tx_facts ftx v.tx v.tx_held → MetRx v.rx_facts frx v.rx v.rx_held
    → at' ≡ record v.at { stage = after t; ended = v.at.ended + 1; next = at'.next } → v.at.next ≤ at'.next → ((a q : ℕ) → sent_before v.plan a q at'.next ≡ sent_before v.plan a q v.at.next)
    → MeetsAll t w (record v { at = at'; tx = tx'; rx = rx'; tx_held = txs'; rx_held = rxs'; tx_facts = ftx; rx_facts = frx })
meets_told v w t at' ftx frx tx' rx' txs' rxs' e a b c d m n is up frames = subst (λ (x : DriverView). MeetsAll t x (record v { at = at'; tx = tx'; rx = rx'; tx_held = txs'; rx_held = rxs'; tx_facts = ftx; rx_facts = frx })) e (record {
  tx = m.more;
  rx = n.more;
  met_tx = m.facts;
  met_rx = n.facts;
  is = λ i. record v { at = is i; tx = a i; rx = b i; tx_held = c i; rx_held = d i; tx_facts = m.is i; rx_facts = n.is i };
  over = record { up = up; none = frames };
})
