-- The device is asked to take the ends of new queues.
use Rattle.std.proofs.Common.{◌≡◌, ℕ, ◌+◌, Bool, true, false, List, [], ◌∷◌, ◌++◌, length, length-append, map, take, drop, refl, ap, sym, ◌∙◌, subst, arith, Option, Some, None, ⊎_elim}
use Rattle.std.specs.Prelude.{◌⊎◌}
use Rattle.std.specs.List.{filter}
use Rattle.std.proofs.lemmas.Option.{slice_get_within}
use Rattle.std.proofs.lemmas.List.Elements.{filter-append}
use Rattle.vmx_layout.specs.Command.{number_of}
use Rattle.vmx_layout.specs.declared.command.Command.TheVariants.{ActivateDev}
use Rattle.vmx_shared_area.specs.Layout.{image_of}
use Rattle.vmx_shared_area.specs.declared.setup.Setup.{Setup}
use Rattle.vmx_ends.specs.Transmit.{TxDriverView, TxDeviceView}
use Rattle.vmx_ends.specs.Receive.{RxDriverView, RxDeviceView}
use Rattle.vmx_ends.specs.HandedEnds.{ends_handed}
use Rattle.vmx_device_state.specs.SetupView.{SetupView, setup_view}
use Rattle.vmx_device_state.specs.DeviceState as state
use Rattle.vmx_device_state.specs.ImageSetup.{image_setup}
use Rattle.vmx_device_state.specs.Orders.{order_of}
use Rattle.vmx_device_state.specs.declared.turn.CommandView.{CommandView}
use Rattle.vmx_regs.specs.Turns.{IsCommand}
use Rattle.vmx_model.specs.declared.deeds.Action.{Action}
use Rattle.vmx_model.specs.declared.deeds.Deed.{Deed}
use Rattle.vmx_model.specs.declared.deeds.Deed.TheVariants as deed
use Rattle.vmx_model.specs.declared.guest.GuestPlan.{GuestPlan}
use Rattle.vmx_model.specs.Deeds.{begins, quiet_after, is_quiet}
use Rattle.vmx_model.specs.Lists.{count}
use Rattle.vmx_model.specs.Plan.{Ask, changed, deed_commands, deed_asks, after_script, first_setup, activate_dev}
use Rattle.vmx_model.specs.QueueSteps.{sent_before}
use Rattle.vmx_driver_steps.specs.declared.progress.Stage.{Stage}
use Rattle.vmx_driver_steps.specs.declared.progress.Stage.TheVariants.{Fresh, Active, Quiet}
use Rattle.vmx_driver_steps.specs.declared.progress.Progress.{Progress}
use Rattle.vmx_driver_steps.specs.Progress.{in_hand, to_come, is_down_in, begun_actions, actions_left, setup_now, asks_left, closing, left_in, passes, IsUnderway}
use Rattle.vmx_driver_steps.specs.Driver.{DriverView, Keeps, Runs, Leads, GivesBack, ask_by, state_in, held_in, other_ends}
use Rattle.vmx_driver_steps.specs.Sending.{says}
use Rattle.vmx_driver_steps.specs.Asking.{is_held, activates}
use Rattle.vmx_driver_steps.specs.Keeping.{moves}
use Rattle.vmx_driver_steps.specs.Making.{NewTxs, NewRxs, new_bag, new_leads}
use Rattle.vmx_driver_steps.specs.Acting.{ActionDue, begun_is, setup_is, rest_is, reached_is, done_is}

-- an activation may be sent, after which so many actions are begun
pub record MayActivate (v : DriverView) (done : ℕ) : Type 0 where
  pub none : v.calls.asked ≡ None
  pub hand : in_hand v.at.stage ≡ 0
  pub free : is_held v.at.stage ≡ false
  pub under : IsUnderway v.plan (record v.at { stage = Active; done = done })
  pub same : setup_now v.plan (record v.at { stage = Active; done = done }) ≡ setup_now v.plan v.at
  pub left : asks_left v.plan v.at ≡ record { number = activate_dev; setup = setup_now v.plan v.at } ∷ asks_left v.plan (record v.at { stage = Active; done = done })
  pub led : Leads v.calls.turns None state.Idle None

-- an idle device's driver leads to an idle device
led_from : (v : DriverView) (k : Keeps v) (g : Stage) → v.at.stage ≡ g → state_in g (setup_now v.plan v.at) ≡ state.Idle → held_in g (other_ends v.tx v.rx) ≡ None → v.calls.asked ≡ None → Leads v.calls.turns None state.Idle None
led_from v k g on idle free none =
    let l : Leads v.calls.turns None (state_in g (setup_now v.plan v.at)) (held_in g (other_ends v.tx v.rx)) =
    subst (λ (x : Option CommandView × Stage). Leads v.calls.turns x.0 (state_in x.1 (setup_now v.plan v.at)) (held_in x.1 (other_ends v.tx v.rx))) (λ i. (none i, on i)) k.commands.leads in
    (l.0 ∙ idle, l.1 ∙ free)

-- before the first activation, and after a reset
pub may_begin : (v : DriverView) (s : SetupView) → Runs v s → v.at.stage ≡ Fresh → MayActivate v v.at.done
may_begin v s k on = record {
  none = none;
  hand = ap in_hand on;
  free = ap is_held on;
  under = record {
    done = k.keeps.under.done;
    next = k.keeps.under.next;
    reached = k.keeps.under.reached;
    counted = let e = k.keeps.under.counted in let h = ap in_hand on in let c = ap to_come on in omega (arith, e, h, c);
    quiet = λ b e. k.keeps.under.quiet b (ap is_down_in on ∙ e);
    whole = λ e. absurd (cc e);
    closed = k.keeps.under.closed;
  };
  same = refl;
  left = ap (λ (g : Stage). left_in g (setup_now v.plan v.at) (deed_asks (setup_now v.plan v.at) (actions_left v.plan v.at) ++ closing v.plan)) on;
  led = led_from v k.keeps Fresh on refl refl none;
}
  where
    none : v.calls.asked ≡ None
    none = subst (λ (g : Stage). GivesBack g v.calls.turns v.calls.asked (other_ends v.tx v.rx)) on k.keeps.commands.gives

-- where the script activates a quiet guest
pub may_begin_again : (v : DriverView) (s : SetupView) (a : Action) → Runs v s → v.at.stage ≡ Quiet → v.calls.asked ≡ None → ActionDue v.plan v.at a → a.deed ≡ deed.Activate → MayActivate v (v.at.done + 1)
may_begin_again v s a k on none d is = record {
  none = none;
  hand = ap in_hand on;
  free = ap is_held on;
  under = record {
    done = done_is v.plan v.at a d;
    next = k.keeps.under.next;
    reached = reached_is v.plan v.at a d k.keeps.under;
    counted = let e = k.keeps.under.counted in let h = ap in_hand on in let c = ap to_come on in let m = begun_more in omega (arith, e, h, c, m);
    quiet = λ b e. ap (is_quiet false) (begun_is v.plan v.at a d) ∙ quiet_end false (begun_actions v.plan v.at) ∙ cc e;
    whole = λ e. absurd (cc e);
    closed = λ e. let n = (k.keeps.under.closed e).0 in let lt = slice_get_within v.plan.script v.at.done a d.there in absurd (omega (arith, n, lt));
  };
  same = setup_is v.plan v.at a d ∙ ap (changed (setup_now v.plan v.at)) is;
  left = ap (λ (g : Stage). left_in g (setup_now v.plan v.at) (deed_asks (setup_now v.plan v.at) (actions_left v.plan v.at) ++ closing v.plan)) on ∙ rest_is v.plan v.at a d
      ∙ ap (λ (x : Deed). map (λ (n : ℕ). record { number = n; setup = changed (setup_now v.plan v.at) x }) (deed_commands x) ++ (deed_asks (after_script (first_setup v.plan) (take (v.at.done + 1) v.plan.script)) (drop (v.at.done + 1) v.plan.script) ++ closing v.plan)) is;
  led = led_from v k.keeps Quiet on refl refl none;
}
  where
    quiet_end : (q : Bool) (acts : List Action) → is_quiet q (acts ++ a ∷ []) ≡ false
    quiet_end q [] = ap (quiet_after q) is
    quiet_end q (x ∷ acts) = quiet_end (quiet_after q x.deed) acts

    begun_more : count (λ (x : Action). begins x.deed) (take (v.at.done + 1) v.plan.script) ≡ count (λ (x : Action). begins x.deed) (begun_actions v.plan v.at) + 1
    begun_more = ap (count (λ (x : Action). begins x.deed)) (begun_is v.plan v.at a d) ∙ ap length (filter-append (λ (x : Action). begins x.deed) (begun_actions v.plan v.at) (a ∷ []))
        ∙ (let b : begins a.deed ≡ true = ap begins is in rw b (length-append (filter (λ (x : Action). begins x.deed) (begun_actions v.plan v.at)) (a ∷ [])))

-- before the first activation and after a reset, or where the script activates
pub record BeginDue (v : DriverView) (done : ℕ) : Type 0 where
  pub none : v.calls.asked ≡ None
  pub which : ((v.at.stage ≡ Fresh) × (done ≡ v.at.done)) ⊎ ((a : Action) × (v.at.stage ≡ Quiet) × (done ≡ v.at.done + 1) × ActionDue v.plan v.at a × (a.deed ≡ deed.Activate))

pub may_activate : (v : DriverView) (s : SetupView) (done : ℕ) → Runs v s → BeginDue v done → MayActivate v done
may_activate v s done k d = ⊎_elim
    (λ (c : (v.at.stage ≡ Fresh) × (done ≡ v.at.done)). subst (MayActivate v) (sym c.1) (may_begin v s k c.0))
    (λ (c : (a : Action) × (v.at.stage ≡ Quiet) × (done ≡ v.at.done + 1) × ActionDue v.plan v.at a × (a.deed ≡ deed.Activate)). subst (MayActivate v) (sym c.2) (may_begin_again v s c.0 k c.1 d.none c.3 c.4))
    d.which

-- new ends of all queues of an activation, made by the plan
pub record ArePrepared (g : ℕ) (p : GuestPlan) (a : ℕ) (tx : List TxDriverView) (rx : List RxDriverView) (txs : List TxDeviceView) (rxs : List RxDeviceView) : Type 0 where
  pub tx_new : NewTxs g p a 0 tx txs
  pub rx_new : NewRxs g p a 0 rx rxs
  pub tx_count : length tx ≡ p.setup.tx_queues
  pub rx_count : length rx ≡ p.setup.rx_queues

-- the bag of an activation is lawful
pub may_hand : (g : ℕ) (p : GuestPlan) (a : ℕ) (tx : List TxDriverView) (rx : List RxDriverView) (txs : List TxDeviceView) (rxs : List RxDeviceView) (c : CommandView) → ArePrepared g p a tx rx txs rxs → c.ends ≡ Some (ends_handed txs rxs) → IsCommand c
may_hand g p a tx rx txs rxs c h ends = let b = new_bag g p a tx rx txs rxs h.tx_new h.rx_new in record {
  whole = rw ends b.whole;
  fresh = λ _. rw ends b.fresh;
}

module _ (v : DriverView) (s : Setup) (k : Runs v (setup_view s)) (done : ℕ) (m : MayActivate v done) (c : CommandView) (tx' : List TxDriverView) (rx' : List RxDriverView) (txs : List TxDeviceView) (rxs : List RxDeviceView)
    (number : c.number ≡ number_of ActivateDev) (image : c.image ≡ image_of s) (ends : c.ends ≡ Some (ends_handed txs rxs)) (new : ArePrepared v.guest v.plan v.at.ended tx' rx' txs rxs) where
  bag_leads : Leads v.calls.turns (Some c) (state.Active (setup_now v.plan (record v.at { stage = Active; done = done }))) (Some (other_ends tx' rx'))
  bag_leads = subst (λ (x : SetupView). Leads v.calls.turns (Some c) (state.Active x) (Some (other_ends tx' rx'))) (sym m.same)
      (new_leads v s done c tx' rx' txs rxs m.led k.setup number image ends (new_bag v.guest v.plan v.at.ended tx' rx' txs rxs new.tx_new new.rx_new) new.tx_count new.rx_count)

  ask_is : record { number = activate_dev; setup = setup_now v.plan v.at } ≡ ask_by c
  ask_is = λ i. record { number = sym number i; setup = (sym k.setup ∙ sym (says s) ∙ ap image_setup (sym image)) i }

  pub activates_keep : Keeps (record v { at = record v.at { stage = Active; done = done }; calls = record v.calls { asked = Some c }; tx = tx'; rx = rx' })
  activates_keep = activates v done c tx' rx' k.keeps m.none m.under
      (m.left ∙ ap (λ (x : Ask). x ∷ asks_left v.plan (record v.at { stage = Active; done = done })) ask_is)
      bag_leads (λ e. absurd (cc (sym (ap order_of number) ∙ e))) m.hand m.free new.tx_count new.rx_count new.tx_new.each new.rx_new.each

  -- the activation is sent, and frames that are not sent are passed over
  pub activates_run : (at' : Progress) → at' ≡ record v.at { stage = Active; done = done; next = at'.next } → IsUnderway v.plan at' → passes v.plan at' ≡ false → ((a q : ℕ) → sent_before v.plan a q at'.next ≡ sent_before v.plan a q v.at.next)
      → Runs (record v { at = at'; calls = record v.calls { asked = Some c }; tx = tx'; rx = rx' }) (setup_view s)
  activates_run at' is under settled frames =
      let then_ = moves (record v { at = record v.at { stage = Active; done = done }; calls = record v.calls { asked = Some c }; tx = tx'; rx = rx' }) at'.next activates_keep (subst (IsUnderway v.plan) is under) frames in record {
        keeps = subst (λ (x : Progress). Keeps (record v { at = x; calls = record v.calls { asked = Some c }; tx = tx'; rx = rx' })) (sym is) then_;
        settled = settled;
        setup = k.setup ∙ sym m.same ∙ ap (setup_now v.plan) (sym is);
        short = k.short;
        interrupts = k.interrupts;
      }

  pub setup_told : (at' : Progress) → at' ≡ record v.at { stage = Active; done = done; next = at'.next } → image_setup c.image ≡ setup_now v.plan at'
  setup_told at' is = ap image_setup image ∙ says s ∙ k.setup ∙ sym m.same ∙ ap (setup_now v.plan) (sym is)
