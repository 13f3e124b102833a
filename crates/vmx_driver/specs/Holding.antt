-- What each step does to what always holds of a driver with its room.
use Rattle.std.proofs.Common.{◌≡◌, ℕ, ◌+◌, ◌-◌, ◌<◌, ◌≤◌, ◌==◌, ◌&&◌, Bool, true, false, true≢false, List, [], length, get_or, set, refl, ap, sym, ◌∙◌, subst, arith, Some, None}
use Rattle.std.specs.Prelude.{IsSome, if◌then◌else◌}
use Rattle.std.proofs.lemmas.List.{length-set}
use Rattle.vmx_shared_area.specs.Layout.{image_of}
use Rattle.vmx_shared_area.specs.declared.setup.Setup.{Setup}
use Rattle.vmx_layout.specs.Command.{number_of}
use Rattle.vmx_layout.specs.declared.command.Command.TheVariants.{ActivateDev}
use Rattle.vmx_ends.specs.Transmit.{TxDriverView, TxDeviceView, TxView}
use Rattle.vmx_ends.specs.Receive.{RxDriverView, RxDeviceView, RxView}
use Rattle.vmx_ends.specs.HandedEnds.{ends_handed}
use Rattle.vmx_device_state.specs.SetupView.{SetupView, setup_view}
use Rattle.vmx_device_state.specs.ImageSetup.{image_setup}
use Rattle.vmx_device_state.specs.declared.turn.CommandView.{CommandView}
use Rattle.vmx_regs.specs.declared.known.Calls.{Calls}
use Rattle.vmx_regs.specs.declared.known.Masks.{Masks}
use Rattle.vmx_model.specs.declared.guest.GuestPlan.{GuestPlan}
use Rattle.vmx_model.specs.declared.journal.Received.{Received}
use Rattle.vmx_model.specs.Wire.{tx_queue}
use Rattle.vmx_model.specs.Plan.{first_setup}
use Rattle.vmx_model.specs.Bags.{Pairwise}
use Rattle.vmx_driver_steps.specs.declared.progress.Stage.{Stage}
use Rattle.vmx_driver_steps.specs.declared.progress.Stage.TheVariants.{Fresh, Active, Stopping, Held, Quiet, Ended}
use Rattle.vmx_driver_steps.specs.declared.progress.Progress.{Progress}
use Rattle.vmx_driver_steps.specs.Progress.{count_in, in_hand, setup_now, passes, IsUnderway}
use Rattle.vmx_driver_steps.specs.Driver.{DriverView, SendsPlan, GivesBack, other_ends}
use Rattle.vmx_driver_steps.specs.Dues.{FrameDue}
use Rattle.vmx_driver_steps.specs.Each.{each_at, pair_length}
use Rattle.vmx_driver_steps.specs.Queues.{IsReaped, PostsThere, PassedAllTx, PassedAllRx}
use Rattle.vmx_driver_steps.specs.Counting.{one_posted, unreaped_pair, unreaped_new, near_left, noted_left, unreaped_set}
use Rattle.vmx_driver_steps.specs.Near.{IsNearTx, IsNearRx, tx_runs, rx_runs}
use Rattle.vmx_driver_steps.specs.Regs.{IsSameCalls, regs_run, regs_as}
use Rattle.vmx_driver_steps.specs.Ending.{IsDrained, reaps_runs, met_runs}
use Rattle.vmx_driver_steps.specs.Starting.{starts, posts_runs}
use Rattle.vmx_driver_steps.specs.Driving.{new_progress, new_driver, is_opening, unreaped, TakesAnswer, StopsBy, UpdatesBy, ActivatesWith}
use Rattle.vmx_driver_steps.specs.Finds.{FindsOne}
use Rattle.vmx_driver_steps.specs.Hints.{unmasked}
use Rattle.vmx_device_state.specs.Orders.{order_of}
use Rattle.vmx_device_state.specs.Deals.{deal_by, is_begins}
use Rattle.vmx_device_state.specs.DealLaws.{activating_begins}
use Rattle.vmx_device_state.specs.declared.order.Order.{Order}
use Rattle.vmx_io.specs.declared.handed.HandedView.{HandedView}
use Rattle.vmx_ends.specs.Queues.{Met, MetRx}
use Rattle.vmx_regs.specs.declared.bag.Bag.{Bag}
use Rattle.vmx_regs.specs.declared.ends.Answer.TheVariants.{Done, Pending}
use Rattle.vmx_regs.specs.Ends.{Answers}
use Rattle.vmx_model.specs.declared.deeds.Action.{Action}
use Rattle.vmx_model.specs.declared.deeds.Deed.{Deed}
use Rattle.vmx_model.specs.declared.deeds.Deed.TheVariants as deed
use Rattle.vmx_model.specs.QueueSteps.{sent_before}
use Rattle.vmx_driver_steps.specs.declared.progress.Then.{Then}
use Rattle.vmx_driver_steps.specs.Noting.{IsNotedTx, IsNotedRx, tx_pairs, rx_pairs}
use Rattle.vmx_driver_steps.specs.Asking.{Waits}
use Rattle.vmx_driver_steps.specs.Answering.{some_of, done_waits, done_stopping, calls_is, found_one}
use Rattle.vmx_driver_steps.specs.Stopping.{stops_runs}
use Rattle.vmx_driver_steps.specs.Acting.{StopDue, may_stop}
use Rattle.vmx_driver_steps.specs.Activating.{BeginDue, may_activate, ArePrepared, activates_run, setup_told}
use Rattle.vmx_driver_steps.specs.Updating.{is_update, update_number, MayUpdate, updates_run, update_told}
use Rattle.vmx_driver_steps.specs.Parting.{after}
use Rattle.vmx_driver.specs.Stocked.{Holds}
use Rattle.vmx_driver_ends.specs.Founds.{KeepsOn}

-- a driver before its first act
pub starts_as : (g : ℕ) (p : GuestPlan) (key : List ℕ) (calls : Calls) (masks : Masks) (tx : List TxDriverView) (rx : List RxDriverView) (txs : List TxDeviceView) (rxs : List RxDeviceView) (ftx : List TxView) (frx : List RxView) (received : List Received) (n m : ℕ)
    → tx ≡ [] → rx ≡ [] → txs ≡ [] → rxs ≡ [] → ftx ≡ [] → frx ≡ [] → received ≡ [] → calls.turns ≡ [] → calls.asked ≡ None → length p.capture.records ≤ 262144 → 16 < calls.interrupts
    → Holds (record { guest = g; plan = p; at = new_progress; key = key; calls = calls; masks = masks; tx = tx; rx = rx; tx_held = txs; rx_held = rxs; tx_facts = ftx; rx_facts = frx; received = received }) (first_setup p) false 0 n m
starts_as g p key calls masks tx rx txs rxs ftx frx received n m a b c d e f h turns asked short many =
    subst (λ (x : List TxDriverView × List RxDriverView × List TxDeviceView × List RxDeviceView × List TxView × List RxView × List Received).
    Holds (record { guest = g; plan = p; at = new_progress; key = key; calls = calls; masks = masks; tx = x.0; rx = x.1; tx_held = x.2; rx_held = x.3; tx_facts = x.4; rx_facts = x.5; received = x.6 }) (first_setup p) false 0 n m)
    (λ i. (sym a i, sym b i, sym c i, sym d i, sym e i, sym f i, sym h i))
    (record { runs = starts g p key calls masks turns asked short many; opening_is = sym (ap is_opening asked); left_is = refl; tx_room = omega arith; rx_room = omega arith })

pub starts_so : (g : ℕ) (p q : GuestPlan) (key : List ℕ) (calls : Calls) (masks : Masks) (tx : List TxDriverView) (rx : List RxDriverView) (txs : List TxDeviceView) (rxs : List RxDeviceView) (ftx : List TxView) (frx : List RxView) (received : List Received)
    → p ≡ q → tx ≡ [] → rx ≡ [] → txs ≡ [] → rxs ≡ [] → ftx ≡ [] → frx ≡ [] → received ≡ []
    → record { guest = g; plan = p; at = new_progress; key = key; calls = calls; masks = masks; tx = tx; rx = rx; tx_held = txs; rx_held = rxs; tx_facts = ftx; rx_facts = frx; received = received } ≡ new_driver g q key calls masks
starts_so g p q key calls masks tx rx txs rxs ftx frx received z a b c d e f h =
    λ i. record { guest = g; plan = z i; at = new_progress; key = key; calls = calls; masks = masks; tx = a i; rx = b i; tx_held = c i; rx_held = d i; tx_facts = e i; rx_facts = f i; received = h i }

-- a command that begins nothing is no activation
not_opening : (k : ℕ) → is_begins (deal_by (order_of k)) ≡ false → (k == number_of ActivateDev) ≡ false
not_opening k e = step (k == number_of ActivateDev) (activating_begins k 0 ∙ e)
  where
    step : (b : Bool) → (b && true) ≡ false → b ≡ false
    step true e = e
    step false e = refl

is_opening_at : (k : ℕ) → k ≡ number_of ActivateDev → (k == number_of ActivateDev) ≡ true
is_opening_at k e = ap (λ (x : ℕ). x == number_of ActivateDev) e

no_begin_order : (d : Deed) → is_update d ≡ true → is_begins (deal_by (order_of (update_number d))) ≡ false
no_begin_order deed.Quiesce e = absurd (true≢false (sym e))
no_begin_order deed.Activate e = absurd (true≢false (sym e))
no_begin_order deed.Reset e = absurd (true≢false (sym e))
no_begin_order (deed.Mode x) e = refl
no_begin_order (deed.Multicast x) e = refl
no_begin_order (deed.Vlans x) e = refl
no_begin_order (deed.Rss x y) e = refl

few_in : (g : Stage) (k : ℕ) → count_in g k ≤ k
few_in Fresh k = omega arith
few_in Active k = omega arith
few_in (Stopping t) k = omega arith
few_in (Held t) k = omega arith
few_in Quiet k = omega arith
few_in Ended k = omega arith

module _ (v : DriverView) (s : SetupView) (opening : Bool) (left n m : ℕ) (h : Holds v s opening left n m) where
  -- completions were taken back
  pub reaps_hold : (tx' : List TxDriverView) (count left' : ℕ) → Pairwise IsReaped v.tx tx' → unreaped tx' + count ≡ unreaped v.tx → left' ≡ left - count → Holds (record v { tx = tx' }) s opening left' n m
  reaps_hold tx' count left' r sum is = record {
    runs = reaps_runs v s tx' h.runs r;
    opening_is = h.opening_is;
    left_is = let l = h.left_is in omega (arith, sum, is, l);
    tx_room = let a = pair_length IsReaped v.tx tx' r in let b = h.tx_room in omega (arith, a, b);
    rx_room = h.rx_room;
  }

  -- what is subtracted is there
  pub few_left : (tx' : List TxDriverView) (count : ℕ) → unreaped tx' + count ≡ unreaped v.tx → count ≤ left
  few_left tx' count sum = let l = h.left_is in omega (arith, sum, l)

  -- the next frame is posted
  pub posts_hold : (at' : Progress) (key' : List ℕ) (calls' : Calls) (masks' : Masks) (tx' : List TxDriverView) → FrameDue v.plan v.at → PostsThere v.plan v.calls.interrupts v.at v.masks v.tx at' masks' tx' → calls' ≡ v.calls → length tx' ≡ length v.tx
      → Holds (record v { at = at'; key = key'; calls = calls'; masks = masks'; tx = tx' }) s opening (left + 1) n m
  posts_hold at' key' calls' masks' tx' due t calls many = subst (λ (x : Calls). Holds (record v { at = at'; key = key'; calls = x; masks = masks'; tx = tx' }) s opening (left + 1) n m) (sym calls) (record {
    runs = regs_as (record v { at = at'; tx = tx' }) s key' masks' (posts_runs v s at' masks' tx' h.runs due t);
    opening_is = h.opening_is;
    left_is = let l = h.left_is in
        let e = one_posted v.tx (tx_queue t.frame v.plan.setup.tx_queues) t.end t.end' _ t.at t.below t.told.2 (subst (λ (d : TxDriverView). d.reaped ≤ length d.sent) (sym t.at) (each_at (SendsPlan v.guest v.plan v.at.ended v.at.next) 0 v.tx (tx_queue t.frame v.plan.setup.tx_queues) t.end t.below h.runs.keeps.tx).reaped) in
        let same = ap unreaped t.is in omega (arith, l, same);
    tx_room = let b = h.tx_room in omega (arith, many, b);
    rx_room = h.rx_room;
  })

  -- nothing was posted
  pub none_posted : (at' : Progress) (key' : List ℕ) (calls' : Calls) (masks' : Masks) (tx' : List TxDriverView) → at' ≡ v.at → calls' ≡ v.calls → tx' ≡ v.tx → Holds (record v { at = at'; key = key'; calls = calls'; masks = masks'; tx = tx' }) s opening left n m
  none_posted at' key' calls' masks' tx' a c t = subst (λ (x : Progress × Calls × List TxDriverView). Holds (record v { at = x.0; key = key'; calls = x.1; masks = masks'; tx = x.2 }) s opening left n m) (λ i. (sym a i, sym c i, sym t i)) (record {
    runs = regs_as v s key' masks' h.runs;
    opening_is = h.opening_is;
    left_is = h.left_is;
    tx_room = h.tx_room;
    rx_room = h.rx_room;
  })

  -- a note of an end was given or heard
  pub near_tx_holds : (q : ℕ) (d d' : TxDriverView) → d ≡ get_or v.tx q d → q < length v.tx → IsNearTx d d' → Holds (record v { tx = set v.tx q d' }) s opening left n m
  near_tx_holds q d d' at lt near = record {
    runs = tx_runs v s q d d' h.runs at lt near;
    opening_is = h.opening_is;
    left_is = let l = h.left_is in let e = unreaped_set v.tx q d d' at lt in let f = near_left d d' near in omega (arith, l, e, f);
    tx_room = let a = length-set v.tx q d' in let b = h.tx_room in omega (arith, a, b);
    rx_room = h.rx_room;
  }

  pub near_rx_holds : (q : ℕ) (d d' : RxDriverView) → d ≡ get_or v.rx q d → q < length v.rx → IsNearRx d d' → Holds (record v { rx = set v.rx q d' }) s opening left n m
  near_rx_holds q d d' at lt near = record {
    runs = rx_runs v s q d d' h.runs at lt near;
    opening_is = h.opening_is;
    left_is = h.left_is;
    tx_room = h.tx_room;
    rx_room = let a = length-set v.rx q d' in let b = h.rx_room in omega (arith, a, b);
  }

  -- a call on the registers that changes no turn and no command
  pub regs_hold : (key' : List ℕ) (calls' : Calls) (masks' : Masks) → IsSameCalls v.calls calls' → Holds (record v { key = key'; calls = calls'; masks = masks' }) s opening left n m
  regs_hold key' calls' masks' e = record {
    runs = regs_run v s key' calls' masks' e h.runs;
    opening_is = h.opening_is ∙ ap is_opening (sym e.asked);
    left_is = h.left_is;
    tx_room = h.tx_room;
    rx_room = h.rx_room;
  }

  -- room was made for facts
  pub roomy : (n' m' : ℕ) → n ≤ n' → m ≤ m' → Holds v s opening left n' m'
  roomy n' m' a b = record { runs = h.runs; opening_is = h.opening_is; left_is = h.left_is; tx_room = let t = h.tx_room in omega (arith, t, a); rx_room = let t = h.rx_room in omega (arith, t, b) }

  -- there are at most as many queues as the plan has, which are at most 8
  pub few_tx : length v.tx ≤ 8
  few_tx = let e = h.runs.keeps.tx_count in let c = few_in v.at.stage v.plan.setup.tx_queues in let most = v.plan.setup.tx_queues_high in omega (arith, e, c, most)

  pub few_rx : length v.rx ≤ v.plan.setup.rx_queues
  few_rx = let e = h.runs.keeps.rx_count in let c = few_in v.at.stage v.plan.setup.rx_queues in omega (arith, e, c)

  -- a poll handed up frames
  pub polls_hold : (key' : List ℕ) (calls' : Calls) (masks' : Masks) (rx' : List RxDriverView) (received' : List Received) → KeepsOn v.at.ended v.rx rx' v.received received' → calls' ≡ v.calls → length rx' ≡ length v.rx → in_hand v.at.stage ≡ 1
      → Holds (record v { key = key'; calls = calls'; masks = masks'; rx = rx'; received = received' }) s opening left n m
  polls_hold key' calls' masks' rx' received' keeps calls many hand = subst (λ (x : Calls). Holds (record v { key = key'; calls = x; masks = masks'; rx = rx'; received = received' }) s opening left n m) (sym calls) (record {
    runs = regs_as (record v { rx = rx'; received = received' }) s key' masks' (record {
      keeps = keeps v h.runs.keeps hand refl refl refl few_rx;
      settled = h.runs.settled;
      setup = h.runs.setup;
      short = h.runs.short;
      interrupts = h.runs.interrupts;
    });
    opening_is = h.opening_is;
    left_is = h.left_is;
    tx_room = h.tx_room;
    rx_room = let a = h.rx_room in omega (arith, a, many);
  })

  -- a stop is sent
  pub stops_hold : (number : ℕ) (t : Then) (done : ℕ) (c : CommandView) (key' : List ℕ) (calls' : Calls) (masks' : Masks) → StopDue v number t done → c.number ≡ number → image_setup c.image ≡ setup_now v.plan v.at → c.ends ≡ None → calls' ≡ record v.calls { asked = Some c }
      → Holds (record v { at = record v.at { stage = Stopping t; done = done }; key = key'; calls = calls'; masks = masks' }) s false left n m
  stops_hold number t done c key' calls' masks' due num told ends calls = let may = may_stop v s number t done h.runs due in
      subst (λ (x : Calls). Holds (record v { at = record v.at { stage = Stopping t; done = done }; key = key'; calls = x; masks = masks' }) s false left n m) (sym calls) (record {
        runs = regs_as (record v { at = record v.at { stage = Stopping t; done = done }; calls = record v.calls { asked = Some c } }) s key' masks' (stops_runs v s number t done c h.runs may num told ends);
        opening_is = sym (not_opening c.number (ap (λ (k : ℕ). is_begins (deal_by (order_of k))) num ∙ ap (λ (o : Order). is_begins (deal_by o)) may.order));
        left_is = h.left_is;
        tx_room = h.tx_room;
        rx_room = h.rx_room;
      })

  -- where contracts saw the driver as w
  pub stops_told : (w : DriverView) (number : ℕ) (t : Then) (done : ℕ) (c : CommandView) (key' : List ℕ) (calls' : Calls) (masks' : Masks) → v ≡ w → StopDue v number t done → c.number ≡ number → image_setup c.image ≡ setup_now v.plan v.at → c.ends ≡ None → calls' ≡ record v.calls { asked = Some c } → key' ≡ v.key → masks' ≡ v.masks
      → StopsBy number t done w (record v { at = record v.at { stage = Stopping t; done = done }; key = key'; calls = calls'; masks = masks' })
  stops_told w number t done c key' calls' masks' same due num told ends calls key masks = subst (λ (x : DriverView). StopsBy number t done x (record v { at = record v.at { stage = Stopping t; done = done }; key = key'; calls = calls'; masks = masks' })) same (record {
    image = c.image;
    setup = told ∙ sym (may_stop v s number t done h.runs due).same;
    is = λ i. record v { at = record v.at { stage = Stopping t; done = done }; key = key i; calls = (calls ∙ (λ j. record v.calls { asked = Some (record { number = num j; image = c.image; ends = ends j }) })) i; masks = masks i };
  })

  -- the command of a stop is no activation
  pub no_opening : (t : Then) → v.at.stage ≡ Stopping t → is_opening v.calls.asked ≡ false
  no_opening t on =
      let gives = subst (λ (g : Stage). GivesBack g v.calls.turns v.calls.asked (other_ends v.tx v.rx)) on h.runs.keeps.commands.gives in
      ap is_opening gives.2 ∙ not_opening (gives.1).number (ap (λ (o : Order). is_begins (deal_by o)) gives.3)

  -- there are as many interrupts as are unmasked
  pub many_interrupts : v.plan.setup.tx_queues + v.plan.setup.rx_queues + 1 ≤ v.calls.interrupts
  many_interrupts = let a = v.plan.setup.tx_queues_high in let b = v.plan.setup.rx_queues_high in let c = h.runs.interrupts in omega (arith, a, b, c)

  module _ {E : Type 0} (handed : E → HandedView) (some : IsSome v.calls.asked) where
    -- a look found no answer
    pub looks_hold : (word : ℕ) (key' : List ℕ) (calls' : Calls) (masks' : Masks) → Answers handed v.calls (Pending word) calls' → Holds (record v { key = key'; calls = calls'; masks = masks' }) s opening left n m
    looks_hold word key' calls' masks' a = regs_hold key' calls' masks' (record { turns = ap (λ (x : Calls). x.turns) a.0; asked = ap (λ (x : Calls). x.asked) a.0; interrupts = ap (λ (x : Calls). x.interrupts) a.0 })

    -- an answer with no ends was taken, where contracts saw the driver as w
    pub takes_plain : (w : DriverView) (calls' later : Calls) (key' : List ℕ) (masks' : Masks) → v ≡ w → Waits v.at.stage → FindsOne handed v.calls calls' → later ≡ calls' → masks' ≡ (if is_opening v.calls.asked then unmasked (v.plan.setup.tx_queues + v.plan.setup.rx_queues + 1) v.masks else v.masks) → key' ≡ v.key → TakesAnswer w (record v { key = key'; calls = later; masks = masks' })
    takes_plain w calls' later key' masks' e waits one same masked key = subst (λ (x : Calls). TakesAnswer w (record v { key = key'; calls = x; masks = masks' })) (sym same) (found_one handed v w s calls' key' masks' h.runs waits some e one masked key)

    module _ (value : ℕ) (b : Bag E) (calls' : Calls) (a : Answers handed v.calls (Done value b) calls') where
      the : (c : CommandView) × (v.calls.asked ≡ Some c)
      the = some_of v.calls.asked some

      -- an answer with no ends
      pub plain_hold : (key' : List ℕ) (masks' : Masks) → Waits v.at.stage → Holds (record v { key = key'; calls = calls'; masks = masks' }) s false left n m
      plain_hold key' masks' w = record {
        runs = regs_as (record v { calls = calls' }) s key' masks' (done_waits handed v s value b calls' h.runs the.0 the.1 a w);
        opening_is = sym (ap (λ (x : Calls). is_opening x.asked) (calls_is handed v s value b calls' h.runs the.0 the.1 a));
        left_is = h.left_is;
        tx_room = h.tx_room;
        rx_room = h.rx_room;
      }

      -- whose interrupts were unmasked or not
      pub plain_holds : (key' : List ℕ) (later : Calls) (masks' : Masks) → Waits v.at.stage → later ≡ calls' → Holds (record v { key = key'; calls = later; masks = masks' }) s false left n m
      plain_holds key' later masks' w same = subst (λ (x : Calls). Holds (record v { key = key'; calls = x; masks = masks' }) s false left n m) (sym same) (plain_hold key' masks' w)

      -- the ends came back
      pub back_holds : (t : Then) (e : E) (txs : List TxDeviceView) (rxs : List RxDeviceView) (key' : List ℕ) (masks' : Masks) (tx' : List TxDriverView) (rx' : List RxDriverView) (txs' : List TxDeviceView) (rxs' : List RxDeviceView) → v.at.stage ≡ Stopping t → b.ends ≡ Some e → handed e ≡ ends_handed txs rxs
          → PassedAllTx v.tx txs tx' txs' → PassedAllRx v.rx rxs rx' rxs' → Holds (record v { at = record v.at { stage = Held t }; key = key'; calls = calls'; masks = masks'; tx = tx'; rx = rx'; tx_held = txs'; rx_held = rxs' }) s false left n m
      back_holds t e txs rxs key' masks' tx' rx' txs' rxs' on some_e same ptx prx = record {
        runs = regs_as (record v { at = record v.at { stage = Held t }; calls = calls'; tx = tx'; rx = rx'; tx_held = txs'; rx_held = rxs' }) s key' masks' (done_stopping handed v s value b calls' h.runs the.0 the.1 a t e txs rxs tx' rx' txs' rxs' on some_e same ptx prx);
        opening_is = sym (ap (λ (x : Calls). is_opening x.asked) (calls_is handed v s value b calls' h.runs the.0 the.1 a));
        left_is = h.left_is ∙ sym (unreaped_pair IsNotedTx v.tx tx' noted_left (tx_pairs v.tx txs tx' txs' ptx));
        tx_room = let l = pair_length IsNotedTx v.tx tx' (tx_pairs v.tx txs tx' txs' ptx) in let r = h.tx_room in omega (arith, l, r);
        rx_room = let l = pair_length IsNotedRx v.rx rx' (rx_pairs v.rx rxs rx' rxs' prx) in let r = h.rx_room in omega (arith, l, r);
      }

  -- all ends have met
  pub meets_hold : (t : Then) → v.at.stage ≡ Held t → IsDrained v → (at' : Progress) (ftx : List TxView) (frx : List RxView) (tx' : List TxDriverView) (rx' : List RxDriverView) (txs' : List TxDeviceView) (rxs' : List RxDeviceView) (n' m' : ℕ) → tx' ≡ [] → rx' ≡ [] → txs' ≡ [] → rxs' ≡ [] → Met v.tx_facts ftx v.tx v.tx_held → MetRx v.rx_facts frx v.rx v.rx_held
      → at' ≡ record v.at { stage = after t; ended = v.at.ended + 1; next = at'.next } → IsUnderway v.plan at' → passes v.plan at' ≡ false → ((a q : ℕ) → sent_before v.plan a q at'.next ≡ sent_before v.plan a q v.at.next)
      → Holds (record v { at = at'; tx = tx'; rx = rx'; tx_held = txs'; rx_held = rxs'; tx_facts = ftx; rx_facts = frx }) s opening 0 n' m'
  meets_hold t on d at' ftx frx tx' rx' txs' rxs' n' m' a b e f x y is under settled frames = record {
    runs = met_runs v s h.runs t on d at' ftx frx tx' rx' txs' rxs' a b e f x y is under settled frames;
    opening_is = h.opening_is;
    left_is = sym (ap unreaped a);
    tx_room = let l = ap length a in omega (arith, l);
    rx_room = let l = ap length b in omega (arith, l);
  }

module _ (v : DriverView) (s : Setup) (opening : Bool) (left n m : ℕ) (h : Holds v (setup_view s) opening left n m) where
  -- an activation is sent
  pub activates_hold : (done : ℕ) (c : CommandView) (at' : Progress) (key' : List ℕ) (calls' : Calls) (masks' : Masks) (tx' : List TxDriverView) (rx' : List RxDriverView) (txs : List TxDeviceView) (rxs : List RxDeviceView) (n' m' : ℕ) → BeginDue v done
      → c.number ≡ number_of ActivateDev → c.image ≡ image_of s → c.ends ≡ Some (ends_handed txs rxs) → ArePrepared v.guest v.plan v.at.ended tx' rx' txs rxs → calls' ≡ record v.calls { asked = Some c }
      → at' ≡ record v.at { stage = Active; done = done; next = at'.next } → IsUnderway v.plan at' → passes v.plan at' ≡ false → ((a q : ℕ) → sent_before v.plan a q at'.next ≡ sent_before v.plan a q v.at.next)
      → v.plan.setup.tx_queues ≤ n' → v.plan.setup.rx_queues ≤ m'
      → Holds (record v { at = at'; key = key'; calls = calls'; masks = masks'; tx = tx'; rx = rx' }) (setup_view s) true 0 n' m'
  activates_hold done c at' key' calls' masks' tx' rx' txs rxs n' m' due number image ends new calls is under settled frames a b =
      subst (λ (x : Calls). Holds (record v { at = at'; key = key'; calls = x; masks = masks'; tx = tx'; rx = rx' }) (setup_view s) true 0 n' m') (sym calls) (record {
        runs = regs_as (record v { at = at'; calls = record v.calls { asked = Some c }; tx = tx'; rx = rx' }) (setup_view s) key' masks'
            (activates_run v s h.runs done (may_activate v (setup_view s) done h.runs due) c tx' rx' txs rxs number image ends new at' is under settled frames);
        opening_is = sym (is_opening_at c.number number);
        left_is = sym (unreaped_new v.guest v.plan v.at.ended 0 tx' new.tx_new.each);
        tx_room = let l = new.tx_count in omega (arith, l, a);
        rx_room = let l = new.rx_count in omega (arith, l, b);
      })

  pub activates_told : (done : ℕ) (c : CommandView) (at' : Progress) (key' : List ℕ) (calls' : Calls) (masks' : Masks) (tx' : List TxDriverView) (rx' : List RxDriverView) (txs : List TxDeviceView) (rxs : List RxDeviceView) → BeginDue v done
      → c.number ≡ number_of ActivateDev → c.image ≡ image_of s → c.ends ≡ Some (ends_handed txs rxs) → ArePrepared v.guest v.plan v.at.ended tx' rx' txs rxs → calls' ≡ record v.calls { asked = Some c }
      → at' ≡ record v.at { stage = Active; done = done; next = at'.next } → v.at.next ≤ at'.next → ((a q : ℕ) → sent_before v.plan a q at'.next ≡ sent_before v.plan a q v.at.next) → key' ≡ v.key → masks' ≡ v.masks
      → ActivatesWith done v (record v { at = at'; key = key'; calls = calls'; masks = masks'; tx = tx'; rx = rx' })
  activates_told done c at' key' calls' masks' tx' rx' txs rxs due number image ends new calls is up frames key masks = record {
    image = c.image;
    setup = setup_told v s h.runs done (may_activate v (setup_view s) done h.runs due) c tx' rx' txs rxs number image ends new at' is;
    txs = txs;
    rxs = rxs;
    tx = new.tx_new;
    rx = new.rx_new;
    is = λ i. record v { at = is i; key = key i; calls = (calls ∙ (λ j. record v.calls { asked = Some (record { number = number j; image = c.image; ends = ends j }) })) i; masks = masks i; tx = tx'; rx = rx' };
    over = record { up = up; none = frames };
  }

-- an update is sent, with the setup that its deed leaves
module _ (v : DriverView) (old : SetupView) (s : Setup) (opening : Bool) (left n m : ℕ) (h : Holds v old opening left n m) (a : Action) (may : MayUpdate v s a) (c : CommandView) (at' : Progress) (key' : List ℕ) (calls' : Calls) (masks' : Masks)
    (number : c.number ≡ update_number a.deed) (image : c.image ≡ image_of s) (ends : c.ends ≡ None) (calls : calls' ≡ record v.calls { asked = Some c }) (is : at' ≡ record v.at { done = v.at.done + 1; next = at'.next }) where
  pub updates_hold : IsUnderway v.plan at' → passes v.plan at' ≡ false → ((x q : ℕ) → sent_before v.plan x q at'.next ≡ sent_before v.plan x q v.at.next) → Holds (record v { at = at'; key = key'; calls = calls'; masks = masks' }) (setup_view s) false left n m
  updates_hold under settled frames = subst (λ (x : Calls). Holds (record v { at = at'; key = key'; calls = x; masks = masks' }) (setup_view s) false left n m) (sym calls) (record {
    runs = regs_as (record v { at = at'; calls = record v.calls { asked = Some c } }) (setup_view s) key' masks' (updates_run v old s a h.runs may c number image ends at' is under settled frames);
    opening_is = sym (not_opening c.number (ap (λ (k : ℕ). is_begins (deal_by (order_of k))) number ∙ no_begin_order a.deed may.deed));
    left_is = h.left_is;
    tx_room = h.tx_room;
    rx_room = h.rx_room;
  })

  pub updates_told : v.at.next ≤ at'.next → ((x q : ℕ) → sent_before v.plan x q at'.next ≡ sent_before v.plan x q v.at.next) → key' ≡ v.key → masks' ≡ v.masks → UpdatesBy (update_number a.deed) (v.at.done + 1) v (record v { at = at'; key = key'; calls = calls'; masks = masks' })
  updates_told up frames key masks = record {
    image = c.image;
    setup = update_told v old s a h.runs may c number image ends at' is;
    is = λ i. record v { at = is i; key = key i; calls = (calls ∙ (λ j. record v.calls { asked = Some (record { number = number j; image = c.image; ends = ends j }) })) i; masks = masks i };
    over = record { up = up; none = frames };
  }
