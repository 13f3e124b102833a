-- An activation ends: the calls of a driver that reap, and that let all ends meet.
use Rattle.std.proofs.Common.{◌≡◌, ℕ, zero, suc, ◌+◌, ◌≤◌, Bool, true, false, List, [], ◌∷◌, length, take, refl, ap, sym, ◌∙◌, subst, arith, All}
use Rattle.std.specs.List.{AllByRecursion, filter}
use Rattle.vmx_ends.specs.Transmit.{TxDriverView, TxDeviceView, TxView}
use Rattle.vmx_ends.specs.Receive.{RxDriverView, RxDeviceView, RxView}
use Rattle.vmx_ends.specs.Queues.{MayMeet, MayMeetRx, Met, MetRx}
use Rattle.vmx_device_state.specs.SetupView.{SetupView}
use Rattle.vmx_model.specs.declared.deeds.Action.{Action}
use Rattle.vmx_model.specs.Deeds.{begins}
use Rattle.vmx_model.specs.QueueSteps.{sent_before}
use Rattle.vmx_model.specs.Bags.{Pairwise}
use Rattle.vmx_driver_steps.specs.declared.progress.Then.{Then}
use Rattle.vmx_driver_steps.specs.declared.progress.Stage.{Stage}
use Rattle.vmx_driver_steps.specs.declared.progress.Stage.TheVariants.{Held}
use Rattle.vmx_driver_steps.specs.declared.progress.Progress.{Progress}
use Rattle.vmx_driver_steps.specs.Progress.{passes, IsUnderway, setup_now, begun_actions}
use Rattle.vmx_driver_steps.specs.Driver.{DriverView, Keeps, Runs, AreHeld, IsHeldTx, IsHeldRx, SendsPlan}
use Rattle.vmx_driver_steps.specs.Queues.{IsReaped, IsFine}
use Rattle.vmx_driver_steps.specs.Keeping.{reaps, moves}
use Rattle.vmx_driver_steps.specs.Starting.{all_small}
use Rattle.vmx_driver_steps.specs.Each.{each_at}
use Rattle.vmx_driver_steps.specs.Parting.{after, meets, under_after}

pub all_fine : (v : DriverView) (s : SetupView) → Runs v s → All IsFine v.tx
all_fine v s k i d lt = record { within = (each_at (SendsPlan v.guest v.plan v.at.ended v.at.next) 0 v.tx i d lt k.keeps.tx).reaped; small = (all_small v s k i d lt).0 }

pub reaps_runs : (v : DriverView) (s : SetupView) (tx' : List TxDriverView) → Runs v s → Pairwise IsReaped v.tx tx' → Runs (record v { tx = tx' }) s
reaps_runs v s tx' k r = record { keeps = reaps v tx' k.keeps r; settled = k.settled; setup = k.setup; short = k.short; interrupts = k.interrupts }

-- all that the driver waits for before its ends meet
pub record IsDrained (v : DriverView) : Type 0 where
  pub tx_even : AllByRecursion (λ (d : TxDriverView). d.notes_given ≡ d.notes_heard) v.tx
  pub rx_even : AllByRecursion (λ (d : RxDriverView). d.notes_given ≡ d.notes_heard) v.rx
  pub reaped : AllByRecursion (λ (d : TxDriverView). d.heard ≤ d.reaped) v.tx
  pub received : AllByRecursion (λ (d : RxDriverView). length d.heard ≤ length d.received) v.rx

may_tx : (tx : List TxDriverView) (txs : List TxDeviceView) → Pairwise IsHeldTx tx txs → AllByRecursion (λ (d : TxDriverView). d.notes_given ≡ d.notes_heard) tx → MayMeet tx txs
may_tx [] [] h e = tt
may_tx [] (y ∷ ys) h e = absurd h
may_tx (x ∷ xs) [] h e = absurd h
may_tx (x ∷ xs) (y ∷ ys) h e = (h.0.one.key, h.0.one.idle, (e.0, h.0.one.even), may_tx xs ys h.1 e.1)

may_rx : (rx : List RxDriverView) (rxs : List RxDeviceView) → Pairwise IsHeldRx rx rxs → AllByRecursion (λ (d : RxDriverView). d.notes_given ≡ d.notes_heard) rx → MayMeetRx rx rxs
may_rx [] [] h e = tt
may_rx [] (y ∷ ys) h e = absurd h
may_rx (x ∷ xs) [] h e = absurd h
may_rx (x ∷ xs) (y ∷ ys) h e = (h.0.one.key, (e.0, h.0.one.even), may_rx xs ys h.1 e.1)

module _ (v : DriverView) (s : SetupView) (k : Runs v s) (t : Then) (on : v.at.stage ≡ Held t) (d : IsDrained v) where
  are_held : Pairwise IsHeldTx v.tx v.tx_held × Pairwise IsHeldRx v.rx v.rx_held
  are_held = subst (λ (g : Stage). AreHeld g v.tx v.rx v.tx_held v.rx_held) on k.keeps.held

  pub may_meet_tx : MayMeet v.tx v.tx_held
  may_meet_tx = may_tx v.tx v.tx_held are_held.0 d.tx_even

  pub may_meet_rx : MayMeetRx v.rx v.rx_held
  may_meet_rx = may_rx v.rx v.rx_held are_held.1 d.rx_even

  pub met_keeps : (ftx : List TxView) (frx : List RxView) (tx' : List TxDriverView) (rx' : List RxDriverView) (txs' : List TxDeviceView) (rxs' : List RxDeviceView) → tx' ≡ [] → rx' ≡ [] → txs' ≡ [] → rxs' ≡ [] → Met v.tx_facts ftx v.tx v.tx_held → MetRx v.rx_facts frx v.rx v.rx_held
      → Keeps (record v { at = record v.at { stage = after t; ended = v.at.ended + 1 }; tx = tx'; rx = rx'; tx_held = txs'; rx_held = rxs'; tx_facts = ftx; rx_facts = frx })
  met_keeps ftx frx tx' rx' txs' rxs' a b e f m m' =
      subst (λ (x : List TxDriverView × List RxDriverView × List TxDeviceView × List RxDeviceView × List TxView × List RxView). Keeps (record v { at = record v.at { stage = after t; ended = v.at.ended + 1 }; tx = x.0; rx = x.1; tx_held = x.2; rx_held = x.3; tx_facts = x.4; rx_facts = x.5 }))
      (λ i. (sym a i, sym b i, sym e i, sym f i, sym m.is i, sym m'.is i)) (meets v t m.more m'.more k.keeps on m.facts m'.facts d.reaped d.received)

  -- and frames that are not sent are passed over
  pub met_runs : (at' : Progress) (ftx : List TxView) (frx : List RxView) (tx' : List TxDriverView) (rx' : List RxDriverView) (txs' : List TxDeviceView) (rxs' : List RxDeviceView) → tx' ≡ [] → rx' ≡ [] → txs' ≡ [] → rxs' ≡ [] → Met v.tx_facts ftx v.tx v.tx_held → MetRx v.rx_facts frx v.rx v.rx_held
      → at' ≡ record v.at { stage = after t; ended = v.at.ended + 1; next = at'.next } → IsUnderway v.plan at' → passes v.plan at' ≡ false → ((a q : ℕ) → sent_before v.plan a q at'.next ≡ sent_before v.plan a q v.at.next)
      → Runs (record v { at = at'; tx = tx'; rx = rx'; tx_held = txs'; rx_held = rxs'; tx_facts = ftx; rx_facts = frx }) s
  met_runs at' ftx frx tx' rx' txs' rxs' a b e f m m' is under settled frames =
      let once = met_keeps ftx frx tx' rx' txs' rxs' a b e f m m' in
      let then_ = moves (record v { at = record v.at { stage = after t; ended = v.at.ended + 1 }; tx = tx'; rx = rx'; tx_held = txs'; rx_held = rxs'; tx_facts = ftx; rx_facts = frx }) at'.next once (subst (IsUnderway v.plan) is under) frames in record {
        keeps = subst (λ (x : Progress). Keeps (record v { at = x; tx = tx'; rx = rx'; tx_held = txs'; rx_held = rxs'; tx_facts = ftx; rx_facts = frx })) (sym is) then_;
        settled = settled;
        setup = k.setup ∙ ap (setup_now v.plan) (sym is);
        short = k.short;
        interrupts = k.interrupts;
      }

  pub met_under : IsUnderway v.plan (record v.at { stage = after t; ended = v.at.ended + 1 })
  met_under = under_after v t on k.keeps.under

count_few : {X : Type 0} (test : X → Bool) (xs : List X) → length (filter test xs) ≤ length xs
count_few test [] = omega arith
count_few test (x ∷ xs) = step (test x) refl (count_few test xs)
  where
    step : (b : Bool) → test x ≡ b → length (filter test xs) ≤ length xs → length (filter test (x ∷ xs)) ≤ suc (length xs)
    step true e h = rw e (omega (arith, h))
    step false e h = rw e (omega (arith, h))

take_few : {X : Type 0} (n : ℕ) (xs : List X) → length (take n xs) ≤ length xs
take_few zero xs = omega arith
take_few (suc n) [] = omega arith
take_few (suc n) (x ∷ xs) = let r = take_few n xs in omega (arith, r)

-- activations are few
pub few_ended : (v : DriverView) (s : SetupView) → Runs v s → v.at.ended ≤ 257
few_ended v s k = let e = k.keeps.under.counted in let a = count_few (λ (a : Action). begins a.deed) (begun_actions v.plan v.at) in let b = take_few v.at.done v.plan.script in let c = v.plan.script_length in omega (arith, e, a, b, c)

-- room was made for facts
pub reserved : (v : DriverView) (s : SetupView) (ftx : List TxView) (frx : List RxView) → ftx ≡ v.tx_facts → frx ≡ v.rx_facts → Runs v s → Runs (record v { tx_facts = ftx; rx_facts = frx }) s
reserved v s ftx frx a b k = subst (λ (x : List TxView × List RxView). Runs (record v { tx_facts = x.0; rx_facts = x.1 }) s) (λ i. (sym a i, sym b i)) k

-- draining does not speak of facts
pub drained_too : (v : DriverView) → IsDrained v → IsDrained (record v { tx_facts = []; rx_facts = [] })
drained_too v d = record { tx_even = d.tx_even; rx_even = d.rx_even; reaped = d.reaped; received = d.received }

pub drained_with : (v : DriverView) (ftx : List TxView) (frx : List RxView) → IsDrained v → IsDrained (record v { tx_facts = ftx; rx_facts = frx })
drained_with v ftx frx d = record { tx_even = d.tx_even; rx_even = d.rx_even; reaped = d.reaped; received = d.received }
