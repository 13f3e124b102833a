-- A driver that has both ends of its queues hands up what is left, and lets them meet: the serial run's polls until nothing comes.
use Rattle.std.proofs.Common.{◌≡◌, ℕ, ◌+◌, ◌-◌, List, [], ◌∷◌, ◌++◌, length, map, refl, sym, ap, ap₂, ◌∙◌, subst, arith, append-nil, None, Option}
use mathlib.Core.List.{IsPrefix}
use Rattle.vmx_ends.specs.Queues.{AreFactsOf, AreRxFactsOf}
use Rattle.vmx_ends.specs.Transmit.{TxDriverView, TxDeviceView, TxView}
use Rattle.vmx_ends.specs.TransmitCore.{TxCore}
use Rattle.vmx_ends.specs.Receive.{RxDriverView, RxDeviceView, RxView}
use Rattle.vmx_ends.specs.ReceiveCore.{RxCore}
use Rattle.vmx_machine_state.specs.Views.{EndsView, ActiveView}
use Rattle.vmx_model.specs.Bags.{Pairwise}
use Rattle.vmx_model.specs.Serial.{Seat, poll, emptied}
use Rattle.vmx_model.specs.Turns.{comes_up}
use Rattle.vmx_model.specs.PollSteps.{emptied_poll, emptied_stays, poll_nothing}
use Rattle.vmx_device_laws.specs.Views.{DeviceView}
use Rattle.vmx_device_laws.proofs.Lists.{map_append}
use Rattle.vmx_driver_steps.specs.declared.progress.Then.{Then}
use Rattle.vmx_driver_steps.specs.declared.progress.Then.TheVariants.{Rest, Renew, End}
use Rattle.vmx_driver_steps.specs.declared.progress.Stage.{Stage}
use Rattle.vmx_driver_steps.specs.Progress.{in_hand}
use Rattle.vmx_driver_steps.specs.Parting.{after}
use Rattle.vmx_driver_steps.specs.Driver.{DriverView, AreHeld, IsHeldRx}
use Rattle.vmx_driver_steps.specs.Driving.{ReapsAll, PollsAll, MeetsAll, HandsUpSome, MeetsEmpty}
use Rattle.vmx_replay_worlds.specs.Guests.{GuestView, live_tx, live_rx, met_tx, met_rx, joined, ends_by, ends_of, begun_by, seat_of}
use Rattle.vmx_replay_steps.specs.Between.{WasDelivered}
use Rattle.vmx_replay_steps.specs.Commands.{HandUp, MeetsBetween}
use Rattle.vmx_replay_steps.proofs.Polled.{KnowsAll, CanPoll, can_poll, polled_seat, polled_count, delivered_before, polls_on}
use Rattle.vmx_replay_steps.proofs.Sent.{reaped_live}

-- ------------------------------------------------------------ ends that met

facts_tx : (fs : List TxView) (ds : List TxDriverView) (es : List TxDeviceView) → AreFactsOf fs ds es → map met_tx fs ≡ joined live_tx ds es
facts_tx [] [] [] h = refl
facts_tx [] [] (e ∷ es) h = absurd h
facts_tx [] (d ∷ ds) es h = absurd h
facts_tx (f ∷ fs) [] es h = absurd h
facts_tx (f ∷ fs) (d ∷ ds) [] h = absurd h
facts_tx (f ∷ fs) (d ∷ ds) (e ∷ es) h = ap₂ (λ (c : TxCore) (cs : List TxCore). c ∷ cs) (ap met_tx h.0) (facts_tx fs ds es h.3)

facts_rx : (fs : List RxView) (ds : List RxDriverView) (es : List RxDeviceView) → AreRxFactsOf fs ds es → map met_rx fs ≡ joined live_rx ds es
facts_rx [] [] [] h = refl
facts_rx [] [] (e ∷ es) h = absurd h
facts_rx [] (d ∷ ds) es h = absurd h
facts_rx (f ∷ fs) [] es h = absurd h
facts_rx (f ∷ fs) (d ∷ ds) [] h = absurd h
facts_rx (f ∷ fs) (d ∷ ds) (e ∷ es) h = ap₂ (λ (c : RxCore) (cs : List RxCore). c ∷ cs) (ap met_rx h.0) (facts_rx fs ds es h.3)

facts_delivered : (fs : List RxView) (ds : List RxDriverView) (es : List RxDeviceView) → AreRxFactsOf fs ds es → Pairwise WasDelivered ds es
facts_delivered [] [] [] h = tt
facts_delivered [] [] (e ∷ es) h = absurd h
facts_delivered [] (d ∷ ds) es h = absurd h
facts_delivered (f ∷ fs) [] es h = absurd h
facts_delivered (f ∷ fs) (d ∷ ds) [] h = absurd h
facts_delivered (f ∷ fs) (d ∷ ds) (e ∷ es) h = (subst (λ (x : RxView). IsPrefix x.received x.delivered) h.0 h.2.received, facts_delivered fs ds es h.3)

no_hand : (t : Then) → in_hand (after t) ≡ 0
no_hand Rest = refl
no_hand Renew = refl
no_hand End = refl

no_items : {X : Type 0} (xs : List X) → 0 ≡ length xs → xs ≡ []
no_items [] e = refl
no_items (x ∷ xs) e = absurd (omega (arith, e))

module _ (d : DeviceView) (idle : d.machine.active ≡ None) where
  abbrev seat : DriverView → Seat
  seat v = seat_of (record { driver = v; device = d })

  -- the ends are those that the driver has
  held : (v : DriverView) → ends_of (record { driver = v; device = d }) ≡ record { tx = v.tx_held; rx = v.rx_held }
  held v = ap (λ (o : Option ActiveView). ends_by o (record { tx = v.tx_held; rx = v.rx_held })) idle

  reaps_seat : (v m : DriverView) → ReapsAll v m → seat m ≡ seat v
  reaps_seat v m r = ap seat r.is ∙ (λ i. record (seat v) { tx = map met_tx v.tx_facts ++ reaped_live v.tx m.tx (ends_of (record { driver = v; device = d })).tx r.tx i })

  reaps_can : (v m : DriverView) (es : List RxDeviceView) → ReapsAll v m → CanPoll v es → CanPoll m es
  reaps_can v m es r c = subst (λ (x : DriverView). CanPoll x es) (sym r.is) (record { named = c.named; early = c.early; knows = c.knows; hand = c.hand })

  -- a poll of such a driver
  module _ (v : DriverView) (n : ℕ) (v' : DriverView) (c : CanPoll v v.rx_held) (p : PollsAll v n v') (delivered : Pairwise WasDelivered v'.rx v.rx_held) where
    ends : v.rx_held ≡ (ends_of (record { driver = v; device = d })).rx
    ends = sym (ap (λ (e : EndsView). e.rx) (held v))

    poll_held : (seat v' ≡ poll (begun_by v - 1) (seat v)) × (n ≡ length (comes_up (begun_by v - 1) (seat v)))
    poll_held =
        let c' = subst (CanPoll v) ends c in let delivered' = subst (Pairwise WasDelivered v'.rx) ends delivered in
        (polled_seat (record { driver = v; device = d }) n v' c' p delivered', polled_count (record { driver = v; device = d }) n v' c' p delivered')

  -- all ends meet
  meets_seat : (t : Then) (v u : DriverView) → in_hand v.at.stage ≡ 1 → MeetsAll t v u → seat u ≡ seat v
  meets_seat t v u hand m =
      let begun : v.at.ended + 1 + in_hand (after t) ≡ v.at.ended + in_hand v.at.stage = (let z = no_hand t in omega (arith, z, hand)) in
      let txs : map met_tx (v.tx_facts ++ m.tx) ++ [] ≡ map met_tx v.tx_facts ++ joined live_tx v.tx (ends_of (record { driver = v; device = d })).tx =
      append-nil (map met_tx (v.tx_facts ++ m.tx)) ∙ map_append met_tx v.tx_facts m.tx ∙ ap (λ (cs : List TxCore). map met_tx v.tx_facts ++ cs) (facts_tx m.tx v.tx v.tx_held m.met_tx ∙ ap (λ (e : EndsView). joined live_tx v.tx e.tx) (sym (held v))) in
      let rxs : map met_rx (v.rx_facts ++ m.rx) ++ [] ≡ map met_rx v.rx_facts ++ joined live_rx v.rx (ends_of (record { driver = v; device = d })).rx =
      append-nil (map met_rx (v.rx_facts ++ m.rx)) ∙ map_append met_rx v.rx_facts m.rx ∙ ap (λ (cs : List RxCore). map met_rx v.rx_facts ++ cs) (facts_rx m.rx v.rx v.rx_held m.met_rx ∙ ap (λ (e : EndsView). joined live_rx v.rx e.rx) (sym (held v))) in
      ap seat m.is ∙ (λ i. record (seat v) { begun = begun i; tx = txs i; rx = rxs i })

  -- what the acts came to, and what was received before had been delivered
  pub record Meets (v u : DriverView) : Type 0 where
    pub empties : emptied (seat v) ≡ seat u
    pub delivered : Pairwise WasDelivered v.rx v.rx_held

  -- the last act: nothing comes, and all meet
  last_meets : (t : Then) (v u : DriverView) → CanPoll v v.rx_held → MeetsEmpty t v u → Meets v u
  last_meets t v u c m =
      let same : m.mid.rx_held ≡ v.rx_held = ap (λ (x : DriverView). x.rx_held) m.reaps.is in
      let kept : m.emptied.rx_held ≡ m.mid.rx_held = ap (λ (x : DriverView). x.rx_held) m.polls.is in
      let can : CanPoll m.mid m.mid.rx_held = subst (CanPoll m.mid) (sym same) (reaps_can v m.mid v.rx_held m.reaps c) in
      let delivered : Pairwise WasDelivered m.emptied.rx m.mid.rx_held = subst (Pairwise WasDelivered m.emptied.rx) kept (facts_delivered m.meets.rx m.emptied.rx m.emptied.rx_held m.meets.met_rx) in
      let p = poll_held m.mid 0 m.emptied can m.polls delivered in
      let none : comes_up (begun_by m.mid - 1) (seat m.mid) ≡ [] = no_items (comes_up (begun_by m.mid - 1) (seat m.mid)) p.1 in
      let hand : in_hand m.emptied.at.stage ≡ 1 = ap (λ (x : DriverView). in_hand x.at.stage) m.polls.is ∙ can.hand in
      let stays : emptied (seat m.mid) ≡ seat m.mid = emptied_stays (seat m.mid) none in record {
        empties = ap emptied (sym (reaps_seat v m.mid m.reaps)) ∙ stays ∙ sym (p.0 ∙ poll_nothing (begun_by m.mid - 1) (seat m.mid) none) ∙ sym (meets_seat t m.emptied u hand m.meets);
        delivered = subst (λ (x : DriverView). Pairwise WasDelivered x.rx x.rx_held) m.reaps.is (delivered_before m.mid.calls.interrupts m.mid.plan.setup.tx_queues m.mid.at.ended 0 m.mid.rx m.emptied.rx m.mid.rx_held m.polls.up m.polls.mid m.emptied.masks m.polls.polls delivered);
      }

  -- acts before it
  first_meets : (v m u : DriverView) → CanPoll v v.rx_held → HandsUpSome v m → (CanPoll m m.rx_held → Meets m u) → Meets v u
  first_meets v m u c h go =
      let same : h.mid.rx_held ≡ v.rx_held = ap (λ (x : DriverView). x.rx_held) h.reaps.is in
      let kept : m.rx_held ≡ h.mid.rx_held = ap (λ (x : DriverView). x.rx_held) h.polls.is in
      let can : CanPoll h.mid h.mid.rx_held = subst (CanPoll h.mid) (sym same) (reaps_can v h.mid v.rx_held h.reaps c) in
      let next = go (subst (CanPoll m) (sym kept) (polls_on h.mid h.up m h.mid.rx_held h.polls can)) in
      let delivered : Pairwise WasDelivered m.rx h.mid.rx_held = subst (Pairwise WasDelivered m.rx) kept next.delivered in
      let p = poll_held h.mid h.up m can h.polls delivered in record {
        empties = ap emptied (sym (reaps_seat v h.mid h.reaps)) ∙ sym (emptied_poll (seat h.mid)) ∙ ap emptied (sym p.0) ∙ next.empties;
        delivered = subst (λ (x : DriverView). Pairwise WasDelivered x.rx x.rx_held) h.reaps.is (delivered_before h.mid.calls.interrupts h.mid.plan.setup.tx_queues h.mid.at.ended 0 h.mid.rx m.rx h.mid.rx_held h.polls.up h.polls.mid m.masks h.polls.polls delivered);
      }

  all_meet : (t : Then) (acts : List DriverView) (v w u : DriverView) → CanPoll v v.rx_held → HandUp v acts w → MeetsEmpty t w u → Meets v u
  all_meet t [] v w u c up m = last_meets t v u c (subst (λ (x : DriverView). MeetsEmpty t x u) up m)
  all_meet t (a ∷ acts) v w u c up m = first_meets v a u c up.0 (λ c'. all_meet t acts a w u c' up.1 m)

told_held : (ds : List RxDriverView) (es : List RxDeviceView) → Pairwise IsHeldRx ds es → Pairwise KnowsAll ds es
told_held [] [] h = tt
told_held [] (e ∷ es) h = absurd h
told_held (d ∷ ds) [] h = absurd h
told_held (d ∷ ds) (e ∷ es) h = (h.0.told, told_held ds es h.1)

pub meets_is : (t : Then) (r : GuestView) (w u : DriverView) → MeetsBetween t r w u → seat_of (record r { driver = u }) ≡ emptied (seat_of r)
meets_is t r w u b =
    let held : Pairwise IsHeldRx r.driver.rx r.driver.rx_held = (subst (λ (g : Stage). AreHeld g r.driver.tx r.driver.rx r.driver.tx_held r.driver.rx_held) b.stage b.keeps.held).1 in
    let c = can_poll r.driver r.driver.rx_held b.keeps (ap in_hand b.stage) (told_held r.driver.rx r.driver.rx_held held) in
    sym (all_meet r.device b.idle t b.acts r.driver w u c b.up b.meets).empties
