-- A poll of a driver, queue by queue, is the serial run's poll.
use Rattle.std.proofs.Common.{◌≡◌, ℕ, suc, ◌-◌, ◌≤◌, ◌<◌, Bool, true, false, List, [], ◌∷◌, ◌++◌, length, map, refl, ap, ap₂, sym, ◌∙◌, arith, nat_eq, nat_lt, cond, subst, length-append, append_assoc, append-nil, Option, Some, None, if◌then◌else◌, inl, inr}
use Rattle.std.specs.Option.{option_map}
use Rattle.std.specs.List.{filter_map, slice_get, AllByRecursion}
use Rattle.std.proofs.lemmas.Bool.Decides.{nat_tests}
use mathlib.Core.List.{IsPrefix}
use Rattle.vmx_ends.specs.declared.frames.Delivery.{Delivery}
use Rattle.vmx_ends.specs.declared.made.RxMade.{RxMade}
use Rattle.vmx_ends.specs.declared.packet.QueueName.{QueueName}
use Rattle.vmx_ends.specs.Receive.{RxDriverView, RxDeviceView, RxView}
use Rattle.vmx_ends.specs.ReceiveCore as rx
use Rattle.vmx_regs.specs.declared.known.Masks.{Masks}
use Rattle.vmx_model.specs.declared.journal.Received.{Received}
use Rattle.vmx_model.specs.Bags.{EachQueue, Pairwise}
use Rattle.vmx_model.specs.Serial.{where_it, is_of, received_next, next_of, up_next, handed, poll}
use Rattle.vmx_model.specs.Turns.{comes_up}
use Rattle.vmx_model.proofs.Sends.{past}
use Rattle.vmx_device_laws.proofs.Lists.{length_last}
use Rattle.vmx_driver_steps.specs.declared.progress.Stage.{Stage}
use Rattle.vmx_driver_steps.specs.declared.progress.Stage.TheVariants.{Fresh, Active, Stopping, Held, Quiet, Ended}
use Rattle.vmx_driver_steps.specs.Progress.{in_hand, count_in}
use Rattle.vmx_driver_steps.specs.Driver.{DriverView, Keeps, HandsUp, name_of}
use Rattle.vmx_driver_steps.specs.Receiving.{UpNext, IsEmptied}
use Rattle.vmx_driver_steps.specs.Driving.{Polls, PollsAll, PolledOne}
use Rattle.vmx_driver_steps.specs.Each.{each_map, are_below}
use Rattle.vmx_replay_worlds.specs.Guests.{GuestView, live_rx, met_rx, joined, ends_of, begun_by, seat_of}
use Rattle.vmx_note_laws.specs.Queues.{IsToldRx}
use Rattle.vmx_replay_steps.specs.Between.{WasDelivered}
use Rattle.vmx_replay_steps.specs.Polls.{PollsBetween}

-- the driver was told of all that was delivered
abbrev pub KnowsAll : RxDriverView → RxDeviceView → Type 0
KnowsAll d e = length e.delivered ≤ length d.heard

-- ------------------------------------------------------------ one queue

next_behind : {X : Type 0} (xs rest : List X) (x : X) → slice_get ((xs ++ x ∷ []) ++ rest) (length xs) ≡ Some x
next_behind [] rest x = refl
next_behind (y ∷ ys) rest x = next_behind ys rest x

-- the device delivered what its driver received
module _ (d d' : RxDriverView) (e : RxDeviceView) (x : Delivery) (is : d' ≡ record d { received = d.received ++ x ∷ [] }) (front : IsPrefix d'.received e.delivered) where
  received_is : d'.received ≡ d.received ++ x ∷ []
  received_is = ap (λ (v : RxDriverView). v.received) is

  below_all : length d.received < length e.delivered
  below_all = let l = ap length front.1 in let m = length-append d'.received front.0 in let n = ap length received_is ∙ length_last d.received x in omega (arith, l, m, n)

  live_receives : live_rx d' e ≡ received_next (live_rx d e)
  live_receives =
      let lt : nat_lt (length d.received) (length e.delivered) ≡ true = (let less = below_all in grind (arith, nat_tests)) in
      ap (λ (v : RxDriverView). live_rx v e) is
      ∙ ap (λ (n : ℕ). record (live_rx d e) { received = n }) (length_last d.received x)
      ∙ sym (ap (λ (b : Bool). cond b (record (live_rx d e) { received = suc (length d.received) }) (live_rx d e)) lt)

  next_is : next_of (live_rx d e) ≡ Some x
  next_is = ap (λ (xs : List Delivery). slice_get xs (length d.received)) (sym front.1 ∙ ap (λ (xs : List Delivery). xs ++ front.0) received_is) ∙ next_behind d.received front.0 x

-- a look that found none, where the driver was told of all deliveries
module _ (d d' : RxDriverView) (e : RxDeviceView) (g : IsEmptied d d') (knows : KnowsAll d e) where
  none_left : length e.delivered ≤ length d.received
  none_left = let u = g.heard in let h = ap (λ (v : RxDriverView). length v.heard) g.is in let r = ap (λ (v : RxDriverView). length v.received) g.is in omega (arith, knows, u, h, r)

  live_waits : live_rx d' e ≡ received_next (live_rx d e)
  live_waits =
      let ge : nat_lt (length d.received) (length e.delivered) ≡ false = (let le = none_left in grind (arith, nat_tests)) in
      ap (λ (v : RxDriverView). live_rx v e) g.is ∙ sym (ap (λ (b : Bool). cond b (record (live_rx d e) { received = suc (length d.received) }) (live_rx d e)) ge)

  none_next : next_of (live_rx d e) ≡ None
  none_next = past e.delivered (length d.received) none_left

-- what one queue hands up
pub record Comes (a : ℕ) (d d' : RxDriverView) (e : RxDeviceView) (one : List Received) : Type 0 where
  pub live : live_rx d' e ≡ (if is_of a (live_rx d e) then received_next (live_rx d e) else live_rx d e)
  pub none : up_next a (live_rx d e) ≡ None → one ≡ []
  pub some : (x : Received) → up_next a (live_rx d e) ≡ Some x → one ≡ x ∷ []

some_none : {X : Type 0} {x : X} → Some x ≡ None → ⊥
some_none e = absurd (cc e)

module _ (g a q : ℕ) (d d' : RxDriverView) (e : RxDeviceView) (one : List Received) (i first : ℕ) (m m' : Masks) (name : d.made.name ≡ name_of g a q) (knows : KnowsAll d e) (front : WasDelivered d' e) where
  here : is_of a (live_rx d e) ≡ true
  here = let same : d.made.name.activation ≡ a = ap (λ (n : QueueName). n.activation) name in grind (arith, nat_tests)

  up_is : (o : Option Delivery) → next_of (live_rx d e) ≡ o → up_next a (live_rx d e) ≡ option_map (handed (live_rx d e)) o
  up_is o e' = ap (λ (b : Bool). if b then option_map (handed (live_rx d e)) (next_of (live_rx d e)) else None) here ∙ ap (option_map (handed (live_rx d e))) e'

  changed_here : (c : rx.RxCore) → c ≡ received_next (live_rx d e) → c ≡ (if is_of a (live_rx d e) then received_next (live_rx d e) else live_rx d e)
  changed_here c h = h ∙ sym (ap (λ (b : Bool). if b then received_next (live_rx d e) else live_rx d e) here)

  up_comes : (x : Received) → one ≡ x ∷ [] → UpNext a q d d' x → Comes a d d' e one
  up_comes x is u = record {
    live = changed_here (live_rx d' e) (live_receives d d' e u.delivery u.is front);
    none = λ none. absurd (some_none (sym next ∙ none));
    some = λ y some. is ∙ (let same : x ≡ y = cc (sym next ∙ some) in ap (λ (z : Received). z ∷ []) same);
  }
    where
      next : up_next a (live_rx d e) ≡ Some x
      next = up_is (Some u.delivery) (next_is d d' e u.delivery u.is front)
          ∙ (λ j. Some (record { activation = (ap (λ (n : QueueName). n.activation) name ∙ sym u.activation) j; queue = (ap (λ (n : QueueName). n.queue) name ∙ sym u.queue) j; place = sym u.place j; frame = sym u.frame j; tci = sym u.tci j }))

  none_comes : one ≡ [] → IsEmptied d d' → Comes a d d' e one
  none_comes is w = record {
    live = changed_here (live_rx d' e) (live_waits d d' e w knows);
    none = λ none. is;
    some = λ x some. absurd (some_none (sym some ∙ up_is None (none_next d d' e w knows)));
  }

  polled_comes : PolledOne i first a q d d' one m m' → Comes a d d' e one
  polled_comes p = elim p [
    | inl h ↦ up_comes h.0 h.1 h.2.up
    | inr h ↦ none_comes h.0 h.1.none
  ]

-- ------------------------------------------------------------ all queues

push_up : (a : ℕ) (c : rx.RxCore) (cs : List rx.RxCore) (one : List Received) → (up_next a c ≡ None → one ≡ []) → ((x : Received) → up_next a c ≡ Some x → one ≡ x ∷ []) → filter_map (up_next a) (c ∷ cs) ≡ one ++ filter_map (up_next a) cs
push_up a c cs one none some = step (up_next a c) refl
  where
    step : (o : Option Received) → up_next a c ≡ o → filter_map (up_next a) (c ∷ cs) ≡ one ++ filter_map (up_next a) cs
    step None e = rw (e, none e) refl
    step (Some x) e = rw (e, some x e) refl

abbrev IsNamed : ℕ → ℕ → ℕ → RxDriverView → Type 0
IsNamed g a q d = d.made.name ≡ name_of g a q

live_polls : (i first g a q : ℕ) (ds ns : List RxDriverView) (es : List RxDeviceView) (up : List Received) (m m' : Masks) → EachQueue (IsNamed g a) q ds → Pairwise KnowsAll ds es → Polls i first a q ds ns up m m' → Pairwise WasDelivered ns es
    → (joined live_rx ns es ≡ where_it (is_of a) received_next (joined live_rx ds es)) × (filter_map (up_next a) (joined live_rx ds es) ≡ up)
live_polls i first g a q [] [] es up m m' n k p w = (refl, sym p.0)
live_polls i first g a q [] (x ∷ ns) es up m m' n k p w = absurd p
live_polls i first g a q (d ∷ ds) [] es up m m' n k p w = absurd p
live_polls i first g a q (d ∷ ds) (d' ∷ ns) [] up m m' n k p w = absurd k
live_polls i first g a q (d ∷ ds) (d' ∷ ns) (e ∷ es) up m m' n k (one, rest, mid, is, here, more) w =
    let c = polled_comes g a q d d' e one i first m mid n.0 k.0 w.0 here in
    let ih = live_polls i first g a (suc q) ds ns es rest mid m' n.1 k.1 more w.1 in
    (ap₂ (λ (x : rx.RxCore) (xs : List rx.RxCore). x ∷ xs) c.live ih.0, push_up a (live_rx d e) (joined live_rx ds es) one c.none c.some ∙ ap (λ (xs : List Received). one ++ xs) ih.1 ∙ sym is)

earlier_stay : (a : ℕ) (fs : List RxView) (ls : List rx.RxCore) → AllByRecursion (λ (f : RxView). f.made.name.activation < a) fs
    → (where_it (is_of a) received_next (map met_rx fs ++ ls) ≡ map met_rx fs ++ where_it (is_of a) received_next ls) × (filter_map (up_next a) (map met_rx fs ++ ls) ≡ filter_map (up_next a) ls)
earlier_stay a [] ls h = (refl, refl)
earlier_stay a (f ∷ fs) ls h =
    let lt = h.0 in let no : nat_eq f.made.name.activation a ≡ false = grind (arith, nat_tests) in let ih = earlier_stay a fs ls h.1 in
    (ap₂ (λ (x : rx.RxCore) (xs : List rx.RxCore). x ∷ xs) (ap (λ (b : Bool). if b then received_next (met_rx f) else met_rx f) no) ih.0, rw no ih.1)

-- ------------------------------------------------------------ a guest

-- what a poll asks of the queues: their names are those of the activation in hand, and their driver was told of all that was delivered
pub record CanPoll (v : DriverView) (es : List RxDeviceView) : Type 0 where
  pub named : EachQueue (IsNamed v.guest v.at.ended) 0 v.rx
  pub early : AllByRecursion (λ (f : RxView). f.made.name.activation < v.at.ended) v.rx_facts
  pub knows : Pairwise KnowsAll v.rx es
  pub hand : in_hand v.at.stage ≡ 1

pub can_poll : (v : DriverView) (es : List RxDeviceView) → Keeps v → in_hand v.at.stage ≡ 1 → Pairwise KnowsAll v.rx es → CanPoll v es
can_poll v es k hand knows = record {
  named = each_map (HandsUp v.guest v.plan v.at.ended v.received) (IsNamed v.guest v.at.ended) 0 v.rx (λ q d h. ap (λ (m : RxMade). m.name) h.made) k.rx;
  early = are_below v.guest v.plan.setup.rx_queues v.at.ended (λ (f : RxView). f.made.name) v.rx_facts k.rx_names;
  knows = knows;
  hand = hand;
}

-- the activation in hand
hand_begun : (v : DriverView) → in_hand v.at.stage ≡ 1 → begun_by v - 1 ≡ v.at.ended
hand_begun v hand = omega (arith, hand)

module _ (r : GuestView) (n : ℕ) (v : DriverView) (c : CanPoll r.driver (ends_of r).rx) (p : PollsAll r.driver n v) (delivered : Pairwise WasDelivered v.rx (ends_of r).rx) where
  all : (joined live_rx v.rx (ends_of r).rx ≡ where_it (is_of r.driver.at.ended) received_next (joined live_rx r.driver.rx (ends_of r).rx)) × (filter_map (up_next r.driver.at.ended) (joined live_rx r.driver.rx (ends_of r).rx) ≡ p.up)
  all = live_polls r.driver.calls.interrupts r.driver.plan.setup.tx_queues r.driver.guest r.driver.at.ended 0 r.driver.rx v.rx (ends_of r).rx p.up p.mid v.masks c.named c.knows p.polls delivered

  stay : (where_it (is_of r.driver.at.ended) received_next (seat_of r).rx ≡ map met_rx r.driver.rx_facts ++ where_it (is_of r.driver.at.ended) received_next (joined live_rx r.driver.rx (ends_of r).rx)) × (filter_map (up_next r.driver.at.ended) (seat_of r).rx ≡ filter_map (up_next r.driver.at.ended) (joined live_rx r.driver.rx (ends_of r).rx))
  stay = earlier_stay r.driver.at.ended r.driver.rx_facts (joined live_rx r.driver.rx (ends_of r).rx) c.early

  ups : filter_map (up_next r.driver.at.ended) (seat_of r).rx ≡ p.up
  ups = stay.1 ∙ all.1

  queues : map met_rx r.driver.rx_facts ++ joined live_rx v.rx (ends_of r).rx ≡ where_it (is_of r.driver.at.ended) received_next (seat_of r).rx
  queues = ap (λ (xs : List rx.RxCore). map met_rx r.driver.rx_facts ++ xs) all.0 ∙ sym stay.0

  begun : r.driver.at.ended ≡ begun_by r.driver - 1
  begun = sym (hand_begun r.driver c.hand)

  whole : seat_of (record r { driver = v }) ≡ poll r.driver.at.ended (seat_of r)
  whole = ap (λ (w : DriverView). seat_of (record r { driver = w })) p.is ∙ (λ i. record (seat_of r) { received = r.driver.received ++ sym ups i; rx = queues i })

  pub polled_seat : seat_of (record r { driver = v }) ≡ poll (begun_by r.driver - 1) (seat_of r)
  polled_seat = whole ∙ ap (λ (a : ℕ). poll a (seat_of r)) begun

  pub polled_count : n ≡ length (comes_up (begun_by r.driver - 1) (seat_of r))
  polled_count = p.count ∙ ap length (sym ups) ∙ ap (λ (a : ℕ). length (comes_up a (seat_of r))) begun

told_all : (ds : List RxDriverView) (es : List RxDeviceView) → Pairwise IsToldRx ds es → Pairwise KnowsAll ds es
told_all [] [] h = tt
told_all [] (e ∷ es) h = absurd h
told_all (d ∷ ds) [] h = absurd h
told_all (d ∷ ds) (e ∷ es) h = (h.0.delivered, told_all ds es h.1)

pub poll_seat : (r : GuestView) (n : ℕ) (v : DriverView) → PollsBetween r n v → seat_of (record r { driver = v }) ≡ poll (begun_by r.driver - 1) (seat_of r)
poll_seat r n v p = polled_seat r n v (can_poll r.driver (ends_of r).rx p.keeps p.hand (told_all r.driver.rx (ends_of r).rx p.told)) p.polls p.delivered

pub poll_count : (r : GuestView) (n : ℕ) (v : DriverView) → PollsBetween r n v → n ≡ length (comes_up (begun_by r.driver - 1) (seat_of r))
poll_count r n v p = polled_count r n v (can_poll r.driver (ends_of r).rx p.keeps p.hand (told_all r.driver.rx (ends_of r).rx p.told)) p.polls p.delivered

-- ------------------------------------------------------------ nothing in hand

-- no ends are in hand
pub none_in : (g : Stage) (n : ℕ) → in_hand g ≡ 0 → count_in g n ≡ 0
none_in Fresh n e = refl
none_in Active n e = absurd (omega (arith, e))
none_in (Stopping t) n e = absurd (omega (arith, e))
none_in (Held t) n e = absurd (omega (arith, e))
none_in Quiet n e = refl
none_in Ended n e = refl

pub no_items : {X : Type 0} (xs : List X) → length xs ≡ 0 → xs ≡ []
no_items [] e = refl
no_items (x ∷ xs) e = absurd (omega (arith, e))

pub no_polls : (i first a q : ℕ) (ds ns : List RxDriverView) (up : List Received) (m m' : Masks) → ds ≡ [] → Polls i first a q ds ns up m m' → (ns ≡ []) × (up ≡ [])
no_polls i first a q [] [] up m m' e p = (refl, p.0)
no_polls i first a q [] (x ∷ ns) up m m' e p = absurd p
no_polls i first a q (d ∷ ds) ns up m m' e p = absurd (cc e)

-- such a poll finds nothing
pub poll_idle : (r : GuestView) (n : ℕ) (v : DriverView) → Keeps r.driver → in_hand r.driver.at.stage ≡ 0 → PollsAll r.driver n v → (seat_of (record r { driver = v }) ≡ seat_of r) × (n ≡ 0)
poll_idle r n v k free p =
    let none : r.driver.rx ≡ [] = no_items r.driver.rx (k.rx_count ∙ none_in r.driver.at.stage r.driver.plan.setup.rx_queues free) in
    let found = no_polls r.driver.calls.interrupts r.driver.plan.setup.tx_queues r.driver.at.ended 0 r.driver.rx v.rx p.up p.mid v.masks none p.polls in
    let received : r.driver.received ++ p.up ≡ r.driver.received = ap (λ (xs : List Received). r.driver.received ++ xs) found.1 ∙ append-nil r.driver.received in
    let rxs : joined live_rx v.rx (ends_of r).rx ≡ joined live_rx r.driver.rx (ends_of r).rx = ap (λ (ds : List RxDriverView). joined live_rx ds (ends_of r).rx) (found.0 ∙ sym none) in (
      ap (λ (w : DriverView). seat_of (record r { driver = w })) p.is ∙ (λ i. record (seat_of r) { received = received i; rx = map met_rx r.driver.rx_facts ++ rxs i }),
      p.count ∙ ap length found.1,
    )

-- ------------------------------------------------------------ one poll after the other

named_on : (i first a q g : ℕ) (ds ns : List RxDriverView) (up : List Received) (m m' : Masks) → Polls i first a q ds ns up m m' → EachQueue (IsNamed g a) q ds → EachQueue (IsNamed g a) q ns
named_on i first a q g [] [] up m m' p n = tt
named_on i first a q g [] (x ∷ ns) up m m' p n = absurd p
named_on i first a q g (d ∷ ds) [] up m m' p n = absurd p
named_on i first a q g (d ∷ ds) (d' ∷ ns) up m m' (one, rest, mid, is, here, more) n = (
  elim here [
    | inl h ↦ ap (λ (z : RxDriverView). z.made.name) h.2.up.is ∙ n.0
    | inr h ↦ ap (λ (z : RxDriverView). z.made.name) h.1.none.is ∙ n.0
  ],
  named_on i first a (suc q) g ds ns rest mid m' more n.1,
)

knows_on : (i first a q : ℕ) (ds ns : List RxDriverView) (es : List RxDeviceView) (up : List Received) (m m' : Masks) → Polls i first a q ds ns up m m' → Pairwise KnowsAll ds es → Pairwise KnowsAll ns es
knows_on i first a q [] [] es up m m' p k = k
knows_on i first a q [] (x ∷ ns) es up m m' p k = absurd p
knows_on i first a q (d ∷ ds) [] es up m m' p k = absurd p
knows_on i first a q (d ∷ ds) (d' ∷ ns) [] up m m' p k = absurd k
knows_on i first a q (d ∷ ds) (d' ∷ ns) (e ∷ es) up m m' (one, rest, mid, is, here, more) k = (
  (let l = k.0 in elim here [
    | inl h ↦ (let s = ap (λ (z : RxDriverView). length z.heard) h.2.up.is in omega (arith, l, s))
    | inr h ↦ (let s = ap (λ (z : RxDriverView). length z.heard) h.1.none.is in omega (arith, l, s))
  ]),
  knows_on i first a (suc q) ds ns es rest mid m' more k.1,
)

-- what was received before, too, was delivered
pub delivered_before : (i first a q : ℕ) (ds ns : List RxDriverView) (es : List RxDeviceView) (up : List Received) (m m' : Masks) → Polls i first a q ds ns up m m' → Pairwise WasDelivered ns es → Pairwise WasDelivered ds es
delivered_before i first a q [] [] es up m m' p w = w
delivered_before i first a q [] (x ∷ ns) es up m m' p w = absurd p
delivered_before i first a q (d ∷ ds) [] es up m m' p w = absurd p
delivered_before i first a q (d ∷ ds) (d' ∷ ns) [] up m m' p w = absurd w
delivered_before i first a q (d ∷ ds) (d' ∷ ns) (e ∷ es) up m m' (one, rest, mid, is, here, more) w = (
  elim here [
    | inl h ↦ (h.2.up.delivery ∷ w.0.0, sym (append_assoc d.received (h.2.up.delivery ∷ []) w.0.0) ∙ ap (λ (z : RxDriverView). z.received ++ w.0.0) (sym h.2.up.is) ∙ w.0.1)
    | inr h ↦ (w.0.0, ap (λ (z : RxDriverView). z.received ++ w.0.0) (sym h.1.none.is) ∙ w.0.1)
  ],
  delivered_before i first a (suc q) ds ns es rest mid m' more w.1,
)

pub polls_on : (v : DriverView) (n : ℕ) (v' : DriverView) (es : List RxDeviceView) → PollsAll v n v' → CanPoll v es → CanPoll v' es
polls_on v n v' es p c =
    record {
      named = subst (λ (x : ℕ × ℕ). EachQueue (IsNamed x.0 x.1) 0 v'.rx) (λ i. (sym (ap (λ (z : DriverView). z.guest) p.is) i, sym (ap (λ (z : DriverView). z.at.ended) p.is) i)) (named_on v.calls.interrupts v.plan.setup.tx_queues v.at.ended 0 v.guest v.rx v'.rx p.up p.mid v'.masks p.polls c.named);
      early = subst (λ (x : ℕ × List RxView). AllByRecursion (λ (f : RxView). f.made.name.activation < x.0) x.1) (λ i. (sym (ap (λ (z : DriverView). z.at.ended) p.is) i, sym (ap (λ (z : DriverView). z.rx_facts) p.is) i)) c.early;
      knows = knows_on v.calls.interrupts v.plan.setup.tx_queues v.at.ended 0 v.rx v'.rx es p.up p.mid v'.masks p.polls c.knows;
      hand = ap (λ (z : DriverView). in_hand z.at.stage) p.is ∙ c.hand;
    }
