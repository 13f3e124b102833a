-- All ends have met: the activation has ended.
use Rattle.std.proofs.Common.{◌≡◌, ℕ, suc, ◌+◌, ◌<◌, ◌≤◌, false, true≢false, List, [], ◌∷◌, ◌++◌, length, length-append, map, refl, ap, sym, ◌∙◌, subst, arith, Option, None, append_assoc, append-nil, add-one}
use Rattle.std.specs.List.{AllByRecursion, flat_map, filter}
use Rattle.std.proofs.lemmas.List.{map-append}
use mathlib.Core.List.{IsPrefix}
use Rattle.vmx_io.specs.declared.handed.HandedView.{HandedView}
use Rattle.vmx_ends.specs.declared.packet.QueueName.{QueueName}
use Rattle.vmx_ends.specs.Frames.{sent_of}
use Rattle.vmx_ends.specs.declared.made.TxMade.{TxMade}
use Rattle.vmx_ends.specs.declared.made.RxMade.{RxMade}
use Rattle.vmx_ends.specs.declared.frames.Taken.{Taken}
use Rattle.vmx_ends.specs.Transmit.{TxDriverView, TxDeviceView, TxView}
use Rattle.vmx_ends.specs.Receive.{RxDriverView, RxDeviceView, RxView}
use Rattle.vmx_ends.specs.ReceiveClauses.{IsRefusal}
use Rattle.vmx_ends.specs.TransmitClauses as tx
use Rattle.vmx_ends.specs.ReceiveClauses as rx
use Rattle.vmx_ends.specs.Queues.{AreFactsOf, AreRxFactsOf}
use Rattle.vmx_ends.specs.HandedEnds.{ends_handed}
use Rattle.vmx_device_state.specs.DeviceState as state
use Rattle.vmx_device_state.specs.SetupView.{SetupView}
use Rattle.vmx_device_state.specs.declared.turn.CommandView.{CommandView}
use Rattle.vmx_device_state.specs.declared.turn.Turn.{Turn}
use Rattle.vmx_regs.specs.Rule.{sent_by}
use Rattle.vmx_model.specs.declared.guest.GuestPlan.{GuestPlan}
use Rattle.vmx_model.specs.declared.journal.Received.{Received}
use Rattle.vmx_model.specs.Lists.{upto}
use Rattle.vmx_model.specs.Plan.{Ask, asks, ends_by_reset}
use Rattle.vmx_device_state.specs.Deals.{Held as HeldEnds}
use Rattle.vmx_model.specs.QueueSteps.{sent_before, upto_push}
use Rattle.vmx_model.specs.Account.{queue_names, tx_made, rx_made, from_queue, received_from}
use Rattle.vmx_model.specs.Bags.{EachQueue, Pairwise, GotBack, AllGotBack, MetTx, MetRx, DriverSaysRx}
use Rattle.vmx_driver_steps.specs.declared.progress.Then.{Then}
use Rattle.vmx_driver_steps.specs.declared.progress.Then.TheVariants.{Rest, Renew, End}
use Rattle.vmx_driver_steps.specs.declared.progress.Stage.{Stage}
use Rattle.vmx_driver_steps.specs.declared.progress.Stage.TheVariants.{Fresh, Held, Quiet, Ended}
use Rattle.vmx_driver_steps.specs.Progress.{in_hand, to_come, to_come_then, is_down_in, is_down_then, count_in, left_in, left_then, setup_now, asks_left, IsUnderway}
use Rattle.vmx_driver_steps.specs.Driver.{DriverView, Keeps, Leads, GivesBack, AreHeld, IsHeldTx, IsHeldRx, IsReady, IsParting, bag_in, ask_by, other_ends, state_in, held_in, SendsPlan, HandsUp, SentPlan, name_of, posted_as}

-- ------------------------------------------------------------ the stage after

abbrev pub after : Then → Stage
after Rest = Quiet
after Renew = Fresh
after End = Ended

record After (t : Then) : Type 0 where
  hand : in_hand (after t) ≡ 0
  come : to_come (after t) ≡ to_come_then t
  down : is_down_in (after t) ≡ is_down_then t
  count : (n : ℕ) → count_in (after t) n ≡ 0
  idle : (s : SetupView) → state_in (after t) s ≡ state.Idle
  none : (hs : HeldEnds) → held_in (after t) hs ≡ None
  left : (s : SetupView) (rest : List Ask) → left_in (after t) s rest ≡ left_then t s rest
  held : AreHeld (after t) [] [] [] []
  gives : (past : List Turn) (o : Option CommandView) (hs : HeldEnds) → o ≡ None → GivesBack (after t) past o hs
  parting : (p : GuestPlan) (a : ℕ) → IsParting (after t) p a []
  bag : bag_in (after t) [] [] ≡ []

after_is : (t : Then) → After t
after_is Rest = record { hand = refl; come = refl; down = refl; count = λ n. refl; idle = λ s. refl; none = λ hs. refl; left = λ s rest. refl; held = (refl, refl); gives = λ past o hs e. rw e tt; parting = λ p a. tt; bag = refl }
after_is Renew = record { hand = refl; come = refl; down = refl; count = λ n. refl; idle = λ s. refl; none = λ hs. refl; left = λ s rest. refl; held = (refl, refl); gives = λ past o hs e. e; parting = λ p a. tt; bag = refl }
after_is End = record { hand = refl; come = refl; down = refl; count = λ n. refl; idle = λ s. refl; none = λ hs. refl; left = λ s rest. refl; held = (refl, refl); gives = λ past o hs e. e; parting = λ p a. tt; bag = refl }

-- ------------------------------------------------------------ one bag more

pub one_bag_more : (g a : ℕ) (bags : List HandedView) (bag : HandedView) (tx more : List TxView) (rx more' : List RxView) → AllGotBack g a bags tx rx → GotBack g (a + length bags) bag more more' → AllGotBack g a (bags ++ bag ∷ []) (tx ++ more) (rx ++ more')
one_bag_more g a [] bag tx more rx more' h got =
    let e : a + 0 ≡ a = omega arith in
    (record { tx_now = more; tx_later = []; rx_now = more'; rx_later = []; tx_are = ap (λ (xs : List TxView). xs ++ more) h.0 ∙ sym (append-nil more); rx_are = ap (λ (xs : List RxView). xs ++ more') h.1 ∙ sym (append-nil more'); got = subst (λ (n : ℕ). GotBack g n bag more more') e got }, (refl, refl))
one_bag_more g a (b ∷ bs) bag tx more rx more' h got =
    let e : a + length (b ∷ bs) ≡ suc a + length bs = omega arith in
    let x = h.0 in (
      record { tx_now = x.tx_now; tx_later = x.tx_later ++ more; rx_now = x.rx_now; rx_later = x.rx_later ++ more'; tx_are = ap (λ (xs : List TxView). xs ++ more) x.tx_are ∙ append_assoc x.tx_now x.tx_later more; rx_are = ap (λ (xs : List RxView). xs ++ more') x.rx_are ∙ append_assoc x.rx_now x.rx_later more'; got = x.got },
      one_bag_more g (suc a) bs bag x.tx_later more x.rx_later more' h.1 (subst (λ (n : ℕ). GotBack g n bag more more') e got),
    )

-- ------------------------------------------------------------ names

flat_more : {X Y : Type 0} (f : X → List Y) (xs : List X) (x : X) → flat_map f (xs ++ x ∷ []) ≡ flat_map f xs ++ f x
flat_more f [] x = append-nil (f x)
flat_more f (y ∷ xs) x = ap (λ (zs : List _). f y ++ zs) (flat_more f xs x) ∙ sym (append_assoc (f y) (flat_map f xs) (f x))

more_names : (g queues e : ℕ) → flat_map (queue_names g queues) (upto 0 (e + 1)) ≡ flat_map (queue_names g queues) (upto 0 e) ++ queue_names g queues e
more_names g queues e = let z : 0 + e ≡ e = omega arith in ap (flat_map (queue_names g queues)) (upto_push 0 e ∙ ap (λ (n : ℕ). upto 0 e ++ n ∷ []) z) ∙ flat_more (queue_names g queues) (upto 0 e) e

names_from : {X : Type 0} (name : X → QueueName) (g a from : ℕ) (xs : List X) → EachQueue (λ q x. name x ≡ record { guest = g; activation = a; queue = q }) from xs → map name xs ≡ map (λ (q : ℕ). record { guest = g; activation = a; queue = q }) (upto from (length xs))
names_from name g a from [] h = refl
names_from name g a from (x ∷ xs) h =
    let ih : map name xs ≡ map (λ (q : ℕ). record { guest = g; activation = a; queue = q }) (upto (from + 1) (length xs)) = rw add-one (names_from name g a (suc from) xs h.1) in
    λ i. h.0 i ∷ ih i

-- ------------------------------------------------------------ facts

-- where a prefix is no shorter, and the other way round
prefix_length : {X : Type 0} (xs ys : List X) → IsPrefix xs ys → length xs ≤ length ys
prefix_length xs ys h = let l = ap length h.1 in let s = length-append xs h.0 in omega (arith, l, s)

sent_length : (ts : List Taken) → length (sent_of ts) ≡ length ts
sent_length [] = refl
sent_length (t ∷ ts) = ap suc (sent_length ts)

-- a ready end's frames were all taken, unless a reset ended the activation
pub record EndsTx (p : GuestPlan) (a : ℕ) (d : TxDriverView) : Type 0 where
  pub ready : ends_by_reset p a ≡ false → d.reaped ≡ length d.sent
  pub drained : d.heard ≤ d.reaped

all_ready : (t : Then) (p : GuestPlan) (a : ℕ) (tx : List TxDriverView) → IsReady t p a tx → AllByRecursion (λ (d : TxDriverView). d.heard ≤ d.reaped) tx → AllByRecursion (EndsTx p a) tx
all_ready t p a [] r h = tt
all_ready Rest p a (d ∷ tx) r h = (record { ready = λ e. r.0; drained = h.0 }, all_ready Rest p a tx r.1 h.1)
all_ready End p a (d ∷ tx) r h = (record { ready = λ e. r.0; drained = h.0 }, all_ready End p a tx r.1 h.1)
all_ready Renew p a (d ∷ tx) r h = (record { ready = λ e. absurd (true≢false (sym r ∙ e)); drained = h.0 }, all_ready Renew p a tx r h.1)

module _ (g : ℕ) (p : GuestPlan) (a next : ℕ) (received : List Received) where
  sent_plan : (q : ℕ) (d : TxDriverView) (e : TxDeviceView) (f : TxView) → f ≡ tx.facts_of d e → tx.IsOrdered f → SendsPlan g p a next q d → IsHeldTx d e → EndsTx p a d → SentPlan p next f
  sent_plan q d e f is ord s h x =
      let made : f.made ≡ tx_made p (name_of g a q) = ap (λ (v : TxView). v.made) is ∙ s.made in
      let name : f.made.name ≡ name_of g a q = ap (λ (m : TxMade). m.name) made in
      let sent : f.sent ≡ d.sent = ap (λ (v : TxView). v.sent) is in
      let low = ord.reaped in let told = h.told in let drained = x.drained in
      let reaped : f.reaped ≡ d.reaped = ap (λ (v : TxView). v.reaped) is in let completed : f.completed ≡ e.completed = ap (λ (v : TxView). v.completed) is in
      let few = ord.completed in let front = prefix_length (sent_of f.taken) f.sent ord.taken in let len = sent_length f.taken in let slen = ap length sent in record {
        made = made ∙ ap (tx_made p) (sym name);
        sent = sent ∙ s.sent ∙ ap (λ (n : QueueName). map posted_as (sent_before p n.activation n.queue next)) (sym name);
        met = ord.taken;
        reaped = omega (arith, low, told, drained, reaped, completed);
        whole = λ no. let r = x.ready (ap (λ (n : QueueName). ends_by_reset p n.activation) (sym name) ∙ no) in omega (arith, r, low, few, front, len, slen, reaped);
      }

  says_rx : (q : ℕ) (d : RxDriverView) (e : RxDeviceView) (f : RxView) → f ≡ rx.facts_of d e → rx.IsOrdered f → HandsUp g p a received q d → IsHeldRx d e → length d.heard ≤ length d.received → DriverSaysRx p received f
  says_rx q d e f is ord s h x =
      let made : f.made ≡ rx_made p (name_of g a q) = ap (λ (v : RxView). v.made) is ∙ s.made in
      let name : f.made.name ≡ name_of g a q = ap (λ (m : RxMade). m.name) made in
      let got : f.received ≡ d.received = ap (λ (v : RxView). v.received) is in
      let gave : f.delivered ≡ e.delivered = ap (λ (v : RxView). v.delivered) is in
      let told = h.told in let front = prefix_length f.received f.delivered ord.received in let l = ap length got in let m = ap length gave in record {
        made = made ∙ ap (rx_made p) (sym name);
        met = ord.received;
        drained = omega (arith, told, front, l, m, x);
        looks = ord.refused;
        handed = subst (λ (n : QueueName). filter (from_queue n.activation n.queue) received ≡ received_from n.activation n.queue 0 f.received) (sym name) (s.handed ∙ ap (received_from a q 0) (sym got));
      }

  -- what all of a kind come to
  pub record NewTx (from : ℕ) (more : List TxView) (es : List TxDeviceView) : Type 0 where
    pub says : AllByRecursion (SentPlan p next) more
    pub met : Pairwise MetTx more es
    pub names : EachQueue (λ q (f : TxView). f.made.name ≡ record { guest = g; activation = a; queue = q }) from more

  pub new_tx : (from : ℕ) (more : List TxView) (ds : List TxDriverView) (es : List TxDeviceView) → AreFactsOf more ds es → EachQueue (SendsPlan g p a next) from ds → Pairwise IsHeldTx ds es → AllByRecursion (EndsTx p a) ds → NewTx from more es
  new_tx from [] [] [] f s h x = record { says = tt; met = tt; names = tt }
  new_tx from [] [] (e ∷ es) f s h x = absurd f
  new_tx from [] (d ∷ ds) es f s h x = absurd f
  new_tx from (m ∷ more) [] es f s h x = absurd f
  new_tx from (m ∷ more) (d ∷ ds) [] f s h x = absurd f
  new_tx from (m ∷ more) (d ∷ ds) (e ∷ es) f s h x = let r = new_tx (suc from) more ds es f.3 s.1 h.1 x.1 in record {
    says = (sent_plan from d e m f.0 f.2 s.0 h.0 x.0, r.says);
    met = (record { taken = ap (λ (v : TxView). v.taken) f.0; completed = ap (λ (v : TxView). v.completed) f.0 }, r.met);
    names = (ap (λ (v : TxView). v.made.name) f.0 ∙ ap (λ (m : TxMade). m.name) s.0.made, r.names);
  }

  pub record NewRx (from : ℕ) (more : List RxView) (es : List RxDeviceView) : Type 0 where
    pub says : AllByRecursion (λ (f : RxView). DriverSaysRx p received f) more
    pub met : Pairwise MetRx more es
    pub names : EachQueue (λ q (f : RxView). f.made.name ≡ record { guest = g; activation = a; queue = q }) from more

  pub new_rx : (from : ℕ) (more : List RxView) (ds : List RxDriverView) (es : List RxDeviceView) → AreRxFactsOf more ds es → EachQueue (HandsUp g p a received) from ds → Pairwise IsHeldRx ds es → AllByRecursion (λ (d : RxDriverView). length d.heard ≤ length d.received) ds → NewRx from more es
  new_rx from [] [] [] f s h x = record { says = tt; met = tt; names = tt }
  new_rx from [] [] (e ∷ es) f s h x = absurd f
  new_rx from [] (d ∷ ds) es f s h x = absurd f
  new_rx from (m ∷ more) [] es f s h x = absurd f
  new_rx from (m ∷ more) (d ∷ ds) [] f s h x = absurd f
  new_rx from (m ∷ more) (d ∷ ds) (e ∷ es) f s h x = let r = new_rx (suc from) more ds es f.3 s.1 h.1 x.1 in record {
    says = (says_rx from d e m f.0 f.2 s.0 h.0 x.0, r.says);
    met = (record { delivered = ap (λ (v : RxView). v.delivered) f.0; refused = ap (λ (v : RxView). v.refused) f.0 }, r.met);
    names = (ap (λ (v : RxView). v.made.name) f.0 ∙ ap (λ (m : RxMade). m.name) s.0.made, r.names);
  }

facts_count_tx : (more : List TxView) (ds : List TxDriverView) (es : List TxDeviceView) → AreFactsOf more ds es → length more ≡ length ds
facts_count_tx [] [] [] f = refl
facts_count_tx [] [] (e ∷ es) f = absurd f
facts_count_tx [] (d ∷ ds) es f = absurd f
facts_count_tx (m ∷ more) [] es f = absurd f
facts_count_tx (m ∷ more) (d ∷ ds) [] f = absurd f
facts_count_tx (m ∷ more) (d ∷ ds) (e ∷ es) f = ap suc (facts_count_tx more ds es f.3)

facts_count_rx : (more : List RxView) (ds : List RxDriverView) (es : List RxDeviceView) → AreRxFactsOf more ds es → length more ≡ length ds
facts_count_rx [] [] [] f = refl
facts_count_rx [] [] (e ∷ es) f = absurd f
facts_count_rx [] (d ∷ ds) es f = absurd f
facts_count_rx (m ∷ more) [] es f = absurd f
facts_count_rx (m ∷ more) (d ∷ ds) [] f = absurd f
facts_count_rx (m ∷ more) (d ∷ ds) (e ∷ es) f = ap suc (facts_count_rx more ds es f.3)

every_append : {X : Type 0} (P : X → Type 0) (xs ys : List X) → AllByRecursion P xs → AllByRecursion P ys → AllByRecursion P (xs ++ ys)
every_append P [] ys h k = k
every_append P (x ∷ xs) ys h k = (h.0, every_append P xs ys h.1 k)

pub under_after : (v : DriverView) (t : Then) → v.at.stage ≡ Held t → IsUnderway v.plan v.at → IsUnderway v.plan (record v.at { stage = after t; ended = v.at.ended + 1 })
under_after v t on u = record {
  done = u.done;
  next = u.next;
  reached = u.reached;
  counted = let e = u.counted in let h = ap in_hand on in let c = ap to_come on in let h' = (after_is t).hand in let c' = (after_is t).come in omega (arith, e, h, c, h', c');
  quiet = λ b e. u.quiet b (ap is_down_in on ∙ sym (after_is t).down ∙ e);
  whole = λ e. u.whole (ap is_down_in on ∙ sym (after_is t).down ∙ e);
  closed = u.closed;
}

-- all ends of an activation have met
pub meets : (v : DriverView) (t : Then) (more : List TxView) (more' : List RxView) → Keeps v → v.at.stage ≡ Held t → AreFactsOf more v.tx v.tx_held → AreRxFactsOf more' v.rx v.rx_held
    → AllByRecursion (λ (d : TxDriverView). d.heard ≤ d.reaped) v.tx → AllByRecursion (λ (d : RxDriverView). length d.heard ≤ length d.received) v.rx
    → Keeps (record v { at = record v.at { stage = after t; ended = v.at.ended + 1 }; tx = []; rx = []; tx_held = []; rx_held = []; tx_facts = v.tx_facts ++ more; rx_facts = v.rx_facts ++ more' })
meets v t more more' k on facts facts' drained drained' = record {
  under = record {
    done = k.under.done;
    next = k.under.next;
    reached = k.under.reached;
    counted = let e = k.under.counted in let h = ap in_hand on in let c = ap to_come on in let h' = (after_is t).hand in let c' = (after_is t).come in omega (arith, e, h, c, h', c');
    quiet = λ b e. k.under.quiet b (ap is_down_in on ∙ sym (after_is t).down ∙ e);
    whole = λ e. k.under.whole (ap is_down_in on ∙ sym (after_is t).down ∙ e);
    closed = k.under.closed;
  };
  tx_count = sym ((after_is t).count v.plan.setup.tx_queues);
  rx_count = sym ((after_is t).count v.plan.setup.rx_queues);
  tx = tt;
  rx = tt;
  held = (after_is t).held;
  parting = (after_is t).parting v.plan (v.at.ended + 1);
  commands = record {
    sent = ap (λ (xs : List Ask). map ask_by (sent_by v.calls) ++ xs) ((after_is t).left (setup_now v.plan v.at) _) ∙ subst (λ (g : Stage). map ask_by (sent_by v.calls) ++ asks_left v.plan (record v.at { stage = g }) ≡ asks v.plan) on k.commands.sent;
    zero = k.commands.zero;
    leads = subst (λ (x : Option CommandView × state.DeviceState × Option HeldEnds). Leads v.calls.turns x.0 x.1 x.2) (λ i. (sym none i, sym ((after_is t).idle (setup_now v.plan v.at)) i, sym ((after_is t).none (other_ends [] [])) i)) led;
    gives = (after_is t).gives v.calls.turns v.calls.asked (other_ends [] []) none;
  };
  bags = k.bags ++ ends_handed v.tx_held v.rx_held ∷ [];
  bags_are = length-append k.bags (ends_handed v.tx_held v.rx_held ∷ []) ∙ ap (λ (n : ℕ). n + 1) k.bags_are;
  gifts_are = k.gifts_are ∙ ap (λ (g : Stage). k.bags ++ bag_in g v.tx_held v.rx_held) on ∙ sym (append-nil _) ∙ ap (λ (xs : List HandedView). (k.bags ++ ends_handed v.tx_held v.rx_held ∷ []) ++ xs) (sym (after_is t).bag);
  got_back = one_bag_more v.guest 0 k.bags (ends_handed v.tx_held v.rx_held) v.tx_facts more v.rx_facts more' k.got_back (let e : v.at.ended ≡ 0 + length k.bags = (let c = k.bags_are in omega (arith, c)) in subst (λ (n : ℕ). GotBack v.guest n (ends_handed v.tx_held v.rx_held) more more') e (record {
    tx_ends = v.tx_held;
    rx_ends = v.rx_held;
    handed = refl;
    met_tx = news.met;
    met_rx = news'.met;
    tx_names = news.names;
    rx_names = news'.names;
  }));
  tx_names = map-append (λ (f : TxView). f.made.name) v.tx_facts more ∙ (λ i. k.tx_names i ++ names_tx i) ∙ sym (more_names v.guest v.plan.setup.tx_queues v.at.ended);
  rx_names = map-append (λ (f : RxView). f.made.name) v.rx_facts more' ∙ (λ i. k.rx_names i ++ names_rx i) ∙ sym (more_names v.guest v.plan.setup.rx_queues v.at.ended);
  tx_facts = every_append (SentPlan v.plan v.at.next) v.tx_facts more k.tx_facts news.says;
  rx_facts = every_append (λ (f : RxView). DriverSaysRx v.plan v.received f) v.rx_facts more' k.rx_facts news'.says;
  owned = subst (λ (n : ℕ). AllByRecursion (λ (x : Received). (x.activation < n) × (x.queue < v.plan.setup.rx_queues)) v.received) (let h = ap in_hand on in let h' = (after_is t).hand in omega (arith, h, h')) k.owned;
  rising = k.rising;
  none_yet = λ a q le. k.none_yet a q (let h = ap in_hand on in let h' = (after_is t).hand in omega (arith, le, h, h'));
}
  where
    none : v.calls.asked ≡ None
    none = subst (λ (g : Stage). GivesBack g v.calls.turns v.calls.asked (other_ends v.tx v.rx)) on k.commands.gives

    led : Leads v.calls.turns None state.Idle None
    led = subst (λ (x : Option CommandView × Stage). Leads v.calls.turns x.0 (state_in x.1 (setup_now v.plan v.at)) (held_in x.1 (other_ends v.tx v.rx))) (λ i. (none i, on i)) k.commands.leads

    held : Pairwise IsHeldTx v.tx v.tx_held × Pairwise IsHeldRx v.rx v.rx_held
    held = subst (λ (g : Stage). AreHeld g v.tx v.rx v.tx_held v.rx_held) on k.held

    news : NewTx v.guest v.plan v.at.ended v.at.next v.received 0 more v.tx_held
    news = new_tx v.guest v.plan v.at.ended v.at.next v.received 0 more v.tx v.tx_held facts k.tx held.0 (all_ready t v.plan v.at.ended v.tx (subst (λ (g : Stage). IsParting g v.plan v.at.ended v.tx) on k.parting) drained)

    news' : NewRx v.guest v.plan v.at.ended v.at.next v.received 0 more' v.rx_held
    news' = new_rx v.guest v.plan v.at.ended v.at.next v.received 0 more' v.rx v.rx_held facts' k.rx held.1 drained'

    names_tx : map (λ (f : TxView). f.made.name) more ≡ queue_names v.guest v.plan.setup.tx_queues v.at.ended
    names_tx = names_from (λ (f : TxView). f.made.name) v.guest v.at.ended 0 more news.names ∙ ap (λ (n : ℕ). queue_names v.guest n v.at.ended) (facts_count_tx more v.tx v.tx_held facts ∙ k.tx_count ∙ ap (λ (g : Stage). count_in g v.plan.setup.tx_queues) on)

    names_rx : map (λ (f : RxView). f.made.name) more' ≡ queue_names v.guest v.plan.setup.rx_queues v.at.ended
    names_rx = names_from (λ (f : RxView). f.made.name) v.guest v.at.ended 0 more' news'.names ∙ ap (λ (n : ℕ). queue_names v.guest n v.at.ended) (facts_count_rx more' v.rx v.rx_held facts' ∙ k.rx_count ∙ ap (λ (g : Stage). count_in g v.plan.setup.rx_queues) on)
