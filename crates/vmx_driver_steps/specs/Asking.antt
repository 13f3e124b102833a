-- Commands are sent and answered.
use Rattle.std.proofs.Common.{◌≡◌, ℕ, ◌+◌, ◌<◌, Bool, true, false, true≢false, List, [], ◌∷◌, ◌++◌, length, map, refl, ap, sym, ◌∙◌, subst, arith, Option, Some, None, nat_eq, append_assoc, append-nil}
use Rattle.std.specs.List.{AllByRecursion, filter}
use Rattle.std.specs.Prelude.{⊤}
use Rattle.std.proofs.lemmas.Bool.Decides.{nat_tests}
use Rattle.vmx_device_state.specs.DeviceState.{DeviceState}
use Rattle.std.proofs.lemmas.List.{map-append}
use Rattle.vmx_io.specs.declared.handed.HandedView.{HandedView}
use Rattle.vmx_ends.specs.Transmit.{TxDriverView, TxDeviceView, posted, descriptors}
use Rattle.vmx_ends.specs.Receive.{RxDriverView, RxDeviceView, used, pieces_of}
use Rattle.vmx_ends.specs.HandedEnds.{ends_handed}
use Rattle.vmx_device_state.specs.Orders.{order_of}
use Rattle.vmx_device_state.specs.Deals.{Held as HeldEnds, held_as, deal_by, deal_of, held_after, AreEndsBack, Deal, Stops}
use Rattle.vmx_device_state.specs.declared.order.Order.{Order}
use Rattle.vmx_device_state.specs.declared.order.Order.TheVariants.{Activate, Stop, Update, Unknown, Get}
use Rattle.vmx_device_state.specs.declared.turn.CommandView.{CommandView}
use Rattle.vmx_device_state.specs.declared.turn.AnswerView.{AnswerView}
use Rattle.vmx_device_state.specs.declared.turn.Turn.{Turn}
use Rattle.vmx_regs.specs.declared.known.Calls.{Calls}
use Rattle.vmx_regs.specs.Turns.{IsTurn}
use Rattle.vmx_regs.specs.Rule.{turn_of, commands_of, with_asked}
use Rattle.vmx_regs.specs.Lawful.{commands_of_snoc}
use Rattle.vmx_model.specs.declared.guest.GuestPlan.{GuestPlan}
use Rattle.vmx_model.specs.declared.journal.Received.{Received}
use Rattle.vmx_model.specs.Plan.{Ask, asks}
use Rattle.vmx_model.specs.Account.{tx_made, rx_made, from_queue, received_from}
use Rattle.vmx_model.specs.Bags.{EachQueue, Pairwise, gift, gifts}
use Rattle.vmx_driver_steps.specs.declared.progress.Then.{Then}
use Rattle.vmx_driver_steps.specs.declared.progress.Stage.{Stage}
use Rattle.vmx_driver_steps.specs.declared.progress.Stage.TheVariants.{Fresh, Active, Stopping, Held, Quiet, Ended}
use Rattle.vmx_driver_steps.specs.declared.progress.Progress.{Progress}
use Rattle.vmx_driver_steps.specs.Progress.{in_hand, to_come, is_down_in, count_in, setup_now, asks_left, IsUnderway}
use Rattle.vmx_driver_steps.specs.Driver.{DriverView, Keeps, Commands, Leads, GivesBack, IsNoStop, AreHeld, bag_in, ask_by, other_ends, state_in, held_in, SendsPlan, HandsUp, AreOneTx, AreOneRx, IsReady, IsParting, name_of, posted_as}
use Rattle.vmx_driver_steps.specs.Sending.{Answered, answered, gifts_snoc}
use Rattle.vmx_driver_steps.specs.Back.{GaveBack, gave_back, ends_back}
use Rattle.vmx_driver_steps.specs.Each.{each_map, each_pair, pair_length, pair_part}
use Rattle.vmx_driver_steps.specs.Queues.{PassedAllTx, PassedAllRx}
use Rattle.vmx_driver_steps.specs.Noting.{IsNotedTx, IsNotedRx, all_still_tx, all_still_rx, all_held_tx, all_held_rx, same_bag, tx_pairs, rx_pairs}
use Rattle.vmx_driver_steps.specs.declared.progress.Then.TheVariants.{Rest, Renew, End}

-- the device's ends are in hand
abbrev pub is_held : Stage → Bool
is_held (Held t) = true
is_held Fresh = false
is_held Active = false
is_held (Stopping t) = false
is_held Quiet = false
is_held Ended = false

none_held : (g : Stage) (tx : List TxDriverView) (rx : List RxDriverView) (txs : List TxDeviceView) (rxs : List RxDeviceView) → is_held g ≡ false → AreHeld g tx rx txs rxs → (txs ≡ []) × (rxs ≡ [])
none_held (Held t) tx rx txs rxs e h = absurd (true≢false e)
none_held Fresh tx rx txs rxs e h = h
none_held Active tx rx txs rxs e h = h
none_held (Stopping t) tx rx txs rxs e h = h
none_held Quiet tx rx txs rxs e h = h
none_held Ended tx rx txs rxs e h = h

free_held : (g : Stage) (tx : List TxDriverView) (rx : List RxDriverView) (txs : List TxDeviceView) (rxs : List RxDeviceView) → is_held g ≡ false → (txs ≡ []) × (rxs ≡ []) → AreHeld g tx rx txs rxs
free_held (Held t) tx rx txs rxs e h = absurd (true≢false e)
free_held Fresh tx rx txs rxs e h = h
free_held Active tx rx txs rxs e h = h
free_held (Stopping t) tx rx txs rxs e h = h
free_held Quiet tx rx txs rxs e h = h
free_held Ended tx rx txs rxs e h = h

no_bag : (g : Stage) (txs : List TxDeviceView) (rxs : List RxDeviceView) → is_held g ≡ false → bag_in g txs rxs ≡ []
no_bag (Held t) txs rxs e = absurd (true≢false e)
no_bag Fresh txs rxs e = refl
no_bag Active txs rxs e = refl
no_bag (Stopping t) txs rxs e = refl
no_bag Quiet txs rxs e = refl
no_bag Ended txs rxs e = refl

-- ------------------------------------------------------------ sending

-- one more command is sent
more_sent : (ts : List Turn) (o : Option CommandView) (c : CommandView) (left left' all : List Ask) → o ≡ None → left ≡ ask_by c ∷ left' → map ask_by (with_asked (commands_of ts) o) ++ left ≡ all
    → map ask_by (with_asked (commands_of ts) (Some c)) ++ left' ≡ all
more_sent ts o c left left' all none is e =
    ap (λ (xs : List Ask). xs ++ left') (map-append ask_by (commands_of ts) (c ∷ [])) ∙ append_assoc (map ask_by (commands_of ts)) (ask_by c ∷ []) left'
    ∙ (λ i. map ask_by (with_asked (commands_of ts) (sym none i)) ++ sym is i) ∙ e

-- a command with no ends is sent: from a stage to another
pub sends : (v : DriverView) (g : Stage) (d : ℕ) (c : CommandView) → Keeps v → v.calls.asked ≡ None → IsUnderway v.plan (record v.at { stage = g; done = d })
    → asks_left v.plan v.at ≡ ask_by c ∷ asks_left v.plan (record v.at { stage = g; done = d })
    → Leads v.calls.turns (Some c) (state_in g (setup_now v.plan (record v.at { stage = g; done = d }))) (held_in g (other_ends v.tx v.rx))
    → GivesBack g v.calls.turns (Some c) (other_ends v.tx v.rx)
    → ((n : ℕ) → count_in g n ≡ count_in v.at.stage n) → in_hand g ≡ in_hand v.at.stage → is_held v.at.stage ≡ false → is_held g ≡ false → IsParting g v.plan v.at.ended v.tx
    → Keeps (record v { at = record v.at { stage = g; done = d }; calls = record v.calls { asked = Some c } })
sends v g d c k none under left leads gives count hand free free' parting = record {
  parting = parting;
  under = under;
  tx_count = k.tx_count ∙ sym (count v.plan.setup.tx_queues);
  rx_count = k.rx_count ∙ sym (count v.plan.setup.rx_queues);
  tx = k.tx;
  rx = k.rx;
  held = free_held g v.tx v.rx v.tx_held v.rx_held free' (none_held v.at.stage v.tx v.rx v.tx_held v.rx_held free k.held);
  commands = record {
    sent = more_sent v.calls.turns v.calls.asked c (asks_left v.plan v.at) (asks_left v.plan (record v.at { stage = g; done = d })) (asks v.plan) none left k.commands.sent;
    zero = k.commands.zero;
    leads = leads;
    gives = gives;
  };
  bags = k.bags;
  bags_are = k.bags_are;
  gifts_are = k.gifts_are ∙ ap (λ (xs : List HandedView). k.bags ++ xs) (no_bag v.at.stage v.tx_held v.rx_held free ∙ sym (no_bag g v.tx_held v.rx_held free'));
  got_back = k.got_back;
  tx_names = k.tx_names;
  rx_names = k.rx_names;
  tx_facts = k.tx_facts;
  rx_facts = k.rx_facts;
  owned = subst (λ (n : ℕ). AllByRecursion (λ (x : Received). (x.activation < v.at.ended + n) × (x.queue < v.plan.setup.rx_queues)) v.received) (sym hand) k.owned;
  rising = k.rising;
  none_yet = λ a q le. k.none_yet a q (omega (arith, le, hand));
}

-- ------------------------------------------------------------ new queues

-- new ends of a queue
abbrev pub IsNewTx : ℕ → GuestPlan → ℕ → ℕ → TxDriverView → Type 0
IsNewTx g p a q d = (d.made ≡ tx_made p (name_of g a q)) × (d.sent ≡ []) × (d.reaped ≡ 0)

abbrev pub IsNewRx : ℕ → GuestPlan → ℕ → ℕ → RxDriverView → Type 0
IsNewRx g p a q d = (d.made ≡ rx_made p (name_of g a q)) × (d.received ≡ [])

none_from : (a q : ℕ) (xs : List Received) (n : ℕ) → AllByRecursion (λ (x : Received). (x.activation < a) × (x.queue < n)) xs → filter (from_queue a q) xs ≡ []
none_from a q [] n h = refl
none_from a q (x ∷ xs) n h = let lt = h.0.0 in let other : nat_eq x.activation a ≡ false = grind (arith, nat_tests) in rw other (none_from a q xs n h.1)

-- an activation is sent with new ends
pub activates : (v : DriverView) (d : ℕ) (c : CommandView) (tx' : List TxDriverView) (rx' : List RxDriverView) → Keeps v → v.calls.asked ≡ None → IsUnderway v.plan (record v.at { stage = Active; done = d })
    → asks_left v.plan v.at ≡ ask_by c ∷ asks_left v.plan (record v.at { stage = Active; done = d })
    → Leads v.calls.turns (Some c) (state_in Active (setup_now v.plan (record v.at { stage = Active; done = d }))) (Some (other_ends tx' rx'))
    → (order_of c.number ≡ Stop → ⊥) → in_hand v.at.stage ≡ 0 → is_held v.at.stage ≡ false
    → length tx' ≡ v.plan.setup.tx_queues → length rx' ≡ v.plan.setup.rx_queues
    → EachQueue (IsNewTx v.guest v.plan v.at.ended) 0 tx' → EachQueue (IsNewRx v.guest v.plan v.at.ended) 0 rx'
    → Keeps (record v { at = record v.at { stage = Active; done = d }; calls = record v.calls { asked = Some c }; tx = tx'; rx = rx' })
activates v d c tx' rx' k none under left leads no_stop hand free many_tx many_rx new_tx new_rx = record {
  parting = tt;
  under = under;
  tx_count = many_tx;
  rx_count = many_rx;
  tx = each_map (IsNewTx v.guest v.plan v.at.ended) (SendsPlan v.guest v.plan v.at.ended v.at.next) 0 tx' (λ q x n. let len = ap length n.1 in let reaped = n.2 in record {
    made = n.0;
    sent = n.1 ∙ ap (map posted_as) (sym (k.none_yet v.at.ended q (omega (arith, hand))));
    reaped = omega (arith, reaped);
    posted = let e : posted x ≡ 0 = ap (descriptors x.made) n.1 in omega (arith, e);
  }) new_tx;
  rx = each_map (IsNewRx v.guest v.plan v.at.ended) (HandsUp v.guest v.plan v.at.ended v.received) 0 rx' (λ q x n. record {
    made = n.0;
    handed = none_from v.at.ended q v.received v.plan.setup.rx_queues owned_before ∙ sym (ap (received_from v.at.ended q 0) n.1);
    positions = let e : used pieces_of x.received ≡ 0 = ap (used pieces_of) n.1 in omega (arith, e);
  }) new_rx;
  held = none_held v.at.stage v.tx v.rx v.tx_held v.rx_held free k.held;
  commands = record {
    sent = more_sent v.calls.turns v.calls.asked c (asks_left v.plan v.at) (asks_left v.plan (record v.at { stage = Active; done = d })) (asks v.plan) none left k.commands.sent;
    zero = k.commands.zero;
    leads = leads;
    gives = no_stop;
  };
  bags = k.bags;
  bags_are = k.bags_are;
  gifts_are = k.gifts_are ∙ ap (λ (xs : List HandedView). k.bags ++ xs) (no_bag v.at.stage v.tx_held v.rx_held free);
  got_back = k.got_back;
  tx_names = k.tx_names;
  rx_names = k.rx_names;
  tx_facts = k.tx_facts;
  rx_facts = k.rx_facts;
  owned = raise v.received owned_before;
  rising = k.rising;
  none_yet = λ a q le. k.none_yet a q (omega (arith, le, hand));
}
  where
    owned_before : AllByRecursion (λ (x : Received). (x.activation < v.at.ended) × (x.queue < v.plan.setup.rx_queues)) v.received
    owned_before = let e : v.at.ended + in_hand v.at.stage ≡ v.at.ended = omega (arith, hand) in subst (λ (n : ℕ). AllByRecursion (λ (x : Received). (x.activation < n) × (x.queue < v.plan.setup.rx_queues)) v.received) e k.owned

    raise : (xs : List Received) → AllByRecursion (λ (x : Received). (x.activation < v.at.ended) × (x.queue < v.plan.setup.rx_queues)) xs → AllByRecursion (λ (x : Received). (x.activation < v.at.ended + 1) × (x.queue < v.plan.setup.rx_queues)) xs
    raise [] h = tt
    raise (x ∷ xs) h = let lt = h.0.0 in ((omega (arith, lt), h.0.1), raise xs h.1)

-- ------------------------------------------------------------ answers

no_gift : (o : Order) (h : Option HeldEnds) (ends : Option HandedView) → (o ≡ Stop → ⊥) → gift (deal_by o) h ends ≡ []
no_gift Activate h ends f = refl
no_gift Stop h ends f = absurd (f refl)
no_gift (Update part) h ends f = refl
no_gift Unknown h ends f = refl
no_gift Get h ends f = refl

zeros : (ts : List Turn) (t : Turn) → AllByRecursion (λ (t : Turn). t.answer.value ≡ 0) ts → t.answer.value ≡ 0 → AllByRecursion (λ (t : Turn). t.answer.value ≡ 0) (ts ++ t ∷ [])
zeros [] t h e = (e, tt)
zeros (x ∷ ts) t h e = (h.0, zeros ts t h.1 e)

still_sent : (ts : List Turn) (o : Option CommandView) (c : CommandView) (a : AnswerView) (left all : List Ask) → o ≡ Some c → map ask_by (with_asked (commands_of ts) o) ++ left ≡ all → map ask_by (with_asked (commands_of (ts ++ turn_of c a ∷ [])) None) ++ left ≡ all
still_sent ts o c a left all is e = (λ i. map ask_by (commands_of_snoc ts (turn_of c a) i) ++ left) ∙ (λ i. map ask_by (with_asked (commands_of ts) (sym is i)) ++ left) ∙ e

leads_of : (ts : List Turn) (o : Option CommandView) (c : CommandView) (s : DeviceState) (h : Option HeldEnds) → o ≡ Some c → Leads ts o s h → Leads ts (Some c) s h
leads_of ts o c s h is l = subst (λ (x : Option CommandView). Leads ts x s h) is l

-- a driver waits for an answer other than that to a quiesce or a reset
abbrev pub Waits : Stage → Type 0
Waits Active = ⊤
Waits Quiet = ⊤
Waits Fresh = ⊥
Waits (Stopping t) = ⊥
Waits (Held t) = ⊥
Waits Ended = ⊥

no_stop : (g : Stage) (past : List Turn) (o : Option CommandView) (c : CommandView) (ends : HeldEnds) → Waits g → o ≡ Some c → GivesBack g past o ends → order_of c.number ≡ Stop → ⊥
no_stop Active past o c ends w is h = subst IsNoStop is h
no_stop Quiet past o c ends w is h = subst IsNoStop is h
no_stop Fresh past o c ends w is h = absurd w
no_stop (Stopping t) past o c ends w is h = absurd w
no_stop (Held t) past o c ends w is h = absurd w
no_stop Ended past o c ends w is h = absurd w

gives_none : (g : Stage) (past : List Turn) (ends : HeldEnds) → Waits g → GivesBack g past None ends
gives_none Active past ends w = tt
gives_none Quiet past ends w = tt
gives_none Fresh past ends w = absurd w
gives_none (Stopping t) past ends w = absurd w
gives_none (Held t) past ends w = absurd w
gives_none Ended past ends w = absurd w

pub waits_free : (g : Stage) → Waits g → is_held g ≡ false
waits_free Active w = refl
waits_free Quiet w = refl
waits_free Fresh w = refl
waits_free (Stopping t) w = refl
waits_free (Held t) w = absurd w
waits_free Ended w = refl

-- the calls after an answer
abbrev pub after_answer : Calls → CommandView → AnswerView → Calls
after_answer v c a = record v { turns = v.turns ++ turn_of c a ∷ []; asked = None }

-- an activation or an update was answered
pub answers : (v : DriverView) (c : CommandView) (a : AnswerView) → Keeps v → Waits v.at.stage → v.calls.asked ≡ Some c → IsTurn v.calls.turns (turn_of c a) → Keeps (record v { calls = after_answer v.calls c a })
answers v c a k waits is turn =
    let told = answered v.calls.turns c a (state_in v.at.stage (setup_now v.plan v.at)) (held_in v.at.stage (other_ends v.tx v.rx)) (leads_of v.calls.turns v.calls.asked c (state_in v.at.stage (setup_now v.plan v.at)) (held_in v.at.stage (other_ends v.tx v.rx)) is k.commands.leads) turn in
    let free = waits_free v.at.stage waits in
    let none : gift (deal_of c.number a.value) (held_after v.calls.turns) a.ends ≡ [] =
    ap (λ (d : Deal). gift d (held_after v.calls.turns) a.ends) (ap (deal_of c.number) told.zero) ∙ no_gift (order_of c.number) (held_after v.calls.turns) a.ends (no_stop v.at.stage v.calls.turns v.calls.asked c (other_ends v.tx v.rx) waits is k.commands.gives) in record {
      under = k.under;
      tx_count = k.tx_count;
      rx_count = k.rx_count;
      tx = k.tx;
      rx = k.rx;
      held = k.held;
      parting = k.parting;
      commands = record {
        sent = still_sent v.calls.turns v.calls.asked c a (asks_left v.plan v.at) (asks v.plan) is k.commands.sent;
        zero = zeros v.calls.turns (turn_of c a) k.commands.zero told.zero;
        leads = told.leads;
        gives = gives_none v.at.stage (v.calls.turns ++ turn_of c a ∷ []) (other_ends v.tx v.rx) waits;
      };
      bags = k.bags;
      bags_are = k.bags_are;
      gifts_are = gifts_snoc v.calls.turns (turn_of c a) ∙ ap (λ (xs : List HandedView). gifts v.calls.turns ++ xs) none ∙ append-nil (gifts v.calls.turns) ∙ k.gifts_are;
      got_back = k.got_back;
      tx_names = k.tx_names;
      rx_names = k.rx_names;
      tx_facts = k.tx_facts;
      rx_facts = k.rx_facts;
      owned = k.owned;
      rising = k.rising;
      none_yet = k.none_yet;
    }

-- ------------------------------------------------------------ ends that come back

gift_there : (h : Option HeldEnds) (ends : HeldEnds) (e : HandedView) → h ≡ Some ends → gift Stops h (Some e) ≡ e ∷ []
gift_there None ends e is = absurd (cc is)
gift_there (Some hs) ends e is = refl

same_stage : (p : GuestPlan) (s : Progress) (t : Then) → s.stage ≡ Stopping t → record s { stage = Stopping t } ≡ s
same_stage p s t e = λ i. record s { stage = sym e i }

-- what the answer to a quiesce or a reset brings
pub record BringsBack (v : DriverView) (c : CommandView) (a : AnswerView) : Type 0 where
  pub bag : HandedView
  pub is : a.ends ≡ Some bag
  pub zero : a.value ≡ 0
  pub pairs : (txs : List TxDeviceView) (rxs : List RxDeviceView) → bag ≡ ends_handed txs rxs → Pairwise AreOneTx v.tx txs × Pairwise AreOneRx v.rx rxs

module _ (v : DriverView) (t : Then) (c : CommandView) (a : AnswerView) (k : Keeps v) (on : v.at.stage ≡ Stopping t) (is : v.calls.asked ≡ Some c) (turn : IsTurn v.calls.turns (turn_of c a)) where
  gives_is : GivesBack (Stopping t) v.calls.turns v.calls.asked (other_ends v.tx v.rx)
  gives_is = subst (λ (g : Stage). GivesBack g v.calls.turns v.calls.asked (other_ends v.tx v.rx)) on k.commands.gives

  c_is : gives_is.1 ≡ c
  c_is = cc (sym gives_is.2 ∙ is)

  stops : order_of c.number ≡ Stop
  stops = ap (λ (x : CommandView). order_of x.number) (sym c_is) ∙ gives_is.3

  told : Answered v.calls.turns c a (state_in v.at.stage (setup_now v.plan v.at)) (held_in v.at.stage (other_ends v.tx v.rx))
  told = answered v.calls.turns c a (state_in v.at.stage (setup_now v.plan v.at)) (held_in v.at.stage (other_ends v.tx v.rx)) (leads_of v.calls.turns v.calls.asked c (state_in v.at.stage (setup_now v.plan v.at)) (held_in v.at.stage (other_ends v.tx v.rx)) is k.commands.leads) turn

  gave : GaveBack (other_ends v.tx v.rx) a.ends
  gave = gave_back (held_after v.calls.turns) c.ends a.ends (other_ends v.tx v.rx) gives_is.0 (subst (λ (o : Order). AreEndsBack (deal_by o) (held_after v.calls.turns) c.ends a.ends) stops told.back)

  pub brings : BringsBack v c a
  brings = record {
    bag = gave.bag;
    is = gave.is;
    zero = told.zero;
    pairs = λ txs rxs e. ends_back v.tx v.rx txs rxs (ap held_as (sym e) ∙ gave.ends_are) (ap (λ (x : HandedView). x.whole) (sym e) ∙ gave.whole);
  }

  -- the device's ends are in the driver's hands
  pub takes_back : (txs : List TxDeviceView) (rxs : List RxDeviceView) (tx' : List TxDriverView) (rx' : List RxDriverView) (txs' : List TxDeviceView) (rxs' : List RxDeviceView) → a.ends ≡ Some (ends_handed txs rxs)
      → PassedAllTx v.tx txs tx' txs' → PassedAllRx v.rx rxs rx' rxs'
      → Keeps (record v { at = record v.at { stage = Held t }; calls = after_answer v.calls c a; tx = tx'; rx = rx'; tx_held = txs'; rx_held = rxs' })
  takes_back txs rxs tx' rx' txs' rxs' ends ptx prx = record {
    under = under_held k.under;
    tx_count = pair_length IsNotedTx v.tx tx' same_tx ∙ k.tx_count ∙ ap (λ (g : Stage). count_in g v.plan.setup.tx_queues) on;
    rx_count = pair_length IsNotedRx v.rx rx' same_rx ∙ k.rx_count ∙ ap (λ (g : Stage). count_in g v.plan.setup.rx_queues) on;
    tx = each_pair (SendsPlan v.guest v.plan v.at.ended v.at.next) (SendsPlan v.guest v.plan v.at.ended v.at.next) IsNotedTx 0 v.tx tx'
        (λ q x y r s. let few = s.posted in let low = s.reaped in let same = ap posted r in let len = ap (λ (z : TxDriverView). length z.sent) r in let reaped = ap (λ (z : TxDriverView). z.reaped) r in record {
          made = ap (λ (z : TxDriverView). z.made) r ∙ s.made;
          sent = ap (λ (z : TxDriverView). z.sent) r ∙ s.sent;
          reaped = omega (arith, low, len, reaped);
          posted = omega (arith, few, same, len);
        }) same_tx k.tx;
    rx = each_pair (HandsUp v.guest v.plan v.at.ended v.received) (HandsUp v.guest v.plan v.at.ended v.received) IsNotedRx 0 v.rx rx'
        (λ q x y r s. let few = s.positions in let same = ap (λ (z : RxDriverView). used pieces_of z.received) r in let len = ap (λ (z : RxDriverView). length z.received) r in record {
          made = ap (λ (z : RxDriverView). z.made) r ∙ s.made;
          handed = s.handed ∙ ap (received_from v.at.ended q 0) (sym (ap (λ (z : RxDriverView). z.received) r));
          positions = omega (arith, few, same, len);
        }) same_rx k.rx;
    held = (all_held_tx v.tx txs tx' txs' pairs_are.0 ptx, all_held_rx v.rx rxs rx' rxs' pairs_are.1 prx);
    parting = ready t (subst (λ (g : Stage). IsParting g v.plan v.at.ended v.tx) on k.parting);
    commands = subst (λ (h : HeldEnds). Commands v.plan (record v.at { stage = Held t }) h (after_answer v.calls c a)) (sym ends_same) (record {
      sent = subst (λ (g : Stage). map ask_by (with_asked (commands_of (v.calls.turns ++ turn_of c a ∷ [])) None) ++ asks_left v.plan (record v.at { stage = g }) ≡ asks v.plan) on
          (still_sent v.calls.turns v.calls.asked c a (asks_left v.plan v.at) (asks v.plan) is k.commands.sent);
      zero = zeros v.calls.turns (turn_of c a) k.commands.zero told.zero;
      leads = subst (λ (g : Stage). Leads (v.calls.turns ++ turn_of c a ∷ []) None (state_in g (setup_now v.plan v.at)) (held_in g (other_ends v.tx v.rx))) on told.leads;
      gives = refl;
    });
    bags = k.bags;
    bags_are = k.bags_are;
    gifts_are = gifts_snoc v.calls.turns (turn_of c a)
        ∙ (λ i. gifts v.calls.turns ++ gift (deal_is i) (held_after v.calls.turns) (ends i)) ∙ ap (λ (xs : List HandedView). gifts v.calls.turns ++ xs) (gift_there (held_after v.calls.turns) (other_ends v.tx v.rx) (ends_handed txs rxs) gives_is.0)
        ∙ ap (λ (xs : List HandedView). xs ++ ends_handed txs rxs ∷ []) (k.gifts_are ∙ ap (λ (xs : List HandedView). k.bags ++ xs) (ap (λ (g : Stage). bag_in g v.tx_held v.rx_held) on) ∙ append-nil k.bags)
        ∙ ap (λ (x : HandedView). k.bags ++ x ∷ []) (sym (same_bag txs txs' rxs rxs' (all_still_tx v.tx txs tx' txs' pairs_are.0 ptx) (all_still_rx v.rx rxs rx' rxs' pairs_are.1 prx)));
    got_back = k.got_back;
    tx_names = k.tx_names;
    rx_names = k.rx_names;
    tx_facts = k.tx_facts;
    rx_facts = k.rx_facts;
    owned = subst (λ (n : ℕ). AllByRecursion (λ (x : Received). (x.activation < v.at.ended + n) × (x.queue < v.plan.setup.rx_queues)) v.received) (ap in_hand on) k.owned;
    rising = k.rising;
    none_yet = λ a q le. k.none_yet a q (let e = ap in_hand on in omega (arith, le, e));
  }
    where
      deal_is : deal_of c.number a.value ≡ Stops
      deal_is = ap (deal_of c.number) told.zero ∙ ap deal_by stops

      pairs_are : Pairwise AreOneTx v.tx txs × Pairwise AreOneRx v.rx rxs
      pairs_are = let b : brings.bag ≡ ends_handed txs rxs = cc (sym brings.is ∙ ends) in brings.pairs txs rxs b

      same_tx : Pairwise IsNotedTx v.tx tx'
      same_tx = tx_pairs v.tx txs tx' txs' ptx

      same_rx : Pairwise IsNotedRx v.rx rx'
      same_rx = rx_pairs v.rx rxs rx' rxs' prx

      keys_tx : map (λ (x : TxDriverView). x.key) tx' ≡ map (λ (x : TxDriverView). x.key) v.tx
      keys_tx = pair_part (λ (x : TxDriverView). x.key) IsNotedTx v.tx tx' (λ x y r. ap (λ (z : TxDriverView). z.key) r) same_tx

      keys_rx : map (λ (x : RxDriverView). x.key) rx' ≡ map (λ (x : RxDriverView). x.key) v.rx
      keys_rx = pair_part (λ (x : RxDriverView). x.key) IsNotedRx v.rx rx' (λ x y r. ap (λ (z : RxDriverView). z.key) r) same_rx

      ends_same : other_ends tx' rx' ≡ other_ends v.tx v.rx
      ends_same = λ i. record { keys = keys_tx i ++ keys_rx i; tx = pair_length IsNotedTx v.tx tx' same_tx i; rx = pair_length IsNotedRx v.rx rx' same_rx i; given = false }

      all_reaped : (xs ys : List TxDriverView) → Pairwise IsNotedTx xs ys → AllByRecursion (λ (d : TxDriverView). d.reaped ≡ length d.sent) xs → AllByRecursion (λ (d : TxDriverView). d.reaped ≡ length d.sent) ys
      all_reaped [] [] r h = tt
      all_reaped [] (y ∷ ys) r h = absurd r
      all_reaped (x ∷ xs) [] r h = absurd r
      all_reaped (x ∷ xs) (y ∷ ys) r h = (ap (λ (z : TxDriverView). z.reaped) r.0 ∙ h.0 ∙ sym (ap (λ (z : TxDriverView). length z.sent) r.0), all_reaped xs ys r.1 h.1)

      ready : (t : Then) → IsReady t v.plan v.at.ended v.tx → IsReady t v.plan v.at.ended tx'
      ready Rest o = all_reaped v.tx tx' same_tx o
      ready End o = all_reaped v.tx tx' same_tx o
      ready Renew o = o

      under_held : IsUnderway v.plan v.at → IsUnderway v.plan (record v.at { stage = Held t })
      under_held u = record {
        done = u.done;
        next = u.next;
        reached = u.reached;
        counted = let e = u.counted in let h = ap in_hand on in let f = ap to_come on in omega (arith, e, h, f);
        quiet = λ b e. u.quiet b (ap is_down_in on ∙ e);
        whole = λ e. u.whole (ap is_down_in on ∙ e);
        closed = u.closed;
      }
