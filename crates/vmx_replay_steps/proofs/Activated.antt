-- An activation: the device is active with new queues.
use Rattle.std.proofs.Common.{◌≡◌, ℕ, suc, ◌+◌, Bool, true, false, true≢false, List, [], ◌∷◌, ◌++◌, length, map, refl, sym, ap, ap₂, ◌∙◌, subst, arith, append-nil, Some, None, Option, inl}
use Rattle.std.specs.Prelude.{is_some, ◌&&◌, ◌||◌}
use Rattle.std.specs.Option.{option_map}
use Rattle.std.specs.List.{AllByRecursion}
use Rattle.vmx_io.specs.declared.handed.HandedView.{HandedView}
use Rattle.vmx_link.specs.Views.{LinkOutView}
use Rattle.vmx_ends.specs.Frames.{sent_of}
use Rattle.vmx_ends.specs.Transmit.{TxDriverView, TxDeviceView}
use Rattle.vmx_ends.specs.TransmitCore as txcore
use Rattle.vmx_ends.specs.Receive.{RxDriverView, RxDeviceView}
use Rattle.vmx_ends.specs.ReceiveCore as rxcore
use Rattle.vmx_ends.specs.HandedEnds.{ends_handed, all_of, any_of, is_fresh_tx, is_fresh_rx}
use Rattle.vmx_ends.specs.HandedLaws.{fresh_tx, fresh_rx}
use Rattle.vmx_device_state.specs.Deals.{Deal, Begins, deal_of}
use Rattle.vmx_device_state.specs.DeviceState as state
use Rattle.vmx_device_state.specs.SetupView.{SetupView, setup_view}
use Rattle.vmx_device_state.specs.declared.order.Order.TheVariants as order
use Rattle.vmx_device_state.specs.declared.turn.AnswerView.{AnswerView}
use Rattle.vmx_device_state.specs.declared.turn.CommandView.{CommandView}
use Rattle.vmx_machine_state.specs.Views.{EndsView, ActiveView, MachineView, ends_of, state_by, state_of, handed_of}
use Rattle.vmx_machine_state.specs.Ends.{ends_held}
use Rattle.vmx_model.specs.declared.guest.GuestPlan.{GuestPlan}
use Rattle.vmx_model.specs.declared.journal.Entry.TheVariants as entry
use Rattle.vmx_model.specs.Bags.{EachQueue, Pairwise}
use Rattle.vmx_model.specs.Lists.{count, upto}
use Rattle.vmx_model.specs.Plan.{activate_dev}
use Rattle.vmx_model.specs.Serial.{Seat, new_tx, new_rx, activated}
use Rattle.vmx_device_laws.specs.Views.{DeviceView}
use Rattle.vmx_device_laws.specs.Pairs.{tx_of, rx_of}
use Rattle.vmx_device_laws.proofs.Lists.{and_both}
use Rattle.vmx_device_laws.proofs.Pairwise.{turn_pairs}
use Rattle.vmx_driver_steps.specs.declared.progress.Stage.{Stage}
use Rattle.vmx_driver_steps.specs.declared.progress.Stage.TheVariants.{Fresh, Active, Stopping, Held, Quiet, Ended}
use Rattle.vmx_driver_steps.specs.Progress.{in_hand, count_in, setup_now}
use Rattle.vmx_driver_steps.specs.Driver.{DriverView, state_in}
use Rattle.vmx_driver_steps.specs.Near.{IsNearTx, IsNearRx}
use Rattle.vmx_driver_steps.specs.Each.{pair_length}
use Rattle.vmx_driver_steps.specs.Driving.{ActivatesWith, TakesEnds, KeepsEnds}
use Rattle.vmx_driver_steps.specs.Asking.{IsNewTx, IsNewRx}
use Rattle.vmx_actor_laws.specs.Joint.{AreOfItsQueues, GoWith}
use Rattle.vmx_actor_laws.proofs.Joint.{leads_its_device}
use Rattle.vmx_note_laws.specs.Queues.{IsBehindRx}
use Rattle.vmx_replay_worlds.specs.Guests.{live_tx, live_rx, plain_look, met_tx, met_rx, joined, is_arrival, begun_by, ends_by, seat_of}
use Rattle.vmx_replay_worlds.specs.Worlds.{out_part, in_part}
use Rattle.vmx_trusted_turns.specs.Trusted.{IsTrusted}
use Rattle.vmx_replay_worlds.specs.Ports.{IsBare}
use Rattle.vmx_replay_steps.specs.Between.{IsThrough, IsNoted}
use Rattle.vmx_replay_steps.specs.Turns.{StandsTogether, RestsAfter}
use Rattle.vmx_replay_steps.specs.Commands.{WasAnswered, ActivatesBetween}
use Rattle.vmx_replay_steps.proofs.Polled.{none_in, no_items}
use Rattle.vmx_replay_steps.proofs.Idled.{rests}
use Rattle.vmx_replay_steps.proofs.Answered.{Served, served, rest}
use Rattle.vmx_replay_steps.proofs.Commanded.{dealt, no_errors_after, shows_active, no_arrival, near_txs, near_rxs, near_through, some_active, state_same}

-- ------------------------------------------------------------ new queues

or_both : (a b : Bool) → (a || b) ≡ false → (a ≡ false) × (b ≡ false)
or_both true b e = absurd (true≢false e)
or_both false b e = (refl, e)

none_given : {X : Type 0} (f : X → Bool) (xs : List X) → any_of f xs ≡ false → AllByRecursion (λ x. f x ≡ false) xs
none_given f [] e = tt
none_given f (x ∷ xs) e = let both = or_both (f x) (any_of f xs) e in (both.0, none_given f xs both.1)

new_txs : (g : ℕ) (p : GuestPlan) (a from : ℕ) (ds : List TxDriverView) (es : List TxDeviceView) → EachQueue (IsNewTx g p a) from ds → all_of is_fresh_tx es ≡ true → length es ≡ length ds
    → (joined live_tx ds es ≡ map (new_tx g p a) (upto from (length ds))) × Pairwise IsThrough ds es
new_txs g p a from [] [] n f e = (refl, tt)
new_txs g p a from [] (x ∷ es) n f e = absurd (omega (arith, e))
new_txs g p a from (d ∷ ds) [] n f e = absurd (omega (arith, e))
new_txs g p a from (d ∷ ds) (x ∷ es) n f e =
    let both = and_both (is_fresh_tx x) (all_of is_fresh_tx es) f in let fresh = fresh_tx x both.0 in
    let ih = new_txs g p a (suc from) ds es n.1 both.1 (omega (arith, e)) in
    let next : suc from ≡ from + 1 = omega arith in (
      ap₂ (λ (c : txcore.TxCore) (cs : List txcore.TxCore). c ∷ cs) (λ i. record { made = n.0.0 i; sent = n.0.1 i; reaped = fresh.1 i; completed = fresh.1 i; taken = length (fresh.0 i) }) (ih.0 ∙ ap (λ (k : ℕ). map (new_tx g p a) (upto k (length ds))) next),
      (ap sent_of fresh.0 ∙ sym n.0.1, ih.1),
    )

new_rxs : (g : ℕ) (p : GuestPlan) (a from : ℕ) (ds : List RxDriverView) (es : List RxDeviceView) → EachQueue (IsNewRx g p a) from ds → all_of is_fresh_rx es ≡ true → length es ≡ length ds → joined live_rx ds es ≡ map (new_rx g p a) (upto from (length ds))
new_rxs g p a from [] [] n f e = refl
new_rxs g p a from [] (x ∷ es) n f e = absurd (omega (arith, e))
new_rxs g p a from (d ∷ ds) [] n f e = absurd (omega (arith, e))
new_rxs g p a from (d ∷ ds) (x ∷ es) n f e =
    let both = and_both (is_fresh_rx x) (all_of is_fresh_rx es) f in let fresh = fresh_rx x both.0 in
    let ih = new_rxs g p a (suc from) ds es n.1 both.1 (omega (arith, e)) in
    let next : suc from ≡ from + 1 = omega arith in
    ap₂ (λ (c : rxcore.RxCore) (cs : List rxcore.RxCore). c ∷ cs) (λ i. record { made = n.0.0 i; delivered = fresh.0 i; received = length (n.0.1 i); refused = map (plain_look (n.0.0 i)) (fresh.1 i) }) (ih ∙ ap (λ (k : ℕ). map (new_rx g p a) (upto k (length ds))) next)

-- ends to which nothing was delivered yet
cancel : {X : Type 0} (xs ys zs : List X) → xs ++ ys ≡ xs ++ zs → ys ≡ zs
cancel [] ys zs e = e
cancel (x ∷ xs) ys zs e = let tail : xs ++ ys ≡ xs ++ zs = cc e in cancel xs ys zs tail

behind_new : (ds : List RxDriverView) (es now : List RxDeviceView) → map (λ (x : RxDeviceView). x.key) now ≡ map (λ (x : RxDriverView). x.key) ds → joined live_rx ds now ≡ joined live_rx ds es → all_of is_fresh_rx es ≡ true → Pairwise IsBehindRx ds now
behind_new [] es [] keys same f = tt
behind_new [] es (x ∷ now) keys same f = absurd (cc keys)
behind_new (d ∷ ds) es [] keys same f = absurd (cc keys)
behind_new (d ∷ ds) [] (x ∷ now) keys same f = absurd (cc same)
behind_new (d ∷ ds) (e ∷ es) (x ∷ now) keys same f =
    let both = and_both (is_fresh_rx e) (all_of is_fresh_rx es) f in
    let key : x.key ≡ d.key = cc keys in let more : map (λ (y : RxDeviceView). y.key) now ≡ map (λ (y : RxDriverView). y.key) ds = cc keys in
    let head : live_rx d x ≡ live_rx d e = cc same in let tail : joined live_rx ds now ≡ joined live_rx ds es = cc same in
    (record { key = sym key; heard = inl (ap (λ (c : rxcore.RxCore). c.delivered) head ∙ (fresh_rx e both.0).0) }, behind_new ds es now more tail both.1)

-- ------------------------------------------------------------ before it

given_is : (o : Option EndsView) (h : HandedView) → option_map handed_of o ≡ Some h → (e : EndsView) × (o ≡ Some e) × (handed_of e ≡ h)
given_is None h e = absurd (cc e)
given_is (Some x) h e = (x, refl, cc e)

active_in : (g : Stage) (a : ActiveView) (s : SetupView) → state_by (Some a) ≡ state_in g s → state.Active a.setup ≡ state.Active s
active_in Fresh a s e = absurd (cc e)
active_in Active a s e = e
active_in (Stopping t) a s e = absurd (cc e)
active_in (Held t) a s e = absurd (cc e)
active_in Quiet a s e = absurd (cc e)
active_in Ended a s e = absurd (cc e)

module _ (v v1 v2 : DriverView) (links : List LinkOutView) (worked : Bool) (old new : DeviceView) (b : ActivatesBetween v v1 v2 links worked old new) where
  abbrev p : ActivatesWith b.done v v1
  p = b.activates

  n : IsNoted v1 b.answers.told
  n = b.answers.noted

  abbrev c : CommandView
  c = record { number = activate_dev; image = b.activates.image; ends = Some (ends_handed b.activates.txs b.activates.rxs) }

  s : Served c b.answers.told v2 b.answers.takes old b.answers.once.asked
  s = served v v1 v2 links worked old new b.answers c (ap (λ (x : DriverView). x.calls.asked) p.is) (ap (λ (x : DriverView). x.calls.turns) p.is)

  number_is : s.obeys.number ≡ activate_dev
  number_is = ap (λ (x : CommandView). x.number) s.command

  value_is : s.obeys.value ≡ 0
  value_is = ap (λ (a : AnswerView). a.value) s.answer ∙ b.answers.takes.zero

  deal : deal_of s.obeys.number s.obeys.value ≡ Begins
  deal = dealt s.obeys.number activate_dev s.obeys.value order.Activate number_is value_is refl

  machine : b.answers.once.asked.machine ≡ s.obeys.machine
  machine = ap (λ (d : DeviceView). d.machine) s.obeys.is

  -- the ends that the driver gave
  given : (e : EndsView) × (s.obeys.answers.given ≡ Some e) × (handed_of e ≡ ends_handed b.activates.txs b.activates.rxs)
  given = given_is s.obeys.answers.given (ends_handed b.activates.txs b.activates.rxs) (ap (λ (x : CommandView). x.ends) s.command)

  on : (a : ActiveView) × (b.answers.once.asked.machine.active ≡ Some a) × (a.ends ≡ given.0)
  on = some_active b.answers.once.asked.machine.active given.0 (ap ends_of machine ∙ s.obeys.answers.applied.held ∙ ap (λ (d : Deal). ends_held d (ends_of old.machine) s.obeys.answers.given) deal ∙ given.1)

  keeps : KeepsEnds b.answers.told v2
  keeps = subst (λ (g : Stage). TakesEnds g b.answers.takes.answer.ends b.answers.told v2) (ap (λ (x : DriverView). x.at.stage) n.is ∙ ap (λ (x : DriverView). x.at.stage) p.is) b.answers.takes.ends

  stage : v2.at.stage ≡ Active
  stage = keeps.stage ∙ ap (λ (x : DriverView). x.at.stage) n.is ∙ ap (λ (x : DriverView). x.at.stage) p.is

  plan : v2.plan ≡ v.plan
  plan = b.answers.plan ∙ ap (λ (x : DriverView). x.plan) n.is ∙ ap (λ (x : DriverView). x.plan) p.is

  -- what is known of them
  fresh : (all_of is_fresh_tx given.0.tx ≡ true) × (all_of is_fresh_rx given.0.rx ≡ true)
  fresh = and_both (all_of is_fresh_tx given.0.tx) (all_of is_fresh_rx given.0.rx) (ap (λ (h : HandedView). h.fresh) given.2 ∙ ap₂ (λ (x y : Bool). x && y) p.tx.fresh p.rx.fresh)

  ungiven : (any_of (λ (e : TxDeviceView). e.given) given.0.tx ≡ false) × (any_of (λ (e : RxDeviceView). e.given) given.0.rx ≡ false)
  ungiven = or_both (any_of (λ (e : TxDeviceView). e.given) given.0.tx) (any_of (λ (e : RxDeviceView). e.given) given.0.rx) (ap (λ (h : HandedView). h.given) given.2 ∙ ap₂ (λ (x y : Bool). x || y) p.tx.given p.rx.given)

  many_tx : length v1.tx ≡ v.plan.setup.tx_queues
  many_tx = sym (pair_length IsNearTx v1.tx b.answers.told.tx n.tx) ∙ ap length (sym keeps.tx.0) ∙ b.answers.driver.tx_count ∙ (λ i. count_in (stage i) (plan i).setup.tx_queues)

  many_rx : length v1.rx ≡ v.plan.setup.rx_queues
  many_rx = sym (pair_length IsNearRx v1.rx b.answers.told.rx n.rx) ∙ ap length (sym keeps.rx.0) ∙ b.answers.driver.rx_count ∙ (λ i. count_in (stage i) (plan i).setup.rx_queues)

  txs : (joined live_tx v1.tx given.0.tx ≡ map (new_tx v.guest v.plan v.at.ended) (upto 0 (length v1.tx))) × Pairwise IsThrough v1.tx given.0.tx
  txs = new_txs v.guest v.plan v.at.ended 0 v1.tx given.0.tx p.tx.each fresh.0 (ap (λ (h : HandedView). h.tx) given.2 ∙ p.tx.len)

  rxs : joined live_rx v1.rx given.0.rx ≡ map (new_rx v.guest v.plan v.at.ended) (upto 0 (length v1.rx))
  rxs = new_rxs v.guest v.plan v.at.ended 0 v1.rx given.0.rx p.rx.each fresh.1 (ap (λ (h : HandedView). h.rx) given.2 ∙ p.rx.len)

  -- no queues were in hand before
  no_tx : v.tx ≡ []
  no_tx = no_items v.tx (b.answers.stands.driver.tx_count ∙ none_in v.at.stage v.plan.setup.tx_queues b.free)

  no_rx : v.rx ≡ []
  no_rx = no_items v.rx (b.answers.stands.driver.rx_count ∙ none_in v.at.stage v.plan.setup.rx_queues b.free)

  begun_was : v.at.ended ≡ begun_by v
  begun_was = plus_zero v.at.ended ∙ ap (λ (n : ℕ). v.at.ended + n) (sym b.free)
    where
      plus_zero : (n : ℕ) → n ≡ n + 0
      plus_zero n = omega arith

  begun : begun_by v2 ≡ begun_by v + 1
  begun = (λ i. (b.answers.takes.at i).ended + in_hand (stage i)) ∙ ap (λ (x : DriverView). x.at.ended + 1) n.is ∙ ap (λ (x : DriverView). x.at.ended + 1) p.is ∙ ap (λ (n : ℕ). n + 1) begun_was

  setup : setup_now v2.plan v2.at ≡ setup_now v.plan v.at
  setup = (λ i. setup_now (b.answers.plan i) (b.answers.takes.at i)) ∙ ap (λ (x : DriverView). setup_now x.plan x.at) n.is ∙ ap (λ (g : GuestPlan). setup_now g v1.at) (ap (λ (x : DriverView). x.plan) p.is) ∙ b.setup

  led : state_by b.answers.once.asked.machine.active ≡ state_in v2.at.stage (setup_now v2.plan v2.at)
  led = sym (state_same b.answers.once.asked.machine.active new.machine.active (turn_pairs worked old new b.answers.once).setup) ∙ (leads_its_device v2 new b.answers.driver b.answers.device b.answers.caught_up).state

  shows : (s.obeys.setup ≡ Some (length (map setup_view old.setups))) × (map setup_view s.obeys.setups ≡ map setup_view old.setups ++ setup_now v.plan v.at ∷ [])
  shows = shows_active old.setups s.obeys.setup s.obeys.setups (state_of s.obeys.machine) (setup_now v.plan v.at) s.obeys.shows
      (ap state_of (sym machine) ∙ ap state_by on.1 ∙ active_in v2.at.stage on.0 (setup_now v2.plan v2.at) (sym (ap state_by on.1) ∙ led) ∙ ap state.Active setup)

  -- the queues of before, and the new ones
  tx_now : map met_tx v2.tx_facts ++ joined live_tx v2.tx (ends_by b.answers.once.asked.machine.active (record { tx = v2.tx_held; rx = v2.rx_held })).tx
      ≡ (map met_tx v.tx_facts ++ joined live_tx v.tx (ends_by old.machine.active (record { tx = v.tx_held; rx = v.rx_held })).tx) ++ map (new_tx v.guest v.plan (begun_by v)) (upto 0 v.plan.setup.tx_queues)
  tx_now =
      let now : joined live_tx v2.tx (ends_by b.answers.once.asked.machine.active (record { tx = v2.tx_held; rx = v2.rx_held })).tx ≡ map (new_tx v.guest v.plan (begun_by v)) (upto 0 v.plan.setup.tx_queues) =
      ap₂ (joined live_tx) keeps.tx.0 (ap (λ (o : Option ActiveView). (ends_by o (record { tx = v2.tx_held; rx = v2.rx_held })).tx) on.1 ∙ ap (λ (e : EndsView). e.tx) on.2) ∙ near_txs v1.tx b.answers.told.tx given.0.tx n.tx ∙ txs.0 ∙ (λ i. map (new_tx v.guest v.plan (begun_was i)) (upto 0 (many_tx i))) in
      let was : map met_tx v.tx_facts ≡ map met_tx v.tx_facts ++ joined live_tx v.tx (ends_by old.machine.active (record { tx = v.tx_held; rx = v.rx_held })).tx =
      sym (append-nil (map met_tx v.tx_facts)) ∙ ap (λ (ds : List TxDriverView). map met_tx v.tx_facts ++ joined live_tx ds (ends_by old.machine.active (record { tx = v.tx_held; rx = v.rx_held })).tx) (sym no_tx) in
      ap₂ (λ (xs ys : List txcore.TxCore). xs ++ ys) (ap (map met_tx) (b.answers.takes.facts.0 ∙ ap (λ (x : DriverView). x.tx_facts) n.is ∙ ap (λ (x : DriverView). x.tx_facts) p.is) ∙ was) now

  rx_now : map met_rx v2.rx_facts ++ joined live_rx v2.rx (ends_by b.answers.once.asked.machine.active (record { tx = v2.tx_held; rx = v2.rx_held })).rx
      ≡ (map met_rx v.rx_facts ++ joined live_rx v.rx (ends_by old.machine.active (record { tx = v.tx_held; rx = v.rx_held })).rx) ++ map (new_rx v.guest v.plan (begun_by v)) (upto 0 v.plan.setup.rx_queues)
  rx_now =
      let now : joined live_rx v2.rx (ends_by b.answers.once.asked.machine.active (record { tx = v2.tx_held; rx = v2.rx_held })).rx ≡ map (new_rx v.guest v.plan (begun_by v)) (upto 0 v.plan.setup.rx_queues) =
      ap₂ (joined live_rx) keeps.rx.0 (ap (λ (o : Option ActiveView). (ends_by o (record { tx = v2.tx_held; rx = v2.rx_held })).rx) on.1 ∙ ap (λ (e : EndsView). e.rx) on.2) ∙ near_rxs v1.rx b.answers.told.rx given.0.rx n.rx ∙ rxs ∙ (λ i. map (new_rx v.guest v.plan (begun_was i)) (upto 0 (many_rx i))) in
      let was : map met_rx v.rx_facts ≡ map met_rx v.rx_facts ++ joined live_rx v.rx (ends_by old.machine.active (record { tx = v.tx_held; rx = v.rx_held })).rx =
      sym (append-nil (map met_rx v.rx_facts)) ∙ ap (λ (ds : List RxDriverView). map met_rx v.rx_facts ++ joined live_rx ds (ends_by old.machine.active (record { tx = v.tx_held; rx = v.rx_held })).rx) (sym no_rx) in
      ap₂ (λ (xs ys : List rxcore.RxCore). xs ++ ys) (ap (map met_rx) (b.answers.takes.facts.1 ∙ ap (λ (x : DriverView). x.rx_facts) n.is ∙ ap (λ (x : DriverView). x.rx_facts) p.is) ∙ was) now

  seat : seat_of (record { driver = v2; device = b.answers.once.asked }) ≡ activated v.guest v.plan (seat_of (record { driver = v; device = old }))
  seat = λ i. record {
    active = ap (λ (o : Option ActiveView). is_some o) on.1 i;
    setup = setup i;
    begun = begun i;
    seen = (ap (λ (d : DeviceView). count is_arrival d.entries) s.obeys.is ∙ no_arrival old.entries s.obeys.number s.obeys.value s.obeys.setup) i;
    entries = (ap (λ (d : DeviceView). d.entries) s.obeys.is ∙ (λ j. old.entries ++ entry.Setting (number_is j) (value_is j) (shows.0 j) ∷ [])) i;
    setups = (ap (λ (d : DeviceView). map setup_view d.setups) s.obeys.is ∙ shows.1) i;
    received = (b.answers.takes.received ∙ ap (λ (x : DriverView). x.received) n.is ∙ ap (λ (x : DriverView). x.received) p.is) i;
    tx = tx_now i;
    rx = rx_now i;
  }

  tx_ends : tx_of b.answers.once.asked.machine.active ≡ given.0.tx
  tx_ends = ap tx_of on.1 ∙ ap (λ (e : EndsView). e.tx) on.2

  rx_ends : rx_of b.answers.once.asked.machine.active ≡ given.0.rx
  rx_ends = ap rx_of on.1 ∙ ap (λ (e : EndsView). e.rx) on.2

  trusts : IsTrusted b.answers.once.asked.machine
  trusts = record {
    tx_stopped = ap (λ (m : MachineView). m.tx_stopped) machine ∙ no_errors_after s.obeys.number s.obeys.value old.machine.tx_stopped s.obeys.machine.tx_stopped s.obeys.answers.applied.tx_errors b.answers.stands.trusted.tx_stopped;
    rx_stopped = ap (λ (m : MachineView). m.rx_stopped) machine ∙ no_errors_after s.obeys.number s.obeys.value old.machine.rx_stopped s.obeys.machine.rx_stopped s.obeys.answers.applied.rx_errors b.answers.stands.trusted.rx_stopped;
    tx = subst (AllByRecursion (λ (e : TxDeviceView). e.given ≡ false)) (sym tx_ends) (none_given (λ (e : TxDeviceView). e.given) given.0.tx ungiven.0);
    rx = subst (AllByRecursion (λ (e : RxDeviceView). e.given ≡ false)) (sym rx_ends) (none_given (λ (e : RxDeviceView). e.given) given.0.rx ungiven.1);
  }

  through_ : Pairwise IsThrough v2.tx (tx_of b.answers.once.asked.machine.active)
  through_ = subst (λ (z : List TxDriverView × List TxDeviceView). Pairwise IsThrough z.0 z.1) (λ i. (sym keeps.tx.0 i, sym tx_ends i)) (near_through v1.tx b.answers.told.tx given.0.tx n.tx txs.1)

  input : b.answers.once.asked.input ≡ old.input
  input = ap (λ (d : DeviceView). d.input) s.obeys.is

  -- the rest of the turn found nothing
  after : RestsAfter v2 b.answers.once.asked new
  after = rests v2 links b.answers.once.asked new (rest v v1 v2 links worked old new b.answers c (ap (λ (x : DriverView). x.calls.asked) p.is) (ap (λ (x : DriverView). x.calls.turns) p.is)) trusts through_
      (subst (Pairwise IsBare links) (sym input) b.answers.bare) b.sent b.answers.pushed

  pub was_activated : WasAnswered (activated v.guest v.plan) v v2 old new
  was_activated = record {
    seat = after.same.seat ∙ seat;
    links = record {
      out = after.same.links.out ∙ ap (λ (d : DeviceView). map out_part d.out) s.obeys.is;
      input = after.same.links.input ∙ ap (map in_part) input;
    };
    trusted = after.trusted;
  }

  pub stands_activated : StandsTogether v2 new
  stands_activated = record { driver = b.answers.driver; device = b.answers.device; caught_up = b.answers.caught_up; trusted = after.trusted; through = after.through_ }

  -- the ends that the device has after the turn, of new queues to which nothing was delivered
  ends_now : (e : EndsView) × (ends_of new.machine ≡ Some e) × AreOfItsQueues v2 e
  ends_now = subst (λ (g : Stage). GoWith g v2 (ends_of new.machine)) stage (leads_its_device v2 new b.answers.driver b.answers.device b.answers.caught_up).ends

  on_now : (a : ActiveView) × (new.machine.active ≡ Some a) × (a.ends ≡ ends_now.0)
  on_now = some_active new.machine.active ends_now.0 ends_now.1

  rx_same : joined live_rx v2.rx ends_now.0.rx ≡ joined live_rx v2.rx given.0.rx
  rx_same = cancel (map met_rx v2.rx_facts) (joined live_rx v2.rx ends_now.0.rx) (joined live_rx v2.rx given.0.rx)
      (ap (λ (e : EndsView). map met_rx v2.rx_facts ++ joined live_rx v2.rx e.rx) (sym on_now.2) ∙ ap (λ (o : Option ActiveView). map met_rx v2.rx_facts ++ joined live_rx v2.rx (ends_by o (record { tx = v2.tx_held; rx = v2.rx_held })).rx) (sym on_now.1)
      ∙ ap (λ (x : Seat). x.rx) after.same.seat
      ∙ ap (λ (o : Option ActiveView). map met_rx v2.rx_facts ++ joined live_rx v2.rx (ends_by o (record { tx = v2.tx_held; rx = v2.rx_held })).rx) on.1 ∙ ap (λ (e : EndsView). map met_rx v2.rx_facts ++ joined live_rx v2.rx e.rx) on.2)

  pub behind_activated : Pairwise IsBehindRx v2.rx (rx_of new.machine.active)
  behind_activated = subst (Pairwise IsBehindRx v2.rx) (sym (ap rx_of on_now.1 ∙ ap (λ (e : EndsView). e.rx) on_now.2)) (behind_new v2.rx given.0.rx ends_now.0.rx ends_now.2.rx rx_same fresh.1)
