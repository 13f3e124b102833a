-- What always holds of a driver, where it is over, is the driver's part of the premises.
use Rattle.std.proofs.lemmas.Bool.Decides.{nat_tests, eqb_tells}
use Rattle.std.proofs.Common.{◌≡◌, ℕ, zero, suc, ◌+◌, ◌<◌, ◌≤◌, Bool, true, false, ◌&&◌, ◌||◌, true≢false, List, [], ◌∷◌, ◌++◌, length, take, drop, map, refl, ap, sym, ◌∙◌, subst, arith, Option, Some, None, nat_eq, if◌then◌else◌, append-nil, inl, inr}
use Rattle.std.specs.List.{filter, flat_map, find, AllByRecursion}
use Rattle.vmx_io.specs.declared.handed.HandedView.{HandedView}
use Rattle.vmx_ends.specs.Transmit.{TxView}
use Rattle.vmx_ends.specs.Receive.{RxView}
use Rattle.vmx_device_state.specs.declared.turn.Turn.{Turn}
use Rattle.vmx_device_state.specs.declared.turn.CommandView.{CommandView}
use Rattle.vmx_device_state.specs.SetupView.{SetupView}
use Rattle.vmx_regs.specs.Rule.{sent_by, commands_of, with_asked}
use Rattle.vmx_model.specs.declared.deeds.Deed.TheVariants as deed
use Rattle.vmx_model.specs.declared.guest.GuestPlan.{GuestPlan}
use Rattle.vmx_model.specs.declared.deeds.Action.{Action}
use Rattle.vmx_model.specs.declared.deeds.Deed.{Deed}
use Rattle.vmx_ends.specs.declared.packet.QueueName.{QueueName}
use Rattle.vmx_model.specs.declared.journal.Received.{Received}
use Rattle.vmx_model.specs.Lists.{count, upto, Rises}
use Rattle.vmx_model.specs.Deeds.{begins, is_quiet}
use Rattle.vmx_model.specs.Plan as plan
use Rattle.vmx_model.specs.Plan.{Ask, Captured, asks, deed_asks, closes, is_set, captured, numbered, goes_on, sent_on, first_setup}
use Rattle.vmx_model.specs.QueueSteps.{sent_before}
use Rattle.vmx_model.specs.Account.{queue_names, activations, rx_named, ask_of}
use Rattle.vmx_model.specs.Bags.{AllGotBack, gifts, DriverSaysTx, DriverSaysRx, DriverLeaves}
use Rattle.vmx_model.specs.Views.{GuestView}
use Rattle.vmx_driver_steps.specs.declared.progress.Stage.{Stage}
use Rattle.vmx_driver_steps.specs.declared.progress.Stage.TheVariants.{Fresh, Active, Stopping, Held, Quiet, Ended}
use Rattle.vmx_driver_steps.specs.Progress.{in_hand, to_come, is_down_in, closing, left_in, setup_now, is_over, is_over_in}
use Rattle.vmx_driver_steps.specs.Driver.{DriverView, Keeps, SentPlan, ask_by, bag_in, posted_as}

-- ------------------------------------------------------------ frames

take_all : {X : Type 0} (xs : List X) → take (length xs) xs ≡ xs
take_all [] = refl
take_all (x ∷ xs) = ap (λ (ys : List _). x ∷ ys) (take_all xs)

drop_all : {X : Type 0} (xs : List X) → drop (length xs) xs ≡ []
drop_all [] = refl
drop_all (x ∷ xs) = drop_all xs

numbered_length : (p : GuestPlan) (i : ℕ) (rs : List _) → length (numbered p i rs) ≡ length rs
numbered_length p i [] = refl
numbered_length p i (r ∷ rs) = ap suc (numbered_length p (i + 1) rs)

pub all_frames : (p : GuestPlan) (a q : ℕ) → sent_before p a q (length p.capture.records) ≡ sent_on p a q
all_frames p a q = ap (λ (cs : List Captured). filter (goes_on p a q) cs)
    (ap (λ (n : ℕ). take n (captured p)) (sym (numbered_length p 0 p.capture.records)) ∙ take_all (captured p))

pub says_tx : (p : GuestPlan) (f : TxView) → SentPlan p (length p.capture.records) f → DriverSaysTx p f
says_tx p f h = record { made = h.made; sent = h.sent ∙ ap (map posted_as) (all_frames p f.made.name.activation f.made.name.queue); met = h.met; reaped = h.reaped; whole = h.whole }

all_say : (p : GuestPlan) (fs : List TxView) → AllByRecursion (SentPlan p (length p.capture.records)) fs → AllByRecursion (DriverSaysTx p) fs
all_say p [] h = tt
all_say p (f ∷ fs) h = (says_tx p f h.0, all_say p fs h.1)

-- ------------------------------------------------------------ names

abbrev has_name : ℕ → ℕ → List QueueName → Bool
has_name a q [] = false
has_name a q (n ∷ ns) = (nat_eq n.activation a && nat_eq n.queue q) || has_name a q ns

has_left : (a q : ℕ) (xs ys : List QueueName) → has_name a q xs ≡ true → has_name a q (xs ++ ys) ≡ true
has_left a q [] ys h = absurd (true≢false (sym h))
has_left a q (n ∷ ns) ys h = step (nat_eq n.activation a && nat_eq n.queue q) h (λ k. has_left a q ns ys k)
  where
    step : (b : Bool) → (b || has_name a q ns) ≡ true → (has_name a q ns ≡ true → has_name a q (ns ++ ys) ≡ true) → (b || has_name a q (ns ++ ys)) ≡ true
    step true e ih = refl
    step false e ih = ih e

or_right : (b c : Bool) → c ≡ true → (b || c) ≡ true
or_right true c e = refl
or_right false c e = e

has_right : (a q : ℕ) (xs ys : List QueueName) → has_name a q ys ≡ true → has_name a q (xs ++ ys) ≡ true
has_right a q [] ys h = h
has_right a q (n ∷ ns) ys h = or_right (nat_eq n.activation a && nat_eq n.queue q) (has_name a q (ns ++ ys)) (has_right a q ns ys h)

has_queue : (g a q from n : ℕ) → from ≤ q → q < from + n → has_name a q (map (λ (k : ℕ). record { guest = g; activation = a; queue = k }) (upto from n)) ≡ true
has_queue g a q from zero le lt = absurd (omega (arith, le, lt))
has_queue g a q from (suc n) le lt = elim (eqb_tells from q) [
  | inl e ↦ let same : nat_eq a a ≡ true = grind (arith, nat_tests) in rw (e.0, same) refl
  | inr e ↦ or_right (nat_eq a a && nat_eq from q) _ (has_queue g a q (from + 1) n (let ne = e.1 in omega (arith, le, ne)) (omega (arith, lt)))
]

has_activation : (g queues a q from n : ℕ) → q < queues → from ≤ a → a < from + n → has_name a q (flat_map (queue_names g queues) (upto from n)) ≡ true
has_activation g queues a q from zero less le lt = absurd (omega (arith, le, lt))
has_activation g queues a q from (suc n) less le lt = elim (eqb_tells from a) [
  | inl e ↦ has_left a q (queue_names g queues from) _ (rw e.1 (has_queue g a q 0 queues (omega arith) (omega (arith, less))))
  | inr e ↦ has_right a q (queue_names g queues from) _ (has_activation g queues a q (from + 1) n less (let ne = e.1 in omega (arith, le, ne)) (omega (arith, lt)))
]

found : (a q : ℕ) (fs : List RxView) → has_name a q (map (λ (f : RxView). f.made.name) fs) ≡ true → (f : RxView) × (find (rx_named a q) fs ≡ Some f)
found a q [] h = absurd (true≢false (sym h))
found a q (f ∷ fs) h = step (nat_eq f.made.name.activation a && nat_eq f.made.name.queue q) refl h (λ k. found a q fs k)
  where
    step : (b : Bool) → (nat_eq f.made.name.activation a && nat_eq f.made.name.queue q) ≡ b → (b || has_name a q (map (λ (f : RxView). f.made.name) fs)) ≡ true → (has_name a q (map (λ (f : RxView). f.made.name) fs) ≡ true → (x : RxView) × (find (rx_named a q) fs ≡ Some x)) → (x : RxView) × (find (rx_named a q) (f ∷ fs) ≡ Some x)
    step true e h ih = (f, rw e refl)
    step false e h ih = let r = ih h in (r.0, rw e r.1)

all_owned : (fs : List RxView) (g queues ended : ℕ) (xs : List Received) → map (λ (f : RxView). f.made.name) fs ≡ flat_map (queue_names g queues) (upto 0 ended)
    → AllByRecursion (λ (x : Received). (x.activation < ended) × (x.queue < queues)) xs → AllByRecursion (λ (x : Received). (f : RxView) × (find (rx_named x.activation x.queue) fs ≡ Some f)) xs
all_owned fs g queues ended [] e h = tt
all_owned fs g queues ended (x ∷ xs) e h =
    let lt = h.0.0 in
    (found x.activation x.queue fs (ap (has_name x.activation x.queue) e ∙ has_activation g queues x.activation x.queue 0 ended h.0.1 (omega arith) (omega (arith, lt))), all_owned fs g queues ended xs e h.1)

-- ------------------------------------------------------------ commands

abbrev pub set_ask : Ask → Type 0
set_ask x = is_set x.number ≡ true

sets_append : (xs ys : List Ask) → AllByRecursion set_ask xs → AllByRecursion set_ask ys → AllByRecursion set_ask (xs ++ ys)
sets_append [] ys h k = k
sets_append (x ∷ xs) ys h k = (h.0, sets_append xs ys h.1 k)

deed_sets : (s : SetupView) (acts : List Action) → AllByRecursion set_ask (deed_asks s acts)
deed_sets s [] = tt
deed_sets s (a ∷ rest) = step a.deed (deed_asks (plan.changed s a.deed) rest) (deed_sets (plan.changed s a.deed) rest)
  where
    step : (d : Deed) (ys : List Ask) → AllByRecursion set_ask ys → AllByRecursion set_ask (map (λ (n : ℕ). record { number = n; setup = plan.changed s d }) (plan.deed_commands d) ++ ys)
    step deed.Quiesce ys h = (refl, h)
    step deed.Activate ys h = (refl, h)
    step deed.Reset ys h = (refl, (refl, h))
    step (deed.Mode m) ys h = (refl, h)
    step (deed.Multicast t) ys h = (refl, h)
    step (deed.Vlans t) ys h = (refl, h)
    step (deed.Rss n t) ys h = (refl, h)

closing_sets : (p : GuestPlan) → AllByRecursion set_ask (closing p)
closing_sets p = step (closes p)
  where
    step : (b : Bool) → AllByRecursion set_ask (if b then record { number = plan.quiesce_dev; setup = plan.after_script (first_setup p) p.script } ∷ [] else [])
    step true = (refl, tt)
    step false = tt

pub asks_set : (p : GuestPlan) → AllByRecursion set_ask (asks p)
asks_set p = (refl, sets_append (deed_asks (first_setup p) p.script) (closing p) (deed_sets (first_setup p) p.script) (closing_sets p))

asks_told : (ts : List Turn) → AllByRecursion set_ask (map ask_of ts) → map ask_of (filter (λ (t : Turn). is_set t.command.number) ts) ≡ map ask_of ts
asks_told [] h = refl
asks_told (t ∷ ts) h = let e : is_set t.command.number ≡ true = h.0 in rw e (ap (λ (xs : List Ask). ask_of t ∷ xs) (asks_told ts h.1))

ask_each : (ts : List Turn) → map ask_by (commands_of ts) ≡ map ask_of ts
ask_each [] = refl
ask_each (t ∷ ts) = ap (λ (xs : List Ask). ask_of t ∷ xs) (ask_each ts)

-- ------------------------------------------------------------ the whole

-- what a driver that is over leaves
abbrev pub IsLeft : DriverView → GuestView → Type 0
IsLeft v r = (r.tx ≡ v.tx_facts) × (r.rx ≡ v.rx_facts) × (r.received ≡ v.received) × (r.told ≡ v.calls.turns)

module _ (v : DriverView) (k : Keeps v) (over : is_over v.at ≡ true) (none : v.calls.asked ≡ None) where
  abbrev p : GuestPlan
  p = v.plan

  split : (a b : Bool) → (a && b) ≡ true → (a ≡ true) × (b ≡ true)
  split true b e = (refl, e)
  split false b e = absurd (true≢false (sym e))

  was_closed : v.at.closed ≡ true
  was_closed = (split v.at.closed _ over).0

  at_end : (v.at.done ≡ length p.script) × (v.at.next ≡ length p.capture.records)
  at_end = k.under.closed was_closed

  all_begun : take v.at.done p.script ≡ p.script
  all_begun = ap (λ (n : ℕ). take n p.script) at_end.0 ∙ take_all p.script

  -- in one of the two stages nothing is in hand, to come or in the bag, and nothing is left to be asked
  record Over (g : Stage) : Type 0 where
    hand : in_hand g ≡ 0
    come : to_come g ≡ 0
    bag : bag_in g v.tx_held v.rx_held ≡ []
    asks : left_in g (setup_now p v.at) (deed_asks (setup_now p v.at) (drop v.at.done p.script) ++ closing p) ≡ []

  none_left : drop v.at.done p.script ≡ []
  none_left = ap (λ (n : ℕ). drop n p.script) at_end.0 ∙ drop_all p.script

  over_is : Over v.at.stage
  over_is = step v.at.stage refl (split v.at.closed _ over).1
    where
      step : (g : Stage) → v.at.stage ≡ g → is_over_in g ≡ true → Over g
      step Ended e h = record { hand = refl; come = refl; bag = refl; asks = refl }
      step Quiet e h = let quiet : is_quiet false p.script ≡ true = ap (is_quiet false) (sym all_begun) ∙ k.under.quiet true (ap is_down_in e) in
          record { hand = refl; come = refl; bag = refl; asks = rw (none_left, quiet) refl }
      step Fresh e h = absurd (true≢false (sym h))
      step Active e h = absurd (true≢false (sym h))
      step (Stopping t) e h = absurd (true≢false (sym h))
      step (Held t) e h = absurd (true≢false (sym h))

  ended_is : v.at.ended ≡ activations p
  ended_is = let o = over_is in let hand = o.hand in let come = o.come in let e = k.under.counted in
      let n : v.at.ended ≡ count (λ (a : Action). begins a.deed) (take v.at.done p.script) + 1 = omega arith in
      n ∙ ap (λ (acts : List Action). count (λ (a : Action). begins a.deed) acts + 1) all_begun

  sent_is : map ask_of v.calls.turns ≡ asks p
  sent_is = sym (ask_each v.calls.turns) ∙ ap (λ (o : Option CommandView). map ask_by (with_asked (commands_of v.calls.turns) o)) (sym none)
      ∙ sym (append-nil _) ∙ ap (λ (xs : List Ask). map ask_by (sent_by v.calls) ++ xs) (sym over_is.asks) ∙ k.commands.sent

  owned_is : AllByRecursion (λ (x : Received). (x.activation < v.at.ended) × (x.queue < p.setup.rx_queues)) v.received
  owned_is = let e : v.at.ended + in_hand v.at.stage ≡ v.at.ended = (let hand = over_is.hand in omega arith) in
      subst (λ (n : ℕ). AllByRecursion (λ (x : Received). (x.activation < n) × (x.queue < p.setup.rx_queues)) v.received) e k.owned

  pub leaves : (r : GuestView) → IsLeft v r → DriverLeaves v.guest p r
  leaves r h = let rt = h.0 in let rr = h.1 in let rx = h.2 in let rs = h.3 in record {
    tx_names = ap (map (λ (f : TxView). f.made.name)) rt ∙ k.tx_names ∙ ap (λ (n : ℕ). flat_map (queue_names v.guest p.setup.tx_queues) (upto 0 n)) ended_is;
    rx_names = ap (map (λ (f : RxView). f.made.name)) rr ∙ k.rx_names ∙ ap (λ (n : ℕ). flat_map (queue_names v.guest p.setup.rx_queues) (upto 0 n)) ended_is;
    got_back =
        let bags : gifts v.calls.turns ≡ k.bags = k.gifts_are ∙ ap (λ (xs : List HandedView). k.bags ++ xs) over_is.bag ∙ append-nil k.bags in
        subst (λ (x : List HandedView × List TxView × List RxView). AllGotBack v.guest 0 x.0 x.1 x.2) (λ i. (sym (ap gifts rs ∙ bags) i, sym rt i, sym rr i)) k.got_back;
    tx = subst (AllByRecursion (DriverSaysTx p)) (sym rt) (all_say p v.tx_facts (subst (λ (n : ℕ). AllByRecursion (SentPlan p n) v.tx_facts) at_end.1 k.tx_facts));
    rx = subst (λ (x : List Received × List RxView). AllByRecursion (DriverSaysRx p x.0) x.1) (λ i. (sym rx i, sym rr i)) k.rx_facts;
    received = subst (λ (x : List Received × List RxView). AllByRecursion (λ (y : Received). (f : RxView) × (find (rx_named y.activation y.queue) x.1 ≡ Some f)) x.0) (λ i. (sym rx i, sym rr i))
        (all_owned v.rx_facts v.guest p.setup.rx_queues v.at.ended v.received k.rx_names owned_is);
    rising = subst (Rises (λ (x y : Received). x.activation ≤ y.activation)) (sym rx) k.rising;
    images = subst (λ (ts : List Turn). map ask_of (filter (λ (t : Turn). is_set t.command.number) ts) ≡ asks p) (sym rs)
        (asks_told v.calls.turns (subst (AllByRecursion set_ask) (sym sent_is) (asks_set p)) ∙ sent_is);
  }
