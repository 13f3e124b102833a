-- What the registers answer, for a driver.
use Rattle.std.proofs.Common.{◌≡◌, ℕ, suc, ◌+◌, ◌<◌, ◌≤◌, Bool, true, false, ◌&&◌, true≢false, List, [], ◌∷◌, ◌++◌, length, length-append, if◌then◌else◌, ◌*◌, map, refl, ap, sym, ◌∙◌, subst, arith, Option, Some, None}
use Rattle.std.specs.Prelude.{IsSome, option_map}
use Rattle.std.specs.List.{slice_get}
use Rattle.vmx_io.specs.declared.handed.HandedView.{HandedView}
use Rattle.vmx_ends.specs.Transmit.{TxDriverView, TxDeviceView}
use Rattle.vmx_ends.specs.Receive.{RxDriverView, RxDeviceView}
use Rattle.vmx_ends.specs.HandedEnds.{ends_handed}
use Rattle.vmx_pcap.specs.declared.records.Stamped.{Stamped}
use Rattle.vmx_device_state.specs.SetupView.{SetupView}
use Rattle.vmx_device_state.specs.Deals.{Held as HeldEnds}
use Rattle.vmx_device_state.specs.declared.turn.CommandView.{CommandView}
use Rattle.vmx_device_state.specs.declared.turn.Turn.{Turn}
use Rattle.vmx_regs.specs.declared.bag.Bag.{Bag}
use Rattle.vmx_regs.specs.declared.known.Calls.{Calls}
use Rattle.vmx_regs.specs.declared.ends.Answer.TheVariants.{Done, Pending}
use Rattle.vmx_regs.specs.Turns.{IsTurn, answer_of}
use Rattle.vmx_regs.specs.Rule.{turn_of}
use Rattle.vmx_regs.specs.Plays.{answered_by, IsLast}
use Rattle.vmx_regs.specs.Ends.{Answers}
use Rattle.vmx_model.specs.Bags.{Pairwise}
use Rattle.vmx_model.specs.declared.guest.GuestPlan.{GuestPlan}
use Rattle.vmx_model.specs.declared.deeds.Action.{Action}
use Rattle.vmx_driver_steps.specs.declared.progress.Then.{Then}
use Rattle.vmx_driver_steps.specs.declared.progress.Stage.{Stage}
use Rattle.vmx_driver_steps.specs.declared.progress.Stage.TheVariants.{Fresh, Active, Stopping, Held, Quiet, Ended}
use Rattle.vmx_driver_steps.specs.declared.progress.Progress.{Progress}
use Rattle.vmx_driver_steps.specs.Progress.{passes_by, is_later, asks_left, closing, setup_now}
use Rattle.vmx_regs.specs.Rule.{commands_of, with_asked}
use Rattle.std.proofs.lemmas.List.{length-map}
use Rattle.vmx_model.specs.declared.deeds.Deed.{Deed}
use Rattle.vmx_model.specs.declared.deeds.Deed.TheVariants as deed
use Rattle.vmx_model.specs.Plan.{Ask, deed_asks, deed_commands, changed, closes, quiesce_dev, after_script, first_setup}
use Rattle.vmx_driver_steps.specs.Sending.{answered}
use Rattle.vmx_driver_steps.specs.Driver.{DriverView, Keeps, Runs, GivesBack, Leads, ask_by, state_in, held_in, other_ends, AreOneTx, AreOneRx}
use Rattle.vmx_regs.specs.declared.known.Masks.{Masks}
use Rattle.vmx_driver_steps.specs.Hints.{unmasked}
use Rattle.vmx_driver_steps.specs.Driving.{LooksOnce, TakesAnswer, TakesBack, KeepsEnds, TakesEnds, is_opening}
use Rattle.vmx_driver_steps.specs.Finds.{FindsNone, FindsOne}
use Rattle.vmx_driver_steps.specs.Queues.{PassedAllTx, PassedAllRx}
use Rattle.vmx_driver_steps.specs.Asking.{Waits, after_answer, answers, brings, takes_back, BringsBack}

-- a look changes nothing else
pub looks_keep : (v : DriverView) (looks : List (ℕ × ℕ)) → Keeps v → Keeps (record v { calls = record v.calls { looks = looks } })
looks_keep v looks k = record {
  under = k.under;
  tx_count = k.tx_count;
  rx_count = k.rx_count;
  tx = k.tx;
  rx = k.rx;
  held = k.held;
  parting = k.parting;
  commands = record { sent = k.commands.sent; zero = k.commands.zero; leads = k.commands.leads; gives = k.commands.gives };
  bags = k.bags;
  bags_are = k.bags_are;
  gifts_are = k.gifts_are;
  got_back = k.got_back;
  tx_names = k.tx_names;
  rx_names = k.rx_names;
  tx_facts = k.tx_facts;
  rx_facts = k.rx_facts;
  owned = k.owned;
  rising = k.rising;
  none_yet = k.none_yet;
}

pub some_of : (o : Option CommandView) → IsSome o → (c : CommandView) × (o ≡ Some c)
some_of None e = absurd (true≢false (sym e))
some_of (Some c) e = (c, refl)

no_pass : (b : Bool) → (b && false) ≡ false
no_pass true = refl
no_pass false = refl

held_settled : (p : GuestPlan) (s : Progress) (t : Then) (a : Option Action) (o : Option Stamped) → passes_by p (record s { stage = Held t }) a o ≡ false
held_settled p s t a None = refl
held_settled p s t a (Some r) = no_pass (is_later s.next a)

-- where a command is outstanding, none of these stages is
pub not_now : (g : Stage) (past : List Turn) (o : Option CommandView) (ends : HeldEnds) → GivesBack g past o ends → IsSome o → (g ≡ Fresh → ⊥) × ((t : Then) → g ≡ Held t → ⊥) × (g ≡ Ended → ⊥)
not_now Fresh past o ends h e = absurd (true≢false (sym (subst IsSome h e)))
not_now (Held t) past o ends h e = absurd (true≢false (sym (subst IsSome h e)))
not_now Ended past o ends h e = absurd (true≢false (sym (subst IsSome h e)))
not_now Active past o ends h e = ((λ x. absurd (cc x)), (λ t x. absurd (cc x)), (λ x. absurd (cc x)))
not_now Quiet past o ends h e = ((λ x. absurd (cc x)), (λ t x. absurd (cc x)), (λ x. absurd (cc x)))
not_now (Stopping t) past o ends h e = ((λ x. absurd (cc x)), (λ t x. absurd (cc x)), (λ x. absurd (cc x)))

-- where no end is asked for, none moves
pub ends_kept : (g : Stage) (ends : Option HandedView) (old new : DriverView) → Waits g → KeepsEnds old new → TakesEnds g ends old new
ends_kept Active ends old new w k = k
ends_kept Quiet ends old new w k = k
ends_kept Fresh ends old new w k = k
ends_kept (Stopping t) ends old new w k = absurd w
ends_kept (Held t) ends old new w k = k
ends_kept Ended ends old new w k = k

pub ends_back : (g : Stage) (t : Then) (ends : Option HandedView) (old new : DriverView) → g ≡ Stopping t → TakesBack t ends old new → TakesEnds g ends old new
ends_back g t ends old new on b = subst (λ (x : Stage). TakesEnds x ends old new) (sym on) b

module _ {E : Type 0} (handed : E → HandedView) where
  pub looked : (v : DriverView) (s : SetupView) (word : ℕ) (calls' : Calls) → Runs v s → Answers handed v.calls (Pending word) calls' → Runs (record v { calls = calls' }) s
  looked v s word calls' k h = record {
    keeps = subst (λ (x : Calls). Keeps (record v { calls = x })) (sym h.0) (looks_keep v (v.calls.looks ++ (length v.calls.turns, word) ∷ []) k.keeps);
    settled = k.settled;
    setup = k.setup;
    short = k.short;
    interrupts = subst (λ (x : Calls). 16 < x.interrupts) (sym h.0) k.interrupts;
  }

  pub looks_once : (v w : DriverView) (word : ℕ) (calls' : Calls) → v ≡ w → Answers handed v.calls (Pending word) calls' → LooksOnce w (record v { calls = calls' })
  looks_once v w word calls' e h = subst (λ (x : DriverView). LooksOnce x (record v { calls = calls' })) e (record { word = word; missed = h.1; unheard = h.2; is = λ i. record v { calls = h.0 i } })

  answered_is : (v : Calls) (o : Option CommandView) (c : CommandView) (n : ℕ) (b : Bag E) → o ≡ Some c → answered_by handed v o n b ≡ after_answer v c (answer_of handed n b)
  answered_is v o c n b e = ap (λ (x : Option CommandView). answered_by handed v x n b) e

  last_is : (ts : List Turn) (o : Option CommandView) (c : CommandView) (n : ℕ) (b : Bag E) → o ≡ Some c → IsLast handed ts o n b → IsTurn ts (turn_of c (answer_of handed n b))
  last_is ts o c n b e h = subst (λ (x : Option CommandView). IsLast handed ts x n b) e h

  module _ (v : DriverView) (s : SetupView) (value : ℕ) (b : Bag E) (calls' : Calls) (k : Runs v s) (c : CommandView) (is : v.calls.asked ≡ Some c) (h : Answers handed v.calls (Done value b) calls') where
    pub calls_is : calls' ≡ after_answer v.calls c (answer_of handed value b)
    calls_is = h.0 ∙ answered_is v.calls v.calls.asked c value b is

    turn : IsTurn v.calls.turns (turn_of c (answer_of handed value b))
    turn = last_is v.calls.turns v.calls.asked c value b is h.2

    pub done_waits : Waits v.at.stage → Runs (record v { calls = calls' }) s
    done_waits w = record {
      keeps = subst (λ (x : Calls). Keeps (record v { calls = x })) (sym calls_is) (answers v c (answer_of handed value b) k.keeps w is turn);
      settled = k.settled;
      setup = k.setup;
      short = k.short;
      interrupts = subst (λ (x : Calls). 16 < x.interrupts) (sym calls_is) k.interrupts;
    }

    back : (t : Then) → v.at.stage ≡ Stopping t → BringsBack v c (answer_of handed value b)
    back t on = brings v t c (answer_of handed value b) k.keeps on is turn

    -- the bag has ends
    pub has_ends : (t : Then) → v.at.stage ≡ Stopping t → b.ends ≡ None → ⊥
    has_ends t on e = let x = back t on in let n : None ≡ Some x.bag = ap (option_map handed) (sym e) ∙ x.is in absurd (cc n)

    -- and they are the other ends of the driver's
    pub are_pairs : (t : Then) (e : E) (txs : List TxDeviceView) (rxs : List RxDeviceView) → v.at.stage ≡ Stopping t → b.ends ≡ Some e → handed e ≡ ends_handed txs rxs → Pairwise AreOneTx v.tx txs × Pairwise AreOneRx v.rx rxs
    are_pairs t e txs rxs on some_e same = let x = back t on in let n : Some x.bag ≡ Some (handed e) = sym x.is ∙ ap (option_map handed) some_e in let m : x.bag ≡ handed e = cc n in x.pairs txs rxs (m ∙ same)

    pub done_stopping : (t : Then) (e : E) (txs : List TxDeviceView) (rxs : List RxDeviceView) (tx' : List TxDriverView) (rx' : List RxDriverView) (txs' : List TxDeviceView) (rxs' : List RxDeviceView) → v.at.stage ≡ Stopping t → b.ends ≡ Some e → handed e ≡ ends_handed txs rxs
        → PassedAllTx v.tx txs tx' txs' → PassedAllRx v.rx rxs rx' rxs' → Runs (record v { at = record v.at { stage = Held t }; calls = calls'; tx = tx'; rx = rx'; tx_held = txs'; rx_held = rxs' }) s
    done_stopping t e txs rxs tx' rx' txs' rxs' on some_e same ptx prx = record {
      keeps = subst (λ (x : Calls). Keeps (record v { at = record v.at { stage = Held t }; calls = x; tx = tx'; rx = rx'; tx_held = txs'; rx_held = rxs' })) (sym calls_is)
          (takes_back v t c (answer_of handed value b) k.keeps on is turn txs rxs tx' rx' txs' rxs' (ap (option_map handed) some_e ∙ ap Some same) ptx prx);
      settled = held_settled v.plan v.at t (slice_get v.plan.script v.at.done) (slice_get v.plan.capture.records v.at.next);
      setup = k.setup;
      short = k.short;
      interrupts = subst (λ (x : Calls). 16 < x.interrupts) (sym calls_is) k.interrupts;
    }

    pub took : (w : DriverView) (stage : Stage) (key' : List ℕ) (masks' : Masks) (tx' : List TxDriverView) (rx' : List RxDriverView) (txs' : List TxDeviceView) (rxs' : List RxDeviceView) → v ≡ w → TakesEnds v.at.stage (answer_of handed value b).ends v (record v { at = record v.at { stage = stage }; key = key'; calls = calls'; masks = masks'; tx = tx'; rx = rx'; tx_held = txs'; rx_held = rxs' }) → masks' ≡ (if is_opening v.calls.asked then unmasked (v.plan.setup.tx_queues + v.plan.setup.rx_queues + 1) v.masks else v.masks) → key' ≡ v.key → TakesAnswer w (record v { at = record v.at { stage = stage }; key = key'; calls = calls'; masks = masks'; tx = tx'; rx = rx'; tx_held = txs'; rx_held = rxs' })
    took w stage key' masks' tx' rx' txs' rxs' e moved masked key = subst (λ (x : DriverView). TakesAnswer x (record v { at = record v.at { stage = stage }; key = key'; calls = calls'; masks = masks'; tx = tx'; rx = rx'; tx_held = txs'; rx_held = rxs' })) e (record {
      command = c;
      answer = answer_of handed value b;
      asked = is;
      calls = calls_is;
      zero = (answered v.calls.turns c (answer_of handed value b) (state_in v.at.stage (setup_now v.plan v.at)) (held_in v.at.stage (other_ends v.tx v.rx)) (subst (λ (x : Option CommandView). Leads v.calls.turns x (state_in v.at.stage (setup_now v.plan v.at)) (held_in v.at.stage (other_ends v.tx v.rx))) is k.keeps.commands.leads) turn).zero;
      at = refl;
      ends = moved;
      masks = masked;
      received = refl;
      facts = (refl, refl);
      same = (refl, refl, key);
    })

    -- the ends came back
    pub took_back : (w : DriverView) (t : Then) (e : E) (txs : List TxDeviceView) (rxs : List RxDeviceView) (key' : List ℕ) (masks' : Masks) (tx' : List TxDriverView) (rx' : List RxDriverView) (txs' : List TxDeviceView) (rxs' : List RxDeviceView) → v ≡ w → v.at.stage ≡ Stopping t → b.ends ≡ Some e → handed e ≡ ends_handed txs rxs
        → PassedAllTx v.tx txs tx' txs' → PassedAllRx v.rx rxs rx' rxs' → masks' ≡ (if is_opening v.calls.asked then unmasked (v.plan.setup.tx_queues + v.plan.setup.rx_queues + 1) v.masks else v.masks) → key' ≡ v.key
        → TakesAnswer w (record v { at = record v.at { stage = Held t }; key = key'; calls = calls'; masks = masks'; tx = tx'; rx = rx'; tx_held = txs'; rx_held = rxs' })
    took_back w t e txs rxs key' masks' tx' rx' txs' rxs' same on some_e handed_is ptx prx masked key = took w (Held t) key' masks' tx' rx' txs' rxs' same
        (ends_back v.at.stage t (answer_of handed value b).ends v (record v { at = record v.at { stage = Held t }; key = key'; calls = calls'; masks = masks'; tx = tx'; rx = rx'; tx_held = txs'; rx_held = rxs' }) on (record {
          stage = refl;
          txs = txs;
          rxs = rxs;
          handed = ap (option_map handed) some_e ∙ ap Some handed_is;
          tx = ptx;
          rx = prx;
        }))
        masked key

-- ------------------------------------------------------------ numbers

deeds_few : (s : SetupView) (acts : List Action) → length (deed_asks s acts) ≤ 2 * length acts
deeds_few s [] = omega arith
deeds_few s (a ∷ rest) = step a.deed (deed_asks (changed s a.deed) rest) (deeds_few (changed s a.deed) rest)
  where
    step : (d : Deed) (ys : List Ask) → length ys ≤ 2 * length rest → length (map (λ (n : ℕ). record { number = n; setup = changed s d }) (deed_commands d) ++ ys) ≤ 2 * suc (length rest)
    step deed.Quiesce ys h = omega (arith, h)
    step deed.Activate ys h = omega (arith, h)
    step deed.Reset ys h = omega (arith, h)
    step (deed.Mode m) ys h = omega (arith, h)
    step (deed.Multicast t) ys h = omega (arith, h)
    step (deed.Vlans t) ys h = omega (arith, h)
    step (deed.Rss n t) ys h = omega (arith, h)

closing_few : (b : Bool) (x : Ask) → length (if b then x ∷ [] else []) ≤ 1
closing_few true x = omega arith
closing_few false x = omega arith

sent_few : (ts : List Turn) (o : Option CommandView) → length ts ≤ length (map ask_by (with_asked (commands_of ts) o))
sent_few ts None = let a = length-map (commands_of ts) ask_by in let b = length-map ts (λ (t : Turn). t.command) in omega (arith, a, b)
sent_few ts (Some c) = let a = length-map (commands_of ts ++ c ∷ []) ask_by in let b = length-map ts (λ (t : Turn). t.command) in let d = length-append (commands_of ts) (c ∷ []) in omega (arith, a, b, d)

-- a driver has sent no more commands than its plan has
pub most_turns : (v : DriverView) → Keeps v → length v.calls.turns ≤ 2 * length v.plan.script + 2
most_turns v k =
    let a = sent_few v.calls.turns v.calls.asked in
    let b = length-append (map ask_by (with_asked (commands_of v.calls.turns) v.calls.asked)) (asks_left v.plan v.at) in
    let e = ap length k.commands.sent in
    let d = deeds_few (first_setup v.plan) v.plan.script in
    let f = length-append (deed_asks (first_setup v.plan) v.plan.script) (closing v.plan) in
    let h = closing_few (closes v.plan) (record { number = quiesce_dev; setup = after_script (first_setup v.plan) v.plan.script }) in
    omega (arith, a, b, e, d, f, h)

-- and those are few
pub few_turns : (v : DriverView) (s : SetupView) → Runs v s → length v.calls.turns < 4611686018427387904
few_turns v s k = let most = most_turns v k.keeps in let short = v.plan.script_length in omega (arith, most, short)

module _ {E : Type 0} (handed : E → HandedView) where
  -- a look or an answer
  pub waits_or : (v : DriverView) (s : SetupView) (calls' : Calls) (found : Bool) → Runs v s → Waits v.at.stage → IsSome v.calls.asked → (found ≡ false → FindsNone handed v.calls calls') → (found ≡ true → FindsOne handed v.calls calls') → Runs (record v { calls = calls' }) s
  waits_or v s calls' false k w some none one = looked handed v s (none refl).0 calls' k (none refl).1
  waits_or v s calls' true k w some none one = let h = one refl in let c = some_of v.calls.asked some in done_waits handed v s h.0 h.1 calls' k c.0 c.1 h.2 w

  pub found_none : (v w : DriverView) (calls' : Calls) (key' : List ℕ) (masks' : Masks) → v ≡ w → key' ≡ v.key → masks' ≡ v.masks → FindsNone handed v.calls calls' → LooksOnce w (record v { key = key'; calls = calls'; masks = masks' })
  found_none v w calls' key' masks' e key masks h = subst (λ (x : List ℕ × Masks). LooksOnce w (record v { key = x.0; calls = calls'; masks = x.1 })) (λ i. (sym key i, sym masks i)) (looks_once handed v w h.0 calls' e h.1)

  pub found_one : (v w : DriverView) (s : SetupView) (calls' : Calls) (key' : List ℕ) (masks' : Masks) → Runs v s → Waits v.at.stage → IsSome v.calls.asked → v ≡ w → FindsOne handed v.calls calls' → masks' ≡ (if is_opening v.calls.asked then unmasked (v.plan.setup.tx_queues + v.plan.setup.rx_queues + 1) v.masks else v.masks) → key' ≡ v.key
      → TakesAnswer w (record v { key = key'; calls = calls'; masks = masks' })
  found_one v w s calls' key' masks' k waits some e h masked key = let c = some_of v.calls.asked some in took handed v s h.0 h.1 calls' k c.0 c.1 h.2 w v.at.stage key' masks' v.tx v.rx v.tx_held v.rx_held e
      (ends_kept v.at.stage (answer_of handed h.0 h.1).ends v (record v { key = key'; calls = calls'; masks = masks' }) waits (record { stage = refl; tx = (refl, refl); rx = (refl, refl) })) masked key
