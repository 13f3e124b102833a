-- An end that looked in vain, gave a note or heard one keeps what always holds.
use Rattle.std.proofs.Common.{◌≡◌, ℕ, zero, suc, ◌+◌, ◌<◌, ◌≤◌, false, List, [], ◌∷◌, ◌++◌, length, map, get_or, set, ap, sym, ◌∙◌, subst, arith}
use Rattle.std.specs.List.{AllByRecursion}
use Rattle.std.proofs.lemmas.List.{length-set}
use Rattle.std.proofs.Math.Seq.{map-set_same}
use Rattle.vmx_ends.specs.Transmit.{TxDriverView, TxDeviceView, posted}
use Rattle.vmx_ends.specs.Receive.{RxDriverView, RxDeviceView, used, pieces_of}
use Rattle.vmx_device_state.specs.SetupView.{SetupView}
use Rattle.vmx_device_state.specs.Deals.{Held as HeldEnds}
use Rattle.vmx_model.specs.Account.{received_from}
use Rattle.vmx_model.specs.Bags.{EachQueue}
use Rattle.vmx_driver_steps.specs.declared.progress.Then.{Then}
use Rattle.vmx_driver_steps.specs.declared.progress.Then.TheVariants.{Rest, Renew, End}
use Rattle.vmx_driver_steps.specs.declared.progress.Stage.{Stage}
use Rattle.vmx_driver_steps.specs.declared.progress.Stage.TheVariants.{Fresh, Active, Stopping, Held, Quiet, Ended}
use Rattle.vmx_driver_steps.specs.Driver.{DriverView, Keeps, Runs, Commands, AreHeld, IsHeldTx, IsHeldRx, IsReady, IsParting, SendsPlan, HandsUp}
use Rattle.vmx_driver_steps.specs.Each.{each_set, each_at}
use Rattle.vmx_driver_steps.specs.Receiving.{pair_set, IsEmptied}

-- only looks, notes and what was heard differ, and no less was heard
pub record IsNearTx (old new : TxDriverView) : Type 0 where
  pub is : new ≡ record old { looks = new.looks; heard = new.heard; notes_given = new.notes_given; notes_heard = new.notes_heard }
  pub more : old.heard ≤ new.heard

pub record IsNearRx (old new : RxDriverView) : Type 0 where
  pub is : new ≡ record old { looks = new.looks; heard = new.heard; notes_given = new.notes_given; notes_heard = new.notes_heard }
  pub more : length old.heard ≤ length new.heard

near_empty : (old new : RxDriverView) → IsEmptied old new → IsNearRx old new
near_empty old new e = record {
  is = e.is ∙ (λ i. record old { looks = new.looks; heard = sym (ap (λ (d : RxDriverView). d.heard) e.is) i; notes_given = sym (ap (λ (d : RxDriverView). d.notes_given) e.is) i; notes_heard = sym (ap (λ (d : RxDriverView). d.notes_heard) e.is) i });
  more = let h = ap (λ (d : RxDriverView). length d.heard) e.is in omega (arith, h);
}

at_queue : {X : Type 0} (P : ℕ → X → Type 0) (xs : List X) (q : ℕ) (d : X) → d ≡ get_or xs q d → q < length xs → EachQueue P 0 xs → P q d
at_queue P xs q d at lt h = let z : 0 + q ≡ q = omega arith in subst (λ x. P q x) (sym at) (subst (λ (n : ℕ). P n (get_or xs q d)) z (each_at P 0 xs q d lt h))

ready_set : (xs : List TxDriverView) (i : ℕ) (x new : TxDriverView) → x ≡ get_or xs i x → i < length xs → IsNearTx x new → AllByRecursion (λ (d : TxDriverView). d.reaped ≡ length d.sent) xs → AllByRecursion (λ (d : TxDriverView). d.reaped ≡ length d.sent) (set xs i new)
ready_set [] i x new at lt n h = absurd (omega (arith, lt))
ready_set (y ∷ xs) zero x new at lt n h =
    let was : x.reaped ≡ length x.sent = subst (λ (d : TxDriverView). d.reaped ≡ length d.sent) (sym at) h.0 in
    (ap (λ (d : TxDriverView). d.reaped) n.is ∙ was ∙ sym (ap (λ (d : TxDriverView). length d.sent) n.is), h.1)
ready_set (y ∷ xs) (suc i) x new at lt n h = (h.0, ready_set xs i x new at (omega (arith, lt)) n h.1)

pub near_tx : (v : DriverView) (q : ℕ) (d d' : TxDriverView) → Keeps v → d ≡ get_or v.tx q d → q < length v.tx → IsNearTx d d' → Keeps (record v { tx = set v.tx q d' })
near_tx v q d d' k at lt n = record {
  under = k.under;
  tx_count = length-set v.tx q d' ∙ k.tx_count;
  rx_count = k.rx_count;
  tx = each_set (SendsPlan v.guest v.plan v.at.ended v.at.next) (SendsPlan v.guest v.plan v.at.ended v.at.next) 0 v.tx q d' (λ q' x ne h. h) (let z : 0 + q ≡ q = omega arith in subst (λ (m : ℕ). SendsPlan v.guest v.plan v.at.ended v.at.next m d') (sym z) here) k.tx;
  rx = k.rx;
  held = holds v.at.stage k.held;
  parting = parts v.at.stage k.parting;
  commands = subst (λ (h : HeldEnds). Commands v.plan v.at h v.calls) (λ i. record { keys = sym keys_same i ++ map (λ (x : RxDriverView). x.key) v.rx; tx = sym (length-set v.tx q d') i; rx = length v.rx; given = false }) k.commands;
  bags = k.bags;
  bags_are = k.bags_are;
  gifts_are = k.gifts_are;
  got_back = k.got_back;
  tx_names = k.tx_names;
  rx_names = k.rx_names;
  tx_facts = k.tx_facts;
  rx_facts = k.rx_facts;
  owned = k.owned;
  rising = k.rising;
  none_yet = k.none_yet;
}
  where
    was : SendsPlan v.guest v.plan v.at.ended v.at.next q d
    was = at_queue (SendsPlan v.guest v.plan v.at.ended v.at.next) v.tx q d at lt k.tx

    here : SendsPlan v.guest v.plan v.at.ended v.at.next q d'
    here = let low = was.reaped in let few = was.posted in let r = ap (λ (x : TxDriverView). x.reaped) n.is in let l = ap (λ (x : TxDriverView). length x.sent) n.is in let p = ap posted n.is in record {
      made = ap (λ (x : TxDriverView). x.made) n.is ∙ was.made;
      sent = ap (λ (x : TxDriverView). x.sent) n.is ∙ was.sent;
      reaped = omega (arith, low, r, l);
      posted = omega (arith, few, p, l);
    }

    keys_same : map (λ (x : TxDriverView). x.key) (set v.tx q d') ≡ map (λ (x : TxDriverView). x.key) v.tx
    keys_same = map-set_same (λ (x : TxDriverView). x.key) v.tx q d' d (ap (λ (x : TxDriverView). x.key) n.is ∙ ap (λ (x : TxDriverView). x.key) at)

    one : (e : TxDeviceView) → IsHeldTx d e → IsHeldTx d' e
    one e o = let told = o.told in let more = n.more in record { one = record { key = ap (λ (x : TxDriverView). x.key) n.is ∙ o.one.key; idle = o.one.idle; even = o.one.even }; told = omega (arith, told, more) }

    holds : (g : Stage) → AreHeld g v.tx v.rx v.tx_held v.rx_held → AreHeld g (set v.tx q d') v.rx v.tx_held v.rx_held
    holds (Held t) o = (pair_set IsHeldTx v.tx v.tx_held q d d' at lt (λ e h. one e h) o.0, o.1)
    holds Active o = o
    holds Fresh o = o
    holds (Stopping t) o = o
    holds Quiet o = o
    holds Ended o = o

    ready : (t : Then) → IsReady t v.plan v.at.ended v.tx → IsReady t v.plan v.at.ended (set v.tx q d')
    ready Rest o = ready_set v.tx q d d' at lt n o
    ready End o = ready_set v.tx q d d' at lt n o
    ready Renew o = o

    parts : (g : Stage) → IsParting g v.plan v.at.ended v.tx → IsParting g v.plan v.at.ended (set v.tx q d')
    parts (Held t) o = ready t o
    parts (Stopping t) o = ready t o
    parts Active o = o
    parts Fresh o = o
    parts Quiet o = o
    parts Ended o = o

pub near_rx : (v : DriverView) (q : ℕ) (d d' : RxDriverView) → Keeps v → d ≡ get_or v.rx q d → q < length v.rx → IsNearRx d d' → Keeps (record v { rx = set v.rx q d' })
near_rx v q d d' k at lt n = record {
  under = k.under;
  tx_count = k.tx_count;
  rx_count = length-set v.rx q d' ∙ k.rx_count;
  tx = k.tx;
  rx = each_set (HandsUp v.guest v.plan v.at.ended v.received) (HandsUp v.guest v.plan v.at.ended v.received) 0 v.rx q d' (λ q' x ne h. h) (let z : 0 + q ≡ q = omega arith in subst (λ (m : ℕ). HandsUp v.guest v.plan v.at.ended v.received m d') (sym z) here) k.rx;
  held = holds v.at.stage k.held;
  parting = k.parting;
  commands = subst (λ (h : HeldEnds). Commands v.plan v.at h v.calls) (λ i. record { keys = map (λ (x : TxDriverView). x.key) v.tx ++ sym keys_same i; tx = length v.tx; rx = sym (length-set v.rx q d') i; given = false }) k.commands;
  bags = k.bags;
  bags_are = k.bags_are;
  gifts_are = k.gifts_are;
  got_back = k.got_back;
  tx_names = k.tx_names;
  rx_names = k.rx_names;
  tx_facts = k.tx_facts;
  rx_facts = k.rx_facts;
  owned = k.owned;
  rising = k.rising;
  none_yet = k.none_yet;
}
  where
    was : HandsUp v.guest v.plan v.at.ended v.received q d
    was = at_queue (HandsUp v.guest v.plan v.at.ended v.received) v.rx q d at lt k.rx

    here : HandsUp v.guest v.plan v.at.ended v.received q d'
    here = let few = was.positions in let same = ap (λ (x : RxDriverView). used pieces_of x.received) n.is in let l = ap (λ (x : RxDriverView). length x.received) n.is in record {
      made = ap (λ (x : RxDriverView). x.made) n.is ∙ was.made;
      handed = was.handed ∙ ap (received_from v.at.ended q 0) (sym (ap (λ (x : RxDriverView). x.received) n.is));
      positions = omega (arith, few, same, l);
    }

    keys_same : map (λ (x : RxDriverView). x.key) (set v.rx q d') ≡ map (λ (x : RxDriverView). x.key) v.rx
    keys_same = map-set_same (λ (x : RxDriverView). x.key) v.rx q d' d (ap (λ (x : RxDriverView). x.key) n.is ∙ ap (λ (x : RxDriverView). x.key) at)

    one : (e : RxDeviceView) → IsHeldRx d e → IsHeldRx d' e
    one e o = let told = o.told in let more = n.more in record { one = record { key = ap (λ (x : RxDriverView). x.key) n.is ∙ o.one.key; even = o.one.even }; told = omega (arith, told, more) }

    holds : (g : Stage) → AreHeld g v.tx v.rx v.tx_held v.rx_held → AreHeld g v.tx (set v.rx q d') v.tx_held v.rx_held
    holds (Held t) o = (o.0, pair_set IsHeldRx v.rx v.rx_held q d d' at lt (λ e h. one e h) o.1)
    holds Active o = o
    holds Fresh o = o
    holds (Stopping t) o = o
    holds Quiet o = o
    holds Ended o = o

-- a look found no frame
pub looks_on : (v : DriverView) (q : ℕ) (d d' : RxDriverView) → Keeps v → d ≡ get_or v.rx q d → q < length v.rx → IsEmptied d d' → Keeps (record v { rx = set v.rx q d' })
looks_on v q d d' k at lt e = near_rx v q d d' k at lt (near_empty d d' e)

-- notes and looks move no progress
pub tx_runs : (v : DriverView) (s : SetupView) (q : ℕ) (d d' : TxDriverView) → Runs v s → d ≡ get_or v.tx q d → q < length v.tx → IsNearTx d d' → Runs (record v { tx = set v.tx q d' }) s
tx_runs v s q d d' k at lt n = record { keeps = near_tx v q d d' k.keeps at lt n; settled = k.settled; setup = k.setup; short = k.short; interrupts = k.interrupts }

pub rx_runs : (v : DriverView) (s : SetupView) (q : ℕ) (d d' : RxDriverView) → Runs v s → d ≡ get_or v.rx q d → q < length v.rx → IsNearRx d d' → Runs (record v { rx = set v.rx q d' }) s
rx_runs v s q d d' k at lt n = record { keeps = near_rx v q d d' k.keeps at lt n; settled = k.settled; setup = k.setup; short = k.short; interrupts = k.interrupts }
