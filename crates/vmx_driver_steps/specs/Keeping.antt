-- The steps of a driver keep what always holds of it.
use Rattle.std.proofs.Common.{◌≡◌, ℕ, ◌+◌, ◌<◌, true, false, List, [], ◌∷◌, ◌++◌, length, length-append, map, get_or, set, ap, sym, ◌∙◌, subst, arith, Some}
use Rattle.std.specs.List.{AllByRecursion, slice_get}
use Rattle.std.proofs.lemmas.List.{map-append, length-set}
use Rattle.std.proofs.lemmas.Option.{slice_get_within}
use Rattle.std.proofs.Math.Seq.{map-set_same}
use Rattle.vmx_ends.specs.declared.answers.Post.TheVariants.{Done as Posted_}
use Rattle.vmx_ends.specs.declared.frames.Sent.{Sent}
use Rattle.vmx_ends.specs.Transmit.{TxDriverView, TxDeviceView, TxView, posted}
use Rattle.vmx_ends.specs.TransmitClauses.{Posts, GrowsPosted}
use Rattle.vmx_ends.specs.Receive.{RxDriverView}
use Rattle.vmx_pcap.specs.declared.records.Stamped.{Stamped}
use Rattle.vmx_model.specs.declared.guest.GuestPlan.{GuestPlan}
use Rattle.vmx_model.specs.Wire.{posted_form, tx_queue}
use Rattle.vmx_device_state.specs.Deals.{Held as HeldEnds}
use Rattle.vmx_ends.specs.Frames.{sent_as}
use Rattle.vmx_ends.specs.declared.meta.TxMark.{TxMark}
use Rattle.vmx_model.specs.Plan.{captured_as}
use Rattle.vmx_model.specs.QueueSteps.{sent_before}
use Rattle.vmx_model.specs.Bags.{Pairwise}
use Rattle.vmx_driver_steps.specs.declared.progress.Then.{Then}
use Rattle.vmx_driver_steps.specs.declared.progress.Then.TheVariants.{Rest, Renew, End}
use Rattle.vmx_driver_steps.specs.declared.progress.Stage.{Stage}
use Rattle.vmx_driver_steps.specs.declared.progress.Stage.TheVariants.{Fresh, Active, Stopping, Held, Quiet, Ended}
use Rattle.vmx_driver_steps.specs.Progress.{in_hand, begun_actions, is_later, is_sendable, IsUnderway}
use Rattle.vmx_driver_steps.specs.Steps.{one_more, as_before, raised}
use Rattle.vmx_driver_steps.specs.Each.{each_map, each_set, each_pair, each_at, pair_length, pair_part, pair_first, every_map, every_two, are_below}
use Rattle.vmx_driver_steps.specs.Queues.{IsReaped}
use Rattle.vmx_driver_steps.specs.Driver.{DriverView, Keeps, SendsPlan, SentPlan, AreOneTx, IsHeldTx, AreHeld, IsReady, IsParting, other_ends, posted_as, Commands}

-- ------------------------------------------------------------ another number

sends_same : (g : ℕ) (p : GuestPlan) (a n n' q : ℕ) (d : TxDriverView) → sent_before p a q n' ≡ sent_before p a q n → SendsPlan g p a n q d → SendsPlan g p a n' q d
sends_same g p a n n' q d e h = record { made = h.made; sent = h.sent ∙ ap (map posted_as) (sym e); reaped = h.reaped; posted = h.posted }

facts_same : (p : GuestPlan) (n n' : ℕ) (f : TxView) → sent_before p f.made.name.activation f.made.name.queue n' ≡ sent_before p f.made.name.activation f.made.name.queue n → SentPlan p n f → SentPlan p n' f
facts_same p n n' f e h = record { made = h.made; sent = h.sent ∙ ap (map posted_as) (sym e); met = h.met; reaped = h.reaped; whole = h.whole }

-- frames that go on no queue are passed over
pub moves : (v : DriverView) (n : ℕ) → Keeps v → IsUnderway v.plan (record v.at { next = n }) → ((a q : ℕ) → sent_before v.plan a q n ≡ sent_before v.plan a q v.at.next) → Keeps (record v { at = record v.at { next = n } })
moves v n k under same = record {
  under = under;
  tx_count = k.tx_count;
  rx_count = k.rx_count;
  tx = each_map (SendsPlan v.guest v.plan v.at.ended v.at.next) (SendsPlan v.guest v.plan v.at.ended n) 0 v.tx (λ q d h. sends_same v.guest v.plan v.at.ended v.at.next n q d (same v.at.ended q) h) k.tx;
  rx = k.rx;
  held = k.held;
  parting = k.parting;
  commands = record { sent = k.commands.sent; zero = k.commands.zero; leads = k.commands.leads; gives = k.commands.gives };
  bags = k.bags;
  bags_are = k.bags_are;
  gifts_are = k.gifts_are;
  got_back = k.got_back;
  tx_names = k.tx_names;
  rx_names = k.rx_names;
  tx_facts = every_map (SentPlan v.plan v.at.next) (SentPlan v.plan n) v.tx_facts (λ f h. facts_same v.plan v.at.next n f (same f.made.name.activation f.made.name.queue) h) k.tx_facts;
  rx_facts = k.rx_facts;
  owned = k.owned;
  rising = k.rising;
  none_yet = λ a q le. same a q ∙ k.none_yet a q le;
}

-- ------------------------------------------------------------ a frame

module _ (v : DriverView) (k : Keeps v) (r : Stamped) (there : slice_get v.plan.capture.records v.at.next ≡ Some r) (later : is_later v.at.next (slice_get v.plan.script v.at.done) ≡ true)
    (on : v.at.stage ≡ Active) (fit : is_sendable v.plan r.frame ≡ true) where
  abbrev p : GuestPlan
  p = v.plan

  abbrev frame : List ℕ
  frame = r.frame

  abbrev q : ℕ
  q = tx_queue frame p.setup.tx_queues

  below : v.at.next < length p.capture.records
  below = slice_get_within p.capture.records v.at.next r there

  under_next : IsUnderway p (record v.at { next = v.at.next + 1 })
  under_next = let lt = below in record {
    done = k.under.done;
    next = omega (arith, lt);
    reached = λ lt'. raised v.at.next (begun_actions p v.at) (k.under.reached below);
    counted = k.under.counted;
    quiet = k.under.quiet;
    whole = λ d. let n = (k.under.whole d).1 in absurd (omega (arith, n, lt));
    closed = λ c. let n = (k.under.closed c).1 in absurd (omega (arith, n, lt));
  }

  elsewhere : (a q' : ℕ) → ((a ≡ v.at.ended) → (q' ≡ q) → ⊥) → sent_before p a q' (v.at.next + 1) ≡ sent_before p a q' v.at.next
  elsewhere a q' other = as_before p v.at r k.under there below later on fit a q' other

  -- the frame is posted on its queue
  pub posts : (d d' : TxDriverView) (mark : TxMark) (place : ℕ) → d ≡ get_or v.tx q d → q < length v.tx → sent_as frame mark ≡ posted_form p frame → Posts d frame mark (Posted_ place) d' → GrowsPosted d d'
      → Keeps (record v { at = record v.at { next = v.at.next + 1 }; tx = set v.tx q d' })
  posts d d' mark place at lt marked told grows = record {
    under = under_next;
    tx_count = length-set v.tx q d' ∙ k.tx_count;
    rx_count = k.rx_count;
    tx = each_set (SendsPlan v.guest p v.at.ended v.at.next) (SendsPlan v.guest p v.at.ended (v.at.next + 1)) 0 v.tx q d'
        (λ q' x ne h. sends_same v.guest p v.at.ended v.at.next (v.at.next + 1) q' x (elsewhere v.at.ended q' (λ a e. ne (e ∙ sym zero_q))) h) (subst (λ (n : ℕ). SendsPlan v.guest p v.at.ended (v.at.next + 1) n d') (sym zero_q) here) k.tx;
    rx = k.rx;
    held = holds v.at.stage on k.held;
    parting = parts v.at.stage on k.parting;
    commands = commands_same;
    bags = k.bags;
    bags_are = k.bags_are;
    gifts_are = gifts_same v.at.stage on k.gifts_are;
    got_back = k.got_back;
    tx_names = k.tx_names;
    rx_names = k.rx_names;
    tx_facts = every_two (SentPlan p v.at.next) (λ (f : TxView). f.made.name.activation < v.at.ended) (SentPlan p (v.at.next + 1)) v.tx_facts
        (λ f h low. facts_same p v.at.next (v.at.next + 1) f (elsewhere f.made.name.activation f.made.name.queue (λ a e. absurd (omega (arith, low, a)))) h) k.tx_facts
        (are_below v.guest p.setup.tx_queues v.at.ended (λ (f : TxView). f.made.name) v.tx_facts k.tx_names);
    rx_facts = k.rx_facts;
    owned = k.owned;
    rising = k.rising;
    none_yet = λ a q' le. let one = ap in_hand on in elsewhere a q' (λ e _. absurd (omega (arith, e, le, one))) ∙ k.none_yet a q' le;
  }
    where
      is : d' ≡ record d { sent = d.sent ++ posted_form p frame ∷ [] }
      is = told.2 ∙ ap (λ (x : Sent). record d { sent = d.sent ++ x ∷ [] }) marked

      zero_q : 0 + q ≡ q
      zero_q = omega arith

      key : d'.key ≡ d.key
      key = ap (λ (x : TxDriverView). x.key) is

      keys_same : map (λ (x : TxDriverView). x.key) (set v.tx q d') ≡ map (λ (x : TxDriverView). x.key) v.tx
      keys_same = map-set_same (λ (x : TxDriverView). x.key) v.tx q d' d (key ∙ ap (λ (x : TxDriverView). x.key) at)

      was : SendsPlan v.guest p v.at.ended v.at.next q d
      was = let e : 0 + q ≡ q = omega arith in subst (SendsPlan v.guest p v.at.ended v.at.next q) (sym at) (subst (λ (n : ℕ). SendsPlan v.guest p v.at.ended v.at.next n (get_or v.tx q d)) e (each_at (SendsPlan v.guest p v.at.ended v.at.next) 0 v.tx q d lt k.tx))

      sent_is : d'.sent ≡ d.sent ++ posted_form p frame ∷ []
      sent_is = ap (λ (x : TxDriverView). x.sent) is

      one_longer : length d'.sent ≡ length d.sent + 1
      one_longer = ap length sent_is ∙ length-append d.sent (posted_form p frame ∷ [])

      here : SendsPlan v.guest p v.at.ended (v.at.next + 1) q d'
      here = let h = was in let low = h.reaped in let few = h.posted in let len = one_longer in let reaped = ap (λ (x : TxDriverView). x.reaped) is in let more = grows.1 in record {
        made = ap (λ (x : TxDriverView). x.made) is ∙ h.made;
        sent = sent_is ∙ ap (λ (xs : List Sent). xs ++ posted_form p frame ∷ []) h.sent ∙ sym (map-append posted_as (sent_before p v.at.ended q v.at.next) (captured_as p v.at.next r ∷ []))
            ∙ ap (map posted_as) (sym (one_more p v.at r k.under there below later on fit));
        reaped = omega (arith, low, len, reaped);
        posted = omega (arith, few, len, more);
      }

      holds : (g : Stage) → g ≡ Active → AreHeld g v.tx v.rx v.tx_held v.rx_held → AreHeld g (set v.tx q d') v.rx v.tx_held v.rx_held
      holds Active e h = h
      holds Fresh e h = h
      holds (Stopping t) e h = h
      holds (Held t) e h = absurd (cc e)
      holds Quiet e h = h
      holds Ended e h = h

      parts : (g : Stage) → g ≡ Active → IsParting g p v.at.ended v.tx → IsParting g p v.at.ended (set v.tx q d')
      parts Active e h = h
      parts Fresh e h = h
      parts (Stopping t) e h = absurd (cc e)
      parts (Held t) e h = absurd (cc e)
      parts Quiet e h = h
      parts Ended e h = h

      gifts_same : {X : Type 0} (g : Stage) → g ≡ Active → X → X
      gifts_same g e h = h

      commands_same : Commands p (record v.at { next = v.at.next + 1 }) (other_ends (set v.tx q d') v.rx) v.calls
      commands_same = subst (λ (h : HeldEnds). Commands p (record v.at { next = v.at.next + 1 }) h v.calls)
          (λ i. record { keys = sym keys_same i ++ map (λ (x : RxDriverView). x.key) v.rx; tx = sym (length-set v.tx q d') i; rx = length v.rx; given = false })
          (record { sent = k.commands.sent; zero = k.commands.zero; leads = k.commands.leads; gives = k.commands.gives })

-- ------------------------------------------------------------ completions

-- completions are taken back
pub reaps : (v : DriverView) (tx' : List TxDriverView) → Keeps v → Pairwise IsReaped v.tx tx' → Keeps (record v { tx = tx' })
reaps v tx' k h = record {
  under = k.under;
  tx_count = pair_length IsReaped v.tx tx' h ∙ k.tx_count;
  rx_count = k.rx_count;
  tx = each_pair (SendsPlan v.guest v.plan v.at.ended v.at.next) (SendsPlan v.guest v.plan v.at.ended v.at.next) IsReaped 0 v.tx tx' (λ q x y r s. each q x y r s) h k.tx;
  rx = k.rx;
  held = holds v.at.stage k.held;
  parting = parts v.at.stage k.parting;
  commands = subst (λ (h : HeldEnds). Commands v.plan v.at h v.calls) (λ i. record { keys = sym keys_same i ++ map (λ (x : RxDriverView). x.key) v.rx; tx = sym (pair_length IsReaped v.tx tx' h) i; rx = length v.rx; given = false }) k.commands;
  bags = k.bags;
  bags_are = k.bags_are;
  gifts_are = k.gifts_are;
  got_back = k.got_back;
  tx_names = k.tx_names;
  rx_names = k.rx_names;
  tx_facts = k.tx_facts;
  rx_facts = k.rx_facts;
  owned = k.owned;
  rising = k.rising;
  none_yet = k.none_yet;
}
  where
    each : (q : ℕ) (x y : TxDriverView) → IsReaped x y → SendsPlan v.guest v.plan v.at.ended v.at.next q x → SendsPlan v.guest v.plan v.at.ended v.at.next q y
    each q x y r s = let few = s.posted in let same = ap posted r.is in let len = ap (λ (z : TxDriverView). length z.sent) r.is in record {
      made = ap (λ (z : TxDriverView). z.made) r.is ∙ s.made;
      sent = ap (λ (z : TxDriverView). z.sent) r.is ∙ s.sent;
      reaped = r.within;
      posted = omega (arith, few, same, len);
    }

    keys_same : map (λ (x : TxDriverView). x.key) tx' ≡ map (λ (x : TxDriverView). x.key) v.tx
    keys_same = pair_part (λ (x : TxDriverView). x.key) IsReaped v.tx tx' (λ x y r. ap (λ (z : TxDriverView). z.key) r.is) h

    one : (x x' : TxDriverView) (e : TxDeviceView) → IsReaped x x' → AreOneTx x e → AreOneTx x' e
    one x x' e r o = record { key = ap (λ (z : TxDriverView). z.key) r.is ∙ o.key; idle = o.idle; even = o.even }

    held_one : (x x' : TxDriverView) (e : TxDeviceView) → IsReaped x x' → IsHeldTx x e → IsHeldTx x' e
    held_one x x' e r o = let told = o.told in let same = ap (λ (z : TxDriverView). z.heard) r.is in record { one = one x x' e r o.one; told = omega (arith, told, same) }

    all_reaped : (xs ys : List TxDriverView) → Pairwise IsReaped xs ys → AllByRecursion (λ (d : TxDriverView). d.reaped ≡ length d.sent) xs → AllByRecursion (λ (d : TxDriverView). d.reaped ≡ length d.sent) ys
    all_reaped [] [] r h = tt
    all_reaped [] (y ∷ ys) r h = absurd r
    all_reaped (x ∷ xs) [] r h = absurd r
    all_reaped (x ∷ xs) (y ∷ ys) r h = let within = r.0.within in let more = r.0.more in let was = h.0 in let len = ap (λ (z : TxDriverView). length z.sent) r.0.is in (omega (arith, within, more, was, len), all_reaped xs ys r.1 h.1)

    ready : (t : Then) → IsReady t v.plan v.at.ended v.tx → IsReady t v.plan v.at.ended tx'
    ready Rest o = all_reaped v.tx tx' h o
    ready End o = all_reaped v.tx tx' h o
    ready Renew o = o

    parts : (g : Stage) → IsParting g v.plan v.at.ended v.tx → IsParting g v.plan v.at.ended tx'
    parts (Held t) o = ready t o
    parts (Stopping t) o = ready t o
    parts Active o = o
    parts Fresh o = o
    parts Quiet o = o
    parts Ended o = o

    holds : (g : Stage) → AreHeld g v.tx v.rx v.tx_held v.rx_held → AreHeld g tx' v.rx v.tx_held v.rx_held
    holds (Held t) o = (pair_first IsHeldTx IsHeldTx IsReaped v.tx tx' v.tx_held (λ x x' e r o. held_one x x' e r o) h o.0, o.1)
    holds Active o = o
    holds Fresh o = o
    holds (Stopping t) o = o
    holds Quiet o = o
    holds Ended o = o
