-- What a device leaves, from what holds of it.
use Rattle.std.proofs.Common.{◌≡◌, ℕ, zero, suc, ◌+◌, ◌<◌, ◌≤◌, true, false, true≢false, nat_eq, List, [], ◌∷◌, ◌++◌, length, append-nil, map, refl, sym, ap, ◌∙◌, subst, arith, Some, Option}
use Rattle.std.specs.List.{filter, filter_map, slice_get, AllByRecursion}
use Rattle.std.proofs.lemmas.Bool.{eq-eqb, ne_eqb}
use Rattle.vmx_filters.specs.declared.answer.Verdict.{Verdict}
use Rattle.vmx_filters.specs.declared.answer.Verdict.TheVariants as verdict
use Rattle.vmx_io.specs.declared.handed.HandedView.{HandedView}
use Rattle.vmx_ends.specs.declared.packet.Packet.{Packet}
use Rattle.vmx_ends.specs.Frames.{sent_of}
use Rattle.vmx_ends.specs.LinkView.{LinkView}
use Rattle.vmx_ends.specs.Transmit.{TxDeviceView}
use Rattle.vmx_ends.specs.Receive.{RxDeviceView}
use Rattle.vmx_link.specs.Views.{LinkOutView, LinkInView}
use Rattle.vmx_link.specs.Ends.{met_view}
use Rattle.vmx_device_state.specs.SetupView.{SetupView}
use Rattle.vmx_device_state.specs.DeviceState.{DeviceState, Idle, Active}
use Rattle.vmx_machine_state.specs.Views.{EndsView, ActiveView, handed_of}
use Rattle.vmx_model.specs.Types.{Setup}
use Rattle.vmx_model.specs.declared.journal.Fate.{Fate}
use Rattle.vmx_model.specs.declared.journal.Entry.{Entry}
use Rattle.vmx_model.specs.declared.journal.Entry.TheVariants as entry
use Rattle.vmx_model.specs.declared.journal.Fate.TheVariants as fate
use Rattle.vmx_model.specs.Lists.{count, upto, EachAfter}
use Rattle.vmx_model.specs.Setups.{admits}
use Rattle.vmx_model.specs.Views.{GuestView}
use Rattle.vmx_model.specs.Stats.{counted, lacks_buffer, is_lost_on}
use Rattle.vmx_model.specs.Journal.{Beside, IsTaken, IsAdmitted, IsShown, IsLawful, IsLawfulJournal, is_setting, fates_in, state_at}
use Rattle.vmx_model.specs.JournalSteps.{stays}
use Rattle.vmx_model.specs.DeliverySteps.{deliveries_grow, came_up_grows}
use Rattle.vmx_model.specs.Order.{came_up, CameUp, on_rx}
use Rattle.vmx_model.specs.Account.{deliveries, arrival_in, arrival_by, planned, IsOfEnd, PushedOfEnd, SendsOnto, PullsFrom, place_from}
use Rattle.vmx_model.specs.Bags as bags
use Rattle.vmx_model.specs.Bags.{EachQueue, TookAsSaid, DeliveredAsSaid, HandsBack, AllHandBack, DeviceLeaves, gifts, ends_taken, ends_counts}
use Rattle.vmx_device_looks.specs.Queues.{each_map, each_all, all_at, all_map}
use Rattle.vmx_device_laws.specs.Views.{DeviceView, beside_of, held_ends}
use Rattle.vmx_device_laws.specs.Keeps.{Keeps, TookOn, GaveOn, EndsSay, OutSays, InSays, AreOwn, IsOwnFrame, AreTrusted, frames_of, frames_on, frames_at, is_stop, stops_in, taken_by}
use Rattle.vmx_device_laws.specs.Leaves.{HasEnded, IsOfDevice, LinksSay, unstopped}
use Rattle.vmx_device_laws.proofs.Held.{settings_are}

-- ------------------------------------------------------------ no queue was stopped

module _ (b : Beside) where
  taken_on : (before : List Entry) (s : SetupView) (frame : List ℕ) (f : Fate) → is_stop f ≡ false → IsTaken b before s frame f → IsTaken (unstopped b) before s frame f
  taken_on before s frame (fate.Up a q k) calm h = (h.0, h.1, h.2, refl)
  taken_on before s frame (fate.NoBuffer a q ring position look) calm h = (h.0, h.1, h.2, h.3, refl)
  taken_on before s frame (fate.Stopped a q) calm h = absurd (true≢false calm)
  taken_on before s frame (fate.LinkFull look) calm h = h
  taken_on before s frame fate.Inactive calm h = h
  taken_on before s frame (fate.Filtered r) calm h = h
  taken_on before s frame fate.Discarded calm h = h
  taken_on before s frame fate.NoPort calm h = h
  taken_on before s frame fate.Down calm h = h
  taken_on before s frame fate.Short calm h = h
  taken_on before s frame fate.TooLong calm h = h

  admitted_on : (before : List Entry) (s : SetupView) (frame : List ℕ) (f : Fate) (w : Verdict) → is_stop f ≡ false → IsAdmitted b before s frame f w → IsAdmitted (unstopped b) before s frame f w
  admitted_on before s frame f verdict.Yes calm h = taken_on before s frame f calm h
  admitted_on before s frame f (verdict.No r) calm h = h

  shown_on : (before : List Entry) (frame : List ℕ) (f : Fate) (d : DeviceState) → is_stop f ≡ false → IsShown b before frame f d → IsShown (unstopped b) before frame f d
  shown_on before frame f Idle calm h = h
  shown_on before frame f (Active s) calm h = admitted_on before s frame f (admits s b.mac frame) calm h

  entry_on : (setups : List Setup) (before : List Entry) (e : Entry) → stops_in e ≡ false → IsLawful b setups before e → IsLawful (unstopped b) setups before e
  entry_on setups before (entry.Setting number answer setup) calm h = h
  entry_on setups before (entry.Out tag target w) calm h = h
  entry_on setups before (entry.Lost tag) calm h = h
  entry_on setups before (entry.In from place f) calm h = (h.0, h.1, shown_on before h.0.frame f (state_at b.told before) calm h.2)

  each_on : (setups : List Setup) (before es : List Entry) → AllByRecursion (λ (e : Entry). stops_in e ≡ false) es → EachAfter (IsLawful b setups) before es → EachAfter (IsLawful (unstopped b) setups) before es
  each_on setups before [] none h = tt
  each_on setups before (e ∷ es) none h = (entry_on setups before e none.0 h.0, each_on setups (before ++ e ∷ []) es none.1 h.1)

  arrival_on : (a q : ℕ) (before : List Entry) (from place : ℕ) (f : Fate) → arrival_by (unstopped b) a q before from place f ≡ arrival_by b a q before from place f
  arrival_on a q before from place (fate.Up x r k) = refl
  arrival_on a q before from place (fate.NoBuffer x r ring position look) = refl
  arrival_on a q before from place (fate.Stopped x r) = refl
  arrival_on a q before from place (fate.LinkFull look) = refl
  arrival_on a q before from place fate.Inactive = refl
  arrival_on a q before from place (fate.Filtered r) = refl
  arrival_on a q before from place fate.Discarded = refl
  arrival_on a q before from place fate.NoPort = refl
  arrival_on a q before from place fate.Down = refl
  arrival_on a q before from place fate.Short = refl
  arrival_on a q before from place fate.TooLong = refl

  arrival_entry : (a q : ℕ) (before : List Entry) (e : Entry) → arrival_in (unstopped b) a q before e ≡ arrival_in b a q before e
  arrival_entry a q before (entry.Setting number answer setup) = refl
  arrival_entry a q before (entry.Out tag target w) = refl
  arrival_entry a q before (entry.Lost tag) = refl
  arrival_entry a q before (entry.In from place f) = arrival_on a q before from place f

  deliveries_on : (a q : ℕ) (before es : List Entry) → deliveries (unstopped b) a q before es ≡ deliveries b a q before es
  deliveries_on a q before [] = refl
  deliveries_on a q before (e ∷ es) = λ i. arrival_entry a q before e i ++ deliveries_on a q (before ++ e ∷ []) es i

-- ------------------------------------------------------------ frames by queue

-- the frames of queue j + q, the first end being queue j's
later : (q j : ℕ) (vs : List TxDeviceView) → q < j → bags.taken_by q j vs ≡ []
later q j [] lt = refl
later q j (v ∷ vs) lt = let no : nat_eq j q ≡ false = ne_eqb j q (λ e. omega (arith, e, lt)) in rw no (later q (suc j) vs (omega (arith, lt)))

on_queue : (j : ℕ) (vs : List TxDeviceView) (q : ℕ) → bags.taken_by (j + q) j vs ≡ frames_on vs q
on_queue j [] q = refl
on_queue j (v ∷ vs) zero =
    let yes' : nat_eq j (j + 0) ≡ true = eq-eqb j (j + 0) (omega arith) in
    rw yes' (ap (λ (fs : List (List ℕ)). frames_of v ++ fs) (later (j + 0) (suc j) vs (omega arith)) ∙ append-nil (frames_of v))
on_queue j (v ∷ vs) (suc q) =
    let no' : nat_eq j (j + suc q) ≡ false = ne_eqb j (j + suc q) (λ e. omega (arith, e)) in
    let there : j + suc q ≡ suc j + q = omega arith in
    rw no' (ap (λ (n : ℕ). bags.taken_by n (suc j) vs) there ∙ on_queue (suc j) vs q)

taken_is : (q : ℕ) (all : List EndsView) → taken_by q all ≡ ends_taken q all
taken_is q [] = refl
taken_is q (e ∷ all) = let zero_q : 0 + q ≡ q = omega arith in λ i. (sym (on_queue 0 e.tx q) ∙ ap (λ (n : ℕ). bags.taken_by n 0 e.tx) zero_q) i ++ taken_is q all i

trusted_past : (past : List EndsView) → AllByRecursion (λ (v : HandedView). v.given ≡ false) (map handed_of past) → AreTrusted past
trusted_past [] h = tt
trusted_past (e ∷ past) h = (h.0, trusted_past past h.1)

-- ------------------------------------------------------------ the device's part of what its guest leaves

module _ (d : DeviceView) (b : Beside) (k : Keeps d) (e : HasEnded d b) where
  le : count is_setting d.entries ≤ length d.calls.served
  le = omega (arith, settings_are d k)

  none : k.past ++ held_ends d.machine.active ≡ k.past
  none = ap (λ (o : Option ActiveView). k.past ++ held_ends o) e.idle ∙ append-nil k.past

  trusted : AreTrusted (k.past ++ held_ends d.machine.active)
  trusted = subst AreTrusted (sym none) (trusted_past k.past (subst (AllByRecursion (λ (v : HandedView). v.given ≡ false)) k.bags e.trusted))

  lawful_now : IsLawfulJournal (unstopped (beside_of d)) d.entries d.setups
  lawful_now = record { each = each_on (beside_of d) d.setups [] d.entries (k.fine trusted).fates k.lawful.each; no_more = k.lawful.no_more }

  lawful : IsLawfulJournal b d.entries d.setups
  lawful = stays (unstopped (beside_of d)) b e.extends d.setups d.entries le lawful_now

  port : b.port ≡ d.port
  port = e.extends.port

  own : AllByRecursion (AreOwn d.port k.past) d.out
  own = subst (λ (all : List EndsView). AllByRecursion (AreOwn d.port all) d.out) none k.own

  packets : (a q : ℕ) (v : TxDeviceView) → frames_at k.past a q ≡ frames_of v → (ls : List LinkView) → AllByRecursion (λ (l : LinkView). l.from ≡ d.port → (n : ℕ) × ((o : LinkOutView) × (slice_get d.out n ≡ Some o) × (l.pushed ≡ o.pushed))) ls
      → AllByRecursion (λ (l : LinkView). l.from ≡ d.port → AllByRecursion (IsOfEnd d.port a q (sent_of v.taken)) l.pushed) ls
  packets a q v is [] h = tt
  packets a q v is (l ∷ ls) h = (
    λ from.
        let s = h.0 from in
        let are = all_at (AreOwn d.port k.past) d.out s.0 s.1.0 s.1.1 own in
        subst (AllByRecursion (IsOfEnd d.port a q (sent_of v.taken))) (sym s.1.2) (all_map (λ (x : Packet). IsOwnFrame d.port k.past x.tag x.frame) (IsOfEnd d.port a q (sent_of v.taken)) (λ x x_own act queue. (
          x_own.guest,
          subst (λ (fs : List (List ℕ)). slice_get fs x.tag.place ≡ Some x.frame) ((λ i. frames_at k.past (act i) (queue i)) ∙ is) x_own.is,
        )) s.1.0.pushed are),
    packets a q v is ls h.1,
  )

  took : (a q : ℕ) (v : TxDeviceView) → frames_at k.past a q ≡ frames_of v → TookOn d.table d.port d.entries a q v → TookAsSaid d.table b d.entries a q v
  took a q v is s = record {
    sends = s.sends ∙ ap (λ (g : ℕ). planned d.table g a q 0 (frames_of v)) (sym port);
    completed = s.completed;
    packets = subst (λ (g : ℕ). PushedOfEnd b.links g a q (sent_of v.taken)) (sym port) (packets a q v is b.links e.sent);
  }

  gave : (a q : ℕ) (v : RxDeviceView) → GaveOn (beside_of d) d.entries a q v → DeliveredAsSaid b d.entries a q v
  gave a q v s = record {
    delivered = s.delivered ∙ sym (deliveries_on (beside_of d) a q [] d.entries) ∙ sym (deliveries_grow (unstopped (beside_of d)) b e.extends d.setups a q [] d.entries le lawful_now.each);
    refused = s.refused;
  }

  all_took : (a q : ℕ) (vs : List TxDeviceView) → ((j : ℕ) → frames_at k.past a (q + j) ≡ frames_on vs j) → EachQueue (TookOn d.table d.port d.entries a) q vs → EachQueue (TookAsSaid d.table b d.entries a) q vs
  all_took a q [] is h = tt
  all_took a q (v ∷ vs) is h =
      let here : q + 0 ≡ q = omega arith in
      (took a q v (ap (frames_at k.past a) (sym here) ∙ is 0) h.0, all_took a (suc q) vs (λ j. let next : suc q + j ≡ q + suc j = omega arith in ap (frames_at k.past a) next ∙ is (suc j)) h.1)

  all_hand : (a : ℕ) (xs : List EndsView) → ((j q : ℕ) → frames_at k.past (a + j) q ≡ frames_at xs j q) → EachQueue (EndsSay d.table (beside_of d) d.entries) a xs → AllHandBack d.table b d.entries a xs
  all_hand a [] is h = tt
  all_hand a (x ∷ xs) is h =
      let here : a + 0 ≡ a = omega arith in (
        record {
          took = all_took a 0 x.tx (λ j. let zero_j : 0 + j ≡ j = omega arith in (λ i. frames_at k.past (sym here i) (zero_j i)) ∙ is 0 j) h.0.tx;
          gave = each_map (GaveOn (beside_of d) d.entries a) (DeliveredAsSaid b d.entries a) 0 x.rx (λ q v lo lt s. gave a q v s) h.0.rx;
        },
        all_hand (suc a) xs (λ j q. let next : suc a + j ≡ a + suc j = omega arith in ap (λ (n : ℕ). frames_at k.past n q) next ∙ is (suc j) q) h.1,
      )

  pub leaves : (v : GuestView) → IsOfDevice d v → DeviceLeaves d.table b v
  leaves v of =
      let fine = k.fine trusted in record {
        lawful = subst (λ (y : List Entry × List Setup). IsLawfulJournal b y.0 y.1) (λ i. (sym of.entries i, sym of.setups i)) lawful;
        ends = k.past;
        handed = ap gifts of.told ∙ k.bags;
        hands_back = subst (λ (es : List Entry). AllHandBack d.table b es 0 k.past) (sym of.entries)
            (all_hand 0 k.past (λ j q. let zero_j : 0 + j ≡ j = omega arith in ap (λ (n : ℕ). frames_at k.past n q) zero_j) (subst (EachQueue (EndsSay d.table (beside_of d) d.entries) 0) none k.says));
        tx_stats = of.tx_stats ∙ k.tx_stats ∙ (λ i. map (λ q. counted (taken_by q (none i)) (fine.tx q i) (count (is_lost_on q) d.entries)) (upto 0 8))
            ∙ (λ i. map (λ q. counted (taken_is q k.past i) 0 (count (is_lost_on q) d.entries)) (upto 0 8)) ∙ ap (ends_counts k.past) (sym of.entries);
        rx_stats = of.rx_stats ∙ k.rx_stats
            ∙ (λ i. map (λ q. counted (map (λ (u : CameUp). u.packet.frame) (filter (on_rx q) (sym (came_up_grows (unstopped (beside_of d)) b e.extends d.setups [] d.entries lawful_now.each) i))) (count (lacks_buffer q) (fates_in d.entries)) (fine.rx q i)) (upto 0 8))
            ∙ (λ i. map (λ q. counted (map (λ (u : CameUp). u.packet.frame) (filter (on_rx q) (came_up b.links b.port (sym of.entries i)))) (count (lacks_buffer q) (fates_in (sym of.entries i))) 0) (upto 0 8));
      }

-- its links
pub links_say : (d : DeviceView) → Keeps d → LinksSay d
links_say d k = record {
  sends = each_all (OutSays d.port d.entries) (λ (o : LinkOutView). (i : LinkInView) → SendsOnto d.entries (met_view o i)) 0 d.out (λ j o s i. record { tags = s.tags; places = s.places; looks = s.looks; full = s.full }) k.out;
  pulls = each_all (InSays d.port d.entries) (λ (i : LinkInView). (o : LinkOutView) → o.from ≡ i.from → PullsFrom d.entries (met_view o i)) 0 d.input (λ j i s o same. record { arrivals = ap (λ (n : ℕ). filter_map (place_from n) d.entries) same ∙ s.arrivals }) k.input;
}
