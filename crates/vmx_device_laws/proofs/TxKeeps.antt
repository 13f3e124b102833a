-- A device stays as it was said after a look at a transmit queue.
use Rattle.std.proofs.Common.{◌≡◌, ◌≢◌, ℕ, zero, suc, ◌+◌, ◌*◌, ◌-◌, ◌^◌, ◌<◌, ◌≤◌, ◌⊎◌, inl, inr, Bool, true, false, not, ◌==◌, List, [], ◌∷◌, ◌++◌, length, length-append, map, set, get_or, refl, sym, ap, ◌∙◌, subst, arith, Some, None, Option}
use Rattle.std.specs.List.{filter, filter_map, slice_get, AllByRecursion}
use Rattle.std.proofs.lemmas.List.{length-set}
use Rattle.vmx_switch.specs.Ports.{Wiring, target_ports}
use Rattle.vmx_shared_area.specs.declared.stats.Side.TheVariants.{Tx}
use Rattle.vmx_ends.specs.declared.packet.Tag.{Tag}
use Rattle.vmx_ends.specs.declared.frames.Sent.{Sent}
use Rattle.vmx_ends.specs.Frames.{sent_of, sent_as}
use Rattle.vmx_ends.specs.Transmit.{TxDeviceView, found_in}
use Rattle.vmx_ends.specs.LinkView.{LinkView}
use Rattle.vmx_ends.specs.Receive.{RxDeviceView}
use Rattle.vmx_link.specs.Views.{LinkOutView}
use Rattle.vmx_regs.specs.declared.known.Masks.{Masks}
use Rattle.vmx_machine_state.specs.declared.statistics.Count.TheVariants.{Error}
use Rattle.vmx_machine_state.specs.Statistics as commands
use Rattle.vmx_machine_state.specs.Statistics.{after_count}
use Rattle.vmx_machine_state.specs.Stopped.{after_stop, error_of}
use Rattle.vmx_machine_state.specs.Views.{EndsView, ActiveView, MachineView}
use Rattle.vmx_model.specs.declared.journal.Entry.{Entry}
use Rattle.vmx_model.specs.Lists.{count, upto}
use Rattle.vmx_model.specs.Stats.{is_lost_on, lacks_buffer, counted}
use Rattle.vmx_model.specs.Wire.{wire_form}
use Rattle.vmx_model.specs.Journal.{Beside, HasTx, is_activation, activation_of, state_at}
use Rattle.vmx_model.specs.Order.{on_rx, CameUp}
use Rattle.vmx_model.specs.Account.{Send, send_of, of_queue, sends_on, frame_sends, planned}
use Rattle.vmx_model.specs.Bags.{EachQueue}
use Rattle.vmx_device_looks.specs.Queues.{each_map, each_set, each_at, each_push, each_front, each_last, all_map, get_lt}
use Rattle.vmx_device_looks.specs.Links.{PutsFrame}
use Rattle.vmx_device_looks.specs.Looks.{TxAt, MayTake, with_tx}
use Rattle.vmx_device_laws.specs.Views.{DeviceView, beside_of, tx_held}
use Rattle.vmx_device_laws.specs.Keeps.{Keeps, TookOn, GaveOn, EndsSay, IsUnsaid, InSays, OutSays, AreOwn, IsOwnFrame, AreTrusted, frames_of, frames_on, frames_at, sent_counts, came_counts, taken_by}
use Rattle.vmx_device_laws.specs.Steps.{TxStep, SeesNoFrame, SwitchesFrame, StopsQueue, counted_taken, tag_of}
use Rattle.vmx_device_laws.proofs.Lists.{get_append, get_last, get_some, length_last, filter_less}
use Rattle.vmx_device_laws.proofs.Held.{active_with, opened, with_end, held_tx_same, trusted_tx, no_tx_given, state_now}
use Rattle.vmx_device_laws.proofs.Sends.{Sending, FrameSends, sending, took, frame_puts, asked_stay, fates_stay, came_stays, activations_stay, needs_stay, ups_stay, in_stays, deliveries_stay, journal_sends, sends_elsewhere, took_here, frames_took, length_frames, stopped_stays, none_stops}
use Rattle.vmx_device_laws.proofs.Pushes.{frame_says, frame_own, frame_many}
use Rattle.vmx_device_laws.proofs.Stats.{stats_taken, stats_error, one_error}

-- ------------------------------------------------------------ frames that were taken stay

module _ (q : ℕ) (v : TxDeviceView) (s : Sent) (n : ℕ) where
  on_grows : (vs : List TxDeviceView) (i q' place : ℕ) (f : List ℕ) → slice_get vs i ≡ Some v → slice_get (frames_on vs q') place ≡ Some f → slice_get (frames_on (set vs i (took v s n)) q') place ≡ Some f
  on_grows [] i q' place f at h = absurd (cc at)
  on_grows (w ∷ vs) zero zero place f at h =
      let same : w ≡ v = cc at in
      let old : slice_get (frames_of v) place ≡ Some f = subst (λ (u : TxDeviceView). slice_get (frames_of u) place ≡ Some f) same h in
      subst (λ (fs : List (List ℕ)). slice_get fs place ≡ Some f) (sym (frames_took v s n)) (get_append (frames_of v) (wire_form s ∷ []) place f old)
  on_grows (w ∷ vs) zero (suc q') place f at h = h
  on_grows (w ∷ vs) (suc i) zero place f at h = h
  on_grows (w ∷ vs) (suc i) (suc q') place f at h = on_grows vs i q' place f at h

  on_last : (vs : List TxDeviceView) (i : ℕ) → slice_get vs i ≡ Some v → slice_get (frames_on (set vs i (took v s n)) i) (length (frames_of v)) ≡ Some (wire_form s)
  on_last [] i at = absurd (cc at)
  on_last (w ∷ vs) zero at = subst (λ (fs : List (List ℕ)). slice_get fs (length (frames_of v)) ≡ Some (wire_form s)) (sym (frames_took v s n)) (get_last (frames_of v) (wire_form s))
  on_last (w ∷ vs) (suc i) at = on_last vs i at

at_grows : (past : List EndsView) (e e' : EndsView) → ((q place : ℕ) (f : List ℕ) → slice_get (frames_on e.tx q) place ≡ Some f → slice_get (frames_on e'.tx q) place ≡ Some f)
    → (a q place : ℕ) (f : List ℕ) → slice_get (frames_at (past ++ e ∷ []) a q) place ≡ Some f → slice_get (frames_at (past ++ e' ∷ []) a q) place ≡ Some f
at_grows [] e e' grows zero q place f h = grows q place f h
at_grows [] e e' grows (suc a) q place f h = h
at_grows (x ∷ past) e e' grows zero q place f h = h
at_grows (x ∷ past) e e' grows (suc a) q place f h = at_grows past e e' grows a q place f h

at_last : (past : List EndsView) (e : EndsView) (q : ℕ) → frames_at (past ++ e ∷ []) (length past) q ≡ frames_on e.tx q
at_last [] e q = refl
at_last (x ∷ past) e q = at_last past e q

-- ------------------------------------------------------------ a frame was taken

counts_stay : (t : Tag) (es more : List Entry) → Sending t more → (errors : ℕ → ℕ) (links : List LinkView) (port : ℕ) → came_counts errors links port (es ++ more) ≡ came_counts errors links port es
counts_stay t es more are errors links port = λ i. map (λ q. counted (map (λ (u : CameUp). u.packet.frame) (filter (on_rx q) (came_stays t es more are links port i))) (count (lacks_buffer q) (fates_stay t es more are i)) (errors q)) (upto 0 8)

module _ (d : DeviceView) (a : ActiveView) (k : Keeps (active_with d a)) (q : ℕ) (v : TxDeviceView) (at : slice_get a.ends.tx q ≡ Some v) (s : Sent) (n : ℕ) (few : n ≤ 16) where
  abbrev pub tag_now : Tag
  tag_now = record { guest = d.port; activation = length k.past; queue = q; place = length v.taken }

  abbrev pub a_new : ActiveView
  a_new = with_end a q (took v s n)

  abbrev pub all_old : List EndsView
  all_old = k.past ++ a.ends ∷ []

  abbrev pub all_new : List EndsView
  all_new = k.past ++ a_new.ends ∷ []

  same_many : length all_new ≡ length all_old
  same_many = length_last k.past a_new.ends ∙ sym (length_last k.past a.ends)

  -- what was the device's is, and the new frame too
  pub own_grows : (outs : List LinkOutView) → AllByRecursion (AreOwn d.port all_old) outs → AllByRecursion (AreOwn d.port all_new) outs
  own_grows outs h = all_map (AreOwn d.port all_old) (AreOwn d.port all_new)
      (λ o are. all_map _ _ (λ x own. record { guest = own.guest; is = at_grows k.past a.ends a_new.ends (λ q' place f h. on_grows q v s n a.ends.tx q q' place f at h) x.tag.activation x.tag.queue x.tag.place x.frame own.is }) o.pushed are) outs h

  pub own_new : IsOwnFrame d.port all_new tag_now (wire_form s)
  own_new = record {
    guest = refl;
    is = subst (λ (fs : List (List ℕ)). slice_get fs (length v.taken) ≡ Some (wire_form s)) (sym (at_last k.past a_new.ends q))
        (subst (λ (m : ℕ). slice_get (frames_on a_new.ends.tx q) m ≡ Some (wire_form s)) (length_frames v) (on_last q v s n a.ends.tx q at));
  }

  module _ (more : List Entry) (fs : FrameSends tag_now (target_ports d.table d.port (wire_form s)) more) where
    are : Sending tag_now more
    are = sending tag_now (target_ports d.table d.port (wire_form s)) more fs

    b : Beside
    b = beside_of (active_with d a)

    gave_stays : (act q' : ℕ) (w : RxDeviceView) → GaveOn (beside_of (active_with d a)) d.entries act q' w → GaveOn (beside_of (active_with d a)) (d.entries ++ more) act q' w
    gave_stays act q' w h = record {
      delivered = h.delivered ∙ sym (deliveries_stay (beside_of (active_with d a)) act q' tag_now d.entries more are);
      refused = h.refused ∙ sym (needs_stay tag_now d.entries more are act q');
      places = ups_stay tag_now d.entries more are act q' ∙ h.places;
      few = h.few;
      within = h.within;
    }

    took_stays : (act q' : ℕ) (w : TxDeviceView) → (length k.past ≢ act) ⊎ (q ≢ q') → TookOn d.table d.port d.entries act q' w → TookOn d.table d.port (d.entries ++ more) act q' w
    took_stays act q' w ne h = record {
      sends = sends_elsewhere act q' tag_now (target_ports d.table d.port (wire_form s)) d.entries more fs ne ∙ h.sends;
      completed = h.completed;
      few = h.few;
    }

    past_says : (act : ℕ) (e : EndsView) → length k.past ≢ act → EndsSay d.table (beside_of (active_with d a)) d.entries act e → EndsSay d.table (beside_of (active_with d a)) (d.entries ++ more) act e
    past_says act e ne says = record {
      tx = each_map (TookOn d.table d.port d.entries act) (TookOn d.table d.port (d.entries ++ more) act) 0 e.tx (λ i w le lt h. took_stays act i w (inl ne) h) says.tx;
      rx = each_map (GaveOn (beside_of (active_with d a)) d.entries act) (GaveOn (beside_of (active_with d a)) (d.entries ++ more) act) 0 e.rx (λ i w le lt h. gave_stays act i w h) says.rx;
    }

    now_says : EndsSay d.table (beside_of (active_with d a)) d.entries (length k.past) a.ends → EndsSay d.table (beside_of (active_with d a)) (d.entries ++ more) (length k.past) a_new.ends
    now_says says =
        let zero_q : 0 + q ≡ q = omega arith in
        let old : TookOn d.table d.port d.entries (length k.past) q v = subst (λ (i : ℕ). TookOn d.table d.port d.entries (length k.past) i v) zero_q (each_at (TookOn d.table d.port d.entries (length k.past)) 0 a.ends.tx q v at says.tx) in
        let new : TookOn d.table d.port (d.entries ++ more) (length k.past) q (took v s n) = took_here d.table d.port (length k.past) q d.entries more v s n few fs old in record {
          tx = each_set (TookOn d.table d.port d.entries (length k.past)) (TookOn d.table d.port (d.entries ++ more) (length k.past)) 0 a.ends.tx q (took v s n)
              (λ i w ne h. took_stays (length k.past) i w (inr (λ same. ne (sym same ∙ sym zero_q))) h)
              (subst (λ (i : ℕ). TookOn d.table d.port (d.entries ++ more) (length k.past) i (took v s n)) (sym zero_q) new) says.tx;
          rx = each_map (GaveOn (beside_of (active_with d a)) d.entries (length k.past)) (GaveOn (beside_of (active_with d a)) (d.entries ++ more) (length k.past)) 0 a.ends.rx (λ i w le lt h. gave_stays (length k.past) i w h) says.rx;
        }

    says_all : EachQueue (EndsSay d.table (beside_of (active_with d a)) (d.entries ++ more)) 0 all_new
    says_all =
        let P : ℕ → EndsView → Type 0 = EndsSay d.table (beside_of (active_with d a)) d.entries in
        let P' : ℕ → EndsView → Type 0 = EndsSay d.table (beside_of (active_with d a)) (d.entries ++ more) in
        let zero_past : 0 + length k.past ≡ length k.past = omega arith in
        let last : P (length k.past) a.ends = subst (λ (i : ℕ). EndsSay d.table (beside_of (active_with d a)) d.entries i a.ends) zero_past (each_last P 0 k.past a.ends k.says) in
        each_push P' 0 k.past a_new.ends
        (each_map P P' 0 k.past (λ act e le lt h. past_says act e (λ same. omega (arith, lt, same)) h) (each_front P 0 k.past a.ends k.says))
        (subst (λ (i : ℕ). EndsSay d.table (beside_of (active_with d a)) (d.entries ++ more) i a_new.ends) (sym zero_past) (now_says last))

    unsaid_all : (act : ℕ) → length all_new ≤ act → IsUnsaid (beside_of (active_with d a)) (d.entries ++ more) act
    unsaid_all act le =
        let le' : length all_old ≤ act = omega (arith, le, same_many) in
        let ne : length k.past ≢ act = λ same. omega (arith, same, le', length_last k.past a.ends) in
        let u = k.unsaid act le' in record {
          sends = λ q'. sends_elsewhere act q' tag_now (target_ports d.table d.port (wire_form s)) d.entries more fs (inl ne) ∙ u.sends q';
          deliveries_ = λ q'. deliveries_stay (beside_of (active_with d a)) act q' tag_now d.entries more are ∙ u.deliveries_ q';
          needs_ = λ q'. needs_stay tag_now d.entries more are act q' ∙ u.needs_ q';
          ups_ = λ q'. ups_stay tag_now d.entries more are act q' ∙ u.ups_ q';
        }

    now_is : length k.past ≡ activation_of d.entries
    now_is = omega (arith, k.begun, length_last k.past a.ends)

    has_tx : HasTx q (state_at d.calls.served d.entries)
    has_tx = subst (HasTx q) (sym (state_now (active_with d a) k)) (omega (arith, get_lt a.ends.tx q v at, k.fit.0))

    module _ (outs : List LinkOutView) (many : length outs ≡ length d.out) (out : EachQueue (OutSays d.port (d.entries ++ more)) 0 outs) (own : AllByRecursion (AreOwn d.port all_new) outs)
        (stats : List (List ℕ)) (stats_are : stats ≡ sent_counts k.tx_errors all_new (d.entries ++ more)) (masks : Masks) where
      -- the device after the frame was taken, completed and given to its targets
      pub keeps_taken : Keeps (record d { machine = record d.machine { active = Some a_new; tx_stats = stats }; masks = masks; out = outs; entries = d.entries ++ more })
      keeps_taken = record {
        past = k.past;
        bags = k.bags;
        begun = activations_stay tag_now d.entries more are ∙ k.begun ∙ sym same_many;
        says = says_all;
        unsaid = unsaid_all;
        fit = (length-set a.ends.tx q (took v s n) ∙ k.fit.0, k.fit.1, k.fit.2, k.fit.3);
        lawful = journal_sends (beside_of (active_with d a)) d.setups tag_now refl d.entries more are now_is has_tx k.lawful;
        told = asked_stay tag_now d.entries more are ∙ k.told;
        tracks = record { state = k.tracks.state; held = k.tracks.held ∙ ap Some (held_tx_same a q v (took v s n) at refl refl) };
        serving = k.serving;
        out = out;
        own = own;
        input = each_map (InSays d.port d.entries) (InSays d.port (d.entries ++ more)) 0 d.input (λ i x le lt h. in_stays tag_now d.entries more are d.port i x h) k.input;
        tx_errors = k.tx_errors;
        rx_errors = k.rx_errors;
        tx_stats = stats_are;
        rx_stats = k.rx_stats ∙ sym (counts_stay tag_now d.entries more are k.rx_errors (beside_of (active_with d a)).links d.port);
        stopped = λ j lt. k.stopped j lt ∙ sym (stopped_stays tag_now j false d.entries more are);
        errors = k.errors;
        fine = λ all. let none = k.fine (trusted_tx a q v (took v s n) at refl refl k.past all) in record { tx = none.tx; rx = none.rx; fates = none_stops tag_now d.entries more are none.fates };
        ports = (k.ports.0, ap suc many ∙ k.ports.1, k.ports.2 ∙ sym many, k.ports.3);
        interrupts = k.interrupts;
      }

-- ------------------------------------------------------------ a queue may be looked at

sends_less : (es : List Entry) → length (filter_map send_of es) ≤ length es
sends_less [] = omega arith
sends_less (e ∷ es) = step (send_of e) refl (sends_less es)
  where
    step : (o : Option Send) → send_of e ≡ o → length (filter_map send_of es) ≤ length es → length (filter_map send_of (e ∷ es)) ≤ suc (length es)
    step None k ih = rw k (omega (arith, ih))
    step (Some x) k ih = rw k (omega (arith, ih))

some_send : (t : Tag) (tos : List ℕ) → 1 ≤ length (frame_sends t tos)
some_send t [] = omega arith
some_send t (to ∷ tos) = omega arith

planned_more : (w : Wiring) (g a q k : ℕ) (fs : List (List ℕ)) → length fs ≤ length (planned w g a q k fs)
planned_more w g a q k [] = omega arith
planned_more w g a q k (f ∷ fs) =
    let t : Tag = record { guest = g; activation = a; queue = q; place = k } in
    omega (arith, planned_more w g a q (k + 1) fs, some_send t (target_ports w g f), length-append (frame_sends t (target_ports w g f)) (planned w g a q (k + 1) fs))

taken_few : (w : Wiring) (g a q : ℕ) (es : List Entry) (v : TxDeviceView) → TookOn w g es a q v → length v.taken ≤ length es
taken_few w g a q es v says =
    let same : length (sends_on a q es) ≡ length (planned w g a q 0 (frames_of v)) = ap length says.sends in
    omega (arith, same, planned_more w g a q 0 (frames_of v), length_frames v, filter_less (of_queue a q) (filter_map send_of es), sends_less es)

module _ (d : DeviceView) (a : ActiveView) (act : d.machine.active ≡ Some a) (k : Keeps d) where
  said_at : (q : ℕ) (v : TxDeviceView) → slice_get a.ends.tx q ≡ Some v → TookOn d.table d.port d.entries (length (opened d a act k).past) q v
  said_at q v at =
      let k' = opened d a act k in
      let zero_past : 0 + length (opened d a act k).past ≡ length (opened d a act k).past = omega arith in
      let zero_q : 0 + q ≡ q = omega arith in
      let last : EndsSay d.table (beside_of (active_with d a)) d.entries (length (opened d a act k).past) a.ends =
      subst (λ (i : ℕ). EndsSay d.table (beside_of (active_with d a)) d.entries i a.ends) zero_past (each_last (EndsSay d.table (beside_of (active_with d a)) d.entries) 0 k'.past a.ends k'.says) in
      subst (λ (i : ℕ). TookOn d.table d.port d.entries (length (opened d a act k).past) i v) zero_q (each_at (TookOn d.table d.port d.entries (length (opened d a act k).past)) 0 a.ends.tx q v at last.tx)

  tx_ready : (q : ℕ) → q < length a.ends.tx → length d.entries < 2 ^ 57 → MayTake d.machine q
  tx_ready q lt few =
      let v = get_some a.ends.tx q lt in
      let says = said_at q v.0 v.1 in
      let short = taken_few d.table d.port (length (opened d a act k).past) q d.entries v.0 says in
      record { here = record { active = a; is_active = act; end = v.0; at = v.1 }; idle = says.completed; taken = omega (arith, short, few); found = omega (arith, short, few, says.few) }

  some_begun : 1 ≤ count is_activation d.entries
  some_begun = let k' = opened d a act k in omega (arith, k'.begun, length-append k'.past (a.ends ∷ []))

  few_queues : (q : ℕ) → q < length a.ends.tx → q < 8
  few_queues q lt = let f = (opened d a act k).fit in omega (arith, lt, f.0, f.2)

-- the active machine, where a queue is held
pub held_one : (o : Option ActiveView) (q : ℕ) → q < tx_held o → (a : ActiveView) × (o ≡ Some a)
held_one None q lt = absurd (omega (arith, lt))
held_one (Some a) q lt = (a, refl)

pub held_lt : (o : Option ActiveView) (a : ActiveView) (q : ℕ) → o ≡ Some a → q < tx_held o → q < length a.ends.tx
held_lt o a q act lt = subst (λ (x : Option ActiveView). q < tx_held x) act lt

module _ (d : DeviceView) (k : Keeps d) (q : ℕ) (lt : q < tx_held d.machine.active) where
  pub may_take : length d.entries < 2 ^ 57 → MayTake d.machine q
  may_take few = let a = held_one d.machine.active q lt in tx_ready d a.0 a.1 k q (held_lt d.machine.active a.0 q a.1 lt) few

  pub has_begun : 1 ≤ count is_activation d.entries
  has_begun = let a = held_one d.machine.active q lt in some_begun d a.0 a.1 k

  pub few_tx : q < 8
  few_tx = let a = held_one d.machine.active q lt in few_queues d a.0 a.1 k q (held_lt d.machine.active a.0 q a.1 lt)

  pub tx_low : q < d.calls.interrupts
  tx_low = omega (arith, few_tx, k.interrupts)

pub event_low : (d : DeviceView) → Keeps d → (a : ActiveView) → d.machine.active ≡ Some a → a.setup.tx_queues + a.setup.rx_queues < d.calls.interrupts
event_low d k a act = let f = (opened d a act k).fit in omega (arith, f.2, f.3, k.interrupts)

-- ------------------------------------------------------------ a look that found nothing

-- an end that did nothing new
pub record DidNothing (v v' : TxDeviceView) : Type 0 where
  pub key : v'.key ≡ v.key
  pub taken : v'.taken ≡ v.taken
  pub completed : v'.completed ≡ v.completed
  pub given : v'.given ≡ v.given

on_same : (vs : List TxDeviceView) (i q : ℕ) (v v' : TxDeviceView) → slice_get vs i ≡ Some v → frames_of v' ≡ frames_of v → frames_on (set vs i v') q ≡ frames_on vs q
on_same [] i q v v' at e = refl
on_same (w ∷ vs) zero zero v v' at e = let same : w ≡ v = cc at in e ∙ ap frames_of (sym same)
on_same (w ∷ vs) zero (suc q) v v' at e = refl
on_same (w ∷ vs) (suc i) zero v v' at e = refl
on_same (w ∷ vs) (suc i) (suc q) v v' at e = on_same vs i q v v' at e

pub at_same : (past : List EndsView) (e e' : EndsView) → ((q : ℕ) → frames_on e'.tx q ≡ frames_on e.tx q) → (a q : ℕ) → frames_at (past ++ e' ∷ []) a q ≡ frames_at (past ++ e ∷ []) a q
at_same [] e e' same zero q = same q
at_same [] e e' same (suc a) q = refl
at_same (x ∷ past) e e' same zero q = refl
at_same (x ∷ past) e e' same (suc a) q = at_same past e e' same a q

pub by_same : (past : List EndsView) (e e' : EndsView) → ((q : ℕ) → frames_on e'.tx q ≡ frames_on e.tx q) → (q : ℕ) → taken_by q (past ++ e' ∷ []) ≡ taken_by q (past ++ e ∷ [])
by_same [] e e' same q = ap (λ (xs : List (List ℕ)). xs ++ []) (same q)
by_same (x ∷ past) e e' same q = ap (λ (xs : List (List ℕ)). frames_on x.tx q ++ xs) (by_same past e e' same q)

module _ (d : DeviceView) (a : ActiveView) (k : Keeps (active_with d a)) (q : ℕ) (v v' : TxDeviceView) (at : slice_get a.ends.tx q ≡ Some v) (same : DidNothing v v') where
  abbrev a' : ActiveView
  a' = with_end a q v'

  frames_same : frames_of v' ≡ frames_of v
  frames_same = ap (λ ts. map wire_form (sent_of ts)) same.taken

  on : (i : ℕ) → frames_on a'.ends.tx i ≡ frames_on a.ends.tx i
  on i = on_same a.ends.tx q i v v' at frames_same

  many : length (k.past ++ a'.ends ∷ []) ≡ length (k.past ++ a.ends ∷ [])
  many = length_last k.past a'.ends ∙ sym (length_last k.past a.ends)

  still_took : (act : ℕ) → TookOn d.table d.port d.entries act q v → TookOn d.table d.port d.entries act q v'
  still_took act s = record {
    sends = s.sends ∙ ap (planned d.table d.port act q 0) (sym frames_same);
    completed = same.completed ∙ s.completed ∙ ap length (sym same.taken);
    few = subst (λ ts. found_in ts ≤ 16 * length ts) (sym same.taken) s.few;
  }

  still_says : (act : ℕ) → EndsSay d.table (beside_of (active_with d a)) d.entries act a.ends → EndsSay d.table (beside_of (active_with d a)) d.entries act a'.ends
  still_says act s =
      let zero_q : 0 + q ≡ q = omega arith in
      let old : TookOn d.table d.port d.entries act q v = subst (λ (i : ℕ). TookOn d.table d.port d.entries act i v) zero_q (each_at (TookOn d.table d.port d.entries act) 0 a.ends.tx q v at s.tx) in record {
        tx = each_set (TookOn d.table d.port d.entries act) (TookOn d.table d.port d.entries act) 0 a.ends.tx q v' (λ i w ne h. h) (subst (λ (i : ℕ). TookOn d.table d.port d.entries act i v') (sym zero_q) (still_took act old)) s.tx;
        rx = s.rx;
      }

  own_same : (outs : List LinkOutView) → AllByRecursion (AreOwn d.port (k.past ++ a.ends ∷ [])) outs → AllByRecursion (AreOwn d.port (k.past ++ a'.ends ∷ [])) outs
  own_same outs h = all_map (AreOwn d.port (k.past ++ a.ends ∷ [])) (AreOwn d.port (k.past ++ a'.ends ∷ []))
      (λ o are. all_map _ _ (λ x own. record { guest = own.guest; is = ap (λ (fs : List (List ℕ)). slice_get fs x.tag.place) (at_same k.past a.ends a'.ends on x.tag.activation x.tag.queue) ∙ own.is }) o.pushed are) outs h

  module _ (errors : ℕ → ℕ) (stats : List (List ℕ)) (stopped : List (Option ℕ)) (masks : Masks) (stats_are : stats ≡ sent_counts errors (k.past ++ a.ends ∷ []) d.entries) (none : AreTrusted (k.past ++ a.ends ∷ []) → (j : ℕ) → errors j ≡ 0) where
    pub keeps_idle : Keeps (record d { machine = record d.machine { active = Some a'; tx_stats = stats; tx_stopped = stopped }; masks = masks })
    keeps_idle = record {
      past = k.past;
      bags = k.bags;
      begun = k.begun ∙ sym many;
      says = each_push (EndsSay d.table (beside_of (active_with d a)) d.entries) 0 k.past a'.ends (each_front (EndsSay d.table (beside_of (active_with d a)) d.entries) 0 k.past a.ends k.says)
          (still_says (0 + length k.past) (each_last (EndsSay d.table (beside_of (active_with d a)) d.entries) 0 k.past a.ends k.says));
      unsaid = λ act le. k.unsaid act (omega (arith, le, many));
      fit = (length-set a.ends.tx q v' ∙ k.fit.0, k.fit.1, k.fit.2, k.fit.3);
      lawful = k.lawful;
      told = k.told;
      tracks = record { state = k.tracks.state; held = k.tracks.held ∙ ap Some (held_tx_same a q v v' at same.key same.given) };
      serving = k.serving;
      out = k.out;
      own = own_same d.out k.own;
      input = k.input;
      tx_errors = errors;
      rx_errors = k.rx_errors;
      tx_stats = stats_are ∙ (λ i. map (λ j. counted (sym (by_same k.past a.ends a'.ends on j) i) (errors j) (count (is_lost_on j) d.entries)) (upto 0 8));
      rx_stats = k.rx_stats;
      stopped = k.stopped;
      errors = k.errors;
      fine = λ all. let old = trusted_tx a q v v' at same.key same.given k.past all in let no = k.fine old in record { tx = none old; rx = no.rx; fates = no.fates };
      ports = k.ports;
      interrupts = k.interrupts;
    }

-- ------------------------------------------------------------ all cases

pub with_tx_is : (d : DeviceView) (a : ActiveView) → d.machine.active ≡ Some a → (vs : List TxDeviceView) → with_tx vs d.machine ≡ record d.machine { active = Some (record a { ends = record a.ends { tx = vs } }) }
with_tx_is d a act vs = λ i. with_tx vs (record d.machine { active = act i })

-- the machine with an end that did nothing new
pub keeps_same_end : (d : DeviceView) → Keeps d → (q : ℕ) (here : TxAt d.machine q) (v' : TxDeviceView) (m : MachineView) → DidNothing here.end v' → m ≡ with_tx (set here.active.ends.tx q v') d.machine → Keeps (record d { machine = m })
keeps_same_end d k q here v' m same is =
    let k' = opened d here.active here.is_active k in
    subst (λ (x : MachineView). Keeps (record d { machine = x })) (sym (is ∙ with_tx_is d here.active here.is_active (set here.active.ends.tx q v')))
    (keeps_idle d here.active k' q here.end v' here.at same k'.tx_errors d.machine.tx_stats d.machine.tx_stopped d.masks k'.tx_stats (λ all. (k'.fine all).tx))

module _ (d d' : DeviceView) (k : Keeps d) (q : ℕ) where
  none_case : SeesNoFrame q d d' → Keeps d'
  none_case s =
      let h = s.takes.here in
      let is = s.takes.finds.is in
      subst Keeps (sym s.is) (keeps_same_end d k q h s.takes.after s.machine
      (record { key = ap (λ (v : TxDeviceView). v.key) is; taken = ap (λ (v : TxDeviceView). v.taken) is; completed = ap (λ (v : TxDeviceView). v.completed) is; given = ap (λ (v : TxDeviceView). v.given) is }) s.takes.is)

  bad_case : q < 8 → StopsQueue q d d' → Keeps d'
  bad_case lt s =
      let h = s.takes.here in
      let a = h.active in
      let is = s.takes.shows.is in
      let k' = opened d h.active h.is_active k in
      let same : DidNothing h.end s.takes.after = record { key = ap (λ (v : TxDeviceView). v.key) is; taken = ap (λ (v : TxDeviceView). v.taken) is; completed = ap (λ (v : TxDeviceView). v.completed) is; given = ap (λ (v : TxDeviceView). v.given) is } in
      let m_is : s.machine ≡ record d.machine { active = Some (with_end h.active q s.takes.after) } = s.takes.is ∙ with_tx_is d h.active h.is_active (set h.active.ends.tx q s.takes.after) in
      let done : Keeps (record d { machine = after_stop Tx q (error_of s.fault) (after_count Tx q Error (record d.machine { active = Some (with_end h.active q s.takes.after) })); masks = s.masks }) =
      keeps_idle d h.active k' q h.end s.takes.after h.at same (one_error q k'.tx_errors) (set d.machine.tx_stats q (commands.counted Tx Error (get_or d.machine.tx_stats q []))) (set d.machine.tx_stopped q (Some (error_of s.fault))) s.masks
      (stats_error q (k'.past ++ h.active.ends ∷ []) d.entries k'.tx_errors d.machine.tx_stats lt k'.tx_stats)
      (λ all. absurd (no_tx_given k'.past h.active.ends q h.end h.at s.takes.shows.given all)) in
      subst Keeps (sym (s.is ∙ ap (λ (x : MachineView). record d { machine = after_stop Tx q (error_of s.fault) (after_count Tx q Error x); masks = s.masks }) m_is)) done

  frame_case : q < 8 → SwitchesFrame q d d' → Keeps d'
  frame_case lt s =
      let h = s.takes.here in
      let k' = opened d h.active h.is_active k in
      let sent : Sent = sent_as s.bytes s.mark in
      let t = s.takes.takes in
      let after_is : s.takes.after ≡ took h.end (sent_as s.bytes s.mark) t.count = s.takes.completes ∙ ap (λ (v : TxDeviceView). record v { completed = suc v.completed }) t.is in
      let act_is : count is_activation d.entries - 1 ≡ length k'.past = omega (arith, k'.begun, length_last k'.past h.active.ends) in
      let tag_is : tag_of d q s.place ≡ record { guest = d.port; activation = length k'.past; queue = q; place = length h.end.taken } = λ i. record { guest = d.port; activation = act_is i; queue = q; place = t.place_is i } in
      let puts = subst (λ (x : Tag). PutsFrame d.port x (wire_form (sent_as s.bytes s.mark)) (target_ports d.table d.port (wire_form (sent_as s.bytes s.mark))) s.entries d.out s.out) tag_is s.puts in
      let now : Tag = record { guest = d.port; activation = length k'.past; queue = q; place = length h.end.taken } in
      let tos : List ℕ = target_ports d.table d.port (wire_form (sent_as s.bytes s.mark)) in
      let some : Bool = not (length (target_ports d.table d.port (wire_form (sent_as s.bytes s.mark))) == 0) in
      let fs = frame_puts d.port now (wire_form (sent_as s.bytes s.mark)) (target_ports d.table d.port (wire_form (sent_as s.bytes s.mark))) s.entries d.out s.out puts in
      let all_now : List EndsView = k'.past ++ (with_end h.active q (took h.end (sent_as s.bytes s.mark) t.count)).ends ∷ [] in
      let there : MachineView = record d.machine { active = Some (with_end h.active q (took h.end (sent_as s.bytes s.mark) t.count)) } in
      let m_is : s.machine ≡ there = s.takes.is ∙ ap (λ (v : TxDeviceView). with_tx (set h.active.ends.tx q v) d.machine) after_is ∙ with_tx_is d h.active h.is_active (set h.active.ends.tx q (took h.end (sent_as s.bytes s.mark) t.count)) in
      let counts : List (List ℕ) = sent_counts k'.tx_errors all_now (d.entries ++ s.entries) in
      let counted_is : counted_taken q (wire_form (sent_as s.bytes s.mark)) some s.machine ≡ record there { tx_stats = counts } =
      ap (counted_taken q (wire_form (sent_as s.bytes s.mark)) some) m_is
      ∙ stats_taken k'.past h.active.ends q h.end h.at (sent_as s.bytes s.mark) t.count d.entries s.entries now tos refl fs k'.tx_errors some refl lt there k'.tx_stats in
      let done = keeps_taken d h.active k' q h.end h.at (sent_as s.bytes s.mark) t.count t.few s.entries fs s.out
      (frame_many d.port now (wire_form (sent_as s.bytes s.mark)) tos s.entries d.out s.out puts)
      (frame_says d.port now (wire_form (sent_as s.bytes s.mark)) tos d.entries s.entries d.out s.out puts k'.out)
      (frame_own d.port all_now now (wire_form (sent_as s.bytes s.mark)) tos s.entries d.out s.out (own_new d h.active k' q h.end h.at (sent_as s.bytes s.mark) t.count t.few) puts
      (own_grows d h.active k' q h.end h.at (sent_as s.bytes s.mark) t.count t.few d.out k'.own))
      counts refl s.masks in
      subst Keeps (sym (s.is ∙ ap (λ (x : MachineView). record d { machine = x; masks = s.masks; out = s.out; entries = d.entries ++ s.entries }) counted_is)) done

  -- the device keeps what it keeps
  pub keeps_tx : (found : Bool) → q < tx_held d.machine.active → TxStep q found d d' → Keeps d'
  keeps_tx false lt s = elim s [ inl p ↦ subst Keeps (sym p.is) k | inr n ↦ none_case n ]
  keeps_tx true lt s = elim s [ inl f ↦ frame_case (few_tx d k q lt) f | inr b ↦ bad_case (few_tx d k q lt) b ]
