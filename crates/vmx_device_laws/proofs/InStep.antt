-- A device stays as it was said after a packet came over a link.
use Rattle.std.proofs.Common.{◌≡◌, ◌≢◌, ℕ, ◌+◌, ◌<◌, ◌≤◌, ◌⊎◌, inl, inr, Bool, false, List, [], ◌∷◌, ◌++◌, length, append-nil, map, set, get_or, refl, sym, ap, ◌∙◌, subst, arith, Some, None, Option}
use Rattle.std.specs.List.{filter, slice_get, AllByRecursion}
use Rattle.std.specs.Prelude.{is_some, ◌||◌, slice_index_or}
use Rattle.std.proofs.lemmas.List.{length-set}
use Rattle.std.proofs.lemmas.List.Elements.{filter-append}
use Rattle.vmx_shared_area.specs.declared.stats.Side.TheVariants.{Rx}
use Rattle.vmx_ends.specs.declared.packet.Packet.{Packet}
use Rattle.vmx_ends.specs.Receive.{RxDeviceView}
use Rattle.vmx_link.specs.Views.{LinkOutView, LinkInView}
use Rattle.vmx_machine_state.specs.declared.statistics.Count.{Count}
use Rattle.vmx_machine_state.specs.Statistics as commands
use Rattle.vmx_machine_state.specs.Statistics.{after_count}
use Rattle.vmx_machine_state.specs.Views.{EndsView, ActiveView}
use Rattle.vmx_model.specs.declared.journal.Entry.{Entry}
use Rattle.vmx_model.specs.declared.journal.Entry.TheVariants as entry
use Rattle.vmx_model.specs.declared.journal.Fate.{Fate}
use Rattle.vmx_model.specs.Lists.{count, upto}
use Rattle.vmx_regs.specs.declared.known.Masks.{Masks}
use Rattle.vmx_machine_state.specs.Stopped.{error_on}
use Rattle.vmx_model.specs.Stats.{counted, lacks_buffer}
use Rattle.vmx_model.specs.Journal.{Beside, IsShown, says_stopped, packet_at, state_at, fates_in}
use Rattle.vmx_model.specs.Order.{came_up, up_of, on_rx, CameUp}
use Rattle.vmx_device_laws.specs.Views.{DeviceView, beside_of, held_ends}
use Rattle.vmx_device_looks.specs.Ports.{other}
use Rattle.vmx_device_looks.specs.Links.{pulled_one}
use Rattle.vmx_device_looks.specs.Queues.{each_map, each_set, each_at, each_push, each_front, each_last, all_map}
use Rattle.vmx_device_laws.specs.Keeps.{Keeps, TookOn, GaveOn, EndsSay, AreOwn, AreTrusted, is_stop, came_counts, taken_by}
use Rattle.vmx_device_laws.proofs.Lists.{length_last}
use Rattle.vmx_device_laws.proofs.Held.{active_with, with_rx_end, held_rx_same, trusted_rx, settings_are}
use Rattle.vmx_device_laws.proofs.Stats.{set_upto, get_upto}
use Rattle.vmx_device_laws.proofs.TxKeeps.{at_same, by_same}
use Rattle.vmx_device_laws.proofs.Arrived.{packet_is, lawful_in, came_in, AddsNothing, gave_same, unsaid_same, took_same, asked_in, fates_are, activations_in, lost_in, outs_in, ins_in, stopped_in_, stops_in_, b_new}

-- the statistics of a side after one queue counted
pub rx_counted : (F F' : ℕ → List (List ℕ)) (L L' E E' : ℕ → ℕ) (q : ℕ) (stats : List (List ℕ)) (what : Count) → q < 8 → ((k : ℕ) → k ≢ q → (F' k ≡ F k) × (L' k ≡ L k) × (E' k ≡ E k)) → commands.counted Rx what (counted (F q) (L q) (E q)) ≡ counted (F' q) (L' q) (E' q)
    → stats ≡ map (λ k. counted (F k) (L k) (E k)) (upto 0 8) → set stats q (commands.counted Rx what (get_or stats q [])) ≡ map (λ k. counted (F' k) (L' k) (E' k)) (upto 0 8)
rx_counted F F' L L' E E' q stats what lt others here are =
    let f : ℕ → List ℕ = λ k. counted (F k) (L k) (E k) in
    let f' : ℕ → List ℕ = λ k. counted (F' k) (L' k) (E' k) in
    let zero_q : 0 + q ≡ q = omega arith in
    let now : get_or stats q [] ≡ f q = ap (λ (xs : List (List ℕ)). get_or xs q []) are ∙ get_upto f 0 8 q [] lt ∙ ap f zero_q in
    let new : commands.counted Rx what (get_or stats q []) ≡ f' (0 + q) = ap (commands.counted Rx what) now ∙ here ∙ ap f' (sym zero_q) in
    (λ i. set (are i) q (new i)) ∙ set_upto f f' 0 8 q lt (λ k ne. let o = others k (λ e. ne (e ∙ sym zero_q)) in λ i. counted (o.0 i) (o.1 i) (o.2 i))

frame_in : CameUp → List ℕ
frame_in u = u.packet.frame

module _ (d : DeviceView) (k : Keeps d) (n : ℕ) (i : LinkInView) (at : slice_get d.input n ≡ Some i) (x : Packet) (f : Fate) where
  abbrev pub es : List Entry
  es = d.entries ++ entry.In (other d.port n) (length i.pulled) f ∷ []

  abbrev pub ins : List LinkInView
  ins = set d.input n (pulled_one i x)

  abbrev pub b' : Beside
  b' = b_new d.port d.machine.mac d.calls.served d.input n i at x d.entries d.setups k.input f

  abbrev pub Nothing : ℕ → ℕ → Type 0
  Nothing a q = AddsNothing d.port d.machine.mac d.calls.served d.input n i at x d.entries d.setups k.input f (settings_are d k) k.lawful a q

  pub came_is : came_up b'.links d.port es ≡ came_up (beside_of d).links d.port d.entries ++ came_up b'.links d.port (entry.In (other d.port n) (length i.pulled) f ∷ [])
  came_is = came_in d.port d.machine.mac d.calls.served d.input n i at x d.entries d.setups k.input f (settings_are d k) k.lawful

  pub fates_is : fates_in es ≡ fates_in d.entries ++ f ∷ []
  fates_is = fates_are d.port d.machine.mac d.calls.served d.input n i at x d.entries d.setups k.input f

  pub packet_at_is : packet_at b'.links (other d.port n) d.port (length i.pulled) ≡ Some x
  packet_at_is = packet_is d.port d.machine.mac d.calls.served d.input n i at x d.entries d.setups k.input f

  says_same : (a : ℕ) (e : EndsView) → ((q : ℕ) → Nothing a q) → EndsSay d.table (beside_of d) d.entries a e → EndsSay d.table b' es a e
  says_same a e none s = record {
    tx = each_map (TookOn d.table d.port d.entries a) (TookOn d.table d.port es a) 0 e.tx (λ q v le lt h. took_same d.port d.machine.mac d.calls.served d.input n i at x d.entries d.setups k.input f d.table a q v h) s.tx;
    rx = each_map (GaveOn (beside_of d) d.entries a) (GaveOn b' es a) 0 e.rx (λ q v le lt h. gave_same d.port d.machine.mac d.calls.served d.input n i at x d.entries d.setups k.input f (settings_are d k) k.lawful a q v (none q) h) s.rx;
  }

  -- where nothing came up and no buffer lacked, the machine is as before
  pub keeps_plain : ((a q : ℕ) → Nothing a q) → up_of (Some x) f ≡ None → ((q : ℕ) → lacks_buffer q f ≡ false) → IsShown b' d.entries x.frame f (state_at d.calls.served d.entries)
      → ((q : ℕ) → q < 8 → is_some (error_on Rx d.machine q) ≡ (says_stopped q f || is_some (error_on Rx d.machine q))) → (AreTrusted (k.past ++ held_ends d.machine.active) → is_stop f ≡ false) → Keeps (record d { input = ins; entries = es })
  keeps_plain none up lacks shown stops calm =
      let all : List EndsView = k.past ++ held_ends d.machine.active in
      let nobody : came_up b'.links d.port (entry.In (other d.port n) (length i.pulled) f ∷ []) ≡ [] = let e : up_of (packet_at b'.links (other d.port n) d.port (length i.pulled)) f ≡ None = ap (λ (o : Option Packet). up_of o f) packet_at_is ∙ up in rw e refl in
      let came : came_up b'.links d.port es ≡ came_up (beside_of d).links d.port d.entries = came_is ∙ ap (λ (us : List CameUp). came_up (beside_of d).links d.port d.entries ++ us) nobody ∙ append-nil (came_up (beside_of d).links d.port d.entries) in
      let lack : (q : ℕ) → count (lacks_buffer q) (fates_in es) ≡ count (lacks_buffer q) (fates_in d.entries) =
      λ q. ap (count (lacks_buffer q)) fates_is ∙ ap length (filter-append (lacks_buffer q) (fates_in d.entries) (f ∷ []) ∙ ap (λ (fs : List Fate). filter (lacks_buffer q) (fates_in d.entries) ++ fs) (let e = lacks q in rw e refl) ∙ append-nil (filter (lacks_buffer q) (fates_in d.entries))) in record {
        past = k.past;
        bags = k.bags;
        begun = activations_in d.port d.machine.mac d.calls.served d.input n i at x d.entries d.setups k.input f ∙ k.begun;
        says = each_map (EndsSay d.table (beside_of d) d.entries) (EndsSay d.table b' es) 0 all (λ a e le lt h. says_same a e (none a) h) k.says;
        unsaid = λ a le. unsaid_same d.port d.machine.mac d.calls.served d.input n i at x d.entries d.setups k.input f (settings_are d k) k.lawful a (none a) (k.unsaid a le);
        fit = k.fit;
        lawful = lawful_in d.port d.machine.mac d.calls.served d.input n i at x d.entries d.setups k.input f (settings_are d k) k.lawful shown;
        told = asked_in d.port d.machine.mac d.calls.served d.input n i at x d.entries d.setups k.input f ∙ k.told;
        tracks = k.tracks;
        serving = k.serving;
        out = outs_in d.port d.machine.mac d.calls.served d.input n i at x d.entries d.setups k.input f d.out k.out;
        own = k.own;
        input = ins_in d.port d.machine.mac d.calls.served d.input n i at x d.entries d.setups k.input f;
        tx_errors = k.tx_errors;
        rx_errors = k.rx_errors;
        tx_stats = k.tx_stats ∙ (λ j. map (λ q. counted (taken_by q all) (k.tx_errors q) (sym (lost_in d.port d.machine.mac d.calls.served d.input n i at x d.entries d.setups k.input f q) j)) (upto 0 8));
        rx_stats = k.rx_stats ∙ (λ j. map (λ q. counted (map (λ (u : CameUp). u.packet.frame) (filter (on_rx q) (sym came j))) (sym (lack q) j) (k.rx_errors q)) (upto 0 8));
        stopped = λ q lt. stops q lt ∙ ap (λ (b : Bool). says_stopped q f || b) (k.stopped q lt) ∙ sym (stopped_in_ d.port d.machine.mac d.calls.served d.input n i at x d.entries d.setups k.input f q false);
        errors = k.errors;
        fine = λ trusted. let no = k.fine trusted in record { tx = no.tx; rx = no.rx; fates = stops_in_ d.port d.machine.mac d.calls.served d.input n i at x d.entries d.setups k.input f (calm trusted) no.fates };
        ports = (k.ports.0, k.ports.1, length-set d.input n (pulled_one i x) ∙ k.ports.2, k.ports.3);
        interrupts = k.interrupts;
      }

-- ------------------------------------------------------------ a frame that a queue was given

module _ (d : DeviceView) (a : ActiveView) (k : Keeps (active_with d a)) (n : ℕ) (i : LinkInView) (at : slice_get d.input n ≡ Some i) (x : Packet) (f : Fate) (q : ℕ) (v v' : RxDeviceView) (at_q : slice_get a.ends.rx q ≡ Some v) where
  abbrev pub d_old : DeviceView
  d_old = active_with d a

  abbrev pub none_at : ℕ → ℕ → Type 0
  none_at act q' = Nothing d_old k n i at x f act q'

  abbrev pub es' : List Entry
  es' = es d_old k n i at x f

  abbrev pub b'' : Beside
  b'' = b' d_old k n i at x f

  abbrev pub a_new : ActiveView
  a_new = with_rx_end a q v'

  all_many : length (k.past ++ a_new.ends ∷ []) ≡ length (k.past ++ a.ends ∷ [])
  all_many = length_last k.past a_new.ends ∙ sym (length_last k.past a.ends)

  says_past : (act : ℕ) (e : EndsView) → length k.past ≢ act → ((act q' : ℕ) → (length k.past ≢ act) ⊎ (q ≢ q') → none_at act q') → EndsSay d.table (beside_of d_old) d.entries act e → EndsSay d.table b'' es' act e
  says_past act e ne none s = record {
    tx = each_map (TookOn d.table d.port d.entries act) (TookOn d.table d.port es' act) 0 e.tx (λ j w le lt h. took_same d.port d.machine.mac d.calls.served d.input n i at x d.entries d.setups k.input f d.table act j w h) s.tx;
    rx = each_map (GaveOn (beside_of d_old) d.entries act) (GaveOn b'' es' act) 0 e.rx (λ j w le lt h. gave_same d.port d.machine.mac d.calls.served d.input n i at x d.entries d.setups k.input f (settings_are d_old k) k.lawful act j w (none act j (inl ne)) h) s.rx;
  }

  says_now : ((act q' : ℕ) → (length k.past ≢ act) ⊎ (q ≢ q') → none_at act q') → (GaveOn (beside_of d_old) d.entries (length k.past) q v → GaveOn b'' es' (length k.past) q v') → EndsSay d.table (beside_of d_old) d.entries (length k.past) a.ends → EndsSay d.table b'' es' (length k.past) a_new.ends
  says_now none here s =
      let zero_q : 0 + q ≡ q = omega arith in
      let old : GaveOn (beside_of d_old) d.entries (length k.past) q v = subst (λ (j : ℕ). GaveOn (beside_of d_old) d.entries (length k.past) j v) zero_q (each_at (GaveOn (beside_of d_old) d.entries (length k.past)) 0 a.ends.rx q v at_q s.rx) in record {
        tx = each_map (TookOn d.table d.port d.entries (length k.past)) (TookOn d.table d.port es' (length k.past)) 0 a.ends.tx (λ j w le lt h. took_same d.port d.machine.mac d.calls.served d.input n i at x d.entries d.setups k.input f d.table (length k.past) j w h) s.tx;
        rx = each_set (GaveOn (beside_of d_old) d.entries (length k.past)) (GaveOn b'' es' (length k.past)) 0 a.ends.rx q v'
            (λ j w ne h. gave_same d.port d.machine.mac d.calls.served d.input n i at x d.entries d.setups k.input f (settings_are d_old k) k.lawful (length k.past) j w (none (length k.past) j (inr (λ e. ne (sym e ∙ sym zero_q)))) h)
            (subst (λ (j : ℕ). GaveOn b'' es' (length k.past) j v') (sym zero_q) (here old)) s.rx;
      }

  own_rx : (outs : List LinkOutView) → AllByRecursion (AreOwn d.port (k.past ++ a.ends ∷ [])) outs → AllByRecursion (AreOwn d.port (k.past ++ a_new.ends ∷ [])) outs
  own_rx outs h = all_map (AreOwn d.port (k.past ++ a.ends ∷ [])) (AreOwn d.port (k.past ++ a_new.ends ∷ []))
      (λ o are. all_map _ _ (λ y own. record { guest = own.guest; is = ap (λ (fs : List (List ℕ)). slice_get fs y.tag.place) (at_same k.past a.ends a_new.ends (λ j. refl) y.tag.activation y.tag.queue) ∙ own.is }) o.pushed are) outs h

  module _ (key : v'.key ≡ v.key) (given : v'.given ≡ v.given) (none : (act q' : ℕ) → (length k.past ≢ act) ⊎ (q ≢ q') → none_at act q') (here : GaveOn (beside_of d_old) d.entries (length k.past) q v → GaveOn b'' es' (length k.past) q v')
      (shown : IsShown b'' d.entries x.frame f (state_at d.calls.served d.entries)) (errors : ℕ → ℕ) (stats : List (List ℕ)) (stats_are : stats ≡ came_counts errors b''.links d.port es') (stopped : List (Option ℕ)) (masks : Masks)
      (long : length stopped ≡ 8) (stops : (j : ℕ) → j < 8 → is_some (slice_index_or stopped j None) ≡ (says_stopped j f || is_some (error_on Rx d.machine j))) (calm : AreTrusted (k.past ++ a.ends ∷ []) → (is_stop f ≡ false) × ((j : ℕ) → errors j ≡ k.rx_errors j)) where
    pub keeps_given : Keeps (record d { machine = record d.machine { active = Some a_new; rx_stats = stats; rx_stopped = stopped }; masks = masks; input = set d.input n (pulled_one i x); entries = es' })
    keeps_given =
        let P : ℕ → EndsView → Type 0 = EndsSay d.table (beside_of (active_with d a)) d.entries in
        let zero_past : 0 + length k.past ≡ length k.past = omega arith in
        let last = subst (λ (j : ℕ). EndsSay d.table (beside_of (active_with d a)) d.entries j a.ends) zero_past (each_last P 0 k.past a.ends k.says) in record {
          past = k.past;
          bags = k.bags;
          begun = activations_in d.port d.machine.mac d.calls.served d.input n i at x d.entries d.setups k.input f ∙ k.begun ∙ sym all_many;
          says = each_push (EndsSay d.table b'' es') 0 k.past a_new.ends
              (each_map P (EndsSay d.table b'' es') 0 k.past (λ act e le lt h. says_past act e (λ e. omega (arith, e, lt)) none h) (each_front P 0 k.past a.ends k.says))
              (subst (λ (j : ℕ). EndsSay d.table b'' es' j a_new.ends) (sym zero_past) (says_now none here last));
          unsaid = λ act le. let le' : length (k.past ++ a.ends ∷ []) ≤ act = omega (arith, le, all_many) in
              unsaid_same d.port d.machine.mac d.calls.served d.input n i at x d.entries d.setups k.input f (settings_are d_old k) k.lawful act (λ q'. none act q' (inl (λ e. omega (arith, e, le', length_last k.past a.ends)))) (k.unsaid act le');
          fit = (k.fit.0, length-set a.ends.rx q v' ∙ k.fit.1, k.fit.2, k.fit.3);
          lawful = lawful_in d.port d.machine.mac d.calls.served d.input n i at x d.entries d.setups k.input f (settings_are d_old k) k.lawful shown;
          told = asked_in d.port d.machine.mac d.calls.served d.input n i at x d.entries d.setups k.input f ∙ k.told;
          tracks = record { state = k.tracks.state; held = k.tracks.held ∙ ap Some (held_rx_same a q v v' at_q key given) };
          serving = k.serving;
          out = outs_in d.port d.machine.mac d.calls.served d.input n i at x d.entries d.setups k.input f d.out k.out;
          own = own_rx d.out k.own;
          input = ins_in d.port d.machine.mac d.calls.served d.input n i at x d.entries d.setups k.input f;
          tx_errors = k.tx_errors;
          rx_errors = errors;
          tx_stats = k.tx_stats ∙ (λ j. map (λ q'. counted (sym (by_same k.past a.ends a_new.ends (λ j. refl) q') j) (k.tx_errors q') (sym (lost_in d.port d.machine.mac d.calls.served d.input n i at x d.entries d.setups k.input f q') j)) (upto 0 8));
          rx_stats = stats_are;
          stopped = λ j lt. stops j lt ∙ ap (λ (b : Bool). says_stopped j f || b) (k.stopped j lt) ∙ sym (stopped_in_ d.port d.machine.mac d.calls.served d.input n i at x d.entries d.setups k.input f j false);
          errors = long;
          fine = λ trusted.
              let old = trusted_rx a q v v' at_q key given k.past trusted in
              let no = k.fine old in
              let c = calm old in
              record { tx = no.tx; rx = λ j. c.1 j ∙ no.rx j; fates = stops_in_ d.port d.machine.mac d.calls.served d.input n i at x d.entries d.setups k.input f c.0 no.fates };
          ports = (k.ports.0, k.ports.1, length-set d.input n (pulled_one i x) ∙ k.ports.2, k.ports.3);
          interrupts = k.interrupts;
        }
