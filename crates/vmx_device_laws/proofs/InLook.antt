-- What becomes of a frame that came over a link, case by case.
use Rattle.std.proofs.Common.{◌≡◌, ◌≢◌, ℕ, zero, suc, ◌+◌, ◌*◌, ◌-◌, ◌^◌, ◌<◌, ◌≤◌, ◌⊎◌, inl, inr, Bool, true, false, true≢false, nat_eq, ◌&&◌, List, [], ◌∷◌, ◌++◌, length, length-append, append-nil, map, set, get_or, refl, sym, ap, ◌∙◌, subst, arith, Some, None, Option}
use Rattle.std.specs.List.{filter, filter_map, slice_get, AllByRecursion}
use Rattle.std.specs.Prelude.{is_some, ◌||◌, if◌then◌else◌}
use Rattle.std.proofs.lemmas.List.{length-set, length-map, get_or-set_same, get_or-set_other}
use Rattle.std.proofs.lemmas.List.Elements.{filter-append}
use Rattle.std.proofs.lemmas.Bool.{eq-eqb, ne_eqb}
use Rattle.std.proofs.lemmas.Bool.Decides.{eqb_tells}
use Rattle.vmx_frame.specs.Ethernet.{class_of}
use Rattle.vmx_filters.specs.declared.answer.Verdict.TheVariants as verdict
use Rattle.vmx_shared_area.specs.declared.stats.Side.TheVariants.{Rx}
use Rattle.vmx_ends.specs.declared.packet.Packet.{Packet}
use Rattle.vmx_ends.specs.declared.frames.Delivery.{Delivery}
use Rattle.vmx_ends.specs.declared.answers.EndFault.{EndFault}
use Rattle.vmx_ends.specs.LinkView.{LinkView}
use Rattle.vmx_ends.specs.Receive.{RxDeviceView, consumed1, consumed2, used, took1, took2}
use Rattle.vmx_ends.specs.ReceiveClauses.{DeliversFrame, Refuses, ShowsFault, GrowsDelivered}
use Rattle.vmx_link.specs.Views.{LinkInView}
use Rattle.vmx_regs.specs.declared.known.Masks.{Masks}
use Rattle.vmx_device_state.specs.DeviceState.{Idle, Active}
use Rattle.vmx_machine_state.specs.declared.statistics.Count.TheVariants.{Frame, NoBuffer, Error}
use Rattle.vmx_machine_state.specs.Statistics as commands
use Rattle.vmx_machine_state.specs.Statistics.{after_count}
use Rattle.vmx_machine_state.specs.Stopped.{error_on, error_of}
use Rattle.vmx_machine_state.specs.Views.{ActiveView, MachineView, state_by}
use Rattle.vmx_model.specs.declared.journal.Entry.{Entry}
use Rattle.vmx_model.specs.declared.journal.Entry.TheVariants as entry
use Rattle.vmx_model.specs.declared.journal.Fate.{Fate}
use Rattle.vmx_model.specs.declared.journal.Fate.TheVariants as fate
use Rattle.vmx_model.specs.Lists.{count, upto}
use Rattle.vmx_model.specs.Setups.{admits}
use Rattle.vmx_model.specs.Wire.{rx_queue}
use Rattle.vmx_model.specs.Meta.{Arrival, arrival_of, delivered_as}
use Rattle.vmx_model.specs.Stats.{counted, lacks_buffer}
use Rattle.vmx_model.specs.Views.{Need}
use Rattle.vmx_model.specs.Journal.{Beside, IsLawfulJournal, IsShown, IsAdmitted, says_stopped, stopped_from, stopped_after, is_activation, activation_of, state_at, fates_in, fate_in, needs, need_in, ups, is_up}
use Rattle.vmx_model.specs.DeliverySteps.{needs_push}
use Rattle.vmx_model.specs.Order.{came_up, up_of, on_rx, CameUp}
use Rattle.vmx_model.specs.Account.{deliveries, arrival_in, arrival_under, need, place_from}
use Rattle.vmx_model.specs.Bags.{EachQueue}
use Rattle.vmx_device_looks.specs.Ports.{other}
use Rattle.vmx_device_looks.specs.Links.{pulled_one}
use Rattle.vmx_device_looks.specs.Queues.{each_at, each_last, each_set}
use Rattle.vmx_device_looks.specs.Looks.{RxAt, with_rx}
use Rattle.vmx_device_looks.specs.Arrivals.{ComesUp, LacksBuffer, BreaksDown, FindsIdle, Refuses as FilterRefuses, FindsStopped, GivesFrame, Handles, MayReceive, counted_up, counted_stop}
use Rattle.vmx_device_laws.specs.Views.{DeviceView, beside_of, held_ends, own_link}
use Rattle.vmx_device_laws.specs.Keeps.{Keeps, GaveOn, EndsSay, InSays, IsUnsaid, is_stop, stops_in, came_counts}
use Rattle.vmx_device_laws.specs.Steps.{InStep}
use Rattle.vmx_device_laws.proofs.Lists.{length_last, get_some, filter_less}
use Rattle.vmx_device_laws.proofs.Held.{active_with, opened, with_rx_end, no_rx_given, settings_are, state_now}
use Rattle.vmx_device_laws.proofs.Sends.{both_not}
use Rattle.vmx_device_laws.proofs.Pushes.{filter_few}
use Rattle.vmx_device_laws.proofs.Stats.{counted_frame, counted_no_buffer, counted_rx_error, one_error, error_here, error_other}
use Rattle.vmx_device_laws.proofs.Arrived.{deliveries_in, gave_same}
use Rattle.vmx_device_laws.proofs.InStep.{es, b', came_is, fates_is, packet_at_is, keeps_plain, none_at, es', b'', keeps_given, rx_counted}

map_last : {X Y : Type 0} (f : X → Y) (xs : List X) (x : X) → map f (xs ++ x ∷ []) ≡ map f xs ++ f x ∷ []
map_last f [] x = refl
map_last f (y ∷ ys) x = ap (λ (zs : List _). f y ∷ zs) (map_last f ys x)

last_count : {X : Type 0} (test : X → Bool) (xs : List X) (x : X) (b : Bool) → test x ≡ b → count test (xs ++ x ∷ []) ≡ count test xs + count test (x ∷ [])
last_count test xs x b e = ap length (filter-append test xs (x ∷ [])) ∙ length-append (filter test xs) (filter test (x ∷ []))

module _ (d : DeviceView) (a : ActiveView) (k : Keeps (active_with d a)) (n : ℕ) (i : LinkInView) (at : slice_get d.input n ≡ Some i) (x : Packet) (q : ℕ) (v : RxDeviceView) (at_q : slice_get a.ends.rx q ≡ Some v) where
  gave_at : GaveOn (beside_of (active_with d a)) d.entries (length k.past) q v
  gave_at =
      let zero_past : 0 + length k.past ≡ length k.past = omega arith in
      let zero_q : 0 + q ≡ q = omega arith in
      let last = subst (λ (j : ℕ). EndsSay d.table (beside_of (active_with d a)) d.entries j a.ends) zero_past (each_last (EndsSay d.table (beside_of (active_with d a)) d.entries) 0 k.past a.ends k.says) in
      subst (λ (j : ℕ). GaveOn (beside_of (active_with d a)) d.entries (length k.past) j v) zero_q (each_at (GaveOn (beside_of (active_with d a)) d.entries (length k.past)) 0 a.ends.rx q v at_q last.rx)

  now_is : length k.past ≡ activation_of d.entries
  now_is = omega (arith, k.begun, length_last k.past a.ends)

  state_is : state_at d.calls.served d.entries ≡ Active a.setup
  state_is = state_now (active_with d a) k

  module _ (v' : RxDeviceView) (admitted : admits a.setup d.machine.mac x.frame ≡ verdict.Yes) (to : q ≡ rx_queue a.setup.rss x.frame) (lt : q < 8) (unstopped : error_on Rx d.machine q ≡ None) (masks : Masks) where
    still_on : stopped_from q false d.entries ≡ false
    still_on = sym (k.stopped q lt) ∙ ap is_some unstopped

    module _ (gives : DeliversFrame v (delivered_as a.setup x.frame).frame (delivered_as a.setup x.frame).meta v') (grows : GrowsDelivered v v') where
      abbrev up : Fate
      up = fate.Up (length k.past) q (length v.delivered)

      abbrev D : Delivery
      D = record { frame = (delivered_as a.setup x.frame).frame; meta = (delivered_as a.setup x.frame).meta; passed = gives.passed; chain = gives.end.chain }

      given_is : v'.given ≡ v.given
      given_is = ap (λ (u : RxDeviceView). u.given) gives.is

      up_none : (act q' : ℕ) → (length k.past ≢ act) ⊎ (q ≢ q') → none_at d a k n i at x (fate.Up (length k.past) q (length v.delivered)) q v v' at_q act q'
      up_none act q' ne = record { arrival = rw (both_not (length k.past) q act q' ne) refl; needed = refl; up = both_not (length k.past) q act q' ne }

      same_queue : (nat_eq (length k.past) (length k.past) && nat_eq q q) ≡ true
      same_queue = rw (eq-eqb (length k.past) (length k.past) refl, eq-eqb q q refl) refl

      delivered_is : v'.delivered ≡ v.delivered ++ D ∷ []
      delivered_is = ap (λ (u : RxDeviceView). u.delivered) gives.is

      up_here : GaveOn (beside_of (active_with d a)) d.entries (length k.past) q v → GaveOn (b'' d a k n i at x (fate.Up (length k.past) q (length v.delivered)) q v v' at_q) (es' d a k n i at x (fate.Up (length k.past) q (length v.delivered)) q v v' at_q) (length k.past) q v'
      up_here s =
          let f : Fate = fate.Up (length k.past) q (length v.delivered) in
          let b = b'' d a k n i at x (fate.Up (length k.past) q (length v.delivered)) q v v' at_q in
          let e : Entry = entry.In (other d.port n) (length i.pulled) (fate.Up (length k.past) q (length v.delivered)) in
          let packet = packet_at_is (active_with d a) k n i at x (fate.Up (length k.past) q (length v.delivered)) in
          let arrival : arrival_in b (length k.past) q d.entries e ≡ arrival_of D ∷ [] =
          rw same_queue (λ j. arrival_under (packet j) (state_is j)) in
          let many : length v'.delivered ≡ length v.delivered + 1 = ap length delivered_is ∙ length-append v.delivered (D ∷ []) in
          let up_one : count (is_up (length k.past) q) (f ∷ []) ≡ 1 = rw same_queue refl in record {
            delivered = ap (map arrival_of) delivered_is ∙ map_last arrival_of v.delivered D ∙ ap (λ (xs : List Arrival). xs ++ arrival_of D ∷ []) s.delivered
                ∙ ap (λ (xs : List Arrival). deliveries (beside_of (active_with d a)) (length k.past) q [] d.entries ++ xs) (sym arrival)
                ∙ sym (deliveries_in d.port d.machine.mac d.calls.served d.input n i at x d.entries d.setups k.input f (settings_are (active_with d a) k) k.lawful (length k.past) q);
            refused = ap (λ (u : RxDeviceView). map need u.refused) gives.is ∙ s.refused ∙ sym (needs_push (length k.past) q d.entries e ∙ append-nil (needs (length k.past) q d.entries));
            places = ap (count (is_up (length k.past) q)) (fates_is (active_with d a) k n i at x f) ∙ last_count (is_up (length k.past) q) (fates_in d.entries) f true same_queue ∙ ap (λ (m : ℕ). ups (length k.past) q d.entries + m) up_one
                ∙ ap (λ (m : ℕ). m + 1) s.places ∙ sym many;
            few = λ g. let old = sym given_is ∙ g in let more = grows.positions old in let was = s.few old in (omega (arith, many, more.0, was.0), omega (arith, many, more.1, was.1));
            within = λ g. grows.within (sym given_is ∙ g);
          }

      up_shown : IsShown (b'' d a k n i at x (fate.Up (length k.past) q (length v.delivered)) q v v' at_q) d.entries x.frame (fate.Up (length k.past) q (length v.delivered)) (state_at d.calls.served d.entries)
      up_shown =
          let b = b'' d a k n i at x (fate.Up (length k.past) q (length v.delivered)) q v v' at_q in
          subst (IsShown b d.entries x.frame (fate.Up (length k.past) q (length v.delivered))) (sym state_is)
          (subst (IsAdmitted b d.entries a.setup x.frame (fate.Up (length k.past) q (length v.delivered))) (sym admitted) (now_is, to, sym gave_at.places, still_on))

      up_stats : set d.machine.rx_stats q (commands.counted Rx (Frame (class_of x.frame) (length x.frame)) (get_or d.machine.rx_stats q []))
          ≡ came_counts k.rx_errors (b'' d a k n i at x (fate.Up (length k.past) q (length v.delivered)) q v v' at_q).links d.port (es' d a k n i at x (fate.Up (length k.past) q (length v.delivered)) q v v' at_q)
      up_stats =
          let f : Fate = fate.Up (length k.past) q (length v.delivered) in
          let b = b'' d a k n i at x (fate.Up (length k.past) q (length v.delivered)) q v v' at_q in
          let es = es' d a k n i at x (fate.Up (length k.past) q (length v.delivered)) q v v' at_q in
          let u : CameUp = record { activation = length k.past; queue = q; place = length v.delivered; packet = x } in
          let packet = packet_at_is (active_with d a) k n i at x (fate.Up (length k.past) q (length v.delivered)) in
          let one : came_up b.links d.port (entry.In (other d.port n) (length i.pulled) (fate.Up (length k.past) q (length v.delivered)) ∷ []) ≡ u ∷ [] =
          let e = ap (λ (o : Option Packet). up_of o (fate.Up (length k.past) q (length v.delivered))) packet in rw e refl in
          let old : List CameUp = came_up (beside_of (active_with d a)).links d.port d.entries in
          let came : came_up b.links d.port es ≡ old ++ u ∷ [] = came_is (active_with d a) k n i at x f ∙ ap (λ (us : List CameUp). old ++ us) one in
          let fates : fates_in es ≡ fates_in d.entries ++ f ∷ [] = fates_is (active_with d a) k n i at x f in
          let F : ℕ → List (List ℕ) = λ j. map (λ (u : CameUp). u.packet.frame) (filter (on_rx j) old) in
          let F' : ℕ → List (List ℕ) = λ j. map (λ (u : CameUp). u.packet.frame) (filter (on_rx j) (came_up b.links d.port es)) in
          let L : ℕ → ℕ = λ j. count (lacks_buffer j) (fates_in d.entries) in
          let L' : ℕ → ℕ = λ j. count (lacks_buffer j) (fates_in es) in
          let lacks : (j : ℕ) → count (lacks_buffer j) (fates_in es) ≡ count (lacks_buffer j) (fates_in d.entries) =
          λ j. ap (count (lacks_buffer j)) fates ∙ ap length (filter-append (lacks_buffer j) (fates_in d.entries) (f ∷ []) ∙ append-nil (filter (lacks_buffer j) (fates_in d.entries))) in
          let split : (j : ℕ) → filter (on_rx j) (came_up b.links d.port es) ≡ filter (on_rx j) old ++ filter (on_rx j) (u ∷ []) = λ j. ap (filter (on_rx j)) came ∙ filter-append (on_rx j) old (u ∷ []) in
          let here : filter (on_rx q) (u ∷ []) ≡ u ∷ [] = rw (eq-eqb q q refl) refl in
          let F_here : map (λ (u : CameUp). u.packet.frame) (filter (on_rx q) (came_up b.links d.port es)) ≡ map (λ (u : CameUp). u.packet.frame) (filter (on_rx q) old) ++ x.frame ∷ [] =
          ap (map (λ (u : CameUp). u.packet.frame)) (split q ∙ ap (λ (us : List CameUp). filter (on_rx q) old ++ us) here) ∙ map_last (λ (u : CameUp). u.packet.frame) (filter (on_rx q) old) u in
          rx_counted F F' L L' k.rx_errors k.rx_errors q d.machine.rx_stats (Frame (class_of x.frame) (length x.frame)) lt
          (λ j ne. (ap (map (λ (u : CameUp). u.packet.frame)) (split j ∙ ap (λ (us : List CameUp). filter (on_rx j) old ++ us) (rw (ne_eqb q j (λ e. ne (sym e))) refl) ∙ append-nil (filter (on_rx j) old)), lacks j, refl))
          (counted_frame Rx (F q) x.frame (L q) (k.rx_errors q) ∙ (λ j. counted (sym F_here j) (sym (lacks q) j) (k.rx_errors q))) k.rx_stats

      pub keeps_up : Keeps (record d { machine = record d.machine { active = Some (with_rx_end a q v'); rx_stats = set d.machine.rx_stats q (commands.counted Rx (Frame (class_of x.frame) (length x.frame)) (get_or d.machine.rx_stats q [])) }; masks = masks; input = set d.input n (pulled_one i x); entries = d.entries ++ entry.In (other d.port n) (length i.pulled) (fate.Up (length k.past) q (length v.delivered)) ∷ [] })
      keeps_up = keeps_given d a k n i at x (fate.Up (length k.past) q (length v.delivered)) q v v' at_q (ap (λ (u : RxDeviceView). u.key) gives.is) given_is up_none up_here up_shown k.rx_errors _ up_stats d.machine.rx_stopped masks k.errors (λ j l. refl) (λ all. (refl, λ j. refl))

    module _ (ring position word : ℕ) (rings : (ring ≡ 1) ⊎ (ring ≡ 2)) (gives : Refuses v (length (delivered_as a.setup x.frame).frame) ring position word (length v.refused) v') where
      abbrev pub lack : Fate
      lack = fate.NoBuffer (length k.past) q ring position (length v.refused)

      lack_none : (act q' : ℕ) → (length k.past ≢ act) ⊎ (q ≢ q') → none_at d a k n i at x lack q v v' at_q act q'
      lack_none act q' ne = record { arrival = refl; needed = rw (both_not (length k.past) q act q' ne) refl; up = refl }

      same_queue2 : (nat_eq (length k.past) (length k.past) && nat_eq q q) ≡ true
      same_queue2 = rw (eq-eqb (length k.past) (length k.past) refl, eq-eqb q q refl) refl

      lack_given : v'.given ≡ v.given
      lack_given = ap (λ (u : RxDeviceView). u.given) gives.is

      lack_here : GaveOn (beside_of (active_with d a)) d.entries (length k.past) q v → GaveOn (b'' d a k n i at x lack q v v' at_q) (es' d a k n i at x lack q v v' at_q) (length k.past) q v'
      lack_here s =
          let e : Entry = entry.In (other d.port n) (length i.pulled) lack in
          let look : ℕ × ℕ × ℕ = (ring, position, word) in
          let refused_is : v'.refused ≡ v.refused ++ look ∷ [] = ap (λ (u : RxDeviceView). u.refused) gives.is in
          let same : v'.delivered ≡ v.delivered = ap (λ (u : RxDeviceView). u.delivered) gives.is in
          let needed : needs (length k.past) q (e ∷ []) ≡ need look ∷ [] = rw same_queue2 refl in record {
            delivered = ap (map arrival_of) same ∙ s.delivered ∙ sym (deliveries_in d.port d.machine.mac d.calls.served d.input n i at x d.entries d.setups k.input lack (settings_are (active_with d a) k) k.lawful (length k.past) q ∙ append-nil (deliveries (beside_of (active_with d a)) (length k.past) q [] d.entries));
            refused = ap (map need) refused_is ∙ map_last need v.refused look ∙ ap (λ (xs : List Need). xs ++ need look ∷ []) s.refused ∙ ap (λ (xs : List Need). needs (length k.past) q d.entries ++ xs) (sym needed) ∙ sym (needs_push (length k.past) q d.entries e);
            places = ap (count (is_up (length k.past) q)) (fates_is (active_with d a) k n i at x lack) ∙ ap length (filter-append (is_up (length k.past) q) (fates_in d.entries) (lack ∷ []) ∙ append-nil (filter (is_up (length k.past) q) (fates_in d.entries))) ∙ s.places ∙ ap length (sym same);
            few = λ g. let was = s.few (sym lack_given ∙ g) in (subst (λ ds. used took1 ds ≤ 16 * length ds) (sym same) was.0, subst (λ ds. used took2 ds ≤ 16 * length ds) (sym same) was.1);
            within = λ g. let was = s.within (sym lack_given ∙ g) in (subst (λ ds. used took1 ds ≤ 4096) (sym same) was.0, subst (λ ds. used took2 ds ≤ 4096) (sym same) was.1);
          }

      lack_shown : IsShown (b'' d a k n i at x lack q v v' at_q) d.entries x.frame lack (state_at d.calls.served d.entries)
      lack_shown =
          let b = b'' d a k n i at x lack q v v' at_q in
          subst (IsShown b d.entries x.frame lack) (sym state_is)
          (subst (IsAdmitted b d.entries a.setup x.frame lack) (sym admitted) (now_is, to, sym (length-map v.refused need) ∙ ap length gave_at.refused, rings, still_on))

      lack_stats : set d.machine.rx_stats q (commands.counted Rx NoBuffer (get_or d.machine.rx_stats q [])) ≡ came_counts k.rx_errors (b'' d a k n i at x lack q v v' at_q).links d.port (es' d a k n i at x lack q v v' at_q)
      lack_stats =
          let b = b'' d a k n i at x lack q v v' at_q in
          let es = es' d a k n i at x lack q v v' at_q in
          let packet = packet_at_is (active_with d a) k n i at x lack in
          let none : came_up b.links d.port (entry.In (other d.port n) (length i.pulled) lack ∷ []) ≡ [] = let e = ap (λ (o : Option Packet). up_of o lack) packet in rw e refl in
          let old : List CameUp = came_up (beside_of (active_with d a)).links d.port d.entries in
          let came : came_up b.links d.port es ≡ old = came_is (active_with d a) k n i at x lack ∙ ap (λ (us : List CameUp). old ++ us) none ∙ append-nil old in
          let fates : fates_in es ≡ fates_in d.entries ++ lack ∷ [] = fates_is (active_with d a) k n i at x lack in
          let F : ℕ → List (List ℕ) = λ j. map (λ (u : CameUp). u.packet.frame) (filter (on_rx j) old) in
          let F' : ℕ → List (List ℕ) = λ j. map (λ (u : CameUp). u.packet.frame) (filter (on_rx j) (came_up b.links d.port es)) in
          let L : ℕ → ℕ = λ j. count (lacks_buffer j) (fates_in d.entries) in
          let L' : ℕ → ℕ = λ j. count (lacks_buffer j) (fates_in es) in
          let lack_one : count (lacks_buffer q) (lack ∷ []) ≡ 1 = rw (eq-eqb q q refl) refl in
          let lacks_here : count (lacks_buffer q) (fates_in es) ≡ count (lacks_buffer q) (fates_in d.entries) + 1 =
          ap (count (lacks_buffer q)) fates ∙ last_count (lacks_buffer q) (fates_in d.entries) lack true (eq-eqb q q refl) ∙ ap (λ (m : ℕ). count (lacks_buffer q) (fates_in d.entries) + m) lack_one in
          let lacks_other : (j : ℕ) → j ≢ q → count (lacks_buffer j) (fates_in es) ≡ count (lacks_buffer j) (fates_in d.entries) =
          λ j ne. ap (count (lacks_buffer j)) fates ∙ ap length (filter-append (lacks_buffer j) (fates_in d.entries) (lack ∷ []) ∙ ap (λ (fs : List Fate). filter (lacks_buffer j) (fates_in d.entries) ++ fs) (rw (ne_eqb q j (λ e. ne (sym e))) refl) ∙ append-nil (filter (lacks_buffer j) (fates_in d.entries))) in
          rx_counted F F' L L' k.rx_errors k.rx_errors q d.machine.rx_stats NoBuffer lt (λ j ne. (ap (λ (us : List CameUp). map (λ (u : CameUp). u.packet.frame) (filter (on_rx j) us)) came, lacks_other j ne, refl))
          (counted_no_buffer (F q) (L q) (k.rx_errors q) ∙ (λ j. counted (map (λ (u : CameUp). u.packet.frame) (filter (on_rx q) (sym came j))) (sym lacks_here j) (k.rx_errors q))) k.rx_stats

      pub keeps_lack : Keeps (record d { machine = record d.machine { active = Some (with_rx_end a q v'); rx_stats = set d.machine.rx_stats q (commands.counted Rx NoBuffer (get_or d.machine.rx_stats q [])) }; masks = masks; input = set d.input n (pulled_one i x); entries = d.entries ++ entry.In (other d.port n) (length i.pulled) lack ∷ [] })
      keeps_lack = keeps_given d a k n i at x lack q v v' at_q (ap (λ (u : RxDeviceView). u.key) gives.is) lack_given lack_none lack_here lack_shown k.rx_errors _ lack_stats d.machine.rx_stopped masks k.errors (λ j l. refl) (λ all. (refl, λ j. refl))

    module _ (words : List ℕ) (fault : EndFault) (gives : ShowsFault v words fault v') where
      abbrev pub halt : Fate
      halt = fate.Stopped (length k.past) q

      halt_none : (act q' : ℕ) → none_at d a k n i at x halt q v v' at_q act q'
      halt_none act q' = record { arrival = refl; needed = refl; up = refl }

      halt_here : GaveOn (beside_of (active_with d a)) d.entries (length k.past) q v → GaveOn (b'' d a k n i at x halt q v v' at_q) (es' d a k n i at x halt q v v' at_q) (length k.past) q v'
      halt_here s =
          let g = gave_same d.port d.machine.mac d.calls.served d.input n i at x d.entries d.setups k.input halt (settings_are (active_with d a) k) k.lawful (length k.past) q v (halt_none (length k.past) q) s in
          subst (GaveOn (b'' d a k n i at x halt q v v' at_q) (es' d a k n i at x halt q v v' at_q) (length k.past) q) (sym gives.is)
          (record { delivered = g.delivered; refused = g.refused; places = g.places; few = g.few; within = g.within })

      halt_says : (says_stopped q halt || stopped_from q false d.entries) ≡ true
      halt_says = let e : nat_eq q q ≡ true = eq-eqb q q refl in rw e refl

      halt_shown : IsShown (b'' d a k n i at x halt q v v' at_q) d.entries x.frame halt (state_at d.calls.served d.entries)
      halt_shown =
          let b = b'' d a k n i at x halt q v v' at_q in
          subst (IsShown b d.entries x.frame halt) (sym state_is) (subst (IsAdmitted b d.entries a.setup x.frame halt) (sym admitted) (now_is, to, halt_says))

      halt_stats : set d.machine.rx_stats q (commands.counted Rx Error (get_or d.machine.rx_stats q [])) ≡ came_counts (one_error q k.rx_errors) (b'' d a k n i at x halt q v v' at_q).links d.port (es' d a k n i at x halt q v v' at_q)
      halt_stats =
          let b = b'' d a k n i at x halt q v v' at_q in
          let es = es' d a k n i at x halt q v v' at_q in
          let packet = packet_at_is (active_with d a) k n i at x halt in
          let none : came_up b.links d.port (entry.In (other d.port n) (length i.pulled) halt ∷ []) ≡ [] = let e = ap (λ (o : Option Packet). up_of o halt) packet in rw e refl in
          let old : List CameUp = came_up (beside_of (active_with d a)).links d.port d.entries in
          let came : came_up b.links d.port es ≡ old = came_is (active_with d a) k n i at x halt ∙ ap (λ (us : List CameUp). old ++ us) none ∙ append-nil old in
          let fates : fates_in es ≡ fates_in d.entries ++ halt ∷ [] = fates_is (active_with d a) k n i at x halt in
          let F : ℕ → List (List ℕ) = λ j. map (λ (u : CameUp). u.packet.frame) (filter (on_rx j) old) in
          let F' : ℕ → List (List ℕ) = λ j. map (λ (u : CameUp). u.packet.frame) (filter (on_rx j) (came_up b.links d.port es)) in
          let L : ℕ → ℕ = λ j. count (lacks_buffer j) (fates_in d.entries) in
          let L' : ℕ → ℕ = λ j. count (lacks_buffer j) (fates_in es) in
          let lacks : (j : ℕ) → count (lacks_buffer j) (fates_in es) ≡ count (lacks_buffer j) (fates_in d.entries) =
          λ j. ap (count (lacks_buffer j)) fates ∙ ap length (filter-append (lacks_buffer j) (fates_in d.entries) (halt ∷ []) ∙ append-nil (filter (lacks_buffer j) (fates_in d.entries))) in
          rx_counted F F' L L' k.rx_errors (one_error q k.rx_errors) q d.machine.rx_stats Error lt
          (λ j ne. (ap (λ (us : List CameUp). map (λ (u : CameUp). u.packet.frame) (filter (on_rx j) us)) came, lacks j, error_other q k.rx_errors j ne))
          (counted_rx_error (F q) (L q) (k.rx_errors q) ∙ (λ j. counted (map (λ (u : CameUp). u.packet.frame) (filter (on_rx q) (sym came j))) (sym (lacks q) j) (sym (error_here q k.rx_errors) j))) k.rx_stats

      halt_stops : (j : ℕ) → j < 8 → is_some (get_or (set d.machine.rx_stopped q (Some (error_of fault))) j None) ≡ (nat_eq q j || is_some (error_on Rx d.machine j))
      halt_stops j l =
          let long : q < length d.machine.rx_stopped = omega (arith, lt, k.errors) in
          elim (eqb_tells q j) [
            | inl e ↦
                let here : nat_eq q j ≡ true = e.0 in
                let at_j : get_or (set d.machine.rx_stopped q (Some (error_of fault))) j None ≡ Some (error_of fault) = ap (λ (m : ℕ). get_or (set d.machine.rx_stopped q (Some (error_of fault))) m None) (sym e.1) ∙ get_or-set_same d.machine.rx_stopped q (Some (error_of fault)) None long in
                rw here (ap is_some at_j)
            | inr e ↦
                let there : nat_eq q j ≡ false = e.0 in
                let same : get_or (set d.machine.rx_stopped q (Some (error_of fault))) j None ≡ get_or d.machine.rx_stopped j None = get_or-set_other d.machine.rx_stopped q j (Some (error_of fault)) None (λ s. absurd (true≢false (sym (eq-eqb q j (sym s)) ∙ there))) in
                rw there (ap is_some same)
          ]

      pub keeps_halt : Keeps (record d {
        machine = record d.machine { active = Some (with_rx_end a q v'); rx_stats = set d.machine.rx_stats q (commands.counted Rx Error (get_or d.machine.rx_stats q [])); rx_stopped = set d.machine.rx_stopped q (Some (error_of fault)) };
        masks = masks;
        input = set d.input n (pulled_one i x);
        entries = d.entries ++ entry.In (other d.port n) (length i.pulled) halt ∷ [];
      })
      keeps_halt = keeps_given d a k n i at x halt q v v' at_q (ap (λ (u : RxDeviceView). u.key) gives.is) (ap (λ (u : RxDeviceView). u.given) gives.is) (λ act q' ne. halt_none act q') halt_here halt_shown (one_error q k.rx_errors) _ halt_stats
          (set d.machine.rx_stopped q (Some (error_of fault))) masks (length-set d.machine.rx_stopped q (Some (error_of fault)) ∙ k.errors) halt_stops (λ all. absurd (no_rx_given k.past a.ends q v at_q gives.given all))

-- ------------------------------------------------------------ a queue that is stopped

stop_fate : (q : ℕ) (f : Fate) → is_stop f ≡ false → says_stopped q f ≡ false
stop_fate q (fate.Stopped a r) e = absurd (true≢false e)
stop_fate q (fate.Up a r place) e = refl
stop_fate q (fate.LinkFull look) e = refl
stop_fate q fate.Inactive e = refl
stop_fate q (fate.Filtered r) e = refl
stop_fate q (fate.NoBuffer a r ring position look) e = refl
stop_fate q fate.Discarded e = refl
stop_fate q fate.NoPort e = refl
stop_fate q fate.Down e = refl
stop_fate q fate.Short e = refl
stop_fate q fate.TooLong e = refl

either_false : (b : Bool) → (if b then false else false) ≡ false
either_false true = refl
either_false false = refl

after_false : (q : ℕ) (e : Entry) → stops_in e ≡ false → stopped_after q false e ≡ false
after_false q (entry.Setting number answer setup) h = either_false _
after_false q (entry.Out tag target w) h = refl
after_false q (entry.Lost tag) h = refl
after_false q (entry.In from place f) h = let no : says_stopped q f ≡ false = stop_fate q f h in rw no refl

-- no queue stops where no fate says so
pub never_stopped : (q : ℕ) (es : List Entry) → AllByRecursion (λ (e : Entry). stops_in e ≡ false) es → stopped_from q false es ≡ false
never_stopped q [] all = refl
never_stopped q (e ∷ es) all = ap (λ (b : Bool). stopped_from q b es) (after_false q e all.0) ∙ never_stopped q es all.1

-- ------------------------------------------------------------ all cases

with_rx_is : (d : DeviceView) (a : ActiveView) → d.machine.active ≡ Some a → (vs : List RxDeviceView) → with_rx vs d.machine ≡ record d.machine { active = Some (record a { ends = record a.ends { rx = vs } }) }
with_rx_is d a act vs = λ i. with_rx vs (record d.machine { active = act i })

rings_are : (v v' : RxDeviceView) (bytes ring position word look : ℕ) → Refuses v bytes ring position word look v' → (ring ≡ 1) ⊎ (ring ≡ 2)
rings_are v v' bytes ring position word look r = elim r.where_ [ inl h ↦ inl h.0 | inr h ↦ inr h.0 ]

module _ (d : DeviceView) (k : Keeps d) (n : ℕ) (i : LinkInView) (at : slice_get d.input n ≡ Some i) (x : Packet) where
  abbrev Goal : MachineView → Masks → Fate → Type 0
  Goal m masks f = Keeps (record d { machine = m; masks = masks; input = set d.input n (pulled_one i x); entries = d.entries ++ entry.In (other d.port n) (length i.pulled) f ∷ [] })

  module _ (f : Fate) (m : MachineView) (masks : Masks) where
    moved : (m' : MachineView) (masks' : Masks) (f' : Fate) → m ≡ m' → masks ≡ masks' → f ≡ f' → Goal m' masks' f' → Goal m masks f
    moved m' masks' f' m_is masks_are f_is g = subst (λ (y : MachineView × Masks × Fate). Goal y.0 y.1 y.2) (λ j. (sym m_is j, sym masks_are j, sym f_is j)) g

    idle_case : FindsIdle f d.machine d.masks m masks → Goal m masks f
    idle_case s =
        let state : state_at d.calls.served d.entries ≡ Idle = state_now d k ∙ ap state_by s.idle in
        moved d.machine d.masks fate.Inactive s.is s.masks s.is_fate
        (keeps_plain d k n i at x fate.Inactive (λ a q. record { arrival = refl; needed = refl; up = refl }) refl (λ q. refl) (subst (IsShown (b' d k n i at x fate.Inactive) d.entries x.frame fate.Inactive) (sym state) refl) (λ q l. refl) (λ all. refl))

    refused_case : FilterRefuses x.frame f d.machine d.masks m masks → Goal m masks f
    refused_case s =
        let state : state_at d.calls.served d.entries ≡ Active s.active.setup = state_now d k ∙ ap state_by s.is_active in
        moved d.machine d.masks (fate.Filtered s.rule) s.is s.masks s.is_fate
        (keeps_plain d k n i at x (fate.Filtered s.rule) (λ a q. record { arrival = refl; needed = refl; up = refl }) refl (λ q. refl)
        (subst (IsShown (b' d k n i at x (fate.Filtered s.rule)) d.entries x.frame (fate.Filtered s.rule)) (sym state) (subst (IsAdmitted (b' d k n i at x (fate.Filtered s.rule)) d.entries s.active.setup x.frame (fate.Filtered s.rule)) (sym s.refused) refl)) (λ q l. refl) (λ all. refl))

    stopped_case : (act : ℕ) → act ≡ count is_activation d.entries - 1 → FindsStopped act x.frame f d.machine d.masks m masks → Goal m masks f
    stopped_case act act_is s =
        let q : ℕ = rx_queue s.let_in.active.setup.rss x.frame in
        let k' = opened d s.let_in.active s.let_in.is_active k in
        let lt : rx_queue s.let_in.active.setup.rss x.frame < 8 = omega (arith, s.below, k'.fit.3) in
        let state : state_at d.calls.served d.entries ≡ Active s.let_in.active.setup = state_now d k ∙ ap state_by s.let_in.is_active in
        let on : stopped_from (rx_queue s.let_in.active.setup.rss x.frame) false d.entries ≡ true = sym (k.stopped (rx_queue s.let_in.active.setup.rss x.frame) lt) ∙ ap is_some s.stopped in
        let halt : Fate = fate.Stopped act (rx_queue s.let_in.active.setup.rss x.frame) in
        let says : (says_stopped (rx_queue s.let_in.active.setup.rss x.frame) (fate.Stopped act (rx_queue s.let_in.active.setup.rss x.frame)) || stopped_from (rx_queue s.let_in.active.setup.rss x.frame) false d.entries) ≡ true =
        let e : nat_eq (rx_queue s.let_in.active.setup.rss x.frame) (rx_queue s.let_in.active.setup.rss x.frame) ≡ true = eq-eqb _ _ refl in rw e refl in
        moved d.machine d.masks halt s.is s.masks s.is_fate
        (keeps_plain d k n i at x halt (λ a r. record { arrival = refl; needed = refl; up = refl }) refl (λ r. refl)
        (subst (IsShown (b' d k n i at x halt) d.entries x.frame halt) (sym state) (subst (IsAdmitted (b' d k n i at x halt) d.entries s.let_in.active.setup x.frame halt) (sym s.let_in.admitted) (act_is, refl, says)))
        (λ j l. stops_on (rx_queue s.let_in.active.setup.rss x.frame) s.error s.stopped j)
        (λ all. absurd (true≢false (sym on ∙ never_stopped (rx_queue s.let_in.active.setup.rss x.frame) d.entries (k.fine all).fates))))
      where
        stops_on : (r e : ℕ) → error_on Rx d.machine r ≡ Some e → (j : ℕ) → is_some (error_on Rx d.machine j) ≡ (nat_eq r j || is_some (error_on Rx d.machine j))
        stops_on r e stopped j = elim (eqb_tells r j) [
          | inl h ↦ let here : nat_eq r j ≡ true = h.0 in rw here (ap (λ (y : ℕ). is_some (error_on Rx d.machine y)) (sym h.1) ∙ ap is_some stopped)
          | inr h ↦ let there : nat_eq r j ≡ false = h.0 in rw there refl
        ]

    module _ (a : ActiveView) (is_active : d.machine.active ≡ Some a) (admitted : admits a.setup d.machine.mac x.frame ≡ verdict.Yes) (q : ℕ) (to : q ≡ rx_queue a.setup.rss x.frame) (lt : q < 8) (unstopped : error_on Rx d.machine q ≡ None) (act : ℕ) (act_is : act ≡ length (opened d a is_active k).past) where
      same_active : (here : RxAt d.machine q) → here.active ≡ a
      same_active here = let both : Some here.active ≡ Some a = sym here.is_active ∙ is_active in cc both

      at_active : (here : RxAt d.machine q) → slice_get a.ends.rx q ≡ Some here.end
      at_active here = subst (λ (y : ActiveView). slice_get y.ends.rx q ≡ Some here.end) (same_active here) here.at

      mid_is : (here : RxAt d.machine q) (after : RxDeviceView) (mid : MachineView) → mid ≡ with_rx (set here.active.ends.rx q after) d.machine → mid ≡ record d.machine { active = Some (with_rx_end a q after) }
      mid_is here after mid is = is ∙ ap (λ (y : ActiveView). with_rx (set y.ends.rx q after) d.machine) (same_active here) ∙ with_rx_is d a is_active (set a.ends.rx q after)

      up_case : ComesUp a.setup act q x.frame f d.machine d.masks m masks → Goal m masks f
      up_case u =
          let h = u.gives.here in
          moved (counted_up q x.frame (record d.machine { active = Some (with_rx_end a q u.gives.after) })) masks (fate.Up (length (opened d a is_active k).past) q (length h.end.delivered))
          (u.is ∙ ap (counted_up q x.frame) (mid_is h u.gives.after u.mid u.gives.is)) refl (u.is_fate ∙ (λ j. fate.Up (act_is j) q (u.gives.gives.0 j)))
          (keeps_up d a (opened d a is_active k) n i at x q h.end (at_active h) u.gives.after admitted to lt unstopped masks u.gives.gives.1 u.gives.grows)

      lack_case : LacksBuffer a.setup act q x.frame f d.machine d.masks m masks → Goal m masks f
      lack_case u =
          let h = u.gives.here in
          let r = u.gives.gives in
          moved (after_count Rx q NoBuffer (record d.machine { active = Some (with_rx_end a q u.gives.after) })) d.masks (fate.NoBuffer (length (opened d a is_active k).past) q u.ring u.position (length h.end.refused))
          (u.is ∙ ap (after_count Rx q NoBuffer) (mid_is h u.gives.after u.mid u.gives.is)) u.masks (u.is_fate ∙ (λ j. fate.NoBuffer (act_is j) q u.ring u.position (r.number j)))
          (keeps_lack d a (opened d a is_active k) n i at x q h.end (at_active h) u.gives.after admitted to lt unstopped d.masks u.ring u.position u.word
          (rings_are h.end u.gives.after (length (delivered_as a.setup x.frame).frame) u.ring u.position u.word u.look r)
          (subst (λ (y : ℕ). Refuses h.end (length (delivered_as a.setup x.frame).frame) u.ring u.position u.word y u.gives.after) r.number r))

      halt_case : BreaksDown a.setup act q x.frame d.calls.interrupts f d.machine d.masks m masks → Goal m masks f
      halt_case u =
          let h = u.gives.here in
          moved (counted_stop q u.fault (record d.machine { active = Some (with_rx_end a q u.gives.after) })) masks (fate.Stopped (length (opened d a is_active k).past) q)
          (u.is ∙ ap (counted_stop q u.fault) (mid_is h u.gives.after u.mid u.gives.is)) refl (u.is_fate ∙ (λ j. fate.Stopped (act_is j) q))
          (keeps_halt d a (opened d a is_active k) n i at x q h.end (at_active h) u.gives.after admitted to lt unstopped masks u.words u.fault u.gives.gives)

    gives_case : (act : ℕ) → act ≡ count is_activation d.entries - 1 → GivesFrame act x.frame d.calls.interrupts f d.machine d.masks m masks → Goal m masks f
    gives_case act act_is s =
        let k' = opened d s.let_in.active s.let_in.is_active k in
        let lt : rx_queue s.let_in.active.setup.rss x.frame < 8 = omega (arith, s.below, k'.fit.3) in
        let act_past : act ≡ length (opened d s.let_in.active s.let_in.is_active k).past = omega (arith, act_is, k'.begun, length_last k'.past s.let_in.active.ends) in
        elim s.delivers [
          | inl u ↦ up_case s.let_in.active s.let_in.is_active s.let_in.admitted (rx_queue s.let_in.active.setup.rss x.frame) refl lt s.unstopped act act_past u
          | inr h ↦ elim h [
            | inl u ↦ lack_case s.let_in.active s.let_in.is_active s.let_in.admitted (rx_queue s.let_in.active.setup.rss x.frame) refl lt s.unstopped act act_past u
            | inr u ↦ halt_case s.let_in.active s.let_in.is_active s.let_in.admitted (rx_queue s.let_in.active.setup.rss x.frame) refl lt s.unstopped act act_past u
          ]
        ]

    pub keeps_handled : Handles (count is_activation d.entries - 1) x.frame d.calls.interrupts f d.machine d.masks m masks → Goal m masks f
    keeps_handled h = elim h [
      | inl s ↦ idle_case s
      | inr h1 ↦ elim h1 [
        | inl s ↦ refused_case s
        | inr h2 ↦ elim h2 [
          | inl s ↦ stopped_case (count is_activation d.entries - 1) refl s
          | inr s ↦ gives_case (count is_activation d.entries - 1) refl s
        ]
      ]
    ]

-- ------------------------------------------------------------ before the look

fates_less : (es : List Entry) → length (fates_in es) ≤ length es
fates_less [] = omega arith
fates_less (e ∷ es) = step (fate_in e) refl (fates_less es)
  where
    step : (o : Option Fate) → fate_in e ≡ o → length (fates_in es) ≤ length es → length (fates_in (e ∷ es)) ≤ suc (length es)
    step None h ih = rw h (omega (arith, ih))
    step (Some x) h ih = rw h (omega (arith, ih))

needs_less : (a q : ℕ) (fs : List Fate) → length (filter_map (need_in a q) fs) ≤ length fs
needs_less a q [] = omega arith
needs_less a q (f ∷ fs) = step (need_in a q f) refl (needs_less a q fs)
  where
    step : (o : Option Need) → need_in a q f ≡ o → length (filter_map (need_in a q) fs) ≤ length fs → length (filter_map (need_in a q) (f ∷ fs)) ≤ suc (length fs)
    step None h ih = rw h (omega (arith, ih))
    step (Some x) h ih = rw h (omega (arith, ih))

module _ (d : DeviceView) (k : Keeps d) (few : length d.entries < 2 ^ 57) (a : ActiveView) (act : d.machine.active ≡ Some a) where
  gave_of : (q : ℕ) (v : RxDeviceView) → slice_get a.ends.rx q ≡ Some v → GaveOn (beside_of (active_with d a)) d.entries (length (opened d a act k).past) q v
  gave_of q v at =
      let k' = opened d a act k in
      let zero_past : 0 + length (opened d a act k).past ≡ length (opened d a act k).past = omega arith in
      let zero_q : 0 + q ≡ q = omega arith in
      let last = subst (λ (j : ℕ). EndsSay d.table (beside_of (active_with d a)) d.entries j a.ends) zero_past (each_last (EndsSay d.table (beside_of (active_with d a)) d.entries) 0 k'.past a.ends k'.says) in
      subst (λ (j : ℕ). GaveOn (beside_of (active_with d a)) d.entries (length (opened d a act k).past) j v) zero_q (each_at (GaveOn (beside_of (active_with d a)) d.entries (length (opened d a act k).past)) 0 a.ends.rx q v at last.rx)

  positions_few : (v : RxDeviceView) (b : Bool) → v.given ≡ b → length v.delivered ≤ length d.entries → (v.given ≡ false → (consumed1 v ≤ 16 * length v.delivered) × (consumed2 v ≤ 16 * length v.delivered)) → (v.given ≡ true → (consumed1 v ≤ 4096) × (consumed2 v ≤ 4096))
      → (consumed1 v < 2 ^ 62) × (consumed2 v < 2 ^ 62)
  positions_few v false e short out within = let o = out e in (omega (arith, o.0, short, few), omega (arith, o.1, short, few))
  positions_few v true e short out within = let o = within e in (omega (arith, o.0), omega (arith, o.1))

  pub may_receive : MayReceive d.machine d.calls.interrupts a
  may_receive = let k' = opened d a act k in record {
    ready = λ q lt.
        let v = get_some a.ends.rx q (omega (arith, lt, k'.fit.1)) in
        let s = gave_of q v.0 v.1 in
        let past : ℕ = length (opened d a act k).past in
        let ups_few : ups past q d.entries ≤ length d.entries = omega (arith, filter_less (is_up past q) (fates_in d.entries), fates_less d.entries) in
        let needs_few : length (needs past q d.entries) ≤ length d.entries = omega (arith, needs_less past q (fates_in d.entries), fates_less d.entries) in
        let refused : length v.0.refused ≡ length (needs past q d.entries) = sym (length-map v.0.refused need) ∙ ap length s.refused in
        let short : length v.0.delivered ≤ length d.entries = omega (arith, ups_few, s.places) in
        record { here = record { active = a; is_active = act; end = v.0; at = v.1 }; delivered = omega (arith, short, few); refused = omega (arith, refused, needs_few, few); positions = positions_few v.0 v.0.given refl short s.few s.within };
    few = omega (arith, k'.fit.2, k'.fit.3, k'.interrupts);
    queues = omega (arith, k'.fit.3);
  }

-- ------------------------------------------------------------ a look that found nothing

-- a link's end that pulled nothing
pub record PulledNothing (i i' : LinkInView) : Type 0 where
  pub from : i'.from ≡ i.from
  pub to : i'.to ≡ i.to
  pub capacity : i'.capacity ≡ i.capacity
  pub pulled : i'.pulled ≡ i.pulled

links_same : (ins : List LinkInView) (n : ℕ) (i i' : LinkInView) → slice_get ins n ≡ Some i → PulledNothing i i' → map own_link (set ins n i') ≡ map own_link ins
links_same [] n i i' at s = absurd (cc at)
links_same (j ∷ ins) zero i i' at s =
    let same : j ≡ i = cc at in
    λ m. record { from = (s.from ∙ sym (ap (λ (u : LinkInView). u.from) same)) m; to = (s.to ∙ sym (ap (λ (u : LinkInView). u.to) same)) m; pushed = []; pulled = (s.pulled ∙ sym (ap (λ (u : LinkInView). u.pulled) same)) m; full = [] } ∷ map own_link ins
links_same (j ∷ ins) (suc n) i i' at s = ap (λ (ls : List LinkView). own_link j ∷ ls) (links_same ins n i i' at s)

module _ (d : DeviceView) (k : Keeps d) (n : ℕ) (i i' : LinkInView) (at : slice_get d.input n ≡ Some i) (s : PulledNothing i i') where
  same : map own_link d.input ≡ map own_link (set d.input n i')
  same = sym (links_same d.input n i i' at s)

  -- what is beside a journal, with these links
  abbrev with_links : List LinkView → Beside
  with_links ls = record (beside_of d) { links = ls }

  ins_same : EachQueue (InSays d.port d.entries) 0 (set d.input n i')
  ins_same =
      let zero_n : 0 + n ≡ n = omega arith in
      let old : InSays d.port d.entries (0 + n) i = each_at (InSays d.port d.entries) 0 d.input n i at k.input in
      each_set (InSays d.port d.entries) (InSays d.port d.entries) 0 d.input n i' (λ j y ne h. h)
      (record { to = s.to ∙ old.to; from = s.from ∙ old.from; capacity = s.capacity ∙ old.capacity; arrivals = ap (λ (b : ℕ). filter_map (place_from b) d.entries) s.from ∙ old.arrivals ∙ ap (λ (xs : List Packet). upto 0 (length xs)) (sym s.pulled) })
      k.input

  pub keeps_unpulled : Keeps (record d { input = set d.input n i' })
  keeps_unpulled = record {
    past = k.past;
    bags = k.bags;
    begun = k.begun;
    says = subst (λ (ls : List LinkView). EachQueue (EndsSay d.table (with_links ls) d.entries) 0 (k.past ++ held_ends d.machine.active)) same k.says;
    unsaid = λ a le. subst (λ (ls : List LinkView). IsUnsaid (with_links ls) d.entries a) same (k.unsaid a le);
    fit = k.fit;
    lawful = subst (λ (ls : List LinkView). IsLawfulJournal (with_links ls) d.entries d.setups) same k.lawful;
    told = k.told;
    tracks = k.tracks;
    serving = k.serving;
    out = k.out;
    own = k.own;
    input = ins_same;
    tx_errors = k.tx_errors;
    rx_errors = k.rx_errors;
    tx_stats = k.tx_stats;
    rx_stats = k.rx_stats ∙ ap (λ (ls : List LinkView). came_counts k.rx_errors ls d.port d.entries) same;
    stopped = k.stopped;
    errors = k.errors;
    fine = k.fine;
    ports = (k.ports.0, k.ports.1, length-set d.input n i' ∙ k.ports.2, k.ports.3);
    interrupts = k.interrupts;
  }

upto_many : (n m : ℕ) → length (upto n m) ≡ m
upto_many n zero = refl
upto_many n (suc m) = ap suc (upto_many (n + 1) m)

pub few_pulled : (d : DeviceView) → Keeps d → (n : ℕ) (i : LinkInView) → slice_get d.input n ≡ Some i → length i.pulled ≤ length d.entries
few_pulled d k n i at =
    let s = each_at (InSays d.port d.entries) 0 d.input n i at k.input in
    let many : length (filter_map (place_from i.from) d.entries) ≡ length i.pulled = ap length s.arrivals ∙ upto_many 0 (length i.pulled) in
    omega (arith, many, filter_few (place_from i.from) d.entries)

-- the device keeps what it keeps
pub keeps_in : (d d' : DeviceView) → Keeps d → (n : ℕ) (found : Bool) → InStep n found d d' → Keeps d'
keeps_in d d' k n false s =
    let p = s.pulls in
    subst Keeps (sym (s.is ∙ ap (λ (ins : List LinkInView). record d { input = ins }) p.is))
    (keeps_unpulled d k n p.link (record p.link { empty = p.link.empty ++ (length p.link.pulled, p.word) ∷ [] }) p.at (record { from = refl; to = refl; capacity = refl; pulled = refl }))
keeps_in d d' k n true s =
    let p = s.pulls in
    subst Keeps (sym (s.is ∙ (λ j. record d { machine = s.machine; masks = s.masks; input = p.is j; entries = d.entries ++ entry.In (other d.port n) (p.place_is j) s.fate ∷ [] })))
    (keeps_handled d k n p.link p.at s.packet s.fate s.machine s.masks s.handles)
