-- How far each step of the serial run raises the numbers of a guest.
use Rattle.std.proofs.Common.{◌≡◌, ℕ, zero, suc, ◌+◌, ◌-◌, ◌%◌, ◌≤◌, Bool, true, false, nat_lt, nat_eq, List, [], ◌∷◌, ◌++◌, length, length-append, map, refl, ◌∙◌, arith, if◌then◌else◌, All}
use Rattle.std.specs.List.{fold}
use Rattle.std.proofs.lemmas.List.Elements.{All-nil, All-cons, All-head, All-tail, All-append, All-weaker}
use Rattle.vmx_ends.specs.declared.frames.Sent.{Sent}
use Rattle.vmx_ends.specs.Core.{Outcome, takes, misses}
use Rattle.vmx_ends.specs.ReceiveCore.{RxCore, after_delivery, comes_to}
use Rattle.vmx_model.specs.declared.deeds.Deed.{Deed}
use Rattle.vmx_model.specs.declared.deeds.Deed.TheVariants as deed
use Rattle.vmx_model.specs.declared.deeds.Action.{Action}
use Rattle.vmx_model.specs.declared.guest.GuestPlan.{GuestPlan}
use Rattle.vmx_model.specs.declared.journal.Fate.{Fate}
use Rattle.vmx_model.specs.declared.journal.Fate.TheVariants as fate
use Rattle.vmx_model.specs.declared.journal.Entry.{Entry}
use Rattle.vmx_model.specs.declared.journal.Entry.TheVariants as entry
use Rattle.vmx_model.specs.Lists.{upto}
use Rattle.vmx_model.specs.Plan.{changed, quiesce_dev, reset_dev, update_rx_mode, update_mac_filters, update_vlan_filters, update_rssidt}
use Rattle.vmx_model.specs.Serial.{Seat, where_it, rx_is, is_of, received_next, poll, polls, pending, emptied, drained, quiet_setting, active_setting, activated, quieted, set_command, done, new_rx, tried, marked, arrived, transmitted, noted, fate_at}
use Rattle.vmx_device_state.specs.SetupView.{SetupView}
use Rattle.vmx_model.specs.Meta.{Arrival, delivered_as}
use Rattle.vmx_serial_seats.specs.Seats.{with_setup}
use Rattle.vmx_serial_queues.specs.Small.{IsWithin}
use Rattle.vmx_serial_seats.specs.Small.{IsSmall}

-- ------------------------------------------------------------ queues

pub within_where : (k m : ℕ) (test : RxCore → Bool) (change : RxCore → RxCore) → k ≤ m → ((c : RxCore) → IsWithin k c → IsWithin m (change c)) → (cs : List RxCore) → All (IsWithin k) cs → All (IsWithin m) (where_it test change cs)
within_where k m test change le keeps [] all = All-nil (IsWithin m)
within_where k m test change le keeps (c ∷ cs) all = All-cons (IsWithin m) _ _ (by_test (test c)) (within_where k m test change le keeps cs (All-tail (IsWithin k) c cs all))
  where
    here : IsWithin k c
    here = All-head (IsWithin k) c cs all

    by_test : (b : Bool) → IsWithin m (if b then change c else c)
    by_test true = keeps c here
    by_test false = let h = here in omega arith

within_more : (k m : ℕ) → k ≤ m → (cs : List RxCore) → All (IsWithin k) cs → All (IsWithin m) cs
within_more k m le cs all = All-weaker (IsWithin k) (IsWithin m) (λ c h. omega arith) cs all

within_received : (k : ℕ) (c : RxCore) → IsWithin k c → IsWithin k (received_next c)
within_received k c h = by_test (nat_lt c.received (length c.delivered))
  where
    by_test : (b : Bool) → IsWithin k (if b then record c { received = suc c.received } else c)
    by_test true = h
    by_test false = h

within_tried : (k : ℕ) (d : Arrival) (c : RxCore) → IsWithin k c → IsWithin (k + 1) (tried d c)
unfolding tried
within_tried k d c h = by_outcome (comes_to c (length d.frame))
  where
    by_outcome : (o : Outcome) → IsWithin (k + 1) (after_delivery c d.frame d.meta o)
    by_outcome (takes passed end) = omega (arith, length-append c.delivered (record { frame = d.frame; meta = d.meta; passed = passed; chain = end.chain } ∷ []))
    by_outcome (misses ring position looks) = omega arith

within_marked : (k : ℕ) (d : Arrival) (f : Fate) (cs : List RxCore) → All (IsWithin k) cs → All (IsWithin (k + 1)) (marked d f cs)
within_marked k d (fate.Up a q place) cs all = within_where k (k + 1) (rx_is a q) (tried d) (omega arith) (within_tried k d) cs all
within_marked k d (fate.NoBuffer a q ring position look) cs all = within_where k (k + 1) (rx_is a q) (tried d) (omega arith) (within_tried k d) cs all
within_marked k d (fate.LinkFull look) cs all = within_more k (k + 1) (omega arith) cs all
within_marked k d fate.Inactive cs all = within_more k (k + 1) (omega arith) cs all
within_marked k d (fate.Filtered r) cs all = within_more k (k + 1) (omega arith) cs all
within_marked k d fate.Discarded cs all = within_more k (k + 1) (omega arith) cs all
within_marked k d (fate.Stopped a q) cs all = within_more k (k + 1) (omega arith) cs all
within_marked k d fate.NoPort cs all = within_more k (k + 1) (omega arith) cs all
within_marked k d fate.Down cs all = within_more k (k + 1) (omega arith) cs all
within_marked k d fate.Short cs all = within_more k (k + 1) (omega arith) cs all
within_marked k d fate.TooLong cs all = within_more k (k + 1) (omega arith) cs all

within_new : (k port : ℕ) (g : GuestPlan) (a : ℕ) (qs : List ℕ) → All (IsWithin k) (map (new_rx port g a) qs)
within_new k port g a [] = All-nil (IsWithin k)
within_new k port g a (q ∷ qs) = All-cons (IsWithin k) _ _ (omega arith) (within_new k port g a qs)

-- ------------------------------------------------------------ guests

pub small_more : (k m : ℕ) → k ≤ m → (s : Seat) → IsSmall k s → IsSmall m s
small_more k m le s h = let a = h.begun in let b = h.seen in let c = h.setups in record { begun = omega arith; seen = omega arith; setups = omega arith; delivered = within_more k m le s.rx h.delivered }

pick_small : (k : ℕ) (b : Bool) (x y : Seat) → IsSmall k x → IsSmall k y → IsSmall k (if b then x else y)
pick_small k true x y h i = h
pick_small k false x y h i = i

small_polls : (k a n : ℕ) (s : Seat) → IsSmall k s → IsSmall k (polls a n s)
small_polls k a zero s h = h
small_polls k a (suc n) s h = small_polls k a n (poll a s) (record { begun = h.begun; seen = h.seen; setups = h.setups; delivered = within_where k k (is_of a) received_next (omega arith) (within_received k) s.rx h.delivered })

small_emptied : (k : ℕ) (s : Seat) → IsSmall k s → IsSmall k (emptied s)
unfolding emptied
small_emptied k s h = small_polls k (s.begun - 1) (pending s.rx) s h

small_drained : (k : ℕ) (s : Seat) → IsSmall k s → IsSmall k (drained s)
unfolding drained
small_drained k s h = pick_small k s.active _ s (small_emptied k s h) h

small_quiet_setting : (k number : ℕ) (s : Seat) → IsSmall k s → IsSmall k (quiet_setting number s)
small_quiet_setting k number s h = record { begun = h.begun; seen = h.seen; setups = h.setups; delivered = h.delivered }

pub small_quieted : (k number : ℕ) (s : Seat) → IsSmall k s → IsSmall k (quieted number s)
small_quieted k number s h = small_emptied k (record (quiet_setting number s) { active = false }) (record { begun = h.begun; seen = h.seen; setups = h.setups; delivered = h.delivered })

small_active_setting : (k number : ℕ) (s : Seat) → s.begun ≤ k + 1 → s.seen ≤ k + 1 → length s.setups ≤ k → All (IsWithin (k + 1)) s.rx → IsSmall (k + 1) (active_setting number s)
small_active_setting k number s b n c all = record { begun = b; seen = n; setups = omega (arith, length-append s.setups (s.setup ∷ [])); delivered = all }

pub small_activated : (k port : ℕ) (g : GuestPlan) (s : Seat) → IsSmall k s → IsSmall (k + 1) (activated port g s)
small_activated k port g s h = let a = h.begun in let b = h.seen in let c = h.setups in
    record { begun = omega arith; seen = omega arith; setups = omega (arith, length-append s.setups (s.setup ∷ [])); delivered = All-append (IsWithin (k + 1)) s.rx _ (within_more k (k + 1) (omega arith) s.rx h.delivered) (within_new (k + 1) port g s.begun (upto 0 g.setup.rx_queues)) }

small_set_command : (k number : ℕ) (s : Seat) → IsSmall k s → IsSmall (k + 1) (set_command s number)
small_set_command k number s h = let a = h.begun in let b = h.seen in let c = h.setups in
    pick_small (k + 1) s.active (active_setting number s) (quiet_setting number s) (small_active_setting k number s (omega arith) (omega arith) c (within_more k (k + 1) (omega arith) s.rx h.delivered)) (small_more k (k + 1) (omega arith) _ (small_quiet_setting k number s h))

small_updated : (k : ℕ) (d : Deed) (number : ℕ) (s : Seat) → IsSmall k s → IsSmall (k + 1) (set_command (with_setup (changed s.setup d) s) number)
small_updated k d number s h = small_set_command k number (with_setup (changed s.setup d) s) (record { begun = h.begun; seen = h.seen; setups = h.setups; delivered = h.delivered })

pub small_done : (k port : ℕ) (g : GuestPlan) (d : Deed) (s : Seat) → IsSmall k s → IsSmall (k + 1) (done port g d s)
small_done k port g deed.Quiesce s h = small_more k (k + 1) (omega arith) _ (small_quieted k _ s h)
small_done k port g deed.Activate s h = pick_small (k + 1) s.active s (activated port g s) (small_more k (k + 1) (omega arith) s h) (small_activated k port g s h)
small_done k port g deed.Reset s h = small_activated k port g _ (small_quieted k _ s h)
small_done k port g (deed.Mode m) s h = small_updated k (deed.Mode m) update_rx_mode s h
small_done k port g (deed.Multicast t) s h = small_updated k (deed.Multicast t) update_mac_filters s h
small_done k port g (deed.Vlans t) s h = small_updated k (deed.Vlans t) update_vlan_filters s h
small_done k port g (deed.Rss n t) s h = small_updated k (deed.Rss n t) update_rssidt s h

pub small_deeds : (k port : ℕ) (g : GuestPlan) (actions : List Action) (s : Seat) → IsSmall k s → IsSmall (k + length actions) (fold (λ s a. done port g a.deed s) s actions)
small_deeds k port g [] s h = small_more k _ (omega arith) s h
small_deeds k port g (a ∷ rest) s h = small_more (k + 1 + length rest) _ (omega arith) _ (small_deeds (k + 1) port g rest (done port g a.deed s) (small_done k port g a.deed s h))

pub small_noted : (k : ℕ) (e : Entry) (s : Seat) → IsSmall k s → IsSmall k (noted e s)
small_noted k e s h = record { begun = h.begun; seen = h.seen; setups = h.setups; delivered = h.delivered }

pub small_transmitted : (k a q : ℕ) (frame : Sent) (s : Seat) → IsSmall k s → IsSmall k (transmitted a q frame s)
small_transmitted k a q frame s h = record { begun = h.begun; seen = h.seen; setups = h.setups; delivered = h.delivered }

-- a guest that a copy reached, before any poll
abbrev landed : List ℕ → ℕ → ℕ → List ℕ → Seat → Seat
landed mac from place frame s = record s { seen = s.seen + 1; entries = s.entries ++ entry.In from place (fate_at s mac frame) ∷ []; rx = marked (delivered_as s.setup frame) (fate_at s mac frame) s.rx }

small_landed : (k : ℕ) (mac : List ℕ) (from place : ℕ) (frame : List ℕ) (s : Seat) → IsSmall k s → IsSmall (k + 1) (landed mac from place frame s)
small_landed k mac from place frame s h = let a = h.begun in let b = h.seen in let c = h.setups in
    record { begun = omega arith; seen = omega arith; setups = omega arith; delivered = within_marked k (delivered_as s.setup frame) (fate_at s mac frame) s.rx h.delivered }

pub small_arrived : (k poll_every : ℕ) (mac : List ℕ) (from place : ℕ) (frame : List ℕ) (s : Seat) → IsSmall k s → IsSmall (k + 1) (arrived poll_every mac from place frame s)
small_arrived k poll_every mac from place frame s h = let here = small_landed k mac from place frame s h in
    pick_small (k + 1) (nat_eq ((s.seen + 1) % poll_every) 0) _ _ (small_drained (k + 1) (landed mac from place frame s) here) here

-- ------------------------------------------------------------ the number of receive queues

abbrev pub queues_in : Seat → ℕ
queues_in s = s.setup.rx_queues

pick_queues : (b : Bool) (x y s : Seat) → queues_in x ≡ queues_in s → queues_in y ≡ queues_in s → queues_in (if b then x else y) ≡ queues_in s
pick_queues true x y s h i = h
pick_queues false x y s h i = i

kept_polls : (a n : ℕ) (s : Seat) → queues_in (polls a n s) ≡ queues_in s
kept_polls a zero s = refl
kept_polls a (suc n) s = kept_polls a n (poll a s)

kept_emptied : (s : Seat) → queues_in (emptied s) ≡ queues_in s
unfolding emptied
kept_emptied s = kept_polls (s.begun - 1) (pending s.rx) s

kept_drained : (s : Seat) → queues_in (drained s) ≡ queues_in s
unfolding drained
kept_drained s = pick_queues s.active _ s s (kept_emptied s) refl

kept_setup : (d : Deed) (v : SetupView) → (changed v d).rx_queues ≡ v.rx_queues
kept_setup deed.Quiesce v = refl
kept_setup deed.Activate v = refl
kept_setup deed.Reset v = refl
kept_setup (deed.Mode m) v = refl
kept_setup (deed.Multicast t) v = refl
kept_setup (deed.Vlans t) v = refl
kept_setup (deed.Rss n t) v = refl

kept_updated : (d : Deed) (number : ℕ) (s : Seat) → queues_in (set_command (with_setup (changed s.setup d) s) number) ≡ queues_in s
kept_updated d number s = let t = with_setup (changed s.setup d) s in pick_queues s.active (active_setting number t) (quiet_setting number t) s (kept_setup d s.setup) (kept_setup d s.setup)

kept_done : (port : ℕ) (g : GuestPlan) (d : Deed) (s : Seat) → queues_in (done port g d s) ≡ queues_in s
kept_done port g deed.Quiesce s = kept_emptied (record (quiet_setting quiesce_dev s) { active = false })
kept_done port g deed.Activate s = pick_queues s.active s (activated port g s) s refl refl
kept_done port g deed.Reset s = kept_emptied (record (quiet_setting reset_dev s) { active = false })
kept_done port g (deed.Mode m) s = kept_updated (deed.Mode m) update_rx_mode s
kept_done port g (deed.Multicast t) s = kept_updated (deed.Multicast t) update_mac_filters s
kept_done port g (deed.Vlans t) s = kept_updated (deed.Vlans t) update_vlan_filters s
kept_done port g (deed.Rss n t) s = kept_updated (deed.Rss n t) update_rssidt s

pub kept_deeds : (port : ℕ) (g : GuestPlan) (actions : List Action) (s : Seat) → queues_in (fold (λ s a. done port g a.deed s) s actions) ≡ queues_in s
kept_deeds port g [] s = refl
kept_deeds port g (a ∷ rest) s = kept_deeds port g rest (done port g a.deed s) ∙ kept_done port g a.deed s

pub kept_arrived : (poll_every : ℕ) (mac : List ℕ) (from place : ℕ) (frame : List ℕ) (s : Seat) → queues_in (arrived poll_every mac from place frame s) ≡ queues_in s
kept_arrived poll_every mac from place frame s = pick_queues (nat_eq ((s.seen + 1) % poll_every) 0) _ (landed mac from place frame s) s (kept_drained (landed mac from place frame s)) refl
