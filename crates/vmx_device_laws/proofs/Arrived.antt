-- One packet more that came over a link, and the entry that tells of it.
use Rattle.std.proofs.Common.{◌≡◌, ◌≢◌, ℕ, zero, suc, ◌+◌, ◌≤◌, Bool, true, false, List, [], ◌∷◌, ◌++◌, length, length-append, append-nil, map, set, refl, sym, ap, ◌∙◌, subst, arith, Some, None}
use Rattle.std.specs.List.{filter, filter_map, slice_get, AllByRecursion}
use Rattle.std.specs.Prelude.{◌||◌}
use Rattle.std.proofs.lemmas.List.Elements.{filter-append}
use Rattle.std.proofs.lemmas.Bool.{eq-eqb, ne_eqb}
use Rattle.vmx_ends.specs.declared.packet.Packet.{Packet}
use Rattle.vmx_ends.specs.LinkView.{LinkView}
use Rattle.vmx_ends.specs.Transmit.{TxDeviceView}
use Rattle.vmx_ends.specs.Receive.{RxDeviceView}
use Rattle.vmx_link.specs.Views.{LinkOutView, LinkInView}
use Rattle.vmx_device_state.specs.declared.turn.Turn.{Turn}
use Rattle.vmx_switch.specs.Ports.{Wiring}
use Rattle.vmx_model.specs.Types.{Setup}
use Rattle.vmx_model.specs.declared.journal.Entry.{Entry}
use Rattle.vmx_model.specs.declared.journal.Entry.TheVariants as entry
use Rattle.vmx_model.specs.declared.journal.Fate.{Fate}
use Rattle.vmx_model.specs.Lists.{count, upto}
use Rattle.vmx_model.specs.Stats.{is_lost_on}
use Rattle.vmx_model.specs.Views.{Need}
use Rattle.vmx_model.specs.Meta.{Arrival}
use Rattle.vmx_model.specs.Journal.{Beside, IsLawfulJournal, IsShown, is_link, is_setting, is_activation, packet_at, state_at, fate_in, fates_in, needs, ups, is_up, stopped_from, stopped_after, says_stopped}
use Rattle.vmx_model.specs.JournalSteps.{Extends, journal_push}
use Rattle.vmx_model.specs.QueueSteps.{sends_on_more}
use Rattle.vmx_model.specs.DeliverySteps.{deliveries_push, deliveries_grow, needs_push, came_up_push, came_up_grows}
use Rattle.vmx_model.specs.Order.{came_up, CameUp}
use Rattle.vmx_model.specs.Account.{sends_on, deliveries, arrival_in, asked, tag_to, place_to, look_to, place_from}
use Rattle.vmx_model.specs.Bags.{EachQueue}
use Rattle.vmx_device_looks.specs.Ports.{other}
use Rattle.vmx_device_looks.specs.PortLaws.{other_once}
use Rattle.vmx_device_looks.specs.Links.{pulled_one}
use Rattle.vmx_device_looks.specs.Queues.{each_map, each_set, each_at, all_push}
use Rattle.vmx_device_laws.specs.Views.{own_link, beside_by}
use Rattle.vmx_device_laws.specs.Keeps.{TookOn, GaveOn, IsUnsaid, OutSays, InSays, is_stop, stops_in}
use Rattle.vmx_device_laws.proofs.Lists.{get_append, get_last}
use Rattle.vmx_device_laws.proofs.Pushes.{adds, adds_none, counts_on}

-- ------------------------------------------------------------ the packet at its place

at_first : (from to place : ℕ) (l : LinkView) (ls : List LinkView) → is_link from to l ≡ true → packet_at (l ∷ ls) from to place ≡ slice_get l.pulled place
at_first from to place l ls e = rw e refl

at_rest : (from to place : ℕ) (l : LinkView) (ls : List LinkView) → is_link from to l ≡ false → packet_at (l ∷ ls) from to place ≡ packet_at ls from to place
at_rest from to place l ls e = rw e refl

-- a packet that was there stays
pub packet_stays : (ins : List LinkInView) (n : ℕ) (i : LinkInView) (x : Packet) (from to place : ℕ) (p : Packet) → slice_get ins n ≡ Some i → packet_at (map own_link ins) from to place ≡ Some p → packet_at (map own_link (set ins n (pulled_one i x))) from to place ≡ Some p
packet_stays [] n i x from to place p at h = absurd (cc at)
packet_stays (j ∷ ins) zero i x from to place p at h = let same : j ≡ i = cc at in step (is_link from to (own_link i)) refl (subst (λ (u : LinkInView). packet_at (map own_link (u ∷ ins)) from to place ≡ Some p) same h)
  where
    step : (b : Bool) → is_link from to (own_link i) ≡ b → packet_at (map own_link (i ∷ ins)) from to place ≡ Some p → packet_at (map own_link (pulled_one i x ∷ ins)) from to place ≡ Some p
    step true e h = at_first from to place (own_link (pulled_one i x)) (map own_link ins) e ∙ get_append i.pulled (x ∷ []) place p (sym (at_first from to place (own_link i) (map own_link ins) e) ∙ h)
    step false e h = at_rest from to place (own_link (pulled_one i x)) (map own_link ins) e ∙ sym (at_rest from to place (own_link i) (map own_link ins) e) ∙ h
packet_stays (j ∷ ins) (suc n) i x from to place p at h = step (is_link from to (own_link j)) refl (λ k. packet_stays ins n i x from to place p at k)
  where
    step : (b : Bool) → is_link from to (own_link j) ≡ b → (packet_at (map own_link ins) from to place ≡ Some p → packet_at (map own_link (set ins n (pulled_one i x))) from to place ≡ Some p)
        → packet_at (map own_link (j ∷ set ins n (pulled_one i x))) from to place ≡ Some p
    step true e ih = at_first from to place (own_link j) (map own_link (set ins n (pulled_one i x))) e ∙ sym (at_first from to place (own_link j) (map own_link ins) e) ∙ h
    step false e ih = at_rest from to place (own_link j) (map own_link (set ins n (pulled_one i x))) e ∙ ih (sym (at_rest from to place (own_link j) (map own_link ins) e) ∙ h)

-- and the new one is at the last place of its link
pub packet_new : (port : ℕ) (es : List Entry) (q : ℕ) (ins : List LinkInView) (n : ℕ) (i : LinkInView) (x : Packet) → slice_get ins n ≡ Some i → EachQueue (InSays port es) q ins
    → packet_at (map own_link (set ins n (pulled_one i x))) (other port (q + n)) port (length i.pulled) ≡ Some x
packet_new port es q [] n i x at says = absurd (cc at)
packet_new port es q (j ∷ ins) zero i x at says =
    let same : j ≡ i = cc at in
    let says' : InSays port es q i = subst (InSays port es q) same says.0 in
    let here : q ≡ q + 0 = omega arith in
    let from : i.from ≡ other port (q + 0) = says'.from ∙ ap (other port) here in
    let is : is_link (other port (q + 0)) port (own_link (pulled_one i x)) ≡ true = rw (eq-eqb i.from (other port (q + 0)) from, eq-eqb i.to port says'.to) refl in
    at_first (other port (q + 0)) port (length i.pulled) (own_link (pulled_one i x)) (map own_link ins) is ∙ get_last i.pulled x
packet_new port es q (j ∷ ins) (suc n) i x at says =
    let there : suc q + n ≡ q + suc n = omega arith in
    let ne : j.from ≢ other port (q + suc n) = λ e. let both = other_once port q (q + suc n) (sym says.0.from ∙ e) in omega (arith, both) in
    let no : is_link (other port (q + suc n)) port (own_link j) ≡ false = rw (ne_eqb j.from (other port (q + suc n)) ne) refl in
    at_rest (other port (q + suc n)) port (length i.pulled) (own_link j) (map own_link (set ins n (pulled_one i x))) no
    ∙ subst (λ (k : ℕ). packet_at (map own_link (set ins n (pulled_one i x))) (other port k) port (length i.pulled) ≡ Some x) there (packet_new port es (suc q) ins n i x at says.1)

-- ------------------------------------------------------------ the entry

module _ (port : ℕ) (mac : List ℕ) (told : List Turn) (ins : List LinkInView) (n : ℕ) (i : LinkInView) (at : slice_get ins n ≡ Some i) (x : Packet) (es : List Entry) (setups : List Setup) (says : EachQueue (InSays port es) 0 ins) (f : Fate) where
  abbrev pub b_old : Beside
  b_old = beside_by port mac told ins

  abbrev pub b_new : Beside
  b_new = beside_by port mac told (set ins n (pulled_one i x))

  abbrev pub e_new : Entry
  e_new = entry.In (other port n) (length i.pulled) f

  abbrev pub es_new : List Entry
  es_new = es ++ e_new ∷ []

  extends : Extends b_old b_new
  extends = record { port = refl; mac = refl; stopped = refl; more = []; told = sym (append-nil told); links = λ from place p h. packet_stays ins n i x from port place p at h }

  pub packet_is : packet_at b_new.links (other port n) port (length i.pulled) ≡ Some x
  packet_is = let zero_n : 0 + n ≡ n = omega arith in subst (λ (k : ℕ). packet_at (map own_link (set ins n (pulled_one i x))) (other port k) port (length i.pulled) ≡ Some x) zero_n (packet_new port es 0 ins n i x at says)

  module _ (settled : count is_setting es ≡ length told) (lawful : IsLawfulJournal b_old es setups) where
    le : count is_setting es ≤ length told
    le = omega (arith, settled)

    pub lawful_in : IsShown b_new es x.frame f (state_at told es) → IsLawfulJournal b_new es_new setups
    lawful_in shown = subst (IsLawfulJournal b_new es_new) (append-nil setups) (journal_push b_old b_new extends setups [] es e_new le lawful (x, packet_is, shown) refl)

    pub deliveries_in : (a q : ℕ) → deliveries b_new a q [] es_new ≡ deliveries b_old a q [] es ++ arrival_in b_new a q es e_new
    deliveries_in a q = deliveries_push b_new a q [] es e_new ∙ ap (λ (xs : List Arrival). xs ++ arrival_in b_new a q es e_new) (deliveries_grow b_old b_new extends setups a q [] es le lawful.each)

    pub came_in : came_up b_new.links port es_new ≡ came_up b_old.links port es ++ came_up b_new.links port (e_new ∷ [])
    came_in = came_up_push b_new es e_new ∙ ap (λ (xs : List CameUp). xs ++ came_up b_new.links port (e_new ∷ [])) (came_up_grows b_old b_new extends setups [] es lawful.each)

    -- an entry that adds nothing to what is said of a queue
    pub record AddsNothing (a q : ℕ) : Type 0 where
      pub arrival : arrival_in b_new a q es e_new ≡ []
      pub needed : needs a q (e_new ∷ []) ≡ []
      pub up : is_up a q f ≡ false

    pub gave_same : (a q : ℕ) (v : RxDeviceView) → AddsNothing a q → GaveOn b_old es a q v → GaveOn b_new es_new a q v
    gave_same a q v none s = record {
      delivered = s.delivered ∙ sym (deliveries_in a q ∙ ap (λ (xs : List Arrival). deliveries b_old a q [] es ++ xs) none.arrival ∙ append-nil (deliveries b_old a q [] es));
      refused = s.refused ∙ sym (needs_push a q es e_new ∙ ap (λ (xs : List Need). needs a q es ++ xs) none.needed ∙ append-nil (needs a q es));
      places = ups_same a q none ∙ s.places;
      few = s.few;
      within = s.within;
    }
      where
        ups_same : (a q : ℕ) → AddsNothing a q → ups a q es_new ≡ ups a q es
        ups_same a q none = ap (count (is_up a q)) (adds fate_in es e_new (f ∷ []) refl) ∙ ap length (filter-append (is_up a q) (fates_in es) (f ∷ []) ∙ ap (λ (xs : List Fate). filter (is_up a q) (fates_in es) ++ xs) (rw none.up refl) ∙ append-nil (filter (is_up a q) (fates_in es)))

    pub unsaid_same : (a : ℕ) → ((q : ℕ) → AddsNothing a q) → IsUnsaid b_old es a → IsUnsaid b_new es_new a
    unsaid_same a none u = record {
      sends = λ q. sends_in a q ∙ u.sends q;
      deliveries_ = λ q. deliveries_in a q ∙ ap (λ (xs : List Arrival). deliveries b_old a q [] es ++ xs) (none q).arrival ∙ append-nil (deliveries b_old a q [] es) ∙ u.deliveries_ q;
      needs_ = λ q. needs_push a q es e_new ∙ ap (λ (xs : List Need). needs a q es ++ xs) (none q).needed ∙ append-nil (needs a q es) ∙ u.needs_ q;
      ups_ = λ q. ap (count (is_up a q)) (adds fate_in es e_new (f ∷ []) refl) ∙ ap length (filter-append (is_up a q) (fates_in es) (f ∷ []) ∙ ap (λ (xs : List Fate). filter (is_up a q) (fates_in es) ++ xs) (rw (none q).up refl) ∙ append-nil (filter (is_up a q) (fates_in es))) ∙ u.ups_ q;
    }
      where
        sends_in : (a q : ℕ) → sends_on a q es_new ≡ sends_on a q es
        sends_in a q = sends_on_more a q es (e_new ∷ []) ∙ append-nil (sends_on a q es)

  pub took_same : (w : Wiring) (a q : ℕ) (v : TxDeviceView) → TookOn w port es a q v → TookOn w port es_new a q v
  took_same w a q v s = record { sends = sends_on_more a q es (e_new ∷ []) ∙ append-nil (sends_on a q es) ∙ s.sends; completed = s.completed; few = s.few }

  pub stopped_in_ : (q : ℕ) (was : Bool) → stopped_from q was es_new ≡ (says_stopped q f || stopped_from q was es)
  stopped_in_ q was = last was es
    where
      last : (w : Bool) (xs : List Entry) → stopped_from q w (xs ++ entry.In (other port n) (length i.pulled) f ∷ []) ≡ (says_stopped q f || stopped_from q w xs)
      last w [] = refl
      last w (y ∷ xs) = last (stopped_after q w y) xs

  pub stops_in_ : is_stop f ≡ false → AllByRecursion (λ (e : Entry). stops_in e ≡ false) es → AllByRecursion (λ (e : Entry). stops_in e ≡ false) es_new
  stops_in_ calm all = all_push (λ (e : Entry). stops_in e ≡ false) es e_new all calm

  pub asked_in : filter_map asked es_new ≡ filter_map asked es
  asked_in = adds_none asked es e_new refl

  pub fates_are : fates_in es_new ≡ fates_in es ++ f ∷ []
  fates_are = adds fate_in es e_new (f ∷ []) refl

  pub activations_in : count is_activation es_new ≡ count is_activation es
  activations_in = ap length (filter-append is_activation es (e_new ∷ []) ∙ append-nil (filter is_activation es))

  pub lost_in : (q : ℕ) → count (is_lost_on q) es_new ≡ count (is_lost_on q) es
  lost_in q = ap length (filter-append (is_lost_on q) es (e_new ∷ []) ∙ append-nil (filter (is_lost_on q) es))

  out_one : (k : ℕ) (o : LinkOutView) → OutSays port es k o → OutSays port es_new k o
  out_one k o s = record {
    from = s.from;
    to = s.to;
    capacity = s.capacity;
    tags = s.tags ∙ sym (adds_none (tag_to o.to) es e_new refl);
    places = adds_none (place_to o.to) es e_new refl ∙ s.places;
    looks = adds_none (look_to o.to) es e_new refl ∙ s.looks;
    full = s.full;
  }

  pub outs_in : (outs : List LinkOutView) → EachQueue (OutSays port es) 0 outs → EachQueue (OutSays port es_new) 0 outs
  outs_in outs s = each_map (OutSays port es) (OutSays port es_new) 0 outs (λ k o lo lt h. out_one k o h) s

  in_other : (k : ℕ) (j : LinkInView) → k ≢ n → InSays port es k j → InSays port es_new k j
  in_other k j ne s =
      let ne' : other port n ≢ j.from = λ e. ne (other_once port k n (sym s.from ∙ sym e)) in
      let none : place_from j.from e_new ≡ None = rw (ne_eqb (other port n) j.from ne') refl in record {
        to = s.to;
        from = s.from;
        capacity = s.capacity;
        arrivals = adds_none (place_from j.from) es e_new none ∙ s.arrivals;
      }

  in_here : InSays port es n i → InSays port es_new n (pulled_one i x)
  in_here s =
      let one : place_from i.from e_new ≡ Some (length i.pulled) = rw (eq-eqb (other port n) i.from (sym s.from)) refl in
      let many : length (i.pulled ++ x ∷ []) ≡ length i.pulled + 1 = length-append i.pulled (x ∷ []) in record {
        to = s.to;
        from = s.from;
        capacity = s.capacity;
        arrivals = adds (place_from i.from) es e_new (length i.pulled ∷ []) (rw one refl) ∙ counts_on (filter_map (place_from i.from) es) (length i.pulled) s.arrivals ∙ ap (upto 0) (sym many);
      }

  pub ins_in : EachQueue (InSays port es_new) 0 (set ins n (pulled_one i x))
  ins_in =
      let zero_n : 0 + n ≡ n = omega arith in
      let old : InSays port es n i = subst (λ (k : ℕ). InSays port es k i) zero_n (each_at (InSays port es) 0 ins n i at says) in
      each_set (InSays port es) (InSays port es_new) 0 ins n (pulled_one i x) (λ k j ne s. in_other k j (λ e. ne (e ∙ sym zero_n)) s) (subst (λ (k : ℕ). InSays port es_new k (pulled_one i x)) (sym zero_n) (in_here old)) says
