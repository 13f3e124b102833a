-- A device stays as it was said after a command was answered.
use Rattle.std.proofs.Common.{◌≡◌, ℕ, zero, suc, ◌+◌, ◌*◌, ◌≤◌, Bool, true, false, List, [], ◌∷◌, ◌++◌, length, length-append, append-nil, append_assoc, map, take, get_or, refl, true≢false, sym, ap, ◌∙◌, subst, arith, Some, None, Option, inl, inr, ◌⊎◌, if◌then◌else◌}
use Rattle.std.specs.List.{filter, slice_get, AllByRecursion}
use Rattle.std.specs.Prelude.{option_map, ◌==◌, IfSome, is_some, unwrap_or, replicate}
use Rattle.std.proofs.lemmas.List.Elements.{filter-append}
use Rattle.std.proofs.lemmas.Bool.{eqb-true}
use Rattle.vmx_shared_area.specs.Checks.{fault}
use Rattle.vmx_shared_area.specs.declared.fault.ImageFault.{ImageFault}
use Rattle.vmx_shared_area.specs.declared.setup.Setup.{Setup}
use Rattle.vmx_io.specs.declared.handed.HandedView.{HandedView}
use Rattle.vmx_switch.specs.Ports.{Wiring}
use Rattle.vmx_ends.specs.Frames.{sent_of}
use Rattle.vmx_ends.specs.Transmit.{TxDeviceView, found_in}
use Rattle.vmx_ends.specs.Receive.{RxDeviceView, used, took1, took2}
use Rattle.vmx_ends.specs.HandedEnds.{all_of, is_fresh_tx, is_fresh_rx}
use Rattle.vmx_ends.specs.HandedLaws.{fresh_tx, fresh_rx}
use Rattle.vmx_link.specs.Views.{LinkOutView, LinkInView}
use Rattle.vmx_device_state.specs.SetupView.{SetupView, setup_view}
use Rattle.vmx_device_state.specs.ImageSetup.{image_setup}
use Rattle.vmx_device_state.specs.DeviceState.{DeviceState, state_from, Idle, Active, counts_of, updated, after_answer, after_order, fault_number, counts_answer, activate_answer, answer_by}
use Rattle.vmx_device_state.specs.Laws.{number_not_zero, update_keeps}
use Rattle.vmx_device_state.specs.Orders.{order_of}
use Rattle.vmx_device_state.specs.declared.order.Order.{Order}
use Rattle.vmx_device_state.specs.declared.order.Part.{Part}
use Rattle.vmx_device_state.specs.declared.order.Order.TheVariants.{Activate, Stop, Update, Unknown, Get}
use Rattle.vmx_device_state.specs.Deals.{Held, Deal, Begins, Stops, Passes, is_begins, deal_by, deal_of, held_after, held_after_turn, held_from}
use Rattle.vmx_device_state.specs.DealLaws.{activating_begins}
use Rattle.vmx_device_state.specs.Answers as device
use Rattle.vmx_device_state.specs.declared.turn.Turn.{Turn}
use Rattle.vmx_regs.specs.declared.known.Calls.{Calls}
use Rattle.vmx_machine_state.specs.Views.{EndsView, ActiveView, MachineView, state_of, state_by, ends_of, handed_of, no_errors}
use Rattle.vmx_machine_state.specs.Ends.{ends_held, ends_back}
use Rattle.vmx_commands.specs.Replies.{Tracks, held_in}
use Rattle.vmx_commands.specs.Serving.{AnswersCommand, asked_with, told_with}
use Rattle.vmx_machine_state.specs.Stopped.{clears}
use Rattle.vmx_model.specs.declared.journal.Entry.{Entry}
use Rattle.vmx_model.specs.declared.journal.Entry.TheVariants as entry
use Rattle.vmx_model.specs.Lists.{count, upto}
use Rattle.vmx_model.specs.Stats.{counted, is_lost_on, lacks_buffer}
use Rattle.vmx_model.specs.Wire.{wire_form}
use Rattle.vmx_model.specs.Meta.{arrival_of}
use Rattle.vmx_model.specs.Answers.{answer_to, ComesBack}
use Rattle.vmx_model.specs.Journal.{Beside, IsLawful, IsLawfulJournal, IsTold, ShowsSetup, is_setting, is_activation, has_setup, state_at, fates_in, fate_in, needs, ups, is_up, stopped_from, stopped_after}
use Rattle.vmx_model.specs.JournalSteps.{Extends, journal_push}
use Rattle.vmx_model.specs.QueueSteps.{sends_on_more}
use Rattle.vmx_model.specs.DeliverySteps.{deliveries_push, deliveries_grow, needs_push, came_up_push, came_up_grows}
use Rattle.vmx_model.specs.Order.{came_up, CameUp, on_rx}
use Rattle.vmx_model.specs.Account.{sends_on, planned, deliveries, need, asked, tag_to, place_to, look_to, place_from}
use Rattle.vmx_model.specs.Bags.{EachQueue, gift, gifts, gifts_from}
use Rattle.vmx_device_looks.specs.Queues.{each_map, each_push, all_map, all_push}
use Rattle.vmx_device_looks.specs.Commands.{ShowsState}
use Rattle.vmx_device_laws.specs.Views.{DeviceView, beside_of, beside_by, held_ends}
use Rattle.vmx_device_laws.specs.Keeps.{Keeps, TookOn, GaveOn, EndsSay, IsUnsaid, OutSays, InSays, AreOwn, AreTrusted, FitEnds, stops_in, spoken, sent_counts, taken_by, frames_on, frames_at}
use Rattle.vmx_device_laws.specs.Steps.{CommandStep}
use Rattle.vmx_device_laws.proofs.Lists.{get_last, take_all, take_front, flat_last, length_last, map_append, and_both, all_begin}
use Rattle.vmx_device_laws.proofs.Held.{settings_are}
use Rattle.vmx_device_laws.proofs.Pushes.{adds, adds_none}
use Rattle.vmx_device_laws.proofs.News.{keeps_calls}

-- ------------------------------------------------------------ the bags in which ends come back

pub gifts_last : (held : Option Held) (ts : List Turn) (t : Turn) → gifts_from held (ts ++ t ∷ []) ≡ gifts_from held ts ++ gift (deal_of t.command.number t.answer.value) (held_from held ts) t.answer.ends
gifts_last held [] t = append-nil (gift (deal_of t.command.number t.answer.value) held t.answer.ends)
gifts_last held (u ∷ ts) t =
    ap (λ (xs : List HandedView). gift (deal_of u.command.number u.answer.value) held u.answer.ends ++ xs) (gifts_last (held_after_turn held u) ts t)
    ∙ sym (append_assoc (gift (deal_of u.command.number u.answer.value) held u.answer.ends) (gifts_from (held_after_turn held u) ts) (gift (deal_of t.command.number t.answer.value) (held_from (held_after_turn held u) ts) t.answer.ends))

-- the ends as a list
abbrev pub listed : Option EndsView → List EndsView
listed None = []
listed (Some e) = e ∷ []

pub held_listed : (o : Option ActiveView) → held_ends o ≡ listed (option_map (λ (a : ActiveView). a.ends) o)
held_listed None = refl
held_listed (Some a) = refl

-- the ends handed back with an answer
abbrev pub handed_back : Deal → Option EndsView → List EndsView
handed_back Begins held = []
handed_back Stops held = listed held
handed_back Passes held = []

pub gift_is : (d : Deal) (held given : Option EndsView) → gift d (held_in held) (option_map handed_of (ends_back d held given)) ≡ map handed_of (handed_back d held)
gift_is Begins None given = refl
gift_is Begins (Some e) given = refl
gift_is Stops None None = refl
gift_is Stops None (Some g) = refl
gift_is Stops (Some e) given = refl
gift_is Passes None None = refl
gift_is Passes None (Some g) = refl
gift_is Passes (Some e) None = refl
gift_is Passes (Some e) (Some g) = refl

-- ------------------------------------------------------------ an activation that was answered 0

only_activate : (o : Order) → deal_by o ≡ Begins → o ≡ Activate
only_activate Activate e = refl
only_activate Stop e = absurd (true≢false (sym (ap is_begins e)))
only_activate (Update part) e = absurd (true≢false (sym (ap is_begins e)))
only_activate Unknown e = absurd (true≢false (sym (ap is_begins e)))
only_activate Get e = absurd (true≢false (sym (ap is_begins e)))

pub begins_inv : (number value : ℕ) → deal_of number value ≡ Begins → (value ≡ 0) × (order_of number ≡ Activate)
begins_inv number value e = step (value == 0) refl
  where
    step : (b : Bool) → (value == 0) ≡ b → (value ≡ 0) × (order_of number ≡ Activate)
    step true h = (eqb-true value 0 h, only_activate (order_of number) (ap (λ (b : Bool). if b then deal_by (order_of number) else Passes) (sym h) ∙ e))
    step false h = absurd (true≢false (sym (ap is_begins (ap (λ (b : Bool). if b then deal_by (order_of number) else Passes) (sym h) ∙ e))))

pub fault_or : (o : Option ImageFault) (n : ℕ) → fault_number o n ≡ 0 → n ≡ 0
fault_or None n e = e
fault_or (Some f) n e = absurd (number_not_zero f e)

-- the device was idle, and the bag had ends
begins_idle : (active : Option ActiveView) (given : Option EndsView) (image : List ℕ) → activate_answer (state_by active) image (counts_of (option_map handed_of given)) ≡ 0 → (active ≡ None) × ((e : EndsView) × (given ≡ Some e))
begins_idle (Some a) given image e = absurd (omega (arith, e))
begins_idle None None image e = let none = fault_or (fault image) 11 e in absurd (omega (arith, none))
begins_idle None (Some g) image e = (refl, (g, refl))

pub begins_with : (m : MachineView) (number value : ℕ) (image : List ℕ) (given : Option EndsView) → deal_of number value ≡ Begins → value ≡ device.answer_to m.mac (state_of m) number image (counts_of (option_map handed_of given))
    → (m.active ≡ None) × ((e : EndsView) × (given ≡ Some e)) × (order_of number ≡ Activate)
begins_with m number value image given begins is =
    let inv = begins_inv number value begins in
    let answer : value ≡ activate_answer (state_of m) image (counts_of (option_map handed_of given)) = is ∙ ap (λ (o : Order). unwrap_or (answer_by o (state_of m) image (counts_of (option_map handed_of given))) (device.get_answer m.mac number)) inv.1 in
    let both = begins_idle m.active given image (sym answer ∙ inv.0) in
    (both.0, both.1, inv.1)

-- ------------------------------------------------------------ which ends there are

-- all ends after an answer: as before, or those of an activation more
pub data Change (all : List EndsView) (deal : Deal) (given : Option EndsView) (all' : List EndsView) : Type 0 where
  Stays : is_begins deal ≡ false → all' ≡ all → Change all deal given all'
  Grows : (e : EndsView) → deal ≡ Begins → given ≡ Some e → all' ≡ all ++ e ∷ [] → Change all deal given all'

pub changed : (past : List EndsView) (deal : Deal) (held given : Option EndsView) → (deal ≡ Begins → (held ≡ None) × ((e : EndsView) × (given ≡ Some e))) → Change (past ++ listed held) deal given ((past ++ handed_back deal held) ++ listed (ends_held deal held given))
changed past Begins held given h =
    let both = h refl in
    Grows both.1.0 refl both.1.1 ((λ i. (append-nil past i) ++ listed (both.1.1 i)) ∙ ap (λ (xs : List EndsView). xs ++ both.1.0 ∷ []) (sym (append-nil past)) ∙ ap (λ (o : Option EndsView). (past ++ listed o) ++ both.1.0 ∷ []) (sym both.0))
changed past Stops held given h = Stays refl (append-nil (past ++ listed held))
changed past Passes held given h = Stays refl (ap (λ (xs : List EndsView). xs ++ listed held) (append-nil past))

-- ------------------------------------------------------------ fresh ends

module _ (w : Wiring) (b : Beside) (es : List Entry) (a : ℕ) (u : IsUnsaid b es a) where
  fresh_txs : (q : ℕ) (vs : List TxDeviceView) → all_of is_fresh_tx vs ≡ true → EachQueue (TookOn w b.port es a) q vs
  fresh_txs q [] fresh = tt
  fresh_txs q (v ∷ vs) fresh =
      let both = and_both (is_fresh_tx v) (all_of is_fresh_tx vs) fresh in
      let f = fresh_tx v both.0 in
      (record { sends = u.sends q ∙ ap (λ ts. planned w b.port a q 0 (map wire_form (sent_of ts))) (sym f.0); completed = f.1 ∙ ap length (sym f.0); few = subst (λ ts. found_in ts ≤ 16 * length ts) (sym f.0) (omega arith) }, fresh_txs (suc q) vs both.1)

  fresh_rxs : (q : ℕ) (vs : List RxDeviceView) → all_of is_fresh_rx vs ≡ true → EachQueue (GaveOn b es a) q vs
  fresh_rxs q [] fresh = tt
  fresh_rxs q (v ∷ vs) fresh =
      let both = and_both (is_fresh_rx v) (all_of is_fresh_rx vs) fresh in
      let f = fresh_rx v both.0 in (
        record {
          delivered = ap (map arrival_of) f.0 ∙ sym (u.deliveries_ q);
          refused = ap (map need) f.1 ∙ sym (u.needs_ q);
          places = u.ups_ q ∙ ap length (sym f.0);
          few = λ g. (subst (λ ds. used took1 ds ≤ 16 * length ds) (sym f.0) (omega arith), subst (λ ds. used took2 ds ≤ 16 * length ds) (sym f.0) (omega arith));
          within = λ g. (subst (λ ds. used took1 ds ≤ 4096) (sym f.0) (omega arith), subst (λ ds. used took2 ds ≤ 4096) (sym f.0) (omega arith));
        },
        fresh_rxs (suc q) vs both.1,
      )

fresh_frames : (vs : List TxDeviceView) (q : ℕ) → all_of is_fresh_tx vs ≡ true → frames_on vs q ≡ []
fresh_frames [] q fresh = refl
fresh_frames (v ∷ vs) zero fresh = let both = and_both (is_fresh_tx v) (all_of is_fresh_tx vs) fresh in ap (λ ts. map wire_form (sent_of ts)) (fresh_tx v both.0).0
fresh_frames (v ∷ vs) (suc q) fresh = fresh_frames vs q (and_both (is_fresh_tx v) (all_of is_fresh_tx vs) fresh).1

frames_stay : (all : List EndsView) (e : EndsView) (a q place : ℕ) (f : List ℕ) → slice_get (frames_at all a q) place ≡ Some f → slice_get (frames_at (all ++ e ∷ []) a q) place ≡ Some f
frames_stay [] e a q place f h = absurd (cc h)
frames_stay (x ∷ all) e zero q place f h = h
frames_stay (x ∷ all) e (suc a) q place f h = frames_stay all e a q place f h

-- ------------------------------------------------------------ errors and stopped queues

pub none_in : (x : Option ℕ) → is_some x ≡ false → (n q : ℕ) → is_some (get_or (replicate n x) q x) ≡ false
none_in x none zero zero = none
none_in x none zero (suc q) = none
none_in x none (suc n) zero = none
none_in x none (suc n) (suc q) = none_in x none n q

errors_stop : (b : Bool) (errors : List (Option ℕ)) (q : ℕ) (was : Bool) → is_some (get_or errors q None) ≡ was → is_some (get_or (if b then no_errors else errors) q None) ≡ (if b then false else was)
errors_stop true errors q was e = none_in None refl 8 q
errors_stop false errors q was e = e

errors_long : (b : Bool) (errors : List (Option ℕ)) → length errors ≡ 8 → length (if b then no_errors else errors) ≡ 8
errors_long true errors e = refl
errors_long false errors e = e

stopped_last : (q : ℕ) (was : Bool) (es : List Entry) (e : Entry) → stopped_from q was (es ++ e ∷ []) ≡ stopped_after q (stopped_from q was es) e
stopped_last q was [] e = refl
stopped_last q was (x ∷ es) e = stopped_last q (stopped_after q was x) es e

-- what is put among the setups
record Shown (number value : ℕ) (setups new : List Setup) (n : ℕ) (index : Option ℕ) (s : DeviceState) : Type 0 where
  more : List Setup
  is : new ≡ setups ++ more
  many : length more ≡ count has_setup (entry.Setting number value index ∷ [])
  shows : ShowsSetup new n index s

shown : (number value : ℕ) (setups new : List Setup) (index : Option ℕ) (s : DeviceState) (n : ℕ) → n ≡ length setups → ShowsState setups index new s → Shown number value setups new n index s
shown number value setups new None s n at h = record { more = []; is = h.shows.1 ∙ sym (append-nil setups); many = refl; shows = subst (ShowsSetup new n None) (sym h.shows.0) refl }
shown number value setups new (Some k) s n at h =
    let x = h.shows.1.0 in record {
      more = x ∷ [];
      is = h.shows.1.1;
      many = refl;
      shows = subst (ShowsSetup new n (Some k)) (sym h.shows.1.2)
          (ap Some (h.shows.0 ∙ sym at), (x, subst (λ (m : ℕ). slice_get new m ≡ Some x) (sym at) (ap (λ (xs : List Setup). slice_get xs (length setups)) h.shows.1.1 ∙ get_last setups x), refl));
    }

module _ (d : DeviceView) (k : Keeps d) (number value : ℕ) (now : Calls) (m : MachineView) (x : AnswersCommand d.calls d.machine number value now m) (tracks : Tracks m now.served) (index : Option ℕ) (setups : List Setup) (shows : ShowsState d.setups index setups (state_of m)) where
  abbrev pub said : Entry
  said = entry.Setting number value index

  abbrev pub es : List Entry
  es = d.entries ++ entry.Setting number value index ∷ []

  abbrev told : Turn
  told = record { command = asked_with number x.image x.given; answer = told_with value x.written x.back }

  abbrev pub b' : Beside
  b' = beside_by d.port m.mac now.served d.input

  mac_is : m.mac ≡ d.machine.mac
  mac_is = x.applied.stays.mac

  served_is : now.served ≡ d.calls.served ++ told ∷ []
  served_is = ap (λ (v : Calls). v.served) x.calls

  extends : Extends (beside_of d) b'
  extends = record { port = refl; mac = mac_is; stopped = refl; more = told ∷ []; told = served_is; links = λ from place p h. h }

  le : count is_setting d.entries ≤ length d.calls.served
  le = omega (arith, settings_are d k)

  before_is : take (count is_setting d.entries) now.served ≡ d.calls.served
  before_is = ap (λ (n : ℕ). take n now.served) (settings_are d k) ∙ ap (take (length d.calls.served)) served_is ∙ take_front d.calls.served (told ∷ [])

  after_is : state_from Idle (take (suc (count is_setting d.entries)) now.served) ≡ state_of m
  after_is =
      let long : suc (count is_setting d.entries) ≡ length now.served = ap suc (settings_are d k) ∙ sym (ap length served_is ∙ length_last d.calls.served told) in
      ap (state_from Idle) (ap (λ (n : ℕ). take n now.served) long ∙ take_all now.served) ∙ tracks.state

  state_is : state_at now.served d.entries ≡ state_of d.machine
  state_is = ap (state_from Idle) before_is ∙ k.tracks.state

  answer_is : value ≡ answer_to m.mac (state_at now.served d.entries) told
  answer_is = x.applied.answer ∙ (λ i. device.answer_to (sym mac_is i) (sym state_is i) number x.image (counts_of (option_map handed_of x.given)))

  is_told : IsTold m.mac now.served d.entries number value
  is_told = (
    told,
    ap (slice_get now.served) (settings_are d k) ∙ ap (λ (ts : List Turn). slice_get ts (length d.calls.served)) served_is ∙ get_last d.calls.served told,
    refl,
    refl,
    answer_is,
    subst (λ (ts : List Turn). ComesBack (held_after ts) told) (sym before_is) x.reply.ends,
  )

  lawful' : IsLawfulJournal b' es setups
  lawful' =
      let s = shown number value d.setups setups index (state_of m) (count has_setup d.entries) (sym k.lawful.no_more) shows in
      let law : IsLawful b' (d.setups ++ s.more) d.entries said = (
        is_told,
        subst (λ (xs : List Setup). ShowsSetup xs (count has_setup d.entries) index (state_from Idle (take (suc (count is_setting d.entries)) now.served))) s.is
            (subst (ShowsSetup setups (count has_setup d.entries) index) (sym after_is) s.shows),
      ) in
      subst (IsLawfulJournal b' es) (sym s.is) (journal_push (beside_of d) b' extends d.setups s.more d.entries said le k.lawful law s.many)

  -- ------------------------------------------------------------ what the entry adds nothing to

  sends_same : (a q : ℕ) → sends_on a q es ≡ sends_on a q d.entries
  sends_same a q = sends_on_more a q d.entries (said ∷ []) ∙ append-nil (sends_on a q d.entries)

  deliveries_same : (a q : ℕ) → deliveries b' a q [] es ≡ deliveries (beside_of d) a q [] d.entries
  deliveries_same a q = deliveries_push b' a q [] d.entries said ∙ append-nil (deliveries b' a q [] d.entries) ∙ deliveries_grow (beside_of d) b' extends d.setups a q [] d.entries le k.lawful.each

  needs_same : (a q : ℕ) → needs a q es ≡ needs a q d.entries
  needs_same a q = needs_push a q d.entries said ∙ append-nil (needs a q d.entries)

  fates_same : fates_in es ≡ fates_in d.entries
  fates_same = adds_none fate_in d.entries said refl

  ups_same : (a q : ℕ) → ups a q es ≡ ups a q d.entries
  ups_same a q = ap (count (is_up a q)) fates_same

  came_same : came_up b'.links d.port es ≡ came_up (beside_of d).links d.port d.entries
  came_same = came_up_push b' d.entries said ∙ append-nil (came_up b'.links d.port d.entries) ∙ came_up_grows (beside_of d) b' extends d.setups [] d.entries k.lawful.each

  lost_same : (q : ℕ) → count (is_lost_on q) es ≡ count (is_lost_on q) d.entries
  lost_same q = ap length (filter-append (is_lost_on q) d.entries (said ∷ []) ∙ append-nil (filter (is_lost_on q) d.entries))

  took_same : (a q : ℕ) (v : TxDeviceView) → TookOn d.table d.port d.entries a q v → TookOn d.table d.port es a q v
  took_same a q v s = record { sends = sends_same a q ∙ s.sends; completed = s.completed; few = s.few }

  gave_same : (a q : ℕ) (v : RxDeviceView) → GaveOn (beside_of d) d.entries a q v → GaveOn b' es a q v
  gave_same a q v s = record { delivered = s.delivered ∙ sym (deliveries_same a q); refused = s.refused ∙ sym (needs_same a q); places = ups_same a q ∙ s.places; few = s.few; within = s.within }

  says_same : (a : ℕ) (e : EndsView) → EndsSay d.table (beside_of d) d.entries a e → EndsSay d.table b' es a e
  says_same a e s = record {
    tx = each_map (TookOn d.table d.port d.entries a) (TookOn d.table d.port es a) 0 e.tx (λ q v lo lt h. took_same a q v h) s.tx;
    rx = each_map (GaveOn (beside_of d) d.entries a) (GaveOn b' es a) 0 e.rx (λ q v lo lt h. gave_same a q v h) s.rx;
  }

  unsaid_same : (a : ℕ) → IsUnsaid (beside_of d) d.entries a → IsUnsaid b' es a
  unsaid_same a u = record { sends = λ q. sends_same a q ∙ u.sends q; deliveries_ = λ q. deliveries_same a q ∙ u.deliveries_ q; needs_ = λ q. needs_same a q ∙ u.needs_ q; ups_ = λ q. ups_same a q ∙ u.ups_ q }

  out_same : (j : ℕ) (o : LinkOutView) → OutSays d.port d.entries j o → OutSays d.port es j o
  out_same j o s = record {
    from = s.from;
    to = s.to;
    capacity = s.capacity;
    tags = s.tags ∙ sym (adds_none (tag_to o.to) d.entries said refl);
    places = adds_none (place_to o.to) d.entries said refl ∙ s.places;
    looks = adds_none (look_to o.to) d.entries said refl ∙ s.looks;
    full = s.full;
  }

  in_same : (j : ℕ) (i : LinkInView) → InSays d.port d.entries j i → InSays d.port es j i
  in_same j i s = record { to = s.to; from = s.from; capacity = s.capacity; arrivals = adds_none (place_from i.from) d.entries said refl ∙ s.arrivals }

  -- ------------------------------------------------------------ the ends

  abbrev pub past' : List EndsView
  past' = k.past ++ handed_back (deal_of number value) (ends_of d.machine)

  abbrev pub all : List EndsView
  all = k.past ++ held_ends d.machine.active

  abbrev pub all' : List EndsView
  all' = past' ++ held_ends m.active

  bags_are : gifts now.served ≡ map handed_of past'
  bags_are =
      ap gifts served_is ∙ gifts_last None d.calls.served told
      ∙ (λ i. k.bags i ++ gift (deal_of number value) (k.tracks.held i) (option_map handed_of (x.applied.ends i)))
      ∙ ap (λ (xs : List HandedView). map handed_of k.past ++ xs) (gift_is (deal_of number value) (ends_of d.machine) x.given)
      ∙ sym (map_append handed_of k.past (handed_back (deal_of number value) (ends_of d.machine)))

  begins : deal_of number value ≡ Begins → (d.machine.active ≡ None) × ((e : EndsView) × (x.given ≡ Some e)) × (order_of number ≡ Activate)
  begins deal = begins_with d.machine number value x.image x.given deal x.applied.answer

  change : Change (k.past ++ held_ends d.machine.active) (deal_of number value) x.given (past' ++ held_ends m.active)
  change =
      let c = changed k.past (deal_of number value) (ends_of d.machine) x.given (λ deal. let b = begins deal in (ap (option_map (λ (a : ActiveView). a.ends)) b.0, b.1)) in
      subst (λ (p : List EndsView × List EndsView). Change p.0 (deal_of number value) x.given p.1)
      (λ i. (k.past ++ sym (held_listed d.machine.active) i, past' ++ sym (held_listed m.active ∙ ap listed x.applied.held) i)) c

  activations : count is_activation es ≡ count is_activation d.entries + count is_activation (said ∷ [])
  activations = ap length (filter-append is_activation d.entries (said ∷ [])) ∙ length-append (filter is_activation d.entries) (filter is_activation (said ∷ []))

  -- what depends on the ends
  pub record Rest (all' : List EndsView) : Type 0 where
    pub begun : count is_activation es ≡ length all'
    pub says : EachQueue (EndsSay d.table b' es) 0 all'
    pub unsaid : (a : ℕ) → length all' ≤ a → IsUnsaid b' es a
    pub own : AllByRecursion (AreOwn d.port all') d.out
    pub tx_stats : d.machine.tx_stats ≡ sent_counts k.tx_errors all' es
    pub trusted : AreTrusted all' → AreTrusted (k.past ++ held_ends d.machine.active)

  says_before : EachQueue (EndsSay d.table b' es) 0 (k.past ++ held_ends d.machine.active)
  says_before = each_map (EndsSay d.table (beside_of d) d.entries) (EndsSay d.table b' es) 0 (k.past ++ held_ends d.machine.active) (λ a e lo lt h. says_same a e h) k.says

  stays : is_begins (deal_of number value) ≡ false → Rest (k.past ++ held_ends d.machine.active)
  stays none =
      let not : count is_activation (said ∷ []) ≡ 0 = let e = activating_begins number value ∙ none in rw e refl in record {
        begun = activations ∙ ap (λ (n : ℕ). count is_activation d.entries + n) not ∙ omega (arith, k.begun);
        says = says_before;
        unsaid = λ a lo. unsaid_same a (k.unsaid a lo);
        own = k.own;
        tx_stats = k.tx_stats ∙ (λ i. map (λ q. counted (taken_by q (k.past ++ held_ends d.machine.active)) (k.tx_errors q) (sym (lost_same q) i)) (upto 0 8));
        trusted = λ h. h;
      }

  grows : (e : EndsView) → deal_of number value ≡ Begins → x.given ≡ Some e → Rest ((k.past ++ held_ends d.machine.active) ++ e ∷ [])
  grows e deal given =
      let old : List EndsView = k.past ++ held_ends d.machine.active in
      let one : count is_activation (said ∷ []) ≡ 1 = let y = activating_begins number value ∙ ap is_begins deal in rw y refl in
      let told_fresh : IfSome (option_map handed_of x.given) (λ v. v.fresh ≡ true) = x.command.fresh (begins deal).2 in
      let fresh : (handed_of e).fresh ≡ true = subst (λ (o : Option EndsView). IfSome (option_map handed_of o) (λ v. v.fresh ≡ true)) given told_fresh in
      let both = and_both (all_of is_fresh_tx e.tx) (all_of is_fresh_rx e.rx) fresh in
      let u : IsUnsaid b' es (0 + length (k.past ++ held_ends d.machine.active)) = unsaid_same (0 + length (k.past ++ held_ends d.machine.active)) (k.unsaid (0 + length (k.past ++ held_ends d.machine.active)) (omega arith)) in
      let new : EndsSay d.table b' es (0 + length (k.past ++ held_ends d.machine.active)) e = record {
        tx = fresh_txs d.table b' es (0 + length (k.past ++ held_ends d.machine.active)) u 0 e.tx both.0;
        rx = fresh_rxs d.table b' es (0 + length (k.past ++ held_ends d.machine.active)) u 0 e.rx both.1;
      } in
      let many : length ((k.past ++ held_ends d.machine.active) ++ e ∷ []) ≡ suc (length (k.past ++ held_ends d.machine.active)) = length_last (k.past ++ held_ends d.machine.active) e in
      let by_same : (q : ℕ) → taken_by q ((k.past ++ held_ends d.machine.active) ++ e ∷ []) ≡ taken_by q (k.past ++ held_ends d.machine.active) =
      λ q. flat_last (λ (y : EndsView). frames_on y.tx q) (k.past ++ held_ends d.machine.active) e ∙ ap (λ (fs : List (List ℕ)). taken_by q (k.past ++ held_ends d.machine.active) ++ fs) (fresh_frames e.tx q both.0) ∙ append-nil (taken_by q (k.past ++ held_ends d.machine.active)) in record {
        begun = activations ∙ ap (λ (n : ℕ). count is_activation d.entries + n) one ∙ omega (arith, k.begun, many);
        says = each_push (EndsSay d.table b' es) 0 (k.past ++ held_ends d.machine.active) e says_before new;
        unsaid = λ a lo. unsaid_same a (k.unsaid a (omega (arith, lo, many)));
        own = all_map (AreOwn d.port (k.past ++ held_ends d.machine.active)) (AreOwn d.port ((k.past ++ held_ends d.machine.active) ++ e ∷ []))
            (λ o are. all_map _ _ (λ y own. record { guest = own.guest; is = frames_stay (k.past ++ held_ends d.machine.active) e y.tag.activation y.tag.queue y.tag.place y.frame own.is }) o.pushed are) d.out k.own;
        tx_stats = k.tx_stats ∙ (λ i. map (λ q. counted (sym (by_same q) i) (k.tx_errors q) (sym (lost_same q) i)) (upto 0 8));
        trusted = all_begin (λ (y : EndsView). (handed_of y).given ≡ false) (k.past ++ held_ends d.machine.active) e;
      }

  rest : Rest (past' ++ held_ends m.active)
  rest = elim change [
    | Stays none same ↦ subst Rest (sym same) (stays none)
    | Grows e deal given same ↦ subst Rest (sym same) (grows e deal given)
  ]

  pub keeps_command : FitEnds m.active → Keeps (record d { machine = m; calls = now; entries = es; setups = setups })
  keeps_command fit =
      let r = rest in record {
        past = past';
        bags = bags_are;
        begun = r.begun;
        says = r.says;
        unsaid = r.unsaid;
        fit = fit;
        lawful = lawful';
        told = adds asked d.entries said (spoken told ∷ []) refl ∙ ap (λ (xs : List (ℕ × ℕ)). xs ++ spoken told ∷ []) k.told ∙ sym (ap (map spoken) served_is ∙ map_append spoken d.calls.served (told ∷ []));
        tracks = tracks;
        serving = ap (λ (v : Calls). v.serving) x.calls;
        out = each_map (OutSays d.port d.entries) (OutSays d.port es) 0 d.out (λ j o lo lt h. out_same j o h) k.out;
        own = r.own;
        input = each_map (InSays d.port d.entries) (InSays d.port es) 0 d.input (λ j i lo lt h. in_same j i h) k.input;
        tx_errors = k.tx_errors;
        rx_errors = k.rx_errors;
        tx_stats = x.applied.stays.tx_stats ∙ r.tx_stats;
        rx_stats = x.applied.stays.rx_stats ∙ k.rx_stats ∙ (λ i. map (λ q. counted (map (λ (u : CameUp). u.packet.frame) (filter (on_rx q) (sym came_same i))) (count (lacks_buffer q) (sym fates_same i)) (k.rx_errors q)) (upto 0 8));
        stopped = λ q lt. ap (λ (errors : List (Option ℕ)). is_some (get_or errors q None)) x.applied.rx_errors ∙ errors_stop (clears number value) d.machine.rx_stopped q (stopped_from q false d.entries) (k.stopped q lt) ∙ sym (stopped_last q false d.entries said);
        errors = ap length x.applied.rx_errors ∙ errors_long (clears number value) d.machine.rx_stopped k.errors;
        fine = λ all. let no = k.fine (r.trusted all) in record { tx = no.tx; rx = no.rx; fates = all_push (λ (e : Entry). stops_in e ≡ false) d.entries said no.fates refl };
        ports = k.ports;
        interrupts = subst (λ (n : ℕ). 17 ≤ n) (sym (ap (λ (v : Calls). v.interrupts) x.calls)) k.interrupts;
      }

-- ------------------------------------------------------------ as many ends as queues

setup_fits : (a : ActiveView) (s : Setup) → Active a.setup ≡ Active (setup_view s) → (a.setup.tx_queues ≤ 8) × (a.setup.rx_queues ≤ 8)
setup_fits a s e =
    let same : a.setup ≡ setup_view s = cc e in
    (subst (λ (v : SetupView). v.tx_queues ≤ 8) (sym same) s.tx_queues_high, subst (λ (v : SetupView). v.rx_queues ≤ 8) (sym same) s.rx_queues_high)

-- the numbers of queues of a state
abbrev queues_in : DeviceState → ℕ × ℕ
queues_in Idle = (0, 0)
queues_in (Active s) = (s.tx_queues, s.rx_queues)

-- a setup with as many queues
abbrev keeps_queues : SetupView → SetupView → Type 0
keeps_queues s s' = (s'.tx_queues ≡ s.tx_queues) × (s'.rx_queues ≡ s.rx_queues)

updated_queues : (part : Part) (s : SetupView) (image : List ℕ) → keeps_queues s (unwrap_or (updated part s image) s)
updated_queues part s image = let k = update_keeps part s image in (k.tx_queues, k.rx_queues)

few_of : (f : Entry → Bool) → ((e : Entry) → is_setting e ≡ false → f e ≡ false) → (es : List Entry) → count f es ≤ count is_setting es
few_of f h [] = omega arith
few_of f h (e ∷ es) = step (is_setting e) (f e) refl refl (few_of f h es)
  where
    step : (b c : Bool) → is_setting e ≡ b → f e ≡ c → count f es ≤ count is_setting es → count f (e ∷ es) ≤ count is_setting (e ∷ es)
    step true true p q ih = rw (p, q) (omega (arith, ih))
    step true false p q ih = rw (p, q) (omega (arith, ih))
    step false true p q ih = absurd (true≢false (sym q ∙ h e p))
    step false false p q ih = rw (p, q) ih

setups_only : (e : Entry) → is_setting e ≡ false → has_setup e ≡ false
setups_only (entry.Setting number answer setup) h = absurd (true≢false h)
setups_only (entry.Out tag target w) h = refl
setups_only (entry.Lost tag) h = refl
setups_only (entry.In from place f) h = refl

activations_only : (e : Entry) → is_setting e ≡ false → is_activation e ≡ false
activations_only (entry.Setting number answer setup) h = absurd (true≢false h)
activations_only (entry.Out tag target w) h = refl
activations_only (entry.Lost tag) h = refl
activations_only (entry.In from place f) h = refl

pub few_setups : (d : DeviceView) → Keeps d → length d.setups ≤ length d.calls.served
few_setups d k = omega (arith, k.lawful.no_more, few_of has_setup setups_only d.entries, settings_are d k)

pub few_begun : (d : DeviceView) → Keeps d → count is_activation d.entries ≤ length d.calls.served
few_begun d k = omega (arith, few_of is_activation activations_only d.entries, settings_are d k)

-- ------------------------------------------------------------ after a command there are as many ends as queues

after_zero : (d : DeviceState) (number : ℕ) (image : List ℕ) (value : ℕ) → value ≡ 0 → after_answer d number image value ≡ after_order (order_of number) d image
after_zero d number image value e = rw e refl

-- after an answer that neither began nor stopped the numbers of queues are as before
passes_queues : (o : Order) (s : SetupView) (image : List ℕ) (s' : SetupView) → deal_by o ≡ Passes → after_order o (Active s) image ≡ Active s' → keeps_queues s s'
passes_queues Activate s image s' deal e = absurd (cc deal)
passes_queues Stop s image s' deal e = absurd (cc deal)
passes_queues (Update part) s image s' deal e = let same : unwrap_or (updated part s image) s ≡ s' = cc e in subst (keeps_queues s) same (updated_queues part s image)
passes_queues Unknown s image s' deal e = let same : s ≡ s' = cc e in subst (keeps_queues s) same (refl, refl)
passes_queues Get s image s' deal e = let same : s ≡ s' = cc e in subst (keeps_queues s) same (refl, refl)

kept_queues : (number value : ℕ) (s : SetupView) (image : List ℕ) (s' : SetupView) → deal_of number value ≡ Passes → after_answer (Active s) number image value ≡ Active s' → keeps_queues s s'
kept_queues number value s image s' deal e = step (value == 0) refl
  where
    step : (b : Bool) → (value == 0) ≡ b → keeps_queues s s'
    step true h = passes_queues (order_of number) s image s' (ap (λ (b : Bool). if b then deal_by (order_of number) else Passes) (sym h) ∙ deal) (ap (λ (b : Bool). if b then after_order (order_of number) (Active s) image else Active s) (sym h) ∙ e)
    step false h = let here : Active s ≡ Active s' = ap (λ (b : Bool). if b then after_order (order_of number) (Active s) image else Active s) (sym h) ∙ e in let same : s ≡ s' = cc here in subst (keeps_queues s) same (refl, refl)

-- an activation that was answered 0 has as many ends as its setup has queues
began_queues : (s : SetupView) (e : EndsView) (o : Option ImageFault) → fault_number o (counts_answer s (Some (record { tx = length e.tx; rx = length e.rx }))) ≡ 0 → (length e.tx ≡ s.tx_queues) × (length e.rx ≡ s.rx_queues)
began_queues s e o zero_is = step (length e.tx == s.tx_queues) (length e.rx == s.rx_queues) refl refl
  where
    counts : counts_answer s (Some (record { tx = length e.tx; rx = length e.rx })) ≡ 0
    counts = fault_or o (counts_answer s (Some (record { tx = length e.tx; rx = length e.rx }))) zero_is

    step : (b c : Bool) → (length e.tx == s.tx_queues) ≡ b → (length e.rx == s.rx_queues) ≡ c → (length e.tx ≡ s.tx_queues) × (length e.rx ≡ s.rx_queues)
    step true true h g = (eqb-true (length e.tx) s.tx_queues h, eqb-true (length e.rx) s.rx_queues g)
    step true false h g = let no : counts_answer s (Some (record { tx = length e.tx; rx = length e.rx })) ≡ 11 = rw (h, g) refl in absurd (omega (arith, counts, no))
    step false c h g = let no : counts_answer s (Some (record { tx = length e.tx; rx = length e.rx })) ≡ 11 = rw h refl in absurd (omega (arith, counts, no))

deal_case : (d : Deal) → (d ≡ Begins) ⊎ (d ≡ Stops) ⊎ (d ≡ Passes)
deal_case Begins = inl refl
deal_case Stops = inr (inl refl)
deal_case Passes = inr (inr refl)

module _ (old m : MachineView) (number value : ℕ) (image : List ℕ) (given : Option EndsView) (held_is : ends_of m ≡ ends_held (deal_of number value) (ends_of old) given) (state_is : state_of m ≡ after_answer (state_of old) number image value)
    (answer : value ≡ device.answer_to old.mac (state_of old) number image (counts_of (option_map handed_of given))) (fit : FitEnds old.active) where
  active_fits : (a a' : ActiveView) → old.active ≡ Some a → m.active ≡ Some a' → deal_of number value ≡ Passes → (length a'.ends.tx ≡ a'.setup.tx_queues) × (length a'.ends.rx ≡ a'.setup.rx_queues)
  active_fits a a' was now deal =
      let f : FitEnds (Some a) = subst FitEnds was fit in
      let ends : Some a'.ends ≡ Some a.ends = sym (ap (option_map (λ (y : ActiveView). y.ends)) now) ∙ held_is ∙ (λ i. ends_held (deal i) (ends_of old) given) ∙ ap (option_map (λ (y : ActiveView). y.ends)) was in
      let same : a'.ends ≡ a.ends = cc ends in
      let state : after_answer (Active a.setup) number image value ≡ Active a'.setup = ap (λ (s : DeviceState). after_answer s number image value) (sym (ap state_by was)) ∙ sym state_is ∙ ap state_by now in
      let q = kept_queues number value a.setup image a'.setup deal state in
      (ap (λ (e : EndsView). length e.tx) same ∙ f.0 ∙ sym q.0, ap (λ (e : EndsView). length e.rx) same ∙ f.1 ∙ sym q.1)

  began_fits : (a' : ActiveView) → m.active ≡ Some a' → deal_of number value ≡ Begins → (length a'.ends.tx ≡ a'.setup.tx_queues) × (length a'.ends.rx ≡ a'.setup.rx_queues)
  began_fits a' now deal =
      let inv = begins_inv number value deal in
      let b = begins_with old number value image given deal answer in
      let ends : Some a'.ends ≡ Some b.1.0 = sym (ap (option_map (λ (y : ActiveView). y.ends)) now) ∙ held_is ∙ (λ i. ends_held (deal i) (ends_of old) given) ∙ b.1.1 in
      let same : a'.ends ≡ b.1.0 = cc ends in
      let state : Active (image_setup image) ≡ Active a'.setup = sym (after_zero (state_of old) number image value inv.0 ∙ ap (λ (o : Order). after_order o (state_of old) image) inv.1) ∙ sym state_is ∙ ap state_by now in
      let setup : image_setup image ≡ a'.setup = cc state in
      let idle : state_of old ≡ Idle = ap state_by b.0 in
      let zero_is : fault_number (fault image) (counts_answer (image_setup image) (Some (record { tx = length b.1.0.tx; rx = length b.1.0.rx }))) ≡ 0 =
      sym (answer ∙ ap (λ (o : Order). unwrap_or (answer_by o (state_of old) image (counts_of (option_map handed_of given))) (device.get_answer old.mac number)) inv.1
      ∙ (λ i. activate_answer (idle i) image (counts_of (option_map handed_of (b.1.1 i))))) ∙ inv.0 in
      let q = began_queues (image_setup image) b.1.0 (fault image) zero_is in
      (ap (λ (e : EndsView). length e.tx) same ∙ q.0 ∙ ap (λ (s : SetupView). s.tx_queues) setup, ap (λ (e : EndsView). length e.rx) same ∙ q.1 ∙ ap (λ (s : SetupView). s.rx_queues) setup)

pub some_ends : (o : Option ActiveView) (e : EndsView) → option_map (λ (y : ActiveView). y.ends) o ≡ Some e → (a : ActiveView) × (o ≡ Some a)
some_ends None e h = absurd (cc h)
some_ends (Some a) e h = (a, refl)

pub no_ends : (o : Option ActiveView) → option_map (λ (y : ActiveView). y.ends) o ≡ None → o ≡ None
no_ends None h = refl
no_ends (Some a) h = absurd (cc h)

fit_of : (o : Option ActiveView) → ((a : ActiveView) → o ≡ Some a → (length a.ends.tx ≡ a.setup.tx_queues) × (length a.ends.rx ≡ a.setup.rx_queues) × (a.setup.tx_queues ≤ 8) × (a.setup.rx_queues ≤ 8)) → FitEnds o
fit_of None h = tt
fit_of (Some a) h = h a refl

-- after a command there are as many ends as queues
fit_after : (old m : MachineView) (number value : ℕ) (was now : Calls) (x : AnswersCommand was old number value now m) (setups setups' : List Setup) (index : Option ℕ) → ShowsState setups index setups' (state_of m) → FitEnds old.active → FitEnds m.active
fit_after old m number value was now x setups setups' index shows fit = fit_of m.active (λ a' act.
    let few = shown_fits index (state_of m) shows a' (ap state_by act) in
    elim (deal_case (deal_of number value)) [
      | inl deal ↦ let q = began_fits old m number value x.image x.given x.applied.held x.applied.state x.applied.answer fit a' act deal in (q.0, q.1, few.0, few.1)
      | inr h ↦ elim h [
        | inl deal ↦ absurd (no_stop a' (sym (ap (option_map (λ (y : ActiveView). y.ends)) act) ∙ x.applied.held ∙ (λ i. ends_held (deal i) (ends_of old) x.given)))
        | inr deal ↦
            let ends : option_map (λ (y : ActiveView). y.ends) old.active ≡ Some a'.ends = sym (x.applied.held ∙ (λ i. ends_held (deal i) (ends_of old) x.given)) ∙ ap (option_map (λ (y : ActiveView). y.ends)) act in
            let a = some_ends old.active a'.ends ends in
            let q = active_fits old m number value x.image x.given x.applied.held x.applied.state x.applied.answer fit a.0 a' a.1 act deal in (q.0, q.1, few.0, few.1)
      ]
    ])
  where
    no_stop : (a' : ActiveView) → Some a'.ends ≡ None → ⊥
    no_stop a' e = cc e

    shown_fits : (index : Option ℕ) (s : DeviceState) → ShowsState setups index setups' s → (a' : ActiveView) → s ≡ Active a'.setup → (a'.setup.tx_queues ≤ 8) × (a'.setup.rx_queues ≤ 8)
    shown_fits None s h a' e = let both : Idle ≡ Active a'.setup = sym h.shows.0 ∙ e in absurd (cc both)
    shown_fits (Some n) s h a' e = setup_fits a' h.shows.1.0 (sym e ∙ h.shows.1.2)

-- the device keeps what it keeps
pub keeps_obeyed : (d d' : DeviceView) → Keeps d → (found : Bool) → CommandStep found d d' → Keeps d'
keeps_obeyed d d' k false s = subst Keeps (sym s.is) (keeps_calls d k s.calls d.key d.masks (ap (λ (v : Calls). v.served) s.finds.calls) (ap (λ (v : Calls). v.serving) s.finds.calls) (ap (λ (v : Calls). v.interrupts) s.finds.calls))
keeps_obeyed d d' k true s = subst Keeps (sym s.is)
    (keeps_command d k s.number s.value s.calls s.machine s.answers s.tracks s.setup s.setups s.shows (fit_after d.machine s.machine s.number s.value d.calls s.calls s.answers d.setups s.setups s.setup s.shows k.fit))
