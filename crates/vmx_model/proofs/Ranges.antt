-- The queue and the activation that a fate names have facts.
use Rattle.std.proofs.Common.{◌≡◌, ◌≢◌, ℕ, zero, suc, ◌+◌, ◌%◌, ◌<◌, List, [], ◌∷◌, ◌++◌, length, map, take, refl, ap, sym, ◌∙◌, arith, nat_eq, nat_le, true, false, Bool, cond, inl, inr, Option, Some, None, if◌then◌else◌, ◌&&◌}
use Rattle.std.specs.Prelude.{nat_lt, ⊤, is_some, ◌==◌, unwrap_or, option_map}
use Rattle.std.proofs.lemmas.Bool.{and_parts}
use Rattle.std.proofs.lemmas.Bool.Decides.{eqb_tells, nat_tests}
use Rattle.std.proofs.lemmas.Nat.{mod_below}
use Rattle.std.specs.List.{filter, filter_map, slice_index, AllByRecursion, list_all}
use Rattle.vmx_frame.specs.Internet.{flow_of}
use Rattle.vmx_rss.specs.Queues.{kind_of, flow_hash, no_choice}
use Rattle.vmx_shared_area.specs.Bytes.{number_at, bytes_at}
use Rattle.vmx_shared_area.specs.Checks.{check, first_fault, entry_fault, multicast_fault, table_fault, rss_fault}
use Rattle.vmx_shared_area.specs.Places.{bytes_at-index}
use Rattle.vmx_shared_area.specs.Sound.{or_else_none, check_none, no_fault}
use Rattle.vmx_shared_area.specs.Tells.{mode_of}
use Rattle.vmx_shared_area.specs.declared.fault.ImageFault.{ImageFault}
use Rattle.vmx_shared_area.specs.declared.fault.ImageFault.TheVariants.{Rss as RssFault}
use Rattle.vmx_shared_area.specs.declared.rss.Rss.{Rss}
use Rattle.vmx_model.specs.declared.deeds.Deed.TheVariants as deed
use Rattle.vmx_model.specs.declared.journal.Entry.TheVariants as entry
use Rattle.vmx_model.specs.Types.{GuestPlan, Action, Deed, Entry}
use Rattle.vmx_model.specs.Lists.{count}
use Rattle.vmx_model.specs.Deeds.{begins, quiet_after}
use Rattle.vmx_model.specs.Ranges.{is_within, fits_table, fits_deed, is_in_turn, fits_from}
use Rattle.vmx_device_state.specs.ImageSetup.{image_macs, image_strip, image_csum, image_rss, image_setup}
use Rattle.vmx_device_state.specs.Orders.{order_of}
use Rattle.vmx_device_state.specs.declared.order.Order.{Order}
use Rattle.vmx_device_state.specs.declared.order.Order.TheVariants.{Activate, Stop, Update, Unknown, Get}
use Rattle.vmx_device_state.specs.declared.order.Part.{Part}
use Rattle.vmx_device_state.specs.declared.order.Part.TheVariants.{Mode, Macs, Vlans, Table, Levels, Features}
use Rattle.vmx_device_state.specs.SetupView.{SetupView, RssView, rss_view}
use Rattle.vmx_model.specs.Setups.{choice_in}
use Rattle.vmx_model.specs.Wire.{rx_queue}
use Rattle.vmx_model.specs.Plan.{Ask, asks, deed_asks, after_script, first_setup, closes, commands, deed_commands, changed, is_set, new_table, activate_dev, quiesce_dev}
use Rattle.vmx_device_state.specs.DeviceState.{DeviceState, Idle, Active, unless, with_table, updated, after_update, after_order, after_turn, state_from}
use Rattle.vmx_device_state.specs.declared.turn.Turn.{Turn}
use Rattle.vmx_model.specs.Journal.{is_activation, activation_of}
use Rattle.vmx_model.specs.AnswerLaws.{sets}
use Rattle.vmx_model.specs.Account.{activations, asked, ask_of}
use Rattle.vmx_model.proofs.Lists.{count-append, filter_narrow}
use Rattle.vmx_model.proofs.Tags.{all_append}

-- ------------------------------------------------------------ queues

-- an indirection table has entries, and they name so many queues
abbrev pub TableFits : ℕ → Option RssView → Type 0
TableFits n None = ⊤
TableFits n (Some h) = (0 < h.size) × ((i : ℕ) → i < h.size → slice_index h.table i < n)

-- a frame's queue is there
queue_fits : (n : ℕ) (o : Option RssView) (f : List ℕ) → 0 < n → TableFits n o → rx_queue o f < n
queue_fits n None f some h = some
queue_fits n (Some x) f some h = step (kind_of x.types (flow_of f))
  where
    by_kind : (kind : ℕ) (b : Bool) → (cond b no_choice (record { queue = slice_index x.table (flow_hash x.key kind (flow_of f) % x.size); hash = flow_hash x.key kind (flow_of f); kind = kind })).queue < n
    by_kind kind true = some
    by_kind kind false = h.1 (flow_hash x.key kind (flow_of f) % x.size) (mod_below (flow_hash x.key kind (flow_of f)) x.size h.0)

    step : (kind : ℕ) → (choice_in x (flow_of f) kind).queue < n
    step kind = by_kind kind (nat_eq kind 0)

-- as many receive queues, and an indirection table that names them
abbrev Fits : ℕ → ℕ → SetupView → Type 0
Fits m n s = (s.rx_queues ≡ n) × TableFits n s.rss × (s.tx_queues ≡ m)

taken_below : (n size : ℕ) (table : List ℕ) (i : ℕ) → 0 < n → list_all (λ x. nat_lt x n) (take size table) ≡ true → i < size → slice_index table i < n
taken_below n zero table i some all lt = absurd (omega arith)
taken_below n (suc size) [] i some all lt = some
taken_below n (suc size) (x ∷ xs) zero some all lt = let first = (and_parts (nat_lt x n) (list_all (λ y. nat_lt y n) (take size xs)) all).0 in grind (arith, nat_tests)
taken_below n (suc size) (x ∷ xs) (suc i) some all lt = taken_below n size xs i some (and_parts (nat_lt x n) (list_all (λ y. nat_lt y n) (take size xs)) all).1 (omega arith)

new_fits : (n size : ℕ) (table : List ℕ) (o : Option RssView) → 0 < n → (is_within 1 128 size && fits_table n size table) ≡ true → TableFits n (new_table size table o)
new_fits n size table None some fits = tt
new_fits n size table (Some x) some fits =
    let both = and_parts (is_within 1 128 size) (fits_table n size table) fits in
    let low = (and_parts (nat_le 1 size) (nat_le size 128) both.0).0 in
    let entries = (and_parts _ _ both.1).0 in
    (grind (arith, nat_tests), λ i lt. taken_below n size table i some entries lt)

changed_fits : (m n : ℕ) (rss : Bool) (s : SetupView) (d : Deed) → 0 < n → Fits m n s → fits_deed n rss d ≡ true → Fits m n (changed s d)
changed_fits m n rss s deed.Quiesce some h k = h
changed_fits m n rss s deed.Activate some h k = h
changed_fits m n rss s deed.Reset some h k = h
changed_fits m n rss s (deed.Mode mode) some h k = h
changed_fits m n rss s (deed.Multicast t) some h k = h
changed_fits m n rss s (deed.Vlans t) some h k = h
changed_fits m n rss s (deed.Rss size t) some h k = (h.0, new_fits n size t s.rss some (and_parts rss (is_within 1 128 size && fits_table n size t) k).1, h.2)

abbrev AskFits : ℕ → ℕ → Ask → Type 0
AskFits m n x = Fits m n x.setup

mapped_fits : (m n : ℕ) (s : SetupView) (cs : List ℕ) → Fits m n s → AllByRecursion (AskFits m n) (map (λ number. record { number = number; setup = s }) cs)
mapped_fits m n s [] h = tt
mapped_fits m n s (c ∷ cs) h = (h, mapped_fits m n s cs h)

deed_asks_fit : (m n : ℕ) (rss quiet : Bool) (at : ℕ) (s : SetupView) (script : List Action) → 0 < n → Fits m n s → fits_from n rss quiet at script ≡ true → AllByRecursion (AskFits m n) (deed_asks s script) × Fits m n (after_script s script)
deed_asks_fit m n rss quiet at s [] some h k = (tt, h)
deed_asks_fit m n rss quiet at s (a ∷ rest) some h k =
    let more = (and_parts (is_within at 262144 a.at) (fits_deed n rss a.deed && (is_in_turn quiet a.deed && fits_from n rss (quiet_after quiet a.deed) a.at rest)) k).1 in
    let both = and_parts (fits_deed n rss a.deed) (is_in_turn quiet a.deed && fits_from n rss (quiet_after quiet a.deed) a.at rest) more in
    let others = (and_parts (is_in_turn quiet a.deed) (fits_from n rss (quiet_after quiet a.deed) a.at rest) both.1).1 in
    let next : Fits m n (changed s a.deed) = changed_fits m n rss s a.deed some h both.0 in
    let ih = deed_asks_fit m n rss (quiet_after quiet a.deed) a.at (changed s a.deed) rest some next others in
    (all_append (AskFits m n) (map (λ number. record { number = number; setup = changed s a.deed }) (deed_commands a.deed)) (deed_asks (changed s a.deed) rest) (mapped_fits m n (changed s a.deed) (deed_commands a.deed) next) ih.0, ih.1)

closing_fits : (m n : ℕ) (b : Bool) (s : SetupView) → Fits m n s → AllByRecursion (AskFits m n) (if b then record { number = quiesce_dev; setup = s } ∷ [] else [])
closing_fits m n true s h = (h, tt)
closing_fits m n false s h = tt

setup_fits : (n : ℕ) (o : Option Rss) → ((r : Rss) → o ≡ Some r → (i : ℕ) → i < r.size → slice_index r.table i < n) → TableFits n (option_map rss_view o)
setup_fits n None h = tt
setup_fits n (Some r) h = (let low = r.size_low in omega arith, h r refl)

asks_fit : (p : GuestPlan) → AllByRecursion (AskFits p.setup.tx_queues p.setup.rx_queues) (asks p)
asks_fit p =
    let some : 0 < p.setup.rx_queues = let low = p.setup.rx_queues_low in omega arith in
    let first : Fits p.setup.tx_queues p.setup.rx_queues (first_setup p) = (refl, setup_fits p.setup.rx_queues p.setup.rss p.setup.entries, refl) in
    let k = deed_asks_fit p.setup.tx_queues p.setup.rx_queues (is_some p.setup.rss) false 0 (first_setup p) p.script some first p.script_fits in
    (first, all_append (AskFits p.setup.tx_queues p.setup.rx_queues) (deed_asks (first_setup p) p.script) (if closes p then record { number = quiesce_dev; setup = after_script (first_setup p) p.script } ∷ [] else []) k.0 (closing_fits p.setup.tx_queues p.setup.rx_queues (closes p) (after_script (first_setup p) p.script) k.1))

abbrev TurnFits : ℕ → ℕ → Turn → Type 0
TurnFits m n t = is_set t.command.number ≡ true → Fits m n (image_setup t.command.image)

told_fit : (m n : ℕ) (told : List Turn) → AllByRecursion (AskFits m n) (map ask_of (filter (λ (t : Turn). is_set t.command.number) told)) → AllByRecursion (TurnFits m n) told
told_fit m n [] h = tt
told_fit m n (t ∷ ts) h = step (is_set t.command.number) refl (λ k. told_fit m n ts k)
  where
    step : (b : Bool) → is_set t.command.number ≡ b → (AllByRecursion (AskFits m n) (map ask_of (filter (λ (t : Turn). is_set t.command.number) ts)) → AllByRecursion (TurnFits m n) ts) → AllByRecursion (TurnFits m n) (t ∷ ts)
    step true e ih = let all : AskFits m n (ask_of t) × AllByRecursion (AskFits m n) (map ask_of (filter (λ (t : Turn). is_set t.command.number) ts)) = rw e at h in (λ k. all.0, ih all.1)
    step false e ih = (λ k. absurd (cc (e, k)), ih (rw e at h))

abbrev StateFits : ℕ → ℕ → DeviceState → Type 0
StateFits m n Idle = ⊤
StateFits m n (Active s) = Fits m n s

-- an indirection table that passes its check names queues that are there
table_within : (bs : List ℕ) (rx : ℕ) → table_fault bs rx ≡ None → (0 < number_at 2 5126 bs) × ((i : ℕ) → i < number_at 2 5126 bs → slice_index (bytes_at 128 5168 bs) i < rx)
unfolding table_fault entry_fault
table_within bs rx h =
    let parts = or_else_none (check (RssFault (number_at 2 5126 bs)) (nat_le 1 (number_at 2 5126 bs) && nat_le (number_at 2 5126 bs) 128)) (first_fault (entry_fault bs rx) 0 128) h in
    let size = and_parts (nat_le 1 (number_at 2 5126 bs)) (nat_le (number_at 2 5126 bs) 128) (check_none _ _ parts.0) in (
      grind (arith, nat_tests, size.0),
      λ i lt.
          let few : i < 128 = grind (arith, nat_tests, size.1, lt) in
          let test = check_none _ _ (no_fault (entry_fault bs rx) 128 i parts.1 few) in
          rw (bytes_at-index 128 5168 bs i few) (grind (arith, nat_tests, test, lt)),
    )

unless_fits : (m n : ℕ) (f : Option ImageFault) (new s : SetupView) → (f ≡ None → Fits m n new) → Fits m n s → Fits m n (unwrap_or (unless f new) s)
unless_fits m n None new s k h = k refl
unless_fits m n (Some f) new s k h = h

mode_fits : (m n : ℕ) (o : Option ℕ) (s : SetupView) → Fits m n s → Fits m n (unwrap_or (option_map (λ m. record s { mode = m }) o) s)
mode_fits m n None s h = h
mode_fits m n (Some mode) s h = h

with_table_fits : (m n : ℕ) (o : Option RssView) (s : SetupView) (bs : List ℕ) → Fits m n s → Fits m n (unwrap_or (with_table s o bs) s)
with_table_fits m n None s bs h = h
with_table_fits m n (Some r) s bs h = unless_fits m n (table_fault bs s.rx_queues) (record s { rss = Some (record r { size = number_at 2 5126 bs; table = bytes_at 128 5168 bs }) }) s
    (λ e. (h.0, table_within bs n (ap (table_fault bs) (sym h.0) ∙ e), h.2)) h

-- an update leaves a setup that fits
updated_fits : (m n : ℕ) (part : Part) (s : SetupView) (bs : List ℕ) → Fits m n (image_setup bs) → Fits m n s → Fits m n (unwrap_or (updated part s bs) s)
unfolding image_setup
updated_fits m n Mode s bs k h = mode_fits m n (mode_of bs) s h
updated_fits m n Macs s bs k h = unless_fits m n (multicast_fault bs) (record s { macs = image_macs bs }) s (λ e. h) h
updated_fits m n Vlans s bs k h = h
updated_fits m n Table s bs k h = with_table_fits m n s.rss s bs h
updated_fits m n Levels s bs k h = h
updated_fits m n Features s bs k h = unless_fits m n (rss_fault bs s.rx_queues) (record s { rss = image_rss bs; strip = image_strip bs; csum = image_csum bs }) s (λ e. (h.0, k.1, h.2)) h

update_fits : (m n : ℕ) (part : Part) (d : DeviceState) (bs : List ℕ) → Fits m n (image_setup bs) → StateFits m n d → StateFits m n (after_update part d bs)
update_fits m n part Idle bs k h = tt
update_fits m n part (Active s) bs k h = updated_fits m n part s bs k h

order_fits : (m n : ℕ) (o : Order) (d : DeviceState) (bs : List ℕ) → (o ≢ Get → Fits m n (image_setup bs)) → StateFits m n d → StateFits m n (after_order o d bs)
order_fits m n Activate d bs k h = k (λ e. cc e)
order_fits m n Stop d bs k h = tt
order_fits m n (Update part) d bs k h = update_fits m n part d bs (k (λ e. cc e)) h
order_fits m n Unknown d bs k h = h
order_fits m n Get d bs k h = h

turn_fits : (m n : ℕ) (d : DeviceState) (t : Turn) → TurnFits m n t → StateFits m n d → StateFits m n (after_turn d t)
turn_fits m n d t k h = step (t.answer.value == 0)
  where
    step : (b : Bool) → StateFits m n (if b then after_order (order_of t.command.number) d t.command.image else d)
    step true = order_fits m n (order_of t.command.number) d t.command.image (λ other. k (sets t.command.number other)) h
    step false = h

-- the setup in force names queues that are there
state_fits : (m n k : ℕ) (told : List Turn) (d : DeviceState) → AllByRecursion (TurnFits m n) told → StateFits m n d → StateFits m n (state_from d (take k told))
state_fits m n zero told d all h = h
state_fits m n (suc k) [] d all h = h
state_fits m n (suc k) (t ∷ ts) d all h = state_fits m n k ts (after_turn d t) all.1 (turn_fits m n d t all.0 h)

pub queue_within : (p : GuestPlan) (told : List Turn) (k : ℕ) (s : SetupView) (f : List ℕ) → map ask_of (filter (λ (t : Turn). is_set t.command.number) told) ≡ asks p → state_from Idle (take k told) ≡ Active s → rx_queue s.rss f < p.setup.rx_queues
queue_within p told k s f images is =
    let some : 0 < p.setup.rx_queues = let low = p.setup.rx_queues_low in omega arith in
    let fits : StateFits p.setup.tx_queues p.setup.rx_queues (Active s) = rw is at (state_fits p.setup.tx_queues p.setup.rx_queues k told Idle (told_fit p.setup.tx_queues p.setup.rx_queues told (rw images (asks_fit p))) tt) in
    queue_fits p.setup.rx_queues s.rss f some fits.1

-- the setup in force has the plan's transmit queues
pub tx_queues_kept : (p : GuestPlan) (told : List Turn) (k : ℕ) (s : SetupView) → map ask_of (filter (λ (t : Turn). is_set t.command.number) told) ≡ asks p → state_from Idle (take k told) ≡ Active s → s.tx_queues ≡ p.setup.tx_queues
tx_queues_kept p told k s images is =
    let fits : StateFits p.setup.tx_queues p.setup.rx_queues (Active s) = rw is at (state_fits p.setup.tx_queues p.setup.rx_queues k told Idle (told_fit p.setup.tx_queues p.setup.rx_queues told (rw images (asks_fit p))) tt) in
    fits.2

set_is : (number k : ℕ) → number ≡ k → is_set k ≡ true → is_set number ≡ true
set_is number k e h = ap is_set e ∙ h

-- ------------------------------------------------------------ activations

count_map : {X Y : Type 0} (f : X → Y) (test : Y → Bool) (xs : List X) → count test (map f xs) ≡ count (λ x. test (f x)) xs
count_map f test [] = refl
count_map {X} {Y} f test (x ∷ xs) = step (test (f x)) refl (count_map f test xs)
  where
    step : (b : Bool) → test (f x) ≡ b → count test (map f xs) ≡ count (λ x. test (f x)) xs → count test (map f (x ∷ xs)) ≡ count (λ x. test (f x)) (x ∷ xs)
    step true e ih = rw (e, ih) refl
    step false e ih = rw e ih

abbrev begins_device : ℕ × ℕ → Bool
begins_device x = nat_eq x.0 activate_dev && nat_eq x.1 0

asked_activations : (es : List Entry) → count is_activation es ≡ count begins_device (filter_map asked es)
asked_activations [] = refl
asked_activations (entry.Setting number answer setup ∷ es) = step (nat_eq number activate_dev && nat_eq answer 0) refl (asked_activations es)
  where
    step : (b : Bool) → (nat_eq number activate_dev && nat_eq answer 0) ≡ b → count is_activation es ≡ count begins_device (filter_map asked es) → count is_activation (entry.Setting number answer setup ∷ es) ≡ count begins_device (filter_map asked (entry.Setting number answer setup ∷ es))
    step true e ih = rw (e, ih) refl
    step false e ih = rw e ih
asked_activations (entry.Out tag target w ∷ es) = asked_activations es
asked_activations (entry.Lost tag ∷ es) = asked_activations es
asked_activations (entry.In from place f ∷ es) = asked_activations es

set_wide : (x : ℕ × ℕ) → begins_device x ≡ true → is_set x.0 ≡ true
set_wide x h = let p = and_parts (nat_eq x.0 activate_dev) (nat_eq x.1 0) h in
    elim (eqb_tells x.0 activate_dev) [ inl e ↦ set_is x.0 activate_dev e.1 refl | inr e ↦ absurd (cc (p.0, e.0)) ]

paired : (cs : List ℕ) → count begins_device (map (λ c. (c, 0)) cs) ≡ count (λ c. nat_eq c activate_dev) cs
paired [] = refl
paired (c ∷ cs) = step (nat_eq c activate_dev) refl (paired cs)
  where
    step : (b : Bool) → nat_eq c activate_dev ≡ b → count begins_device (map (λ c. (c, 0)) cs) ≡ count (λ c. nat_eq c activate_dev) cs → count begins_device (map (λ c. (c, 0)) (c ∷ cs)) ≡ count (λ c. nat_eq c activate_dev) (c ∷ cs)
    step true e ih = rw (e, ih) refl
    step false e ih = rw e ih

abbrev asks_activate : Ask → Bool
asks_activate x = nat_eq x.number activate_dev

deed_activations : (s : SetupView) (script : List Action) → count asks_activate (deed_asks s script) ≡ count (λ (a : Action). begins a.deed) script
deed_activations s [] = refl
deed_activations s (a ∷ rest) = count-append asks_activate (map (λ number. record { number = number; setup = changed s a.deed }) (deed_commands a.deed)) (deed_asks (changed s a.deed) rest) ∙ step a.deed (changed s a.deed) (deed_activations (changed s a.deed) rest)
  where
    step : (d : Deed) (s' : SetupView) → count asks_activate (deed_asks s' rest) ≡ count (λ (a : Action). begins a.deed) rest → count asks_activate (map (λ number. record { number = number; setup = s' }) (deed_commands d)) + count asks_activate (deed_asks s' rest) ≡ length (cond (begins d) (a ∷ filter (λ (a : Action). begins a.deed) rest) (filter (λ (a : Action). begins a.deed) rest))
    step deed.Quiesce s' ih = omega (arith, ih)
    step deed.Activate s' ih = omega (arith, ih)
    step deed.Reset s' ih = omega (arith, ih)
    step (deed.Mode m) s' ih = omega (arith, ih)
    step (deed.Multicast t) s' ih = omega (arith, ih)
    step (deed.Vlans t) s' ih = omega (arith, ih)
    step (deed.Rss n t) s' ih = omega (arith, ih)

closing_activations : (b : Bool) (s : SetupView) → count asks_activate (if b then record { number = quiesce_dev; setup = s } ∷ [] else []) ≡ 0
closing_activations true s = refl
closing_activations false s = refl

command_activations : (p : GuestPlan) → count (λ c. nat_eq c activate_dev) (commands p) ≡ activations p
command_activations p = count_map (λ (x : Ask). x.number) (λ c. nat_eq c activate_dev) (asks p) ∙
    omega (arith, count-append asks_activate (deed_asks (first_setup p) p.script) (if closes p then record { number = quiesce_dev; setup = after_script (first_setup p) p.script } ∷ [] else []), deed_activations (first_setup p) p.script, closing_activations (closes p) (after_script (first_setup p) p.script))

-- the activation at an entry is one of the plan's
pub activation_within : (p : GuestPlan) (es before after : List Entry) → filter (λ (x : ℕ × ℕ). is_set x.0) (filter_map asked es) ≡ map (λ c. (c, 0)) (commands p) → es ≡ before ++ after → activation_of before < activations p
activation_within p es before after settings split =
    let all : count is_activation es ≡ activations p = asked_activations es ∙ sym (ap length (filter_narrow begins_device (λ (x : ℕ × ℕ). is_set x.0) set_wide (filter_map asked es))) ∙ ap (count begins_device) settings ∙ paired (commands p) ∙ command_activations p in
    let part : count is_activation es ≡ count is_activation before + count is_activation after = ap (count is_activation) split ∙ count-append is_activation before after in
    omega (arith, all, part)
