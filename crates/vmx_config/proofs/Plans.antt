-- Settings in their ranges make a plan.
use Rattle.std.proofs.lemmas.Bool.Decides.{nat_tests}
use Rattle.std.proofs.Common.{◌≡◌, ℕ, zero, suc, ◌+◌, ◌*◌, ◌%◌, ◌==◌, ◌<◌, ◌≤◌, nat_le, nat_lt, Bool, true, false, not, ◌&&◌, true≢false, List, [], ◌∷◌, ◌++◌, length, map, take, drop, refl, ap, sym, ◌∙◌, subst, arith, append_assoc, append-nil, Option, Some, None, Ok, Err}
use Rattle.std.specs.Prelude.{codes, is_some, option_map, slice_index, if◌then◌else◌, ◌||◌}
use Rattle.std.specs.List.{list_all, list_any, All, AllZip, AllByRecursion}
use Rattle.std.specs.Str.{bytes_eq}
use Rattle.std.proofs.lemmas.Bool.{and_parts}
use Rattle.std.proofs.lemmas.List.{length-map, map-append}
use Rattle.std.proofs.lemmas.List.Elements.{All-from_recursion, All-head, All-tail}
use Rattle.std.proofs.lemmas.List.Folds.{list_any-append}
use Rattle.vmx_shared_area.specs.declared.offsets.TheConstants.{RX_MODE_END, TABLE_SIZE}
use Rattle.vmx_shared_area.specs.declared.rss.Rss.{Rss}
use Rattle.vmx_switch.specs.declared.answer.TheConstants.{MAX_PORTS}
use Rattle.vmx_switch.specs.Ports.{all_unicast, are_distinct}
use Rattle.vmx_device_state.specs.SetupView.{SetupView, RssView, rss_view}
use Rattle.vmx_model.specs.declared.limits.TheConstants.{MAX_NUMBER}
use Rattle.vmx_model.specs.declared.deeds.Deed.{Deed}
use Rattle.vmx_model.specs.declared.deeds.Deed.TheVariants as told
use Rattle.vmx_model.specs.declared.deeds.Action.{Action}
use Rattle.vmx_model.specs.declared.guest.GuestPlan.{GuestPlan}
use Rattle.vmx_model.specs.Deeds.{quiet_after as quiet_by}
use Rattle.vmx_model.specs.Ranges.{is_within, fits_table, fits_deed, is_in_turn as is_turn, fits_from}
use Rattle.vmx_model.specs.Totals.{names_of, macs_of, sniffers_of, have_ports, descriptors_of, records_of, bytes_of}
use Rattle.vmx_config_rows.specs.declared.fault.ConfigFault.TheVariants as fault
use Rattle.vmx_config.specs.declared.parts.RssSettings.{RssSettings}
use Rattle.vmx_config.specs.declared.parts.DeedSettings.{DeedSettings}
use Rattle.vmx_config.specs.declared.parts.DeedSettings.TheVariants as deed
use Rattle.vmx_config.specs.declared.parts.ActionSettings.{ActionSettings}
use Rattle.vmx_config.specs.declared.parts.GuestSettings.{GuestSettings}
use Rattle.vmx_config.specs.Script.{is_in_turn, quiet_after}
use Rattle.vmx_config.specs.Whole.{has_name, has_mac, twice_from, total_of}
use Rattle.vmx_config.specs.Ranges.{EntriesInRange, MaybeRssInRange, DeedInRange, ScriptInRange, GuestInRange}
use Rattle.vmx_config.specs.Plans.{deed_view, action_view, HasRoom, rss_of, IsGuest}

-- ------------------------------------------------------------ scripts

below_all : (queues size : ℕ) (table : List ℕ) → ((i : ℕ) → i < size → slice_index table i < queues) → list_all (λ entry. nat_lt entry queues) (take size table) ≡ true
below_all queues zero table h = refl
below_all queues (suc size) [] h = refl
below_all queues (suc size) (x ∷ xs) h =
    let low = h 0 (omega arith) in
    let here : nat_lt x queues ≡ true = grind (arith, nat_tests, low) in
    rw here (below_all queues size xs (λ i lt. h (suc i) (omega (arith, lt))))

zero_all : (size : ℕ) (table : List ℕ) → ((i : ℕ) → size ≤ i → slice_index table i ≡ 0) → list_all (λ entry. entry == 0) (drop size table) ≡ true
zero_all zero [] h = refl
zero_all zero (x ∷ xs) h = let here : x ≡ 0 = h 0 (omega arith) in rw here (zero_all zero xs (λ i _. h (suc i) (omega arith)))
zero_all (suc size) [] h = refl
zero_all (suc size) (x ∷ xs) h = zero_all size xs (λ i le. h (suc i) (omega (arith, le)))

pub table_fits : (queues size : ℕ) (table : List ℕ) → EntriesInRange queues (record { size = size; table = table }) → (is_within 1 TABLE_SIZE size && fits_table queues size table) ≡ true
table_fits queues size table h =
    let low = h.size_low in
    let high = h.size_high in
    let a : nat_le 1 size ≡ true = grind (arith, nat_tests, low) in
    let b : nat_le size TABLE_SIZE ≡ true = grind (arith, nat_tests, high) in
    rw (a, b, below_all queues size table h.below) (zero_all size table h.rest)

record DeedFits (queues : ℕ) (rss quiet : Bool) (d : Deed) : Type 0 where
  fits : fits_deed queues rss d ≡ true
  turn : is_turn quiet d ≡ true
  after : quiet_by quiet d ≡ quiet_after quiet (deed_view d)

deed_fits : (queues : ℕ) (rss quiet : Bool) (d : Deed) → DeedInRange queues (deed_view d) → is_in_turn quiet rss (deed_view d) ≡ true → DeedFits queues rss quiet d
deed_fits queues rss quiet told.Quiesce h turn = record { fits = refl; turn = turn; after = refl }
deed_fits queues rss quiet told.Activate h turn = record { fits = refl; turn = turn; after = refl }
deed_fits queues rss true told.Reset h turn = absurd (true≢false (sym turn))
deed_fits queues rss false told.Reset h turn = record { fits = refl; turn = refl; after = refl }
deed_fits queues rss quiet (told.Mode m) h turn = record { fits = (let low : m < RX_MODE_END = h in grind (arith, nat_tests, low)); turn = refl; after = refl }
deed_fits queues rss quiet (told.Multicast t) h turn = record { fits = h.groups; turn = refl; after = refl }
deed_fits queues rss quiet (told.Vlans t) h turn = record { fits = refl; turn = refl; after = refl }
deed_fits queues rss quiet (told.Rss size table) h turn = record { fits = rw turn (table_fits queues size table h); turn = refl; after = refl }

-- the actions of a script whose settings are in their ranges
pub script_fits : (queues : ℕ) (rss quiet : Bool) (from : ℕ) (actions : List Action) → ScriptInRange queues rss quiet from (map action_view actions) → fits_from queues rss quiet from actions ≡ true
script_fits queues rss quiet from [] h = refl
script_fits queues rss quiet from (a ∷ rest) h =
    let one = h.0 in
    let low = one.at_low in
    let high = one.at_high in
    let d = deed_fits queues rss quiet a.deed one.deed one.turn in
    let x : nat_le from a.at ≡ true = grind (arith, nat_tests, low) in
    let y : nat_le a.at MAX_NUMBER ≡ true = grind (arith, nat_tests, high) in
    rw (x, y, d.fits, d.turn, d.after) (script_fits queues rss (quiet_after quiet (deed_view a.deed)) a.at rest h.1)

deed_room : (queues : ℕ) (d : DeedSettings) → DeedInRange queues d → HasRoom d
deed_room queues deed.Quiesce h = tt
deed_room queues deed.Activate h = tt
deed_room queues deed.Reset h = tt
deed_room queues (deed.Mode m) h = tt
deed_room queues (deed.Multicast g) h = h.few
deed_room queues (deed.Vlans t) h = tt
deed_room queues (deed.Rss e) h = tt

rooms : (queues : ℕ) (rss quiet : Bool) (from : ℕ) (actions : List ActionSettings) → ScriptInRange queues rss quiet from actions → AllByRecursion (λ (a : ActionSettings). HasRoom a.deed) actions
rooms queues rss quiet from [] h = tt
rooms queues rss quiet from (a ∷ rest) h = (deed_room queues a.deed h.0.deed, rooms queues rss (quiet_after quiet a.deed) a.at rest h.1)

pub script_room : (queues : ℕ) (rss quiet : Bool) (from : ℕ) (actions : List ActionSettings) → ScriptInRange queues rss quiet from actions → All (λ (a : ActionSettings). HasRoom a.deed) actions
script_room queues rss quiet from actions h = All-from_recursion (λ (a : ActionSettings). HasRoom a.deed) actions (rooms queues rss quiet from actions h)

-- ------------------------------------------------------------ setups

-- each entry names a queue
pub rss_below : (queues : ℕ) (o : Option Rss) (s : Option RssSettings) → option_map rss_view o ≡ option_map rss_of s → MaybeRssInRange queues s → (r : Rss) → o ≡ Some r → (i : ℕ) → i < r.size → slice_index r.table i < queues
rss_below queues o s e h r is = by_settings s (ap (option_map rss_view) (sym is) ∙ e) h
  where
    by_settings : (s : Option RssSettings) → Some (rss_view r) ≡ option_map rss_of s → MaybeRssInRange queues s → (i : ℕ) → i < r.size → slice_index r.table i < queues
    by_settings None e h i lt = absurd cc
    by_settings (Some t) e h i lt =
        let same : rss_view r ≡ rss_of t = cc in
        let size : r.size ≡ t.entries.size = ap (λ (v : RssView). v.size) same in
        subst (λ (table : List ℕ). slice_index table i < queues) (sym (ap (λ (v : RssView). v.table) same)) (h.entries.below i (omega (arith, size, lt)))

-- a guest has an RSS setting where its settings have one
pub some_same : (o : Option Rss) (s : Option RssSettings) → option_map rss_view o ≡ option_map rss_of s → is_some o ≡ is_some s
some_same None None e = refl
some_same None (Some t) e = absurd cc
some_same (Some r) None e = absurd cc
some_same (Some r) (Some t) e = refl

-- ------------------------------------------------------------ guests beside one another

pub zip_push : {A B : Type 0} (R : A → B → Type 0) (xs : List A) (ys : List B) (x : A) (y : B) → AllZip R xs ys → R x y → AllZip R (xs ++ x ∷ []) (ys ++ y ∷ [])
zip_push R [] [] x y h r = (r, tt)
zip_push R [] (b ∷ ys) x y h r = absurd h
zip_push R (a ∷ xs) [] x y h r = absurd h
zip_push R (a ∷ xs) (b ∷ ys) x y h r = (h.0, zip_push R xs ys x y h.1 r)

abbrev names : List GuestSettings → List (List ℕ)
names ss = map (λ (s : GuestSettings). s.port.name) ss

abbrev macs : List GuestSettings → List (List ℕ)
macs ss = map (λ (s : GuestSettings). s.port.mac) ss

names_same : (gs : List GuestPlan) (ss : List GuestSettings) → AllZip IsGuest gs ss → names_of gs ≡ names ss
names_same [] [] h = refl
names_same [] (s ∷ ss) h = absurd h
names_same (g ∷ gs) [] h = absurd h
names_same (g ∷ gs) (s ∷ ss) h = λ i. h.0.name i ∷ names_same gs ss h.1 i

macs_same : (gs : List GuestPlan) (ss : List GuestSettings) → AllZip IsGuest gs ss → macs_of gs ≡ macs ss
macs_same [] [] h = refl
macs_same [] (s ∷ ss) h = absurd h
macs_same (g ∷ gs) [] h = absurd h
macs_same (g ∷ gs) (s ∷ ss) h = λ i. h.0.mac i ∷ macs_same gs ss h.1 i

-- the descriptors of the guests are those of their settings
pub descriptors_same : (gs : List GuestPlan) (ss : List GuestSettings) → AllZip IsGuest gs ss → descriptors_of gs ≡ total_of ss
descriptors_same [] [] h = refl
descriptors_same [] (s ∷ ss) h = absurd h
descriptors_same (g ∷ gs) [] h = absurd h
descriptors_same (g ∷ gs) (s ∷ ss) h = λ i. all (h.0.setup i) + descriptors_same gs ss h.1 i
  where
    all : SetupView → ℕ
    all v = v.tx_queues * v.tx_ring + v.rx_queues * (v.rx_ring1 + v.rx_ring2)

pub no_records : (gs : List GuestPlan) (ss : List GuestSettings) → AllZip IsGuest gs ss → records_of gs ≡ 0
no_records [] [] h = refl
no_records [] (s ∷ ss) h = absurd h
no_records (g ∷ gs) [] h = absurd h
no_records (g ∷ gs) (s ∷ ss) h = rw (h.0.capture, no_records gs ss h.1) refl

pub no_bytes : (gs : List GuestPlan) (ss : List GuestSettings) → AllZip IsGuest gs ss → bytes_of gs ≡ 0
no_bytes [] [] h = refl
no_bytes [] (s ∷ ss) h = absurd h
no_bytes (g ∷ gs) [] h = absurd h
no_bytes (g ∷ gs) (s ∷ ss) h = rw (h.0.capture, no_bytes gs ss h.1) refl

-- one more text that is none of those before
distinct_push : (xs : List (List ℕ)) (y : List ℕ) → are_distinct xs ≡ true → list_any (λ x. bytes_eq x y) xs ≡ false → are_distinct (xs ++ y ∷ []) ≡ true
distinct_push [] y d none = refl
distinct_push (x ∷ xs) y d none =
    let old = and_parts (not (list_any (bytes_eq x) xs)) (are_distinct xs) d in
    let new = or_parts (bytes_eq x y) (list_any (λ z. bytes_eq z y) xs) none in
    rw (list_any-append (bytes_eq x) xs (y ∷ []), not_true (list_any (bytes_eq x) xs) old.0, new.0) (distinct_push xs y old.1 new.1)
  where
    or_parts : (a b : Bool) → (a || b) ≡ false → (a ≡ false) × (b ≡ false)
    or_parts true b e = absurd (true≢false e)
    or_parts false b e = (refl, e)

    not_true : (b : Bool) → not b ≡ true → b ≡ false
    not_true true e = absurd (true≢false (sym e))
    not_true false e = refl

any_map : (f : GuestSettings → List ℕ) (y : List ℕ) (ss : List GuestSettings) → list_any (λ s. bytes_eq (f s) y) ss ≡ list_any (λ x. bytes_eq x y) (map f ss)
any_map f y [] = refl
any_map f y (s ∷ ss) = ap (λ (b : Bool). bytes_eq (f s) y || b) (any_map f y ss)

record AreApart (before ss : List GuestSettings) : Type 0 where
  by_name : are_distinct (names (before ++ ss)) ≡ true
  by_mac : are_distinct (macs (before ++ ss)) ≡ true

apart : (before : List GuestSettings) (i : ℕ) (ss : List GuestSettings) → twice_from before i ss ≡ Ok tt → are_distinct (names before) ≡ true → are_distinct (macs before) ≡ true → AreApart before ss
apart before i [] e n m = record { by_name = subst (λ (gs : List GuestSettings). are_distinct (names gs) ≡ true) (sym (append-nil before)) n; by_mac = subst (λ (gs : List GuestSettings). are_distinct (macs gs) ≡ true) (sym (append-nil before)) m }
apart before i (s ∷ ss) e n m = pick (has_name before s.port.name) (has_mac before s.port.mac) refl refl (apart (before ++ s ∷ []) (i + 1) ss) e
  where
    pick : (a b : Bool) → has_name before s.port.name ≡ a → has_mac before s.port.mac ≡ b
        → (twice_from (before ++ s ∷ []) (i + 1) ss ≡ Ok tt → are_distinct (names (before ++ s ∷ [])) ≡ true → are_distinct (macs (before ++ s ∷ [])) ≡ true → AreApart (before ++ s ∷ []) ss)
        → (if a then Err (fault.Twice i (codes "name")) else (if b then Err (fault.Twice i (codes "mac")) else twice_from (before ++ s ∷ []) (i + 1) ss)) ≡ Ok tt → AreApart before (s ∷ ss)
    pick true b x y more e = absurd cc
    pick false true x y more e = absurd cc
    pick false false x y more e =
        let name_new = distinct_push (names before) s.port.name n (sym (any_map (λ (g : GuestSettings). g.port.name) s.port.name before) ∙ x) in
        let mac_new = distinct_push (macs before) s.port.mac m (sym (any_map (λ (g : GuestSettings). g.port.mac) s.port.mac before) ∙ y) in
        let all = more e (ap are_distinct (map-append (λ (g : GuestSettings). g.port.name) before (s ∷ [])) ∙ name_new) (ap are_distinct (map-append (λ (g : GuestSettings). g.port.mac) before (s ∷ [])) ∙ mac_new) in
        record {
          by_name = subst (λ (gs : List GuestSettings). are_distinct (names gs) ≡ true) (append_assoc before (s ∷ []) ss) all.by_name;
          by_mac = subst (λ (gs : List GuestSettings). are_distinct (macs gs) ≡ true) (append_assoc before (s ∷ []) ss) all.by_mac;
        }

unicast : (ss : List GuestSettings) → All GuestInRange ss → all_unicast (macs ss) ≡ true
unicast [] h = refl
unicast (s ∷ ss) h =
    let here : slice_index s.port.mac 0 % 2 ≡ 0 = (All-head GuestInRange s ss h).port.unicast in
    rw here (unicast ss (All-tail GuestInRange s ss h))

-- names and addresses differ, and the addresses are those of ports
pub names_differ : (gs : List GuestPlan) (ss : List GuestSettings) → AllZip IsGuest gs ss → twice_from [] 0 ss ≡ Ok tt → are_distinct (names_of gs) ≡ true
names_differ gs ss h e = ap are_distinct (names_same gs ss h) ∙ (apart [] 0 ss e refl refl).by_name

pub ports : (gs : List GuestPlan) (ss : List GuestSettings) → AllZip IsGuest gs ss → twice_from [] 0 ss ≡ Ok tt → All GuestInRange ss → 1 ≤ length ss → length ss ≤ MAX_PORTS → have_ports gs ≡ true
ports gs ss h e range some few =
    let lengths : length (macs_of gs) ≡ length (sniffers_of gs) = length-map gs (λ (g : GuestPlan). g.mac) ∙ sym (length-map gs (λ (g : GuestPlan). g.sniffer)) in
    let count : length (macs_of gs) ≡ length ss = ap length (macs_same gs ss h) ∙ length-map ss (λ (s : GuestSettings). s.port.mac) in
    let a : (length (macs_of gs) == length (sniffers_of gs)) ≡ true = grind (arith, nat_tests, lengths) in
    let b : nat_le 1 (length (macs_of gs)) ≡ true = grind (arith, nat_tests, count, some) in
    let c : nat_le (length (macs_of gs)) MAX_PORTS ≡ true = grind (arith, nat_tests, count, few) in
    let d : all_unicast (macs_of gs) ≡ true = ap all_unicast (macs_same gs ss h) ∙ unicast ss range in
    let f : are_distinct (macs_of gs) ≡ true = ap are_distinct (macs_same gs ss h) ∙ (apart [] 0 ss e refl refl).by_mac in
    λ i. a i && b i && c i && d i && f i
