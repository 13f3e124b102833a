-- The actions that a text gives are in their ranges.
use Rattle.std.proofs.Common.{◌≡◌, ℕ, suc, ◌+◌, ◌≤◌, Bool, true, false, if◌then◌else◌, List, [], ◌∷◌, ◌++◌, length, refl, ap, sym, ◌∙◌, subst, arith, append_assoc, append-nil, Option, Some, None, Result, Ok, Err}
use Rattle.std.specs.Prelude.{codes}
use Rattle.toml.specs.Data.{Data, Members, Items, no_items, item, get_member, as_array, as_table}
use Rattle.vmx_model.specs.declared.limits.TheConstants.{MAX_NUMBER, MAX_ACTIONS}
use Rattle.vmx_config_rows.specs.declared.spot.Spot.{Spot}
use Rattle.vmx_config_rows.specs.declared.rows.NumberKey.TheVariants.{At}
use Rattle.vmx_config_rows.specs.declared.fault.ConfigFault.{ConfigFault}
use Rattle.vmx_config_rows.specs.declared.fault.ConfigFault.TheVariants as fault
use Rattle.vmx_config_rows.specs.Reading.{◌>>=◌, or_kind, known_only}
use Rattle.vmx_config_rows.specs.Table.{number_row, number_at}
use Rattle.vmx_config_lists.specs.Counts.{count_of}
use Rattle.vmx_config_lists.specs.Masks.{mode_in}
use Rattle.vmx_config_lists.specs.Addresses.{multicast_in}
use Rattle.vmx_config_lists.specs.Vlans.{vlans_in}
use Rattle.vmx_config_lists.specs.Entries.{entries_in}
use Rattle.vmx_config.specs.declared.parts.DeedSettings.{DeedSettings}
use Rattle.vmx_config.specs.declared.parts.DeedSettings.TheVariants as deed
use Rattle.vmx_config.specs.declared.parts.ActionSettings.{ActionSettings}
use Rattle.vmx_config.specs.declared.script.DeedKind.{DeedKind}
use Rattle.vmx_config.specs.declared.script.DeedKind.TheVariants as kind
use Rattle.vmx_config.specs.Script.{kind_at, action_keys, needed, deed_at, action_table, action_at, is_in_turn, quiet_after, in_turn, action_spot, actions_from, all_tables, of_tables, script_list, script_in, script_at}
use Rattle.vmx_config.specs.Ranges.{DeedInRange, ActionInRange, ScriptInRange}
use Rattle.vmx_config.proofs.Steps.{steps}
use Rattle.vmx_config.proofs.Numbers.{number_in_row}
use Rattle.vmx_config.proofs.Arrays.{few_read, mode_low, groups_in_range, entries_in_range}

deed_range : (spot : Spot) (queues : ℕ) (k : DeedKind) (ms : Members) (d : DeedSettings) → deed_at spot queues k ms ≡ Ok d → DeedInRange queues d
deed_range spot queues kind.Quiesce ms d e = let same : deed.Quiesce ≡ d = cc in subst (DeedInRange queues) same tt
deed_range spot queues kind.Activate ms d e = let same : deed.Activate ≡ d = cc in subst (DeedInRange queues) same tt
deed_range spot queues kind.Reset ms d e = let same : deed.Reset ≡ d = cc in subst (DeedInRange queues) same tt
deed_range spot queues kind.Mode ms d e =
    let m = steps (needed spot (codes "mode") ms >>= mode_in spot) (λ x. Ok (deed.Mode x)) d e in
    let v = steps (needed spot (codes "mode") ms) (mode_in spot) m.value m.read in
    let same : deed.Mode m.value ≡ d = (let rest = m.rest in cc) in
    subst (DeedInRange queues) same (mode_low spot v.value m.value v.rest)
deed_range spot queues kind.Multicast ms d e =
    let g = steps (needed spot (codes "multicast") ms >>= multicast_in spot) (λ x. Ok (deed.Multicast x)) d e in
    let v = steps (needed spot (codes "multicast") ms) (multicast_in spot) g.value g.read in
    let same : deed.Multicast g.value ≡ d = (let rest = g.rest in cc) in
    subst (DeedInRange queues) same (groups_in_range spot v.value g.value v.rest)
deed_range spot queues kind.Vlans ms d e =
    let t = steps (needed spot (codes "vlans") ms >>= vlans_in spot) (λ x. Ok (deed.Vlans x)) d e in
    let same : deed.Vlans t.value ≡ d = (let rest = t.rest in cc) in
    subst (DeedInRange queues) same tt
deed_range spot queues kind.Rss ms d e =
    let t = steps (needed spot (codes "table") ms >>= entries_in spot (codes "table") queues) (λ x. Ok (deed.Rss x)) d e in
    let v = steps (needed spot (codes "table") ms) (entries_in spot (codes "table") queues) t.value t.read in
    let same : deed.Rss t.value ≡ d = (let rest = t.rest in cc) in
    subst (DeedInRange queues) same (entries_in_range spot (codes "table") queues v.value t.value v.rest)

-- an action that was read, whether or not it is in turn
record IsRead (queues from : ℕ) (a : ActionSettings) : Type 0 where
  at_low : from ≤ a.at
  at_high : a.at ≤ MAX_NUMBER
  deed : DeedInRange queues a.deed

abbrev made : ℕ → DeedSettings → ActionSettings
made at d = record { at = at; deed = d }

table_range : (spot : Spot) (queues from : ℕ) (ms : Members) (a : ActionSettings) → action_table spot queues from ms ≡ Ok a → IsRead queues from a
table_range spot queues from ms a e =
    let k = steps (kind_at spot ms) _ a e in
    let known = steps (known_only spot [] (action_keys k.value) ms) _ a k.rest in
    let at = steps (number_at spot (number_row (At from)) ms) _ a known.rest in
    let d = steps (deed_at spot queues k.value ms) (λ x. Ok (made at.value x)) a at.rest in
    let row = number_in_row spot (number_row (At from)) ms at.value refl at.read in
    let same : made at.value d.value ≡ a = (let rest = d.rest in cc) in
    subst (IsRead queues from) same (record { at_low = row.low; at_high = row.high; deed = deed_range spot queues k.value ms d.value d.read })

action_range : (spot : Spot) (queues from : ℕ) (d : Data) (a : ActionSettings) → action_at spot queues from d ≡ Ok a → IsRead queues from a
unfolding action_at
action_range spot queues from d a e = let ms = steps (or_kind spot (codes "script") (as_table d)) (action_table spot queues from) a e in table_range spot queues from ms.value a ms.rest

turn_range : (spot : Spot) (queues from : ℕ) (rss quiet : Bool) (x a : ActionSettings) → IsRead queues from x → in_turn spot quiet rss x ≡ Ok a → ActionInRange queues rss quiet from a
turn_range spot queues from rss quiet x a read e = pick (is_in_turn quiet rss x.deed) refl e
  where
    pick : (b : Bool) → is_in_turn quiet rss x.deed ≡ b → (if b then Ok x else Err (fault.Script spot)) ≡ Ok a → ActionInRange queues rss quiet from a
    pick true t e = let same : x ≡ a = cc in subst (ActionInRange queues rss quiet from) same (record { at_low = read.at_low; at_high = read.at_high; deed = read.deed; turn = t })
    pick false t e = absurd cc

-- the actions that were read behind others
record Behind (queues : ℕ) (rss quiet : Bool) (from : ℕ) (before all : List ActionSettings) (count : ℕ) : Type 0 where
  rest : List ActionSettings
  all_is : all ≡ before ++ rest
  length_is : length rest ≡ count
  in_range : ScriptInRange queues rss quiet from rest

actions_range : (spot : Spot) (queues : ℕ) (rss quiet : Bool) (from i : ℕ) (before : List ActionSettings) (ds : Items) (all : List ActionSettings)
    → actions_from spot queues rss quiet from i before ds ≡ Ok all → Behind queues rss quiet from before all (count_of ds)
actions_range spot queues rss quiet from i before no_items all e =
    let same : before ≡ all = cc in record { rest = []; all_is = sym same ∙ sym (append-nil before); length_is = refl; in_range = tt }
actions_range spot queues rss quiet from i before (item d ds) all e =
    let a = steps (action_at (action_spot spot i) queues from d >>= in_turn (action_spot spot i) quiet rss) (λ x. actions_from spot queues rss (quiet_after quiet x.deed) x.at (i + 1) (before ++ x ∷ []) ds) all e in
    let x = steps (action_at (action_spot spot i) queues from d) (in_turn (action_spot spot i) quiet rss) a.value a.read in
    let more = actions_range spot queues rss (quiet_after quiet a.value.deed) a.value.at (i + 1) (before ++ a.value ∷ []) ds all a.rest in
    record {
      rest = a.value ∷ more.rest;
      all_is = more.all_is ∙ append_assoc before (a.value ∷ []) more.rest;
      length_is = ap (λ (n : ℕ). suc n) more.length_is;
      in_range = (turn_range (action_spot spot i) queues from rss quiet x.value a.value (action_range (action_spot spot i) queues from d x.value x.read) x.rest, more.in_range);
    }

pub tables_read : {A : Type 0} (spot : Spot) (key : List ℕ) (ds : Items) (read : Result A ConfigFault) (x : A) → of_tables spot key ds read ≡ Ok x → read ≡ Ok x
tables_read spot key ds read x e = pick (all_tables ds) e
  where
    pick : (b : Bool) → (if b then read else Err (fault.Kind spot key)) ≡ Ok x → read ≡ Ok x
    pick true e = e
    pick false e = absurd cc

list_range : (spot : Spot) (queues : ℕ) (rss : Bool) (ds : Items) (all : List ActionSettings) → script_list spot queues rss ds ≡ Ok all → (length all ≤ MAX_ACTIONS) × ScriptInRange queues rss false 0 all
list_range spot queues rss ds all e =
    let read = few_read spot (codes "script") MAX_ACTIONS ds (of_tables spot (codes "script") ds (actions_from spot queues rss false 0 0 [] ds)) all e in
    let h = actions_range spot queues rss false 0 0 [] ds all (tables_read spot (codes "script") ds (actions_from spot queues rss false 0 0 [] ds) all read.1) in
    let few = read.0 in let count = h.length_is in
    subst (λ (xs : List ActionSettings). (length xs ≤ MAX_ACTIONS) × ScriptInRange queues rss false 0 xs) (sym h.all_is) (omega (arith, few, count), h.in_range)

pub script_range : (spot : Spot) (queues : ℕ) (rss : Bool) (ms : Members) (all : List ActionSettings) → script_at spot queues rss ms ≡ Ok all → (length all ≤ MAX_ACTIONS) × ScriptInRange queues rss false 0 all
unfolding script_at
script_range spot queues rss ms all e = by_option (get_member (codes "script") ms) e
  where
    by_option : (o : Option Data) → script_in spot queues rss o ≡ Ok all → (length all ≤ MAX_ACTIONS) × ScriptInRange queues rss false 0 all
    by_option None e = let same : [] ≡ all = cc in subst (λ (xs : List ActionSettings). (length xs ≤ MAX_ACTIONS) × ScriptInRange queues rss false 0 xs) same (omega arith, tt)
    by_option (Some d) e = let ds = steps (or_kind spot (codes "script") (as_array d)) (script_list spot queues rss) all e in list_range spot queues rss ds.value all ds.rest
