-- The arrays that a text gives are in their ranges.
use Rattle.std.proofs.lemmas.Bool.Decides.{nat_tests, eqb_tells}
use Rattle.std.proofs.Common.{◌≡◌, ℕ, zero, suc, ◌+◌, ◌^◌, ◌<◌, ◌≤◌, ◌&&◌, nat_le, nat_lt, Bool, true, false, if◌then◌else◌, List, [], ◌∷◌, ◌++◌, length, length-append, set, get_or, refl, sym, ◌∙◌, subst, arith, inl, inr, Option, Some, None, Result, Ok, Err}
use Rattle.std.specs.Prelude.{ℤ, pos, negsuc, codes, bit_or, slice_index, replicate}
use Rattle.std.specs.List.{list_all}
use Rattle.std.specs.Str.{bytes_eq}
use Rattle.std.proofs.lemmas.Nat.{or_lt}
use Rattle.std.proofs.lemmas.Bool.{and_parts}
use Rattle.std.proofs.lemmas.List.{length-set, get_or-set_same, get_or-set_other}
use Rattle.std.proofs.lemmas.List.Folds.{list_all-append}
use Rattle.toml.specs.Data.{Data, Items, no_items, item, as_str, as_integer, as_array}
use Rattle.vmx_shared_area.specs.declared.offsets.TheConstants.{RX_MODE_END, MAX_MACS, MAX_HASH_TYPES, TABLE_SIZE}
use Rattle.vmx_model.specs.Ranges.{is_group}
use Rattle.vmx_config_rows.specs.declared.spot.Spot.{Spot}
use Rattle.vmx_config_rows.specs.declared.fault.ConfigFault.{ConfigFault}
use Rattle.vmx_config_rows.specs.declared.fault.ConfigFault.TheVariants.{Range}
use Rattle.vmx_config_rows.specs.Reading.{◌>>=◌, or_kind, or_form}
use Rattle.vmx_config_rows.specs.Texts.{◌>=>◌, mac_from}
use Rattle.vmx_config_lists.specs.declared.entries.Entries.{Entries}
use Rattle.vmx_config_lists.specs.Counts.{count_of, at_most, one_to}
use Rattle.vmx_config_lists.specs.Masks.{mode_bit, mode_words, mode_list, mode_in, type_bit, type_words, type_list, types_in}
use Rattle.vmx_config_lists.specs.Addresses.{group_only, group_in, is_there, with_group, groups_from, group_list, multicast_in}
use Rattle.vmx_config_lists.specs.Entries.{ranged_entry, entry_in, no_table, no_entries, with_entry, entries_from, entry_list, entries_in}
use Rattle.vmx_config.specs.Ranges.{AreGroups, EntriesInRange}
use Rattle.vmx_config.proofs.Steps.{steps, form_some}

-- an array with a count in its range
pub few_read : {A : Type 0} (spot : Spot) (key : List ℕ) (most : ℕ) (ds : Items) (read : Result A ConfigFault) (x : A) → at_most spot key most ds read ≡ Ok x → (count_of ds ≤ most) × (read ≡ Ok x)
few_read spot key most ds read x e = pick (nat_le (count_of ds) most) refl e
  where
    pick : (b : Bool) → nat_le (count_of ds) most ≡ b → (if b then read else Err (Range spot key (pos (count_of ds)))) ≡ Ok x → (count_of ds ≤ most) × (read ≡ Ok x)
    pick true t e = (grind (arith, nat_tests, t), e)
    pick false t e = absurd cc

pub some_read : {A : Type 0} (spot : Spot) (key : List ℕ) (most : ℕ) (ds : Items) (read : Result A ConfigFault) (x : A) → one_to spot key most ds read ≡ Ok x → (1 ≤ count_of ds) × (count_of ds ≤ most) × (read ≡ Ok x)
some_read spot key most ds read x e = pick (nat_le 1 (count_of ds) && nat_le (count_of ds) most) refl e
  where
    pick : (b : Bool) → (nat_le 1 (count_of ds) && nat_le (count_of ds) most) ≡ b → (if b then read else Err (Range spot key (pos (count_of ds)))) ≡ Ok x → (1 ≤ count_of ds) × (count_of ds ≤ most) × (read ≡ Ok x)
    pick true t e = let both = and_parts (nat_le 1 (count_of ds)) (nat_le (count_of ds) most) t in let low = both.0 in let high = both.1 in (grind (arith, nat_tests, low), grind (arith, nat_tests, high), e)
    pick false t e = absurd cc

-- ------------------------------------------------------------ words

mode_bit_low : (s : List ℕ) (n : ℕ) → mode_bit s ≡ Some n → n < 2 ^ 5
mode_bit_low s n e = pick (bytes_eq s (codes "ucast")) (bytes_eq s (codes "mcast")) (bytes_eq s (codes "bcast")) (bytes_eq s (codes "allmulti")) (bytes_eq s (codes "promisc")) e
  where
    pick : (u m b a p : Bool) → (if u then Some 1 else (if m then Some 2 else (if b then Some 4 else (if a then Some 8 else (if p then Some 16 else None))))) ≡ Some n → n < 2 ^ 5
    pick true m b a p e = let same : 1 ≡ n = cc in omega (arith, same)
    pick false true b a p e = let same : 2 ≡ n = cc in omega (arith, same)
    pick false false true a p e = let same : 4 ≡ n = cc in omega (arith, same)
    pick false false false true p e = let same : 8 ≡ n = cc in omega (arith, same)
    pick false false false false true e = let same : 16 ≡ n = cc in omega (arith, same)
    pick false false false false false e = absurd cc

type_bit_low : (s : List ℕ) (n : ℕ) → type_bit s ≡ Some n → n < 2 ^ 4
type_bit_low s n e = pick (bytes_eq s (codes "ipv4")) (bytes_eq s (codes "tcp4")) (bytes_eq s (codes "ipv6")) (bytes_eq s (codes "tcp6")) e
  where
    pick : (a b c d : Bool) → (if a then Some 1 else (if b then Some 2 else (if c then Some 4 else (if d then Some 8 else None)))) ≡ Some n → n < 2 ^ 4
    pick true b c d e = let same : 1 ≡ n = cc in omega (arith, same)
    pick false true c d e = let same : 2 ≡ n = cc in omega (arith, same)
    pick false false true d e = let same : 4 ≡ n = cc in omega (arith, same)
    pick false false false true e = let same : 8 ≡ n = cc in omega (arith, same)
    pick false false false false e = absurd cc

mode_words_low : (spot : Spot) (mode : ℕ) (ds : Items) (n : ℕ) → mode < 2 ^ 5 → mode_words spot mode ds ≡ Ok n → n < 2 ^ 5
mode_words_low spot mode no_items n low e = let same : mode ≡ n = cc in subst (λ (k : ℕ). k < 2 ^ 5) same low
mode_words_low spot mode (item d ds) n low e =
    let bit = steps (or_kind spot (codes "mode") (as_str d) >>= λ s. or_form spot (codes "mode") (mode_bit s)) (λ b. mode_words spot (bit_or mode b) ds) n e in
    let word = steps (or_kind spot (codes "mode") (as_str d)) (λ s. or_form spot (codes "mode") (mode_bit s)) bit.value bit.read in
    mode_words_low spot (bit_or mode bit.value) ds n (or_lt 5 mode bit.value low (mode_bit_low word.value bit.value (form_some spot (codes "mode") (mode_bit word.value) bit.value word.rest))) bit.rest

type_words_low : (spot : Spot) (types : ℕ) (ds : Items) (n : ℕ) → types < 2 ^ 4 → type_words spot types ds ≡ Ok n → n < 2 ^ 4
type_words_low spot types no_items n low e = let same : types ≡ n = cc in subst (λ (k : ℕ). k < 2 ^ 4) same low
type_words_low spot types (item d ds) n low e =
    let bit = steps (or_kind spot (codes "rss.types") (as_str d) >>= λ s. or_form spot (codes "rss.types") (type_bit s)) (λ b. type_words spot (bit_or types b) ds) n e in
    let word = steps (or_kind spot (codes "rss.types") (as_str d)) (λ s. or_form spot (codes "rss.types") (type_bit s)) bit.value bit.read in
    type_words_low spot (bit_or types bit.value) ds n (or_lt 4 types bit.value low (type_bit_low word.value bit.value (form_some spot (codes "rss.types") (type_bit word.value) bit.value word.rest))) bit.rest

pub mode_low : (spot : Spot) (d : Data) (n : ℕ) → mode_in spot d ≡ Ok n → n < RX_MODE_END
mode_low spot d n e =
    let ds = steps (or_kind spot (codes "mode") (as_array d)) (mode_list spot) n e in
    let read = few_read spot (codes "mode") 5 ds.value (mode_words spot 0 ds.value) n ds.rest in
    mode_words_low spot 0 ds.value n (omega arith) read.1

pub types_low : (spot : Spot) (d : Data) (n : ℕ) → types_in spot d ≡ Ok n → n ≤ MAX_HASH_TYPES
types_low spot d n e =
    let ds = steps (or_kind spot (codes "rss.types") (as_array d)) (type_list spot) n e in
    let read = few_read spot (codes "rss.types") 4 ds.value (type_words spot 0 ds.value) n ds.rest in
    let low = type_words_low spot 0 ds.value n (omega arith) read.1 in omega (arith, low)

-- ------------------------------------------------------------ multicast addresses

group_is : (spot : Spot) (d : Data) (mac : List ℕ) → group_in spot d ≡ Ok mac → is_group mac ≡ true
group_is spot d mac e =
    let s = steps (or_kind spot (codes "multicast") (as_str d)) (λ t. or_form spot (codes "multicast") (mac_from t >=> group_only)) mac e in
    only (mac_from s.value) (form_some spot (codes "multicast") (mac_from s.value >=> group_only) mac s.rest)
  where
    pick : (b : Bool) (m : List ℕ) → is_group m ≡ b → (if b then Some m else None) ≡ Some mac → is_group mac ≡ true
    pick true m t e = let same : m ≡ mac = cc in subst (λ (x : List ℕ). is_group x ≡ true) same t
    pick false m t e = absurd cc

    only : (o : Option (List ℕ)) → (o >=> group_only) ≡ Some mac → is_group mac ≡ true
    only None e = absurd cc
    only (Some m) e = pick (is_group m) m refl e

groups_more : (macs : List (List ℕ)) (mac : List ℕ) → is_group mac ≡ true → list_all is_group macs ≡ true → (length (with_group macs mac) ≤ length macs + 1) × (list_all is_group (with_group macs mac) ≡ true)
groups_more macs mac group all = pick (is_there macs mac)
  where
    pick : (b : Bool) → (length (if b then macs else (macs ++ mac ∷ [])) ≤ length macs + 1) × (list_all is_group (if b then macs else (macs ++ mac ∷ [])) ≡ true)
    pick true = (omega arith, all)
    pick false = (let more = length-append macs (mac ∷ []) in omega (arith, more), list_all-append is_group macs (mac ∷ []) ∙ rw (all, group) refl)

groups_read : (spot : Spot) (macs : List (List ℕ)) (ds : Items) (all : List (List ℕ)) → list_all is_group macs ≡ true → groups_from spot macs ds ≡ Ok all → (length all ≤ length macs + count_of ds) × (list_all is_group all ≡ true)
groups_read spot macs no_items all groups e = let same : macs ≡ all = cc in subst (λ (ms : List (List ℕ)). (length ms ≤ length macs + 0) × (list_all is_group ms ≡ true)) same (omega arith, groups)
groups_read spot macs (item d ds) all groups e =
    let mac = steps (group_in spot d) (λ m. groups_from spot (with_group macs m) ds) all e in
    let more = groups_more macs mac.value (group_is spot d mac.value mac.read) groups in
    let read = groups_read spot (with_group macs mac.value) ds all more.1 mac.rest in
    let low = more.0 in let high = read.0 in
    (omega (arith, low, high), read.1)

pub groups_in_range : (spot : Spot) (d : Data) (all : List (List ℕ)) → multicast_in spot d ≡ Ok all → AreGroups all
groups_in_range spot d all e =
    let ds = steps (or_kind spot (codes "multicast") (as_array d)) (group_list spot) all e in
    let read = few_read spot (codes "multicast") MAX_MACS ds.value (groups_from spot [] ds.value) all ds.rest in
    let groups = groups_read spot [] ds.value all refl read.1 in
    let few = read.0 in let as_many = groups.0 in
    record { few = omega (arith, few, as_many); groups = groups.1 }

-- ------------------------------------------------------------ indirection tables

-- entries of which so many are still to come
record Entered (queues left : ℕ) (t : Entries) : Type 0 where
  length_is : length t.table ≡ TABLE_SIZE
  room : t.size + left ≤ TABLE_SIZE
  below : (i : ℕ) → i < t.size → slice_index t.table i < queues
  rest : (i : ℕ) → t.size ≤ i → slice_index t.table i ≡ 0

entry_low : (spot : Spot) (key : List ℕ) (queues : ℕ) (d : Data) (n : ℕ) → entry_in spot key queues d ≡ Ok n → n < queues
entry_low spot key queues d n e =
    let z = steps (or_kind spot key (as_integer d)) (ranged_entry spot key queues) n e in by_sign z.value z.rest
  where
    pick : (b : Bool) (m : ℕ) → nat_lt m queues ≡ b → (if b then Ok m else Err (Range spot key (pos m))) ≡ Ok n → n < queues
    pick true m t e = let same : m ≡ n = cc in subst (λ (k : ℕ). k < queues) same (grind (arith, nat_tests, t))
    pick false m t e = absurd cc

    by_sign : (z : ℤ) → ranged_entry spot key queues z ≡ Ok n → n < queues
    by_sign (pos m) e = pick (nat_lt m queues) m refl e
    by_sign (negsuc m) e = absurd cc

entered : (queues left : ℕ) (t : Entries) (n : ℕ) → n < queues → Entered queues (suc left) t → Entered queues left (with_entry t n)
entered queues left t n low h = record {
  length_is = length-set t.table t.size n ∙ h.length_is;
  room = (let room = h.room in omega (arith, room));
  below = λ i lt. elim (eqb_tells i t.size) [
    | inl x ↦ subst (λ (k : ℕ). get_or (set t.table t.size n) k 0 < queues) (sym x.1) (subst (λ (k : ℕ). k < queues) (sym (get_or-set_same t.table t.size n 0 within)) low)
    | inr x ↦ subst (λ (k : ℕ). k < queues) (sym (get_or-set_other t.table t.size i n 0 x.1)) (h.below i (let other = x.1 in omega (arith, lt, other)))
  ];
  rest = λ i le. get_or-set_other t.table t.size i n 0 (λ e. absurd (omega (arith, le, e))) ∙ h.rest i (omega (arith, le));
}
  where
    within : t.size < length t.table
    within = let room = h.room in let l = h.length_is in omega (arith, room, l)

entries_read : (spot : Spot) (key : List ℕ) (queues : ℕ) (t : Entries) (ds : Items) (u : Entries) → Entered queues (count_of ds) t → entries_from spot key queues t ds ≡ Ok u → Entered queues 0 u × (u.size ≡ t.size + count_of ds)
entries_read spot key queues t no_items u h e = let same : t ≡ u = cc in subst (λ (v : Entries). Entered queues 0 v × (v.size ≡ t.size + 0)) same (h, omega arith)
entries_read spot key queues t (item d ds) u h e =
    let n = steps (entry_in spot key queues d) (λ m. entries_from spot key queues (with_entry t m) ds) u e in
    let read = entries_read spot key queues (with_entry t n.value) ds u (entered queues (count_of ds) t n.value (entry_low spot key queues d n.value n.read) h) n.rest in
    let size = read.1 in
    (read.0, omega (arith, size))

zero_table : (queues left : ℕ) → left ≤ TABLE_SIZE → Entered queues left no_entries
unfolding no_table
zero_table queues left le = record {
  length_is = refl;
  room = omega (arith, le);
  below = λ i lt. absurd (omega (arith, lt));
  rest = λ i _. zeros TABLE_SIZE i;
}
  where
    zeros : (n i : ℕ) → ◌≡◌ {A = ℕ} (get_or (replicate n 0) i 0) 0
    zeros zero i = refl
    zeros (suc n) zero = refl
    zeros (suc n) (suc i) = zeros n i

pub entries_in_range : (spot : Spot) (key : List ℕ) (queues : ℕ) (d : Data) (t : Entries) → entries_in spot key queues d ≡ Ok t → EntriesInRange queues t
entries_in_range spot key queues d t e =
    let ds = steps (or_kind spot key (as_array d)) (entry_list spot key queues) t e in
    let read = some_read spot key 128 ds.value (entries_from spot key queues no_entries ds.value) t ds.rest in
    let all = entries_read spot key queues no_entries ds.value t (zero_table queues (count_of ds.value) read.1) read.2 in
    let some = read.0 in let few = read.1 in let size = all.1 in
    record { size_low = omega (arith, some, size); size_high = omega (arith, few, size); below = all.0.below; rest = all.0.rest }
