-- Settings that a text gives are in their ranges.
use Rattle.std.proofs.lemmas.Bool.Decides.{nat_tests}
use Rattle.std.proofs.Common.{◌≡◌, ℕ, ◌+◌, ◌≤◌, nat_le, Bool, true, false, ◌&&◌, if◌then◌else◌, List, [], ◌∷◌, ◌++◌, length, length-append, refl, subst, arith, Option, Some, None, Result, Ok, Err}
use Rattle.std.specs.Prelude.{IfOk, codes, not, ◌==◌, ◌||◌, slice_index}
use Rattle.std.specs.List.{All, list_all}
use Rattle.std.specs.Str.{is_utf8}
use Rattle.std.proofs.lemmas.List.Elements.{All-nil, All-push}
use Rattle.toml.specs.Data.{Data, Members, Items, no_items, item, get_member, as_str, as_array, as_table}
use Rattle.toml.specs.Parse.{parse_document}
use Rattle.vmx_switch.specs.declared.answer.TheConstants.{MAX_PORTS}
use Rattle.vmx_model.specs.declared.limits.TheConstants.{MAX_ALL_DESCRIPTORS}
use Rattle.vmx_model.specs.Ranges.{is_prefix}
use Rattle.vmx_config_rows.specs.declared.rows.NumberKey.TheVariants.{PollEvery}
use Rattle.vmx_config_rows.specs.declared.fault.ConfigFault.{ConfigFault}
use Rattle.vmx_config_rows.specs.declared.fault.ConfigFault.TheVariants as fault
use Rattle.vmx_config_rows.specs.Reading.{Gives, required, or_kind, or_form, known_only}
use Rattle.vmx_config_rows.specs.Table.{number_row, number_at}
use Rattle.vmx_config_rows.specs.Texts.{passing, is_prefix as is_prefix_text, is_prefix_byte, output_in, output_at}
use Rattle.vmx_config_lists.specs.Counts.{count_of}
use Rattle.vmx_config.specs.declared.parts.GuestSettings.{GuestSettings}
use Rattle.vmx_config.specs.declared.parts.Settings.{Settings}
use Rattle.vmx_config.specs.Script.{of_tables}
use Rattle.vmx_config.specs.Guest.{guest_at}
use Rattle.vmx_config.specs.Whole.{top, guest_spot, guest_in, guests_from, guest_list, guests_at, twice_from, total_of, total_within, together, top_at, top_or_text, settings_at}
use Rattle.vmx_config.specs.Ranges.{GuestInRange, InRange}
use Rattle.vmx_config.proofs.Steps.{steps, ok_same, form_some, passes}
use Rattle.vmx_config.proofs.Numbers.{number_in_row}
use Rattle.vmx_config.proofs.Arrays.{some_read}
use Rattle.vmx_config.proofs.Scripts.{tables_read}
use Rattle.vmx_config.proofs.Guests.{guest_range}

regroup : (a b c : Bool) → (a && (b && c)) ≡ true → (a && b && c) ≡ true
regroup true b c e = e
regroup false b c e = e

prefix_same : (t : List ℕ) → is_prefix_text t ≡ true → is_prefix t ≡ true
prefix_same t e = regroup (nat_le 1 (length t) && nat_le (length t) 64) (list_all is_prefix_byte t) (not ((slice_index t 0 == 46) || (slice_index t 0 == 47))) e

output_range : (ms : Members) (s : List ℕ) → output_at top ms ≡ Ok s → is_prefix s ≡ true
unfolding output_at
output_range ms s e = by_option (get_member (codes "output") ms) e
  where
    by_option : (o : Option Data) → output_in top o ≡ Ok s → is_prefix s ≡ true
    by_option None e = let same : codes "out" ≡ s = cc in subst (λ (t : List ℕ). is_prefix t ≡ true) same refl
    by_option (Some d) e =
        let t = steps (or_kind top (codes "output") (as_str d)) (λ x. or_form top (codes "output") (passing (is_prefix_text x) x)) s e in
        let p = passes (is_prefix_text t.value) t.value s (form_some top (codes "output") (passing (is_prefix_text t.value) t.value) s t.rest) in
        subst (λ (x : List ℕ). is_prefix x ≡ true) p.1 (prefix_same t.value p.0)

guests_read : (i : ℕ) (before : List GuestSettings) (ds : Items) (all : List GuestSettings) → guests_from i before ds ≡ Ok all → All GuestInRange before → All GuestInRange all × (length all ≡ length before + count_of ds)
guests_read i before no_items all e h = let same : before ≡ all = cc in subst (λ (gs : List GuestSettings). All GuestInRange gs × (length gs ≡ length before + 0)) same (h, omega arith)
guests_read i before (item d ds) all e h =
    let g = steps (guest_in i d) (λ x. guests_from (i + 1) (before ++ x ∷ []) ds) all e in
    let ms = steps (or_kind top (codes "guest") (as_table d)) (guest_at (guest_spot i)) g.value g.read in
    let read = guests_read (i + 1) (before ++ g.value ∷ []) ds all g.rest (All-push GuestInRange before g.value h (guest_range (guest_spot i) ms.value g.value ms.rest)) in
    let count = read.1 in let more = length-append before (g.value ∷ []) in
    (read.0, omega (arith, count, more))

record AreRead (all : List GuestSettings) : Type 0 where
  in_range : All GuestInRange all
  some : 1 ≤ length all
  few : length all ≤ MAX_PORTS

guests_range : (ms : Members) (all : List GuestSettings) → guests_at ms ≡ Ok all → AreRead all
unfolding guests_at
guests_range ms all e =
    let d = steps (required top (codes "guest") (get_member (codes "guest") ms)) _ all e in
    let ds = steps (or_kind top (codes "guest") (as_array d.value)) guest_list all d.rest in
    let items = some_read top (codes "guest") MAX_PORTS ds.value (of_tables top (codes "guest") ds.value (guests_from 0 [] ds.value)) all ds.rest in
    let read = guests_read 0 [] ds.value all (tables_read top (codes "guest") ds.value (guests_from 0 [] ds.value) all items.2) (All-nil GuestInRange) in
    let some = items.0 in let few = items.1 in let count = read.1 in
    record { in_range = read.0; some = omega (arith, some, count); few = omega (arith, few, count) }

total_range : (n : ℕ) (u : Unit {0}) → total_within n ≡ Ok u → n ≤ MAX_ALL_DESCRIPTORS
total_range n u e = pick (nat_le n MAX_ALL_DESCRIPTORS) refl e
  where
    pick : (b : Bool) → nat_le n MAX_ALL_DESCRIPTORS ≡ b → (if b then Ok tt else Err (fault.Total n)) ≡ Ok u → n ≤ MAX_ALL_DESCRIPTORS
    pick true t e = grind (arith, nat_tests, t)
    pick false t e = absurd cc

record AreTogether (all : List GuestSettings) : Type 0 where
  apart : twice_from [] 0 all ≡ Ok tt
  total : total_of all ≤ MAX_ALL_DESCRIPTORS

together_range : (all : List GuestSettings) (u : Unit {0}) → together all ≡ Ok u → AreTogether all
unfolding together
together_range all u e = let apart = steps (twice_from [] 0 all) _ u e in record { apart = apart.read; total = total_range (total_of all) u apart.rest }

abbrev made : List ℕ → ℕ → List GuestSettings → Settings
made output poll_every guests = record { output = output; poll_every = poll_every; guests = guests }

top_range : (ms : Members) (s : Settings) → top_at ms ≡ Ok s → InRange s
unfolding top_at
top_range ms s e =
    let known = steps (known_only top [] (codes "output" ∷ codes "poll_every" ∷ codes "guest" ∷ []) ms) _ s e in
    let output = steps (output_at top ms) _ s known.rest in
    let poll = steps (number_at top (number_row PollEvery) ms) _ s output.rest in
    let guests = steps (guests_at ms) _ s poll.rest in
    let beside = steps (together guests.value) (λ _. Ok (made output.value poll.value guests.value)) s guests.rest in
    let same : made output.value poll.value guests.value ≡ s = ok_same (made output.value poll.value guests.value) s beside.rest in
    let row = number_in_row top (number_row PollEvery) ms poll.value refl poll.read in
    let read = guests_range ms guests.value guests.read in
    let all = together_range guests.value beside.value beside.read in
    subst InRange same (record {
      output = output_range ms output.value output.read;
      poll_low = row.low;
      poll_high = row.high;
      guests = read.in_range;
      some = read.some;
      few = read.few;
      apart = all.apart;
      total = all.total;
    })

pub in_range : (bytes : List ℕ) (s : Settings) → settings_at bytes ≡ Ok s → InRange s
unfolding settings_at
in_range bytes s e = by_option (if is_utf8 bytes then parse_document bytes else None) e
  where
    by_option : (o : Option Members) → top_or_text o ≡ Ok s → InRange s
    by_option None e = absurd cc
    by_option (Some ms) e = top_range ms s e

pub ok_in_range : (bytes : List ℕ) (r : Result Settings ConfigFault) → Gives (λ s. s) r (settings_at bytes) → IfOk r (λ s. InRange s)
ok_in_range bytes (Ok s) h = in_range bytes s h
ok_in_range bytes (Err e) h = tt
