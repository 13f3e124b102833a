-- The guests that a text gives are in their ranges.
use Rattle.std.proofs.lemmas.Bool.Decides.{nat_tests}
use Rattle.std.proofs.Common.{◌≡◌, ℕ, zero, suc, ◌%◌, ◌==◌, ◌<◌, ◌≤◌, nat_le, Bool, true, false, if◌then◌else◌, List, [], ◌∷◌, length, get_or, map, refl, sym, subst, arith, Option, Some, None, Ok}
use Rattle.std.specs.Prelude.{codes, is_some, slice_index}
use Rattle.std.specs.List.{range_with_len}
use Rattle.std.proofs.lemmas.Nat.{mod_below}
use Rattle.std.proofs.lemmas.List.FromFn.{get_or-map-range_with_len, length-map-range_with_len}
use Rattle.toml.specs.Data.{Data, Members, get_member, as_str, as_table}
use Rattle.vmx_ends.specs.Queues.{least_piece}
use Rattle.vmx_shared_area.specs.declared.offsets.TheConstants.{RX_MODE_END, MAX_HASH_TYPES, TABLE_SIZE}
use Rattle.vmx_model.specs.declared.limits.TheConstants.{MAX_VLAN}
use Rattle.vmx_model.specs.Ranges.{is_name, fits_vlan}
use Rattle.vmx_config_rows.specs.declared.spot.Spot.{Spot}
use Rattle.vmx_config_rows.specs.declared.rows.NumberKey.TheVariants.{Vlan, Mtu, TxQueues, RxQueues, TxRing, RxRing1, RxRing2, Bodies, Piece}
use Rattle.vmx_config_rows.specs.declared.rows.TruthKey.TheVariants.{Sniffer, Strip, TxData, RxData}
use Rattle.vmx_config_rows.specs.Reading.{◌>>=◌, required, or_kind, known_only}
use Rattle.vmx_config_rows.specs.Table.{number_row, truth_key, number_at, optional_at, truth_at}
use Rattle.vmx_config_rows.specs.Texts.{◌>=>◌, passing, name_at, is_name as is_name_text, mac_from, port_only, mac_at, capture_at}
use Rattle.vmx_config_lists.specs.declared.entries.Entries.{Entries}
use Rattle.vmx_config.specs.declared.parts.PortSettings.{PortSettings}
use Rattle.vmx_config.specs.declared.parts.RingSettings.{RingSettings}
use Rattle.vmx_config.specs.declared.parts.FilterSettings.{FilterSettings}
use Rattle.vmx_config.specs.declared.parts.RssSettings.{RssSettings}
use Rattle.vmx_config.specs.declared.parts.ActionSettings.{ActionSettings}
use Rattle.vmx_config.specs.declared.parts.GuestSettings.{GuestSettings}
use Rattle.vmx_config.specs.Script.{script_at}
use Rattle.vmx_config.specs.Guest.{guest_keys, port_at, rings_at, mode_or, mode_at, multicast_or, multicast_at, vlans_at, filter_at, types_or, types_at, key_at, in_turns, entries_or, entries_at, rss_table, some_rss, rss_or, rss_at, guest_at}
use Rattle.vmx_config.specs.Ranges.{PortInRange, RingsInRange, AreGroups, FilterInRange, EntriesInRange, RssInRange, MaybeRssInRange, GuestInRange}
use Rattle.vmx_config.proofs.Steps.{steps, ok_same, form_some, passes}
use Rattle.vmx_config.proofs.Numbers.{IsInRow, default_in, number_in_row, MaybeInRow, optional_in_row}
use Rattle.vmx_config.proofs.Arrays.{mode_low, types_low, groups_in_range, entries_in_range}
use Rattle.vmx_config.proofs.Scripts.{script_range}

-- ------------------------------------------------------------ port

name_range : (spot : Spot) (ms : Members) (name : List ℕ) → name_at spot ms ≡ Ok name → is_name name ≡ true
unfolding name_at
name_range spot ms name e =
    let d = steps (required spot (codes "name") (get_member (codes "name") ms)) _ name e in
    let s = steps (or_kind spot (codes "name") (as_str d.value)) _ name d.rest in
    let p = passes (is_name_text s.value) s.value name (form_some spot (codes "name") (passing (is_name_text s.value) s.value) name s.rest) in
    subst (λ (t : List ℕ). is_name t ≡ true) p.1 p.0

mac_range : (spot : Spot) (ms : Members) (mac : List ℕ) → mac_at spot ms ≡ Ok mac → slice_index mac 0 % 2 ≡ 0
unfolding mac_at
mac_range spot ms mac e =
    let d = steps (required spot (codes "mac") (get_member (codes "mac") ms)) _ mac e in
    let s = steps (or_kind spot (codes "mac") (as_str d.value)) _ mac d.rest in
    only (mac_from s.value) (form_some spot (codes "mac") (mac_from s.value >=> port_only) mac s.rest)
  where
    even : (n : ℕ) → (n % 2 == 1) ≡ false → n % 2 ≡ 0
    even n t = grind (arith, nat_tests, t)

    pick : (b : Bool) (m : List ℕ) → (slice_index m 0 % 2 == 1) ≡ b → (if b then None else Some m) ≡ Some mac → slice_index mac 0 % 2 ≡ 0
    pick true m t e = absurd cc
    pick false m t e = let same : m ≡ mac = cc in subst (λ (x : List ℕ). slice_index x 0 % 2 ≡ 0) same (even (slice_index m 0) t)

    only : (o : Option (List ℕ)) → (o >=> port_only) ≡ Some mac → slice_index mac 0 % 2 ≡ 0
    only None e = absurd cc
    only (Some m) e = pick (slice_index m 0 % 2 == 1) m refl e

vlan_fits : (o : Option ℕ) → MaybeInRow (number_row Vlan) o → fits_vlan o ≡ true
vlan_fits None h = refl
vlan_fits (Some n) h =
    let low = h.low in let high = h.high in
    let a : nat_le 1 n ≡ true = grind (arith, nat_tests, low) in
    let b : nat_le n MAX_VLAN ≡ true = grind (arith, nat_tests, high) in
    rw (a, b) refl

abbrev made_port : List ℕ → List ℕ → Option (List ℕ) → Bool → Option ℕ → Bool → ℕ → PortSettings
made_port name mac capture sniffer vlan strip mtu = record { name = name; mac = mac; capture = capture; sniffer = sniffer; vlan = vlan; strip = strip; mtu = mtu }

port_range : (spot : Spot) (ms : Members) (p : PortSettings) → port_at spot ms ≡ Ok p → PortInRange p
unfolding port_at
port_range spot ms p e =
    let name = steps (name_at spot ms) _ p e in
    let mac = steps (mac_at spot ms) _ p name.rest in
    let capture = steps (capture_at spot ms) _ p mac.rest in
    let sniffer = steps (truth_at spot (truth_key Sniffer) ms) _ p capture.rest in
    let vlan = steps (optional_at spot (number_row Vlan) ms) _ p sniffer.rest in
    let strip = steps (truth_at spot (truth_key Strip) ms) _ p vlan.rest in
    let mtu = steps (number_at spot (number_row Mtu) ms) (λ n. Ok (made_port name.value mac.value capture.value sniffer.value vlan.value strip.value n)) p strip.rest in
    let same : made_port name.value mac.value capture.value sniffer.value vlan.value strip.value mtu.value ≡ p = ok_same (made_port name.value mac.value capture.value sniffer.value vlan.value strip.value mtu.value) p mtu.rest in
    let row = number_in_row spot (number_row Mtu) ms mtu.value refl mtu.read in
    subst PortInRange same (record {
      name = name_range spot ms name.value name.read;
      unicast = mac_range spot ms mac.value mac.read;
      vlan = vlan_fits vlan.value (optional_in_row spot (number_row Vlan) ms vlan.value vlan.read);
      mtu_low = row.low;
      mtu_high = row.high;
    })

-- ------------------------------------------------------------ rings

piece_default : (with_data : Bool) → default_in (number_row (Piece with_data)) (number_row (Piece with_data)).default ≡ true
piece_default true = refl
piece_default false = refl

piece_row : (with_data : Bool) (n : ℕ) → IsInRow (number_row (Piece with_data)) n → least_piece with_data ≤ n
piece_row true n h = h.low
piece_row false n h = h.low

abbrev made_rings : ℕ → ℕ → ℕ → ℕ → ℕ → ℕ → Bool → Bool → ℕ → RingSettings
made_rings tx_queues rx_queues tx_ring rx_ring1 rx_ring2 bodies tx_data rx_data piece =
    record { tx_queues = tx_queues; rx_queues = rx_queues; tx_ring = tx_ring; rx_ring1 = rx_ring1; rx_ring2 = rx_ring2; bodies = bodies; tx_data = tx_data; rx_data = rx_data; piece = piece }

rings_range : (spot : Spot) (ms : Members) (r : RingSettings) → rings_at spot ms ≡ Ok r → RingsInRange r
unfolding rings_at
rings_range spot ms r e =
    let tx = steps (number_at spot (number_row TxQueues) ms) _ r e in
    let rx = steps (number_at spot (number_row RxQueues) ms) _ r tx.rest in
    let ring = steps (number_at spot (number_row TxRing) ms) _ r rx.rest in
    let ring1 = steps (number_at spot (number_row RxRing1) ms) _ r ring.rest in
    let ring2 = steps (number_at spot (number_row RxRing2) ms) _ r ring1.rest in
    let bodies = steps (number_at spot (number_row Bodies) ms) _ r ring2.rest in
    let tx_data = steps (truth_at spot (truth_key TxData) ms) _ r bodies.rest in
    let rx_data = steps (truth_at spot (truth_key RxData) ms) _ r tx_data.rest in
    let piece = steps (number_at spot (number_row (Piece tx_data.value)) ms) (λ n. Ok (made_rings tx.value rx.value ring.value ring1.value ring2.value bodies.value tx_data.value rx_data.value n)) r rx_data.rest in
    let same : made_rings tx.value rx.value ring.value ring1.value ring2.value bodies.value tx_data.value rx_data.value piece.value ≡ r = ok_same (made_rings tx.value rx.value ring.value ring1.value ring2.value bodies.value tx_data.value rx_data.value piece.value) r piece.rest in
    let tx_row = number_in_row spot (number_row TxQueues) ms tx.value refl tx.read in
    let rx_row = number_in_row spot (number_row RxQueues) ms rx.value refl rx.read in
    let ring_row = number_in_row spot (number_row TxRing) ms ring.value refl ring.read in
    let ring1_row = number_in_row spot (number_row RxRing1) ms ring1.value refl ring1.read in
    let ring2_row = number_in_row spot (number_row RxRing2) ms ring2.value refl ring2.read in
    let bodies_row = number_in_row spot (number_row Bodies) ms bodies.value refl bodies.read in
    let row = number_in_row spot (number_row (Piece tx_data.value)) ms piece.value (piece_default tx_data.value) piece.read in
    subst RingsInRange same (record {
      tx_queues = record { low = tx_row.low; high = tx_row.high };
      rx_queues = record { low = rx_row.low; high = rx_row.high };
      tx_ring = record { low = ring_row.low; high = ring_row.high; step = ring_row.step };
      rx_ring1 = record { low = ring1_row.low; high = ring1_row.high; step = ring1_row.step };
      rx_ring2 = record { low = ring2_row.low; high = ring2_row.high; step = ring2_row.step };
      bodies = bodies_row.high;
      piece_low = piece_row tx_data.value piece.value row;
      piece_high = row.high;
    })

-- ------------------------------------------------------------ filter

mode_range : (spot : Spot) (ms : Members) (n : ℕ) → mode_at spot ms ≡ Ok n → n < RX_MODE_END
unfolding mode_at
mode_range spot ms n e = by_option (get_member (codes "mode") ms) e
  where
    by_option : (o : Option Data) → mode_or spot o ≡ Ok n → n < RX_MODE_END
    by_option None e = let same : 7 ≡ n = cc in omega (arith, same)
    by_option (Some d) e = mode_low spot d n e

multicast_range : (spot : Spot) (ms : Members) (all : List (List ℕ)) → multicast_at spot ms ≡ Ok all → AreGroups all
unfolding multicast_at
multicast_range spot ms all e = by_option (get_member (codes "multicast") ms) e
  where
    by_option : (o : Option Data) → multicast_or spot o ≡ Ok all → AreGroups all
    by_option None e = let same : [] ≡ all = cc in subst AreGroups same (record { few = omega arith; groups = refl })
    by_option (Some d) e = groups_in_range spot d all e

abbrev made_filter : ℕ → List (List ℕ) → List ℕ → FilterSettings
made_filter mode multicast vlans = record { mode = mode; multicast = multicast; vlans = vlans }

filter_range : (spot : Spot) (ms : Members) (f : FilterSettings) → filter_at spot ms ≡ Ok f → FilterInRange f
unfolding filter_at
filter_range spot ms f e =
    let mode = steps (mode_at spot ms) _ f e in
    let multicast = steps (multicast_at spot ms) _ f mode.rest in
    let vlans = steps (vlans_at spot ms) (λ t. Ok (made_filter mode.value multicast.value t)) f multicast.rest in
    let same : made_filter mode.value multicast.value vlans.value ≡ f = ok_same (made_filter mode.value multicast.value vlans.value) f vlans.rest in
    subst FilterInRange same (record { mode = mode_range spot ms mode.value mode.read; multicast = multicast_range spot ms multicast.value multicast.read })

-- ------------------------------------------------------------ RSS

types_range : (spot : Spot) (ms : Members) (n : ℕ) → types_at spot ms ≡ Ok n → n ≤ MAX_HASH_TYPES
unfolding types_at
types_range spot ms n e = by_option (get_member (codes "types") ms) e
  where
    by_option : (o : Option Data) → types_or spot o ≡ Ok n → n ≤ MAX_HASH_TYPES
    by_option None e = let same : 15 ≡ n = cc in omega (arith, same)
    by_option (Some d) e = types_low spot d n e

past_end : (xs : List ℕ) (i : ℕ) → length xs ≤ i → ◌≡◌ {A = ℕ} (get_or xs i 0) 0
past_end [] i le = refl
past_end (x ∷ xs) zero le = absurd (omega (arith, le))
past_end (x ∷ xs) (suc i) le = past_end xs i (omega (arith, le))

turns_range : (queues : ℕ) → 1 ≤ queues → EntriesInRange queues (in_turns queues)
unfolding in_turns
turns_range queues some = record {
  size_low = omega arith;
  size_high = omega arith;
  below = λ i lt. subst (λ (n : ℕ). n < queues) (sym (get_or-map-range_with_len (λ k. k % queues) 0 TABLE_SIZE i i 0 lt (omega arith))) (mod_below i queues (omega (arith, some)));
  rest = λ i le. past_end (map (λ k. k % queues) (range_with_len 0 TABLE_SIZE)) i (let l = length-map-range_with_len (λ k. k % queues) 0 TABLE_SIZE in omega (arith, l, le));
}

entries_range : (spot : Spot) (queues : ℕ) (ms : Members) (t : Entries) → 1 ≤ queues → entries_at spot queues ms ≡ Ok t → EntriesInRange queues t
unfolding entries_at
entries_range spot queues ms t some e = by_option (get_member (codes "table") ms) e
  where
    by_option : (o : Option Data) → entries_or spot queues o ≡ Ok t → EntriesInRange queues t
    by_option None e = let same : in_turns queues ≡ t = cc in subst (EntriesInRange queues) same (turns_range queues some)
    by_option (Some d) e = entries_in_range spot (codes "rss.table") queues d t e

abbrev made_rss : ℕ → List ℕ → Entries → RssSettings
made_rss types key entries = record { types = types; key = key; entries = entries }

rss_table_range : (spot : Spot) (queues : ℕ) (ms : Members) (r : RssSettings) → 1 ≤ queues → rss_table spot queues ms ≡ Ok r → RssInRange queues r
unfolding rss_table
rss_table_range spot queues ms r some e =
    let known = steps (known_only spot (codes "rss.") (codes "types" ∷ codes "key" ∷ codes "table" ∷ []) ms) _ r e in
    let types = steps (types_at spot ms) _ r known.rest in
    let key = steps (key_at spot ms) _ r types.rest in
    let entries = steps (entries_at spot queues ms) (λ t. Ok (made_rss types.value key.value t)) r key.rest in
    let same : made_rss types.value key.value entries.value ≡ r = ok_same (made_rss types.value key.value entries.value) r entries.rest in
    subst (RssInRange queues) same (record { types = types_range spot ms types.value types.read; entries = entries_range spot queues ms entries.value some entries.read })

rss_range : (spot : Spot) (queues : ℕ) (ms : Members) (o : Option RssSettings) → 1 ≤ queues → rss_at spot queues ms ≡ Ok o → MaybeRssInRange queues o
unfolding rss_at
rss_range spot queues ms o some e = by_option (get_member (codes "rss") ms) e
  where
    by_option : (d : Option Data) → rss_or spot queues d ≡ Ok o → MaybeRssInRange queues o
    by_option None e = let same : None ≡ o = cc in subst (MaybeRssInRange queues) same tt
    by_option (Some d) e =
        let r = steps (or_kind spot (codes "rss") (as_table d) >>= rss_table spot queues) some_rss o e in
        let table = steps (or_kind spot (codes "rss") (as_table d)) (rss_table spot queues) r.value r.read in
        let same : Some r.value ≡ o = ok_same (Some r.value) o r.rest in
        subst (MaybeRssInRange queues) same (rss_table_range spot queues table.value r.value some table.rest)

-- ------------------------------------------------------------ guests

abbrev made_guest : PortSettings → RingSettings → FilterSettings → Option RssSettings → List ActionSettings → GuestSettings
made_guest port rings filter rss script = record { port = port; rings = rings; filter = filter; rss = rss; script = script }

pub guest_range : (spot : Spot) (ms : Members) (g : GuestSettings) → guest_at spot ms ≡ Ok g → GuestInRange g
unfolding guest_at
guest_range spot ms g e =
    let known = steps (known_only spot [] guest_keys ms) _ g e in
    let port = steps (port_at spot ms) _ g known.rest in
    let rings = steps (rings_at spot ms) _ g port.rest in
    let filter = steps (filter_at spot ms) _ g rings.rest in
    let rss = steps (rss_at spot rings.value.rx_queues ms) _ g filter.rest in
    let script = steps (script_at spot rings.value.rx_queues (is_some rss.value) ms) (λ s. Ok (made_guest port.value rings.value filter.value rss.value s)) g rss.rest in
    let same : made_guest port.value rings.value filter.value rss.value script.value ≡ g = ok_same (made_guest port.value rings.value filter.value rss.value script.value) g script.rest in
    let in_range = rings_range spot ms rings.value rings.read in
    let actions = script_range spot rings.value.rx_queues (is_some rss.value) ms script.value script.read in
    subst GuestInRange same (record {
      port = port_range spot ms port.value port.read;
      rings = in_range;
      filter = filter_range spot ms filter.value filter.read;
      rss = rss_range spot rings.value.rx_queues ms rss.value in_range.rx_queues.low rss.read;
      actions = actions.0;
      script = actions.1;
    })
