-- Plans in which flows, tags and classes count.
use Rattle.vmx_model_examples.specs.Guests.{setup_of}
use Rattle.vmx_model_examples.specs.Guests.{tx_view}
use Rattle.vmx_model.specs.Stats.{tx_counts}
use Rattle.std.proofs.lemmas.List.{length-replicate}
use Rattle.std.proofs.Common.{◌≡◌, ℕ, true, [], ◌∷◌, ◌++◌, map, refl, arith, Some, List, replicate, take}
use Rattle.std.proofs.Common.{zero, suc, ◌<◌, ◌≤◌, slice_index, subst, nat_lt}
use Rattle.std.proofs.lemmas.Bool.Decides.{nat_tests}
use Rattle.std.proofs.lemmas.Bool.{and_parts}
use Rattle.std.specs.List.{list_all}
use Rattle.vmx_model.specs.Serial.{Seat}
use Rattle.vmx_model.specs.declared.guest.GuestPlan.{GuestPlan}
use Rattle.vmx_model.specs.declared.plan.Plan.{Plan}
use Rattle.vmx_shared_area.specs.declared.setup.Setup.{Setup}
use Rattle.vmx_model.specs.declared.journal.Fate.{Fate}
use Rattle.vmx_model.specs.declared.deeds.Deed.TheVariants as deed
use Rattle.vmx_model.specs.declared.journal.Fate.TheVariants as fate
use Rattle.vmx_model_examples.specs.Guests.{captures, plain_guest, second_guest, third_guest, fourth_guest, plain_plan, up_from, all_words_fit}
use Rattle.vmx_shared_area.specs.Places.{get_or-replicate_same}
use Rattle.vmx_shared_area.specs.declared.rss.Rss.{Rss}
use Rattle.vmx_shared_area.specs.declared.rss.TheConstants.{MICROSOFT_KEY}

-- ------------------------------------------------------------ a flow moves with the indirection table

pub below : (bound : ℕ) (xs : List ℕ) → 0 < bound → list_all (λ x. nat_lt x bound) xs ≡ true → (i : ℕ) → slice_index xs i < bound
below bound [] some h i = some
below bound (x ∷ xs) some h zero = let first = (and_parts (nat_lt x bound) (list_all (λ y. nat_lt y bound) xs) h).0 in grind (arith, nat_tests)
below bound (x ∷ xs) some h (suc i) = below bound xs some (and_parts (nat_lt x bound) (list_all (λ y. nat_lt y bound) xs) h).1 i

abbrev pub first_table : List ℕ
first_table = 0 ∷ 1 ∷ 0 ∷ 1 ∷ replicate 124 0

abbrev pub second_table : List ℕ
second_table = 1 ∷ 0 ∷ 1 ∷ 0 ∷ replicate 124 0

pub zeros_behind : (i : ℕ) → 4 ≤ i → slice_index first_table i ≡ 0
zeros_behind zero le = absurd (omega (arith, le))
zeros_behind (suc zero) le = absurd (omega (arith, le))
zeros_behind (suc (suc zero)) le = absurd (omega (arith, le))
zeros_behind (suc (suc (suc zero))) le = absurd (omega (arith, le))
zeros_behind (suc (suc (suc (suc i)))) le = get_or-replicate_same {A = ℕ} 124 i 0

abbrev pub hashed : Rss
hashed = record {
  types = 15;
  key = MICROSOFT_KEY;
  size = 4;
  table = first_table;
  types_high = omega arith;
  key_length = refl;
  key_fits = below 256 MICROSOFT_KEY (omega arith) refl;
  size_low = omega arith;
  size_high = omega arith;
  table_length = refl;
  table_fits = below 256 first_table (omega arith) refl;
  rest = zeros_behind;
}

pub the_setting : (r : Rss) → Some hashed ≡ Some r → hashed ≡ r
the_setting r e = cc e

abbrev pub two_queues : Setup
two_queues = record (setup_of 7 (omega arith)) {
  rx_queues = 2;
  rss = Some hashed;
  rx_queues_low = omega arith;
  rx_queues_high = omega arith;
  entries = λ r e i lt. subst (λ (x : Rss). slice_index x.table i < 2) (the_setting r e) (below 2 first_table (omega arith) refl i);
}

-- Microsoft's first sample flow, whose hash with ports is 0x51ccc178 (Microsoft, "Verifying the RSS Hash Calculation")
abbrev pub flow : List ℕ
flow = 0 ∷ 80 ∷ 86 ∷ 0 ∷ 0 ∷ 2 ∷ 0 ∷ 80 ∷ 86 ∷ 0 ∷ 0 ∷ 1 ∷ 8 ∷ 0 ∷ 69 ∷ 0 ∷ 0 ∷ 40 ∷ 0 ∷ 0 ∷ 0 ∷ 0 ∷ 64 ∷ 6 ∷ 0 ∷ 0 ∷ 66 ∷ 9 ∷ 149 ∷ 187 ∷ 161 ∷ 142 ∷ 100 ∷ 80 ∷ 10 ∷ 234 ∷ 6 ∷ 230 ∷ 0 ∷ 0 ∷ 0 ∷ 0 ∷ 0 ∷ 0 ∷ 0 ∷ 0 ∷ 80 ∷ 0 ∷ 0 ∷ 0 ∷ 0 ∷ 0 ∷ 0 ∷ 0 ∷ []

-- b has two queues, and another table from its tenth frame on
abbrev pub two_queue_target : GuestPlan
two_queue_target = record second_guest { setup = two_queues; script = record { at = 10; deed = deed.Rss 4 second_table } ∷ []; script_length = omega arith; setup_fits = refl; script_fits = refl }

-- the first guest is b, so that its deed comes before the frame of the same number
abbrev pub flow_sender : GuestPlan
flow_sender = record plain_guest { capture = captures (replicate 20 flow) }

abbrev pub moved : Plan
moved = record plain_plan { guests = two_queue_target ∷ flow_sender ∷ []; names_differ = refl; ports = refl; descriptors = omega arith; records = omega arith; bytes = omega arith }

-- ten frames with the first table, ten with the second
abbrev pub moved_fates : List (List Fate)
moved_fates = up_from 0 0 10 ++ up_from 1 0 10

-- ------------------------------------------------------------ several kinds of frames

-- all VLANs are let in
abbrev pub all_vlans : Setup
all_vlans = record (setup_of 7 (omega arith)) { filter = record (setup_of 7 (omega arith)).filter { vlans = replicate 128 4294967295; vlans_length = length-replicate {A = ℕ} 128 4294967295; vlans_fit = λ i. all_words_fit 128 i } }

-- an ARP broadcast of 42 bytes
abbrev pub arp : List ℕ
arp = 255 ∷ 255 ∷ 255 ∷ 255 ∷ 255 ∷ 255 ∷ 0 ∷ 80 ∷ 86 ∷ 0 ∷ 0 ∷ 1 ∷ 8 ∷ 6 ∷ replicate 28 0

-- TCP over IPv4 to b
abbrev pub tcp_v4 : List ℕ
tcp_v4 = 0 ∷ 80 ∷ 86 ∷ 0 ∷ 0 ∷ 2 ∷ 0 ∷ 80 ∷ 86 ∷ 0 ∷ 0 ∷ 1 ∷ 8 ∷ 0 ∷ 69 ∷ 0 ∷ 0 ∷ 60 ∷ 0 ∷ 0 ∷ 0 ∷ 0 ∷ 64 ∷ 6 ∷ 0 ∷ 0 ∷ 10 ∷ 0 ∷ 0 ∷ 1 ∷ 10 ∷ 0 ∷ 0 ∷ 2 ∷ 10 ∷ 234 ∷ 6 ∷ 230 ∷ 0 ∷ 0 ∷ 0 ∷ 0 ∷ 0 ∷ 0 ∷ 0 ∷ 0 ∷ 80 ∷ 0 ∷ 0 ∷ 0 ∷ 0 ∷ 0 ∷ 0 ∷ 0 ∷ replicate 20 0

-- TCP over IPv6 to c
abbrev pub tcp_v6 : List ℕ
tcp_v6 = 0 ∷ 80 ∷ 86 ∷ 0 ∷ 0 ∷ 3 ∷ 0 ∷ 80 ∷ 86 ∷ 0 ∷ 0 ∷ 1 ∷ 134 ∷ 221 ∷ 96 ∷ 0 ∷ 0 ∷ 0 ∷ 0 ∷ 40 ∷ 6 ∷ 64 ∷ 254 ∷ 128 ∷ 0 ∷ 0 ∷ 0 ∷ 0 ∷ 0 ∷ 0 ∷ 0 ∷ 0 ∷ 0 ∷ 0 ∷ 0 ∷ 0 ∷ 0 ∷ 1 ∷ 254 ∷ 128 ∷ 0 ∷ 0 ∷ 0 ∷ 0 ∷ 0 ∷ 0 ∷ 0 ∷ 0 ∷ 0 ∷ 0 ∷ 0 ∷ 0 ∷ 0 ∷ 3 ∷ 10 ∷ 234 ∷ 6 ∷ 230 ∷ 0 ∷ 0 ∷ 0 ∷ 0 ∷ 0 ∷ 0 ∷ 0 ∷ 0 ∷ 80 ∷ 0 ∷ 0 ∷ 0 ∷ 0 ∷ 0 ∷ 0 ∷ 0 ∷ replicate 20 0

-- a frame with a tag of VLAN 5 to d
abbrev pub tagged_arp : List ℕ
tagged_arp = 0 ∷ 80 ∷ 86 ∷ 0 ∷ 0 ∷ 4 ∷ 0 ∷ 80 ∷ 86 ∷ 0 ∷ 0 ∷ 1 ∷ 129 ∷ 0 ∷ 0 ∷ 5 ∷ 8 ∷ 6 ∷ replicate 46 0

-- an offloaded record of 20,000 bytes
abbrev pub offloaded : List ℕ
offloaded = 0 ∷ 80 ∷ 86 ∷ 0 ∷ 0 ∷ 2 ∷ 0 ∷ 80 ∷ 86 ∷ 0 ∷ 0 ∷ 1 ∷ 8 ∷ 6 ∷ replicate 19986 0

abbrev pub kinds_sender : GuestPlan
kinds_sender = record plain_guest { setup = all_vlans; capture = captures (arp ∷ tcp_v4 ∷ tcp_v6 ∷ tagged_arp ∷ offloaded ∷ []); setup_fits = refl; script_fits = refl }

abbrev pub kinds_second : GuestPlan
kinds_second = record second_guest { setup = all_vlans; setup_fits = refl; script_fits = refl }

abbrev pub kinds_third : GuestPlan
kinds_third = record third_guest { setup = all_vlans; setup_fits = refl; script_fits = refl }

abbrev pub kinds_fourth : GuestPlan
kinds_fourth = record fourth_guest { setup = all_vlans; setup_fits = refl; script_fits = refl }

abbrev pub kinds : Plan
kinds = record plain_plan { guests = kinds_sender ∷ kinds_second ∷ kinds_third ∷ kinds_fourth ∷ []; names_differ = refl; ports = refl; descriptors = omega arith; records = omega arith; bytes = omega arith }

-- the broadcast at b, c and d, one unicast at each, and one that is too long
abbrev pub kinds_fates : List (List Fate)
kinds_fates = replicate 3 (fate.Up 0 0 0 ∷ []) ++ replicate 3 (fate.Up 0 0 1 ∷ []) ++ (fate.TooLong ∷ []) ∷ []

-- the counts of a guest's first transmit queue
abbrev pub first_counts : Seat → List (List ℕ)
first_counts s = take 1 (tx_counts (map tx_view s.tx) s.entries)

-- three unicast packets of 232 bytes together, one broadcast of 42
abbrev pub kinds_counts : List ℕ
kinds_counts = 0 ∷ 0 ∷ 3 ∷ 232 ∷ 0 ∷ 0 ∷ 1 ∷ 42 ∷ 0 ∷ 0 ∷ []
