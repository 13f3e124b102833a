-- What the replays are made of: addresses, frames, setups, guests and plans in few numbers; and what a record shows of a run.
use Rattle.std.proofs.Common.{◌≡◌, ℕ, ◌<◌, ◌^◌, true, false, [], ◌∷◌, ◌++◌, List, map, take, replicate, refl, arith, Some, None, slice_index, zero, suc}
use Rattle.std.proofs.lemmas.List.{length-replicate}
use Rattle.vmx_shared_area.specs.Places.{get_or-replicate_same}
use Rattle.vmx_shared_area.specs.Macs.{mac_of, zero_mac}
use Rattle.vmx_shared_area.specs.declared.filter.MacTable.{MacTable}
use Rattle.vmx_shared_area.specs.declared.rss.Rss.{Rss}
use Rattle.vmx_pcap.specs.declared.records.Capture.{Capture}
use Rattle.vmx_ends.specs.declared.frames.Sent.{Sent}
use Rattle.vmx_ends.specs.Transmit.{TxView}
use Rattle.vmx_ends.specs.TransmitCore.{TxCore}
use Rattle.vmx_model.specs.declared.guest.GuestPlan.{GuestPlan}
use Rattle.vmx_model.specs.declared.plan.Plan.{Plan}
use Rattle.vmx_shared_area.specs.declared.setup.Setup.{Setup}
use Rattle.vmx_pcap.specs.declared.records.Stamped.{Stamped}
use Rattle.vmx_model.specs.declared.journal.Entry.{Entry}
use Rattle.vmx_model.specs.declared.journal.Fate.{Fate}
use Rattle.vmx_model.specs.declared.journal.Entry.TheVariants as entry
use Rattle.vmx_model.specs.declared.journal.Fate.TheVariants as fate
use Rattle.vmx_model.specs.Serial.{Seat, World}
use Rattle.vmx_model.specs.Lists.{upto}
use Rattle.vmx_model.specs.Views.{RecordView}

-- ------------------------------------------------------------ setups

pub zeros_fit : (n i : ℕ) → slice_index (replicate n 0) i < 2 ^ 8
zeros_fit n i = rw (get_or-replicate_same {A = ℕ} n i 0) (omega arith)

pub words_fit : (n i : ℕ) → slice_index (replicate n 0) i < 2 ^ 32
words_fit n i = rw (get_or-replicate_same {A = ℕ} n i 0) (omega arith)

pub all_words_fit : (n i : ℕ) → slice_index (replicate n 4294967295) i < 2 ^ 32
all_words_fit zero i = omega arith
all_words_fit (suc n) zero = omega arith
all_words_fit (suc n) (suc i) = all_words_fit n i

pub no_address : (i : ℕ) → mac_of (replicate 256 zero_mac) i ≡ zero_mac
no_address i = get_or-replicate_same 256 i zero_mac

-- no multicast address
abbrev pub no_addresses : MacTable
no_addresses = record {
  count = 0;
  macs = replicate 256 zero_mac;
  count_high = omega arith;
  macs_length = length-replicate 256 zero_mac;
  mac_length = λ i. rw (no_address i) refl;
  macs_fit = λ i j. rw (no_address i) (zeros_fit 6 j);
  rest = λ i le. no_address i;
}

pub no_rss : (r : Rss) → None ≡ Some r → ⊥
no_rss r e = cc e

-- one queue each way, rings of 32, no VLANs, no RSS
abbrev pub setup_of : (mode : ℕ) → mode < 32 → Setup
setup_of mode fits = record {
  tx_queues = 1;
  rx_queues = 1;
  tx_ring = 32;
  rx_ring1 = 32;
  rx_ring2 = 32;
  mtu = 1500;
  filter = record { mode = mode; multicast = no_addresses; vlans = replicate 128 0; mode_fits = fits; vlans_length = length-replicate {A = ℕ} 128 0; vlans_fit = λ i. words_fit 128 i };
  rss = None;
  auto_mask = true;
  levels = replicate 25 0;
  tx_data = false;
  rx_data = false;
  strip = false;
  csum = false;
  tx_queues_low = omega arith;
  tx_queues_high = omega arith;
  rx_queues_low = omega arith;
  rx_queues_high = omega arith;
  tx_ring_low = omega arith;
  tx_ring_high = omega arith;
  tx_ring_step = refl;
  rx_ring1_low = omega arith;
  rx_ring1_high = omega arith;
  rx_ring1_step = refl;
  rx_ring2_low = omega arith;
  rx_ring2_high = omega arith;
  rx_ring2_step = refl;
  mtu_low = omega arith;
  mtu_high = omega arith;
  entries = λ r e i lt. absurd (no_rss r e);
  levels_length = length-replicate {A = ℕ} 25 0;
  levels_fit = λ i. zeros_fit 25 i;
}

-- ------------------------------------------------------------ guests and plans

-- the address of the guest n: the first is 1
abbrev pub address : ℕ → List ℕ
address n = 0 ∷ 80 ∷ 86 ∷ 0 ∷ 0 ∷ n ∷ []

-- an Ethernet header with the type of ARP, from a guest to an address
abbrev pub header : List ℕ → ℕ → List ℕ
header to from = to ++ address from ++ 8 ∷ 6 ∷ []

-- to everybody
abbrev pub everybody : List ℕ
everybody = replicate 6 255

-- a record of a capture
abbrev pub stamped : List ℕ → Stamped
stamped frame = record { seconds = 0; micros = 0; frame = frame }

-- these frames
abbrev pub captures : List (List ℕ) → Capture
captures frames = record { records = map stamped frames; tail = 0 }

-- the first guest: it lets in what is sent to its own address and to groups, sends nothing, and has no script
abbrev pub plain_guest : GuestPlan
plain_guest = record {
  name = 97 ∷ [];
  mac = address 1;
  sniffer = false;
  vlan = None;
  piece = 4096;
  bodies = 0;
  setup = setup_of 7 (omega arith);
  capture = captures [];
  script = [];
  name_fits = refl;
  unicast = refl;
  vlan_fits = refl;
  piece_low = omega arith;
  piece_high = omega arith;
  bodies_high = omega arith;
  setup_fits = refl;
  script_length = omega arith;
  script_fits = refl;
}

-- the second, the third and the fourth
abbrev pub second_guest : GuestPlan
second_guest = record plain_guest { name = 98 ∷ []; mac = address 2; name_fits = refl; unicast = refl }

abbrev pub third_guest : GuestPlan
third_guest = record plain_guest { name = 99 ∷ []; mac = address 3; name_fits = refl; unicast = refl }

abbrev pub fourth_guest : GuestPlan
fourth_guest = record plain_guest { name = 100 ∷ []; mac = address 4; name_fits = refl; unicast = refl }

-- a plan that polls after each copy
abbrev pub plain_plan : Plan
plain_plan = record {
  prefix = 0x6F ∷ [];
  poll_every = 1;
  guests = plain_guest ∷ [];
  prefix_fits = refl;
  poll_low = omega arith;
  poll_high = omega arith;
  names_differ = refl;
  ports = refl;
  descriptors = omega arith;
  records = omega arith;
  bytes = omega arith;
}

-- ------------------------------------------------------------ what a run shows

-- ACTIVATE_DEV and QUIESCE_DEV, answered 0
abbrev pub activates : Entry
activates = entry.Setting 0xCAFE0000 0 (Some 0)

abbrev pub quiesces : Entry
quiesces = entry.Setting 0xCAFE0001 0 None

-- the facts of a transmit queue
abbrev pub tx_view : TxCore → TxView
tx_view c = record { key = []; made = c.made; sent = c.sent; taken = map (λ (s : Sent). record { sent = s; descriptors = 1 }) (take c.taken c.sent); completed = c.completed; reaped = c.reaped }

-- a record with the journals of a run, what was handed up, and the facts of the transmit queues
abbrev pub view_of : World → RecordView
view_of w = record {
  guests = map (λ (s : Seat). record { entries = s.entries; setups = []; received = s.received; tx = map tx_view s.tx; rx = []; told = []; tx_stats = []; rx_stats = [] }) w.seats;
  links = [];
}

-- every journal
abbrev pub journals_of : World → List (List Entry)
journals_of w = map (λ (s : Seat). s.entries) w.seats

-- copies that come up at queue q of the first activation, n from place k on
abbrev pub up_from : ℕ → ℕ → ℕ → List (List Fate)
up_from q k n = map (λ i. fate.Up 0 q i ∷ []) (upto k n)

-- copies that lack a buffer at this position of this ring of queue 0, n from look k on
abbrev pub lacking : ℕ → ℕ → ℕ → ℕ → List (List Fate)
lacking ring position k n = map (λ i. fate.NoBuffer 0 0 ring position i ∷ []) (upto k n)
