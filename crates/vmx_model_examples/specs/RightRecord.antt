-- A small replay, and a record that accounts for it: a sends twelve frames to b, whose ring 1 has eleven heads and whose driver polls after twelve copies. Eleven come up, and the last finds no buffer.
use Rattle.std.proofs.Common.{ℕ, ◌*◌, false, List, [], ◌∷◌, ◌++◌, length, map, replicate, nat_eq, refl, arith, Some, None, Option, if◌then◌else◌}
use Rattle.vmx_device_state.specs.declared.turn.Turn.{Turn}
use Rattle.vmx_ends.specs.LinkView.{LinkView}
use Rattle.vmx_ends.specs.Marks.{plain_mark}
use Rattle.vmx_ends.specs.Receive.{RxView}
use Rattle.vmx_ends.specs.Transmit.{TxView}
use Rattle.vmx_ends.specs.Words.{missed_word}
use Rattle.vmx_ends.specs.declared.frames.Delivery.{Delivery}
use Rattle.vmx_ends.specs.declared.frames.Sent.{Sent}
use Rattle.vmx_frame.specs.Tags.{AreOctets}
use Rattle.vmx_io.specs.declared.handed.HandedView.{HandedView}
use Rattle.vmx_model.specs.Account.{tx_made, rx_made}
use Rattle.vmx_ends.specs.HandedEnds.{EndsView, handed_of}
use Rattle.vmx_model.specs.Lists.{upto}
use Rattle.vmx_model.specs.Meta.{meta_of}
use Rattle.vmx_model.specs.declared.guest.GuestPlan.{GuestPlan}
use Rattle.vmx_model.specs.declared.plan.Plan.{Plan}
use Rattle.vmx_shared_area.specs.declared.setup.Setup.{Setup}
use Rattle.vmx_ends.specs.declared.packet.Tag.{Tag}
use Rattle.vmx_model.specs.declared.journal.Entry.{Entry}
use Rattle.vmx_model.specs.declared.journal.Received.{Received}
use Rattle.vmx_model.specs.declared.journal.Fate.{Fate}
use Rattle.vmx_ends.specs.declared.packet.Packet.{Packet}
use Rattle.vmx_model.specs.Views.{GuestView, RecordView}
use Rattle.vmx_model.specs.declared.journal.Entry.TheVariants as entry
use Rattle.vmx_model.specs.declared.journal.Fate.TheVariants as fate
use Rattle.vmx_model.specs.declared.journal.Way.TheVariants as way
use Rattle.vmx_model_examples.specs.Guests.{setup_of, address, header, captures, plain_guest, second_guest, plain_plan, activates, quiesces}
use Rattle.vmx_shared_area.specs.Bounds.{below_bound}

-- to b, from a
abbrev pub frame : List ℕ
frame = header (address 2) 1

abbrev pub plain : Setup
plain = setup_of 7 (omega arith)

abbrev pub sender : GuestPlan
sender = record plain_guest { bodies = 2; bodies_high = omega arith; capture = captures (replicate 12 frame) }

abbrev pub target : GuestPlan
target = record second_guest { bodies = 2; bodies_high = omega arith }

abbrev pub twelve : Plan
twelve = record plain_plan { poll_every = 12; poll_low = omega arith; poll_high = omega arith; guests = sender ∷ target ∷ []; names_differ = refl; ports = refl; descriptors = omega arith; records = omega arith; bytes = omega arith }

-- ------------------------------------------------------------ journals

abbrev pub tag : ℕ → Tag
tag place = record { guest = 0; activation = 0; queue = 0; place = place }

abbrev pub sends : List Entry
sends = activates ∷ (map (λ k. entry.Out (tag k) 1 (way.Link k)) (upto 0 12) ++ quiesces ∷ [])

-- the first eleven
abbrev pub ups : List Entry
ups = activates ∷ map (λ k. entry.In 0 k (fate.Up 0 0 k)) (upto 0 11)

-- they and the twelfth with its fate
abbrev pub ends_with : Fate → List Entry
ends_with f = ups ++ entry.In 0 11 f ∷ quiesces ∷ []

abbrev pub no_buffer : Fate
no_buffer = fate.NoBuffer 0 0 1 32 0

-- ------------------------------------------------------------ facts

pub frame_octets : AreOctets frame
frame_octets = below_bound 256 frame (omega arith) refl

abbrev pub packet : ℕ → Packet
packet k = record { tag = tag k; frame = frame; least = omega arith; most = omega arith; octets = frame_octets }

abbrev pub packets : List Packet
packets = map packet (upto 0 12)

abbrev pub links : List LinkView
links = record { from = 0; to = 1; pushed = packets; pulled = packets; full = [] } ∷ record { from = 1; to = 0; pushed = []; pulled = []; full = [] } ∷ []

abbrev pub sent : Sent
sent = record { frame = frame; mark = plain_mark }

abbrev pub tx_facts : GuestPlan → ℕ → List Sent → TxView
tx_facts p port ss = let n : ℕ = length ss in
    record { key = []; made = tx_made p (record { guest = port; activation = 0; queue = 0 }); sent = ss; taken = map (λ (s : Sent). record { sent = s; descriptors = 1 }) ss; completed = n; reaped = n }

-- frame k takes the head at 3k, and passes over the two bodies before it
abbrev pub delivery : ℕ → Delivery
delivery k = record { frame = frame; meta = meta_of None None frame; passed = if nat_eq k 0 then 0 else 2; chain = (1, 3 * k) ∷ [] }

abbrev pub deliveries : List Delivery
deliveries = map delivery (upto 0 11)

-- the look that found no head
abbrev pub refused : ℕ × ℕ × ℕ
refused = (1, 32, missed_word 31 32 32)

abbrev pub rx_facts : GuestPlan → ℕ → List Delivery → List (ℕ × ℕ × ℕ) → RxView
rx_facts p port ds looks = record { key = []; made = rx_made p (record { guest = port; activation = 0; queue = 0 }); delivered = ds; received = ds; refused = looks }

abbrev pub received : List Received
received = map (λ k. record { activation = 0; queue = 0; place = k; frame = frame; tci = None }) (upto 0 11)

-- ------------------------------------------------------------ what is told

-- the ends of a guest's queues, with the lists of these facts
abbrev pub ends_of : TxView → RxView → EndsView
ends_of f x = record {
  tx = record { key = []; made = f.made; taken = f.taken; completed = f.completed; looks = []; heard = []; given = false; bad = None; notes_given = 0; notes_heard = 0 } ∷ [];
  rx = record { key = []; made = x.made; delivered = x.delivered; refused = x.refused; looks = []; seen1 = 32; seen2 = 32; heard = []; given = false; bad = None; notes_given = 0; notes_heard = 0 } ∷ [];
}

-- as they come back, and as they were given
abbrev pub back_of : TxView → RxView → HandedView
back_of f x = handed_of (ends_of f x)

abbrev pub new_of : TxView → RxView → HandedView
new_of f x = handed_of (ends_of (record f { taken = []; completed = 0 }) (record x { delivered = []; refused = [] }))

-- a command that is answered 0, with what its bag holds there and back
abbrev pub turn : List ℕ → ℕ → Option HandedView → Option HandedView → Turn
turn image number there back = record { command = record { number = number; image = image; ends = there }; answer = record { value = 0; image = image; ends = back } }

-- ACTIVATE_DEV takes the ends, QUIESCE_DEV gives them back
abbrev pub turns_of : List ℕ → TxView → RxView → List Turn
turns_of image f x = turn image 0xCAFE0000 (Some (new_of f x)) None ∷ turn image 0xCAFE0001 None (Some (back_of f x)) ∷ []

-- ------------------------------------------------------------ statistics

abbrev pub none_counted : List ℕ
none_counted = replicate 10 0

-- of the first queue, where the seven others count nothing
abbrev pub first_counts : List ℕ → List (List ℕ)
first_counts counts = counts ∷ replicate 7 none_counted

-- so many unicast packets of 14 bytes, and the last two counts
abbrev pub unicast : ℕ → ℕ → ℕ → List ℕ
unicast n x y = 0 ∷ 0 ∷ n ∷ 14 * n ∷ 0 ∷ 0 ∷ 0 ∷ 0 ∷ x ∷ y ∷ []

-- ------------------------------------------------------------ the record

abbrev pub sender_tx : TxView
sender_tx = tx_facts sender 0 (replicate 12 sent)

abbrev pub sender_rx : RxView
sender_rx = rx_facts sender 0 [] []

abbrev pub target_tx : TxView
target_tx = tx_facts target 1 []

abbrev pub target_rx : RxView
target_rx = rx_facts target 1 deliveries (refused ∷ [])

abbrev pub sender_view : List ℕ → GuestView
sender_view image = record {
  entries = sends;
  setups = plain ∷ [];
  received = [];
  tx = sender_tx ∷ [];
  rx = sender_rx ∷ [];
  told = turns_of image sender_tx sender_rx;
  tx_stats = first_counts (unicast 12 0 0);
  rx_stats = first_counts (unicast 0 0 0);
}

abbrev pub target_view : List ℕ → GuestView
target_view image = record {
  entries = ends_with no_buffer;
  setups = plain ∷ [];
  received = received;
  tx = target_tx ∷ [];
  rx = target_rx ∷ [];
  told = turns_of image target_tx target_rx;
  tx_stats = first_counts (unicast 0 0 0);
  rx_stats = first_counts (unicast 11 1 0);
}

-- over any image that holds the setup
abbrev pub right : List ℕ → RecordView
right image = record { guests = sender_view image ∷ target_view image ∷ []; links = links }
