-- The two forms of a frame and the delivered form, by hand: a guest with a VLAN, and one whose device takes tags out.
use Rattle.vmx_ends.specs.declared.packet.Packet.{Packet}
use Rattle.vmx_ends.specs.LinkView.{LinkView}
use Rattle.vmx_shared_area.specs.Bounds.{below_bound}
use Rattle.vmx_model.specs.declared.sending.Sending.{Sending}
use Rattle.std.proofs.Common.{ℕ, true, [], ◌∷◌, ◌++◌, map, refl, arith, Some, None, List, replicate}
use Rattle.std.proofs.Common.{Option}
use Rattle.vmx_ends.specs.TransmitCore.{TxCore}
use Rattle.vmx_ends.specs.declared.frames.Sent.{Sent}
use Rattle.vmx_model.specs.Plan.{captured_as, verdict_on}
use Rattle.vmx_model.specs.Serial.{Seat, Carried, Wire, arrived, activated, fresh}
use Rattle.vmx_model.specs.Serial.{World}
use Rattle.vmx_model.specs.declared.guest.GuestPlan.{GuestPlan}
use Rattle.vmx_model.specs.declared.plan.Plan.{Plan}
use Rattle.vmx_model.specs.declared.journal.Entry.{Entry}
use Rattle.vmx_model.specs.declared.journal.Received.{Received}
use Rattle.vmx_model.specs.declared.journal.Entry.TheVariants as entry
use Rattle.vmx_model.specs.declared.journal.Fate.TheVariants as fate
use Rattle.vmx_model_examples.specs.Guests.{setup_of, captures, plain_guest, second_guest, plain_plan, stamped}

-- to b, from a, with a type and nothing behind it: no tag
abbrev pub bare : List ℕ
bare = 0 ∷ 80 ∷ 86 ∷ 0 ∷ 0 ∷ 2 ∷ 0 ∷ 80 ∷ 86 ∷ 0 ∷ 0 ∷ 1 ∷ 8 ∷ 6 ∷ []

-- the same with a tag of VLAN 5 put in, and with another guest's tag of VLAN 7
abbrev pub tagged : List ℕ
tagged = 0 ∷ 80 ∷ 86 ∷ 0 ∷ 0 ∷ 2 ∷ 0 ∷ 80 ∷ 86 ∷ 0 ∷ 0 ∷ 1 ∷ 0x81 ∷ 0x00 ∷ 0 ∷ 5 ∷ 8 ∷ 6 ∷ []

abbrev pub other : List ℕ
other = 0 ∷ 80 ∷ 86 ∷ 0 ∷ 0 ∷ 2 ∷ 0 ∷ 80 ∷ 86 ∷ 0 ∷ 0 ∷ 1 ∷ 0x81 ∷ 0x00 ∷ 0xE0 ∷ 7 ∷ 8 ∷ 6 ∷ []

-- of 17 bytes: the type 0x8100 with no room for a tag and a type is none
abbrev pub near : List ℕ
near = 0 ∷ 80 ∷ 86 ∷ 0 ∷ 0 ∷ 2 ∷ 0 ∷ 80 ∷ 86 ∷ 0 ∷ 0 ∷ 1 ∷ 0x81 ∷ 0x00 ∷ 0 ∷ 7 ∷ 8 ∷ []

-- below 14 bytes nothing is put in
abbrev pub cut : List ℕ
cut = 0 ∷ 80 ∷ 86 ∷ 0 ∷ 0 ∷ 2 ∷ 0 ∷ 80 ∷ 86 ∷ 0 ∷ 0 ∷ 1 ∷ 8 ∷ []

abbrev pub on_five : GuestPlan
on_five = record plain_guest { vlan = Some 5; vlan_fits = refl; capture = captures (bare ∷ other ∷ cut ∷ near ∷ []) }

abbrev pub two : Plan
two = record plain_plan { guests = on_five ∷ second_guest ∷ []; names_differ = refl; ports = refl; descriptors = omega arith; records = omega arith; bytes = omega arith }

abbrev pub near_tagged : List ℕ
near_tagged = 0 ∷ 80 ∷ 86 ∷ 0 ∷ 0 ∷ 2 ∷ 0 ∷ 80 ∷ 86 ∷ 0 ∷ 0 ∷ 1 ∷ 0x81 ∷ 0x00 ∷ 0 ∷ 5 ∷ 0x81 ∷ 0x00 ∷ 0 ∷ 7 ∷ 8 ∷ []

-- a frame without a tag of 14 bytes and n more
abbrev pub long : ℕ → List ℕ
long n = bare ++ replicate n 0

-- the verdict on a guest's first frame, were it this
abbrev pub verdict_of : GuestPlan → List ℕ → Sending
verdict_of g frame = verdict_on g (captured_as g 0 (stamped frame))

-- the frames that each guest's queues hold, and those that each link carried
abbrev pub queued : World → List (List (List (List ℕ)))
queued w = map (λ (s : Seat). map (λ (c : TxCore). map (λ (x : Sent). x.frame) c.sent) s.tx) w.seats

abbrev pub carried : World → List (List (List ℕ))
carried w = map (λ (l : Wire). map (λ (x : Carried). x.frame) l.pulled) w.wires

-- ------------------------------------------------------------ the delivered form

-- an active guest that lets in everything, and whose device takes tags out
abbrev pub stripping : Seat
stripping = let s = activated 1 second_guest (fresh second_guest) in record s { setup = record s.setup { mode = 23; strip = true } }

-- what its driver handed up once this frame came
abbrev pub came : List ℕ → List Received
came frame = (arrived 1 second_guest.mac 0 0 frame stripping).received

-- a frame as it was handed up from a place of queue 0, with the tag that was taken out
abbrev pub up_as : ℕ → List ℕ → Option ℕ → Received
up_as k frame tci = record { activation = 0; queue = 0; place = k; frame = frame; tci = tci }

-- a run with both: b's device takes out what a's put in, and its driver hands up the tag beside the frame
abbrev pub taking_second : GuestPlan
taking_second = record second_guest { setup = record (setup_of 23 (omega arith)) { strip = true }; setup_fits = refl; script_fits = refl }

abbrev pub taking : Plan
taking = record plain_plan { guests = on_five ∷ taking_second ∷ []; names_differ = refl; ports = refl; descriptors = omega arith; records = omega arith; bytes = omega arith }

-- a link with one packet, a frame that has a tag
abbrev pub tagged_packet : Packet
tagged_packet = record { tag = record { guest = 0; activation = 0; queue = 0; place = 0 }; frame = other; least = omega arith; most = omega arith; octets = below_bound 256 other (omega arith) refl }

abbrev pub tagged_link : LinkView
tagged_link = record { from = 0; to = 1; pushed = tagged_packet ∷ []; pulled = tagged_packet ∷ []; full = [] }

-- it comes up at the link's target
abbrev pub comes_up : List Entry
comes_up = entry.In 0 0 (fate.Up 0 0 0) ∷ []

-- so many unicast packets of so many bytes together, and nothing else
abbrev pub unicasts : ℕ → ℕ → List ℕ
unicasts packets bytes = 0 ∷ 0 ∷ packets ∷ bytes ∷ 0 ∷ 0 ∷ 0 ∷ 0 ∷ 0 ∷ 0 ∷ []

-- ------------------------------------------------------------ a queue that stops

-- over given words: the fate that stops a queue is lawful at its own entry, no frame comes up there from then on, and RESET_DEV lets it go on
abbrev pub stopping : Entry
stopping = entry.In 0 0 (fate.Stopped 0 0)

-- RESET_DEV with this answer, and another activation
abbrev pub reset_answered : ℕ → List Entry
reset_answered answer = entry.Setting 0xCAFE0002 answer None ∷ entry.Setting 0xCAFE0000 0 (Some 1) ∷ []
