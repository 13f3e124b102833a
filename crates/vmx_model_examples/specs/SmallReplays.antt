-- Small plans, and what becomes of each copy in their serial runs, worked out by hand.
use Rattle.std.proofs.Common.{ℕ, true, [], ◌∷◌, ◌++◌, map, refl, arith, Some, None, List, replicate, take}
use Rattle.vmx_filters.specs.declared.answer.Rule.TheVariants as rule
use Rattle.vmx_model.specs.declared.deeds.Deed.TheVariants as deed
use Rattle.vmx_model.specs.declared.journal.Entry.TheVariants as entry
use Rattle.vmx_model.specs.declared.journal.Fate.TheVariants as fate
use Rattle.vmx_model.specs.declared.journal.Way.TheVariants as way
use Rattle.vmx_model.specs.declared.guest.GuestPlan.{GuestPlan}
use Rattle.vmx_model.specs.declared.plan.Plan.{Plan}
use Rattle.vmx_ends.specs.declared.packet.Tag.{Tag}
use Rattle.vmx_model.specs.declared.journal.Entry.{Entry}
use Rattle.vmx_model.specs.declared.journal.Received.{Received}
use Rattle.vmx_model.specs.declared.journal.Fate.{Fate}
use Rattle.vmx_model.specs.Serial.{Seat}
use Rattle.vmx_model_examples.specs.Guests.{setup_of, address, header, everybody, captures, plain_guest, second_guest, third_guest, fourth_guest, plain_plan, activates, quiesces, up_from}

-- ------------------------------------------------------------ three guests: a broadcast, a filter, a quiesce

-- a sends a broadcast, two frames to b, one to an address that nobody has, and a cut one
abbrev pub talker : GuestPlan
talker = record plain_guest { capture = captures (header everybody 1 ∷ header (address 2) 1 ∷ header (address 2) 1 ∷ header (0 ∷ 9 ∷ 9 ∷ 9 ∷ 9 ∷ 9 ∷ []) 1 ∷ take 13 (header (address 2) 1) ∷ []) }

-- b sends two frames to a, and is quiesced before the second
abbrev pub leaver : GuestPlan
leaver = record second_guest { capture = captures (header (address 1) 2 ∷ header (address 1) 2 ∷ []); script = record { at = 1; deed = deed.Quiesce } ∷ []; script_length = omega arith; script_fits = refl }

-- c lets in what is sent to its own address alone
abbrev pub narrow : GuestPlan
narrow = record third_guest { setup = setup_of 1 (omega arith); setup_fits = refl; script_fits = refl }

abbrev pub three : Plan
three = record plain_plan { guests = talker ∷ leaver ∷ narrow ∷ []; names_differ = refl; ports = refl; descriptors = omega arith; records = omega arith; bytes = omega arith }

-- the tag of a frame of this guest's queue 0, in the first activation
abbrev pub tag : ℕ → ℕ → Tag
tag guest place = record { guest = guest; activation = 0; queue = 0; place = place }

-- every journal
abbrev pub three_journals : List (List Entry)
three_journals =
    (activates ∷ entry.Out (tag 0 0) 1 (way.Link 0) ∷ entry.Out (tag 0 0) 2 (way.Link 0) ∷ entry.In 1 0 (fate.Up 0 0 0) ∷ entry.Out (tag 0 1) 1 (way.Link 1) ∷ entry.Out (tag 0 2) 1 (way.Link 2) ∷ entry.Lost (tag 0 3) ∷ quiesces ∷ [])
    ∷ (activates ∷ entry.In 0 0 (fate.Up 0 0 0) ∷ entry.Out (tag 1 0) 0 (way.Link 0) ∷ entry.In 0 1 (fate.Up 0 0 1) ∷ quiesces ∷ entry.In 0 2 fate.Inactive ∷ [])
    ∷ (activates ∷ entry.In 0 0 (fate.Filtered rule.Broadcast) ∷ quiesces ∷ []) ∷ []

-- the fate of every copy, by sender, captured number and target
abbrev pub three_fates : List (List Fate)
three_fates = (fate.Up 0 0 0 ∷ []) ∷ (fate.Filtered rule.Broadcast ∷ []) ∷ (fate.Up 0 0 1 ∷ []) ∷ (fate.Inactive ∷ []) ∷ (fate.NoPort ∷ []) ∷ (fate.Short ∷ []) ∷ (fate.Up 0 0 0 ∷ []) ∷ (fate.Down ∷ []) ∷ []

-- what a driver handed up, by activation, queue and place
abbrev pub places_up : Seat → List (ℕ × ℕ × ℕ)
places_up s = map (λ (x : Received). (x.activation, x.queue, x.place)) s.received

-- ------------------------------------------------------------ a broadcast

-- it comes up at b and c, and d, which lets in what is sent to its address alone, refuses it
abbrev pub crier : GuestPlan
crier = record plain_guest { capture = captures (header everybody 1 ∷ []) }

abbrev pub narrow_fourth : GuestPlan
narrow_fourth = record fourth_guest { setup = setup_of 1 (omega arith); setup_fits = refl; script_fits = refl }

abbrev pub broadcast : Plan
broadcast = record plain_plan { guests = crier ∷ second_guest ∷ third_guest ∷ narrow_fourth ∷ []; names_differ = refl; ports = refl; descriptors = omega arith; records = omega arith; bytes = omega arith }

abbrev pub broadcast_fates : List (List Fate)
broadcast_fates = (fate.Up 0 0 0 ∷ []) ∷ (fate.Up 0 0 0 ∷ []) ∷ (fate.Filtered rule.Broadcast ∷ []) ∷ []

-- ------------------------------------------------------------ a frame to an address that nobody has

-- it has no port; a sniffer that lets in everything takes its copy, and one of the plain mode refuses it
abbrev pub stray : GuestPlan
stray = record plain_guest { capture = captures (header (0 ∷ 9 ∷ 9 ∷ 9 ∷ 9 ∷ 9 ∷ []) 1 ∷ []) }

abbrev pub sniffer : GuestPlan
sniffer = record third_guest { sniffer = true; setup = setup_of 16 (omega arith); setup_fits = refl; script_fits = refl }

abbrev pub deaf_sniffer : GuestPlan
deaf_sniffer = record third_guest { sniffer = true }

abbrev pub nobody : Plan
nobody = record plain_plan { guests = stray ∷ second_guest ∷ third_guest ∷ []; names_differ = refl; ports = refl; descriptors = omega arith; records = omega arith; bytes = omega arith }

abbrev pub sniffed : Plan
sniffed = record plain_plan { guests = stray ∷ second_guest ∷ sniffer ∷ []; names_differ = refl; ports = refl; descriptors = omega arith; records = omega arith; bytes = omega arith }

abbrev pub deaf : Plan
deaf = record plain_plan { guests = stray ∷ second_guest ∷ deaf_sniffer ∷ []; names_differ = refl; ports = refl; descriptors = omega arith; records = omega arith; bytes = omega arith }

-- ------------------------------------------------------------ a pause

-- a and b send six frames to each other; a is quiesced at 2 and activated at 5
abbrev pub pauser : GuestPlan
pauser = record plain_guest { capture = captures (replicate 6 (header (address 2) 1)); script = record { at = 2; deed = deed.Quiesce } ∷ record { at = 5; deed = deed.Activate } ∷ []; script_length = omega arith; script_fits = refl }

abbrev pub busy : GuestPlan
busy = record second_guest { capture = captures (replicate 6 (header (address 1) 2)) }

abbrev pub paused : Plan
paused = record plain_plan { guests = pauser ∷ busy ∷ []; names_differ = refl; ports = refl; descriptors = omega arith; records = omega arith; bytes = omega arith }

abbrev pub paused_fates : List (List Fate)
paused_fates = up_from 0 0 2 ++ replicate 3 (fate.Down ∷ []) ++ up_from 0 2 1 ++ up_from 0 0 2 ++ replicate 3 (fate.Inactive ∷ []) ++ (fate.Up 1 0 0 ∷ []) ∷ []

-- ------------------------------------------------------------ a reset

-- a sends five frames to b and is reset at 3: all come up, the tags of the last two have activation 1 and the places 0 and 1
abbrev pub resetter : GuestPlan
resetter = record plain_guest { capture = captures (replicate 5 (header (address 2) 1)); script = record { at = 3; deed = deed.Reset } ∷ []; script_length = omega arith; script_fits = refl }

abbrev pub reset : Plan
reset = record plain_plan { guests = resetter ∷ second_guest ∷ []; names_differ = refl; ports = refl; descriptors = omega arith; records = omega arith; bytes = omega arith }

-- the tag of a frame of a's queue 0
abbrev pub tag_in : ℕ → ℕ → Tag
tag_in activation place = record { guest = 0; activation = activation; queue = 0; place = place }

abbrev pub reset_journals : List (List Entry)
reset_journals =
    (activates ∷ entry.Out (tag_in 0 0) 1 (way.Link 0) ∷ entry.Out (tag_in 0 1) 1 (way.Link 1) ∷ entry.Out (tag_in 0 2) 1 (way.Link 2) ∷ entry.Setting 0xCAFE0002 0 None ∷ entry.Setting 0xCAFE0000 0 (Some 1) ∷ entry.Out (tag_in 1 0) 1 (way.Link 3) ∷ entry.Out (tag_in 1 1) 1 (way.Link 4) ∷ quiesces ∷ [])
    ∷ (activates ∷ entry.In 0 0 (fate.Up 0 0 0) ∷ entry.In 0 1 (fate.Up 0 0 1) ∷ entry.In 0 2 (fate.Up 0 0 2) ∷ entry.In 0 3 (fate.Up 0 0 3) ∷ entry.In 0 4 (fate.Up 0 0 4) ∷ quiesces ∷ []) ∷ []

-- ------------------------------------------------------------ lengths

-- frames of 13, 14, 1,518 and 1,519 bytes at an MTU of 1,500
abbrev pub lengths_sender : GuestPlan
lengths_sender = record plain_guest { capture = captures (take 13 (header (address 2) 1) ∷ header (address 2) 1 ∷ (header (address 2) 1 ++ replicate 1504 0) ∷ (header (address 2) 1 ++ replicate 1505 0) ∷ []) }

abbrev pub lengths : Plan
lengths = record plain_plan { guests = lengths_sender ∷ second_guest ∷ []; names_differ = refl; ports = refl; descriptors = omega arith; records = omega arith; bytes = omega arith }

abbrev pub lengths_fates : List (List Fate)
lengths_fates = (fate.Short ∷ []) ∷ up_from 0 0 2 ++ (fate.TooLong ∷ []) ∷ []
