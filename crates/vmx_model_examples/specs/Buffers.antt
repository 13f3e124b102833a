-- Plans in which the buffers of a receive queue count: how many there are, which are passed over, and how a large frame takes them.
use Rattle.vmx_model.specs.declared.journal.Fate.TheVariants as fate
use Rattle.vmx_filters.specs.declared.answer.Rule.TheVariants as rule
use Rattle.vmx_model.specs.Lists.{upto}
use Rattle.std.proofs.Common.{◌*◌}
use Rattle.std.proofs.Common.{ℕ, [], ◌∷◌, ◌++◌, map, refl, arith, List, replicate, take, drop}
use Rattle.std.specs.List.{flat_map}
use Rattle.vmx_ends.specs.declared.frames.Delivery.{Delivery}
use Rattle.vmx_ends.specs.ReceiveCore.{RxCore}
use Rattle.vmx_model.specs.declared.guest.GuestPlan.{GuestPlan}
use Rattle.vmx_model.specs.declared.plan.Plan.{Plan}
use Rattle.vmx_shared_area.specs.declared.setup.Setup.{Setup}
use Rattle.vmx_model.specs.declared.journal.Fate.{Fate}
use Rattle.vmx_model.specs.Serial.{Seat}
use Rattle.vmx_model_examples.specs.Guests.{setup_of, address, header, everybody, captures, plain_guest, second_guest, plain_plan, up_from, lacking}

-- an Ethernet frame of 60 bytes from a to b
abbrev pub sixty : List ℕ
sixty = header (address 2) 1 ++ replicate 46 0

-- ------------------------------------------------------------ too few

-- 40 frames with rings of 32 and no poll between them: 32 come up, and 8 find no buffer at position 32 of ring 1
abbrev pub forty : GuestPlan
forty = record plain_guest { capture = captures (replicate 40 sixty) }

abbrev pub scarce : Plan
scarce = record plain_plan { poll_every = 40; poll_low = omega arith; poll_high = omega arith; guests = forty ∷ second_guest ∷ []; names_differ = refl; ports = refl; descriptors = omega arith; records = omega arith; bytes = omega arith }

abbrev pub scarce_fates : List (List Fate)
scarce_fates = up_from 0 0 32 ++ lacking 1 32 0 8

-- ------------------------------------------------------------ polls

-- 80 frames with rings of 32 and a poll after each 40 that reached b: what a poll hands up is posted again, so the next 32 come up too
abbrev pub eighty : GuestPlan
eighty = record plain_guest { capture = captures (replicate 80 sixty) }

abbrev pub twice : Plan
twice = record plain_plan { poll_every = 40; poll_low = omega arith; poll_high = omega arith; guests = eighty ∷ second_guest ∷ []; names_differ = refl; ports = refl; descriptors = omega arith; records = omega arith; bytes = omega arith }

abbrev pub twice_fates : List (List Fate)
twice_fates = up_from 0 0 32 ++ lacking 1 32 0 8 ++ up_from 0 32 32 ++ lacking 1 64 8 8

-- 32 broadcasts that b's filter refuses, then 33 frames to b, and a poll after each 64: a poll counts the refused copies too, so it comes before the last frame
abbrev pub mixed : GuestPlan
mixed = record plain_guest { capture = captures (replicate 32 (header everybody 1 ++ replicate 46 0) ++ replicate 33 sixty) }

abbrev pub own_address_alone : GuestPlan
own_address_alone = record second_guest { setup = setup_of 1 (omega arith); setup_fits = refl; script_fits = refl }

abbrev pub counted : Plan
counted = record plain_plan { poll_every = 64; poll_low = omega arith; poll_high = omega arith; guests = mixed ∷ own_address_alone ∷ []; names_differ = refl; ports = refl; descriptors = omega arith; records = omega arith; bytes = omega arith }

abbrev pub counted_fates : List (List Fate)
counted_fates = replicate 32 (fate.Filtered rule.Broadcast ∷ []) ++ up_from 0 0 33

-- ------------------------------------------------------------ bodies

-- 20 frames where a body follows each head: frame k takes the position 2k of ring 1, and from the second on a body is passed over
abbrev pub twenty : GuestPlan
twenty = record plain_guest { bodies = 1; bodies_high = omega arith; capture = captures (replicate 20 sixty) }

abbrev pub body_each : GuestPlan
body_each = record second_guest { bodies = 1; bodies_high = omega arith }

abbrev pub bodies : Plan
bodies = record plain_plan { guests = twenty ∷ body_each ∷ []; names_differ = refl; ports = refl; descriptors = omega arith; records = omega arith; bytes = omega arith }

-- bodies passed over, and ring and position of each piece
abbrev pub took : Delivery → ℕ × List (ℕ × ℕ)
took d = (d.passed, d.chain)

-- of all frames that a guest's queues were given
abbrev pub taken_places : Seat → List (ℕ × List (ℕ × ℕ))
taken_places s = flat_map (λ (c : RxCore). map took c.delivered) s.rx

abbrev pub bodies_places : List (ℕ × List (ℕ × ℕ))
bodies_places = (0, (1, 0) ∷ []) ∷ map (λ k. (1, (1, 2 * k) ∷ [])) (upto 1 19)

-- ------------------------------------------------------------ large frames

-- frames of 9,014 bytes at an MTU of 9,000 have three pieces
abbrev pub jumbo : Setup
jumbo = record (setup_of 7 (omega arith)) { mtu = 9000; mtu_low = omega arith; mtu_high = omega arith }

abbrev pub large : List ℕ
large = header (address 2) 1 ++ replicate 9000 0

abbrev pub large_target : GuestPlan
large_target = record second_guest { setup = jumbo; setup_fits = refl; script_fits = refl }

-- with no poll between them ring 2 serves sixteen frames, and then its position 32 is missing
abbrev pub twenty_large : GuestPlan
twenty_large = record plain_guest { setup = jumbo; capture = captures (replicate 20 large); setup_fits = refl; script_fits = refl }

abbrev pub unpolled : Plan
unpolled = record plain_plan { poll_every = 40; poll_low = omega arith; poll_high = omega arith; guests = twenty_large ∷ large_target ∷ []; names_differ = refl; ports = refl; descriptors = omega arith; records = omega arith; bytes = omega arith }

abbrev pub unpolled_fates : List (List Fate)
unpolled_fates = up_from 0 0 16 ++ lacking 2 32 0 4

-- with a poll after each, 65 frames come up
abbrev pub many_large : GuestPlan
many_large = record plain_guest { setup = jumbo; capture = captures (replicate 65 large); setup_fits = refl; script_fits = refl }

abbrev pub polled : Plan
polled = record plain_plan { guests = many_large ∷ large_target ∷ []; names_differ = refl; ports = refl; descriptors = omega arith; records = omega arith; bytes = omega arith }

-- what the frame of a place took, at a guest with one queue
abbrev pub taken_at : ℕ → Seat → List (ℕ × List (ℕ × ℕ))
taken_at k s = take 1 (drop k (taken_places s))

-- where a body follows each head, the first frame takes it
abbrev pub one_large : GuestPlan
one_large = record twenty_large { capture = captures (large ∷ []) }

abbrev pub large_bodies : GuestPlan
large_bodies = record large_target { bodies = 1; bodies_high = omega arith }

abbrev pub followed : Plan
followed = record plain_plan { guests = one_large ∷ large_bodies ∷ []; names_differ = refl; ports = refl; descriptors = omega arith; records = omega arith; bytes = omega arith }
