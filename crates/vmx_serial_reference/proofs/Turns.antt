-- A guest's turn, one step at a time.
use Rattle.std.proofs.Common.{◌≡◌, ℕ, zero, suc, ◌+◌, ◌<◌, ◌≤◌, List, [], ◌∷◌, length, map, get_or, refl, sym, ap, ◌∙◌, arith, Some}
use Rattle.std.specs.List.{slice_get}
use Rattle.std.proofs.lemmas.List.{get_or-map}
use Rattle.vmx_pcap.specs.declared.records.Stamped.{Stamped}
use Rattle.vmx_ends.specs.declared.packet.Tag.{Tag}
use Rattle.vmx_model.specs.declared.guest.GuestPlan.{GuestPlan}
use Rattle.vmx_model.specs.declared.plan.Plan.{Plan}
use Rattle.vmx_model.specs.declared.journal.Entry.TheVariants as entry
use Rattle.vmx_model.specs.declared.journal.Way.TheVariants as way
use Rattle.vmx_model.specs.declared.sending.Sending.TheVariants as sending
use Rattle.vmx_model.specs.PlanSteps.{there}
use Rattle.vmx_model.specs.Wire.{posted_form, wire_form, wire_length}
use Rattle.vmx_model.specs.Serial.{Seat, World, Wire, at_number, where_it, is_wire, carried, noted, arrived, pushed_on, mac_of, mac_or_none, reaches}
use Rattle.vmx_model.specs.Turns.{IsVerdict}
use Rattle.vmx_model.proofs.Sends.{sent_frame}
use Rattle.vmx_serial_reference.specs.Worlds.{IsOnTheWay}
use Rattle.vmx_serial_seats.proofs.SmallLaws.{queues_in}

-- ------------------------------------------------------------ one copy

pub reach_whole : (plan : Plan) (t : Tag) (frame : List ℕ) (w : World) (to place : ℕ) (mac : List ℕ) (noted_seats seats : List Seat) (wires : List Wire) → place ≡ pushed_on w.wires t.guest to → mac ≡ mac_of plan to
    → noted_seats ≡ at_number t.guest (noted (entry.Out t to (way.Link place))) w.seats → seats ≡ at_number to (arrived plan.poll_every mac t.guest place frame) noted_seats → wires ≡ where_it (is_wire t.guest to) (carried (record { tag = t; frame = frame })) w.wires
    → record { seats = seats; wires = wires } ≡ reaches plan t frame w to
reach_whole plan t frame w to place mac noted_seats seats wires p m n s l =
    let first : noted_seats ≡ at_number t.guest (noted (entry.Out t to (way.Link (pushed_on w.wires t.guest to)))) w.seats = n ∙ ap (λ (k : ℕ). at_number t.guest (noted (entry.Out t to (way.Link k))) w.seats) p in
    let whole : seats ≡ at_number to (arrived plan.poll_every (mac_of plan to) t.guest (pushed_on w.wires t.guest to) frame) (at_number t.guest (noted (entry.Out t to (way.Link (pushed_on w.wires t.guest to)))) w.seats)
    = s ∙ (λ i. at_number to (arrived plan.poll_every (m i) t.guest (p i) frame) (first i)) in
    λ i. record { seats = whole i; wires = l i }

pub mac_there : (plan : Plan) (to : ℕ) (g : GuestPlan) → to < length plan.guests → g ≡ get_or plan.guests to g → g.mac ≡ mac_of plan to
mac_there plan to g lt e = sym (ap mac_or_none (there plan.guests to g lt e))

-- ------------------------------------------------------------ a captured frame

-- a tag makes a frame no shorter
wire_least : (p : GuestPlan) (frame : List ℕ) → 14 ≤ length frame → length frame ≤ length (wire_form (posted_form p frame))
wire_least p frame h = let l = wire_length p frame h in omega (arith, l)

-- the wire form of one that is sent has 14 bytes to 9,022
pub sent_wire : (p : GuestPlan) (n : ℕ) (a q k : ℕ) (r : Stamped) → slice_get p.capture.records n ≡ Some r → IsVerdict p n (sending.Sent a q k) → (14 ≤ length (wire_form (posted_form p r.frame))) × (length (wire_form (posted_form p r.frame)) ≤ 9022)
sent_wire p n a q k r at is = let sent = sent_frame p n a q k r at is in let low : 14 ≤ length r.frame = sent.0 in let least = wire_least p r.frame low in let high = sent.1 in (omega (arith, least, low), omega arith)

-- ------------------------------------------------------------ a turn

-- the guest at a port has its plan's number of receive queues
pub queues_there : (plan : Plan) (k : ℕ) (w : World) (n : ℕ) (g : GuestPlan) (d : Seat) → IsOnTheWay plan k w → n < length w.seats → n < length plan.guests → g ≡ get_or plan.guests n g → queues_in (get_or w.seats n d) ≡ g.setup.rx_queues
queues_there plan k w n g d h here there_ is =
    let e : map queues_in w.seats ≡ map (λ (p : GuestPlan). p.setup.rx_queues) plan.guests = h.queues in
    sym (get_or-map queues_in w.seats n d 0 here) ∙ ap (λ (qs : List ℕ). get_or qs n 0) e ∙ get_or-map (λ (p : GuestPlan). p.setup.rx_queues) plan.guests n g 0 there_ ∙ ap (λ (p : GuestPlan). p.setup.rx_queues) (sym is)
