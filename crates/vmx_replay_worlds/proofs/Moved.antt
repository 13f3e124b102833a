-- What a guest does by itself, and a frame that goes out, as the world has it.
use Rattle.std.proofs.Common.{◌≡◌, ℕ, List, [], ◌∷◌, length, map, set, refl, ap, ap₂, sym, ◌∙◌, arith, Some}
use Rattle.std.specs.Option.{option_map}
use Rattle.std.specs.List.{slice_get}
use Rattle.vmx_ends.specs.declared.frames.Sent.{Sent}
use Rattle.vmx_ends.specs.declared.packet.Tag.{Tag}
use Rattle.vmx_link.specs.Views.{LinkOutView}
use Rattle.vmx_model.specs.declared.journal.Entry.{Entry}
use Rattle.vmx_model.specs.Serial.{Wire, Seat, at_number, transmitted}
use Rattle.vmx_model.specs.Turns.{at_guest}
use Rattle.vmx_device_looks.specs.Links.{PutsFrame}
use Rattle.vmx_replay_runs.specs.Runs.{put_to}
use Rattle.vmx_replay_worlds.specs.Guests.{GuestView, seat_of}
use Rattle.vmx_replay_worlds.specs.Worlds.{out_part, in_part, out_parts, in_parts, outs_of, ins_of, wires_by, world_of}
use Rattle.vmx_replay_worlds.specs.Ports.{IsAtPort, AreAtPorts, HaveRoom}
use Rattle.vmx_replay_worlds.specs.Moves.{IsSameGuest, MovesOne, PutsOn, noted_all}
use Rattle.vmx_replay_worlds.proofs.Lists.{each_there, at_twice, at_stays, set_same, get_map, map_at, map_same, map_map}
use Rattle.vmx_replay_worlds.proofs.Parts.{wires_in, wires_parts}
use Rattle.vmx_replay_worlds.proofs.Links.{FromPorts, from_ports}
use Rattle.vmx_replay_worlds.proofs.Out.{puts_each}

-- wires by parts alone
pub wires_are : (rs : List GuestView) → (world_of rs).wires ≡ wires_in (map out_parts rs) (map in_parts rs)
wires_are rs = wires_parts (ins_of rs) (outs_of rs) ∙ ap₂ wires_in (map_map (map out_part) (λ (r : GuestView). r.device.out) rs) (map_map (map in_part) (λ (r : GuestView). r.device.input) rs)

-- ------------------------------------------------------------ a guest by itself

pub guest_moves : (rs rs' : List GuestView) (port : ℕ) (change : Seat → Seat) → MovesOne rs port change rs' → world_of rs' ≡ at_guest port change (world_of rs)
guest_moves rs rs' g change c =
    let seats = ap (map seat_of) c.is ∙ map_at seat_of rs g change c.before c.after c.at c.seat in
    let os = ap (map out_parts) c.is ∙ map_same out_parts rs g c.before c.after c.at c.links.out in
    let is = ap (map in_parts) c.is ∙ map_same in_parts rs g c.before c.after c.at c.links.input in
    ap₂ (λ (ss : List Seat) (ws : List Wire). record { seats = ss; wires = ws }) seats (wires_are rs' ∙ ap₂ wires_in os is ∙ sym (wires_are rs))

pub guest_same : (rs : List GuestView) (port : ℕ) (before after : GuestView) → slice_get rs port ≡ Some before → IsSameGuest before after → world_of (set rs port after) ≡ world_of rs
guest_same rs port before after at s =
    guest_moves rs (set rs port after) port (λ x. x) (record { before = before; after = after; at = at; is = refl; seat = s.seat; links = s.links })
    ∙ ap (λ (ss : List Seat). record (world_of rs) { seats = ss }) (at_stays port (λ (x : Seat). x) (λ x. refl) (map seat_of rs))

-- ------------------------------------------------------------ a frame goes out

pub out_at : (rs : List GuestView) (g : ℕ) (r : GuestView) → slice_get rs g ≡ Some r → slice_get (outs_of rs) g ≡ Some r.device.out
out_at rs g r e = get_map (λ (x : GuestView). x.device.out) rs g ∙ ap (option_map (λ (x : GuestView). x.device.out)) e

pub at_port : (g : ℕ) (rs : List GuestView) (r : GuestView) → AreAtPorts rs → slice_get rs g ≡ Some r → IsAtPort g r
at_port g rs r h e = each_there IsAtPort 0 g g rs r (omega arith) h e

pub puts_is : (rs rs' : List GuestView) (t : Tag) (posted : Sent) (frame tos : List ℕ) → AreAtPorts rs → PutsOn rs t posted frame tos rs' → world_of rs' ≡ put_to t frame tos (at_guest t.guest (transmitted t.activation t.queue posted) (world_of rs))
puts_is rs rs' t posted frame tos ports c = by_targets tos c.puts c.room
  where
    here : IsAtPort t.guest c.before
    here = at_port t.guest rs c.before ports c.at

    from : FromPorts 0 (outs_of rs)
    from = from_ports 0 rs ports

    sent : List Seat
    sent = at_number t.guest (transmitted t.activation t.queue posted) (map seat_of rs)

    seats : map seat_of rs' ≡ at_number t.guest (noted_all c.entries) sent
    seats = ap (map seat_of) c.is ∙ map_at seat_of rs t.guest (λ s. noted_all c.entries (transmitted t.activation t.queue posted s)) c.before c.after c.at c.seat ∙ sym (at_twice t.guest (noted_all c.entries) (transmitted t.activation t.queue posted) (map seat_of rs))

    os : map out_parts rs' ≡ map (map out_part) (set (outs_of rs) t.guest c.out)
    os = ap (map out_parts) c.is ∙ map_at out_parts rs t.guest (λ _. map out_part c.out) c.before c.after c.at c.links
        ∙ sym (map_at (map out_part) (outs_of rs) t.guest (λ _. map out_part c.out) c.before.device.out c.out (out_at rs t.guest c.before c.at) refl ∙ ap (at_number t.guest (λ _. map out_part c.out)) (map_map (map out_part) (λ (r : GuestView). r.device.out) rs))

    is : map in_parts rs' ≡ map (map in_part) (ins_of rs)
    is = ap (map in_parts) c.is ∙ map_same in_parts rs t.guest c.before c.after c.at c.input ∙ sym (map_map (map in_part) (λ (r : GuestView). r.device.input) rs)

    wires : (world_of rs').wires ≡ wires_by (set (outs_of rs) t.guest c.out) (ins_of rs)
    wires = wires_are rs' ∙ ap₂ wires_in os is ∙ sym (wires_parts (ins_of rs) (set (outs_of rs) t.guest c.out))

    whole : world_of rs' ≡ record { seats = at_number t.guest (noted_all c.entries) sent; wires = wires_by (set (outs_of rs) t.guest c.out) (ins_of rs) }
    whole = ap₂ (λ (ss : List Seat) (ws : List Wire). record { seats = ss; wires = ws }) seats wires

    by_targets : (tos : List ℕ) → PutsFrame t.guest t frame tos c.entries c.before.device.out c.out → HaveRoom (length tos) c.before.device.out → world_of rs' ≡ put_to t frame tos (at_guest t.guest (transmitted t.activation t.queue posted) (world_of rs))
    by_targets [] p room = whole ∙ ap₂ (λ (ss : List Seat) (o : List (List LinkOutView)). record { seats = ss; wires = wires_by o (ins_of rs) })
        (ap (λ (es : List Entry). at_number t.guest (noted_all es) sent) p.0) (set_same (outs_of rs) t.guest c.before.device.out c.out (out_at rs t.guest c.before c.at) p.1)
    by_targets (to ∷ tos) p room = whole ∙ sym (puts_each t frame (ins_of rs) (to ∷ tos) sent (outs_of rs) c.before.device.out c.out c.entries from here.out (out_at rs t.guest c.before c.at) room p)
