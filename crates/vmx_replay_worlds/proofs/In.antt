-- A packet that its receiver takes, as the world has it.
use Rattle.std.proofs.Common.{◌≡◌, ℕ, zero, suc, ◌+◌, List, [], ◌∷◌, length, map, ap, ap₂, sym, ◌∙◌, subst, arith, Option, Some, None, true}
use Rattle.std.specs.Prelude.{is_some}
use Rattle.std.specs.Option.{option_map, option_and_then}
use Rattle.std.proofs.lemmas.List.{length-map}
use Rattle.std.proofs.lemmas.Option.{slice_get_past}
use Rattle.std.specs.List.{find, slice_get}
use Rattle.vmx_ends.specs.declared.packet.Packet.{Packet}
use Rattle.vmx_link.specs.Views.{LinkOutView, LinkInView}
use Rattle.vmx_model.specs.Bags.{EachQueue}
use Rattle.vmx_model.specs.Record.{carried_of}
use Rattle.vmx_model.specs.Serial.{Wire, Seat, at_number, where_it, is_wire}
use Rattle.vmx_model.specs.Turns.{comes_in, next_in, next_on, pulled_of, pulled_on, pulls}
use Rattle.vmx_device_looks.specs.Ports.{other}
use Rattle.vmx_device_looks.specs.PortLaws.{other_once}
use Rattle.vmx_replay_worlds.specs.Guests.{GuestView, seat_of}
use Rattle.vmx_replay_worlds.specs.Worlds.{InPart, in_part, out_parts, in_parts, comes_from, goes_to, input_by, pulled_by, wire_by, wire_between, outs_of, ins_of, world_of}
use Rattle.vmx_replay_worlds.specs.Ports.{IsOutOf, IsInTo, IsAtPort, AreAtPorts, Lies, IsBare}
use Rattle.vmx_replay_worlds.specs.Moves.{Waits, TakesOn, part_pulls}
use Rattle.vmx_replay_worlds.proofs.Lists.{get_map, get_next, map_at, map_same}
use Rattle.vmx_replay_worlds.proofs.Queues.{OnlyAt, where_only, find_only, only_named}
use Rattle.vmx_replay_worlds.proofs.Parts.{part_from, part_in, find_part, wires_in, wires_pull, IsThere}
use Rattle.vmx_replay_worlds.proofs.Links.{from_ports, found_wire}
use Rattle.vmx_replay_worlds.proofs.Out.{only_out}
use Rattle.vmx_replay_worlds.proofs.Moved.{wires_are, out_at, at_port}

named_in : (port k : ℕ) (is : List LinkInView) → EachQueue (IsInTo port) k is → EachQueue (λ (n : ℕ) (i : LinkInView). i.from ≡ other port n) k is
named_in port k [] h = tt
named_in port k (i ∷ is) h = (h.0.1, named_in port (suc k) is h.1)

named_parts : (port k : ℕ) (is : List LinkInView) → EachQueue (IsInTo port) k is → EachQueue (λ (n : ℕ) (i : InPart). i.from ≡ other port n) k (map in_part is)
named_parts port k [] h = tt
named_parts port k (i ∷ is) h = (h.0.1, named_parts port (suc k) is h.1)

-- one link of a port comes from its k-th other port
pub only_in : (port k from : ℕ) (is : List LinkInView) → from ≡ other port k → EachQueue (IsInTo port) 0 is → OnlyAt (comes_from from) k is
only_in port k from is e h = subst (λ (n : ℕ). OnlyAt (comes_from n) k is) (sym e) (only_named (λ (i : LinkInView). i.from) (other port) (other_once port) k is (named_in port 0 is h))

only_part : (port k from : ℕ) (is : List LinkInView) → from ≡ other port k → EachQueue (IsInTo port) 0 is → OnlyAt (part_from from) k (map in_part is)
only_part port k from is e h = subst (λ (n : ℕ). OnlyAt (part_from n) k (map in_part is)) (sym e) (only_named (λ (i : InPart). i.from) (other port) (other_once port) k (map in_part is) (named_parts port 0 is h))

each_out : (port j k : ℕ) (os : List LinkOutView) (l : LinkOutView) → EachQueue (IsOutOf port) k os → slice_get os j ≡ Some l → l.from ≡ port
each_out port j k [] l h e = absurd (cc e)
each_out port zero k (o ∷ os) l h e = let s : l ≡ o = cc e in ap (λ (x : LinkOutView). x.from) s ∙ h.0.0
each_out port (suc j) k (o ∷ os) l h e = each_out port j (suc k) os l h.1 e

only_to : (to j : ℕ) (os : List LinkOutView) (l : LinkOutView) → OnlyAt (goes_to to) j os → slice_get os j ≡ Some l → goes_to to l ≡ true
only_to to j [] l h e = absurd (cc e)
only_to to zero (o ∷ os) l h e = let s : l ≡ o = cc e in ap (goes_to to) s ∙ h.0
only_to to (suc j) (o ∷ os) l h e = only_to to j os l h.1 e

module _ (rs : List GuestView) (from to : ℕ) (ports : AreAtPorts rs) (l : Lies rs from to) where
  sender : IsAtPort from l.sender
  sender = at_port from rs l.sender ports l.sender_at

  receiver : IsAtPort to l.receiver
  receiver = at_port to rs l.receiver ports l.receiver_at

  only_sent : OnlyAt (goes_to to) l.j l.sender.device.out
  only_sent = only_out from l.j to l.sender.device.out l.to_is sender.out

  found_here : find (is_wire from to) (world_of rs).wires ≡ Some (wire_by (ins_of rs) l.link)
  found_here = found_wire (ins_of rs) from to (outs_of rs) l.sender.device.out l.link (from_ports 0 rs ports) (out_at rs from l.sender l.sender_at)
      (find_only (goes_to to) l.j l.sender.device.out l.link only_sent l.link_at)

  link_from : l.link.from ≡ from
  link_from = each_out from l.j 0 l.sender.device.out l.link sender.out l.link_at

  link_to : l.link.to ≡ to
  link_to = to_by l.j 0 l.sender.device.out sender.out l.link_at ∙ sym (l.to_is ∙ ap (other from) (zero_plus l.j))
    where
      zero_plus : (n : ℕ) → n ≡ 0 + n
      zero_plus n = omega arith

      to_by : (j k : ℕ) (os : List LinkOutView) → EachQueue (IsOutOf from) k os → slice_get os j ≡ Some l.link → l.link.to ≡ other from (k + j)
      to_by j k [] h e = absurd (cc e)
      to_by zero k (o ∷ os) h e = let s : l.link ≡ o = cc e in let z : k ≡ k + 0 = omega arith in ap (λ (y : LinkOutView). y.to) s ∙ h.0.1 ∙ ap (other from) z
      to_by (suc j) k (o ∷ os) h e = let z : suc k + j ≡ k + suc j = omega arith in to_by j (suc k) os h.1 e ∙ ap (other from) z

  end_is : find (comes_from from) l.receiver.device.input ≡ Some l.end
  end_is = find_only (comes_from from) l.k l.receiver.device.input l.end (only_in to l.k from l.receiver.device.input l.from_is receiver.input) l.end_at

  input_is : input_by l.link.from (slice_get (ins_of rs) l.link.to) ≡ Some l.end
  input_is = ap₂ (λ (a b : ℕ). input_by a (slice_get (ins_of rs) b)) link_from link_to
      ∙ ap (input_by from) (get_map (λ (r : GuestView). r.device.input) rs to ∙ ap (option_map (λ (r : GuestView). r.device.input)) l.receiver_at) ∙ end_is

  pulled_is : (wire_by (ins_of rs) l.link).pulled ≡ map carried_of l.end.pulled
  pulled_is = ap (λ (o : Option LinkInView). map carried_of (pulled_by o)) input_is

  -- the world's wire between these ports
  pub wire_here : find (is_wire from to) (world_of rs).wires ≡ Some (wire_between from to l.link l.end)
  wire_here = found_here ∙ (λ i. Some (record { from = link_from i; to = link_to i; pushed = map carried_of l.link.pushed; pulled = pulled_is i }))

  -- where as many packets were pulled as pushed, the world has no next one there
  pub none_here : IsBare l.link l.end → next_on (world_of rs).wires from to ≡ None
  none_here bare =
      let a = length-map l.end.pulled carried_of in let b = length-map l.link.pushed carried_of in
      ap (option_and_then next_in) wire_here ∙ slice_get_past (map carried_of l.link.pushed) (length (map carried_of l.end.pulled)) (omega (arith, a, b, bare))

module _ (rs : List GuestView) (from to : ℕ) (x : Packet) (ports : AreAtPorts rs) (w : Waits rs from to x) where
  wire_is : find (is_wire from to) (world_of rs).wires ≡ Some (wire_between from to w.lies.link w.lies.end)
  wire_is = wire_here rs from to ports w.lies

  place_is : pulled_on (world_of rs).wires from to ≡ length w.lies.end.pulled
  place_is = ap pulled_of wire_is ∙ length-map w.lies.end.pulled carried_of

  pub next_here : next_on (world_of rs).wires from to ≡ Some (carried_of x)
  next_here = ap (option_and_then next_in) wire_is
      ∙ ap (λ (ps : List Packet). slice_get (map carried_of ps) (length (map carried_of w.lies.end.pulled))) (sym w.next.1) ∙ get_next carried_of w.lies.end.pulled w.next.0 x

  there_ : IsThere from to x (map in_parts rs)
  there_ = ap (λ o. is_some (part_in from o)) (get_map in_parts rs to ∙ ap (option_map in_parts) w.lies.receiver_at) ∙ ap (λ o. is_some o) (find_part from w.lies.receiver.device.input ∙ ap (option_map in_part) (end_is rs from to ports w.lies))

  pub takes_here : (mac : List ℕ) (rs' : List GuestView) → TakesOn mac rs from to x w rs'
      → world_of rs' ≡ record { seats = at_number to (comes_in mac from (pulled_on (world_of rs).wires from to) x.frame) (world_of rs).seats; wires = where_it (is_wire from to) (pulls (carried_of x)) (world_of rs).wires }
  takes_here mac rs' c =
      let seats : map seat_of rs' ≡ at_number to (comes_in mac from (length w.lies.end.pulled) x.frame) (map seat_of rs) = ap (map seat_of) c.is ∙ map_at seat_of rs to (comes_in mac from (length w.lies.end.pulled) x.frame) w.lies.receiver c.after w.lies.receiver_at c.seat in
      let os = ap (map out_parts) c.is ∙ map_same out_parts rs to w.lies.receiver c.after w.lies.receiver_at c.out in
      let input : in_parts c.after ≡ where_it (part_from from) (part_pulls x) (in_parts w.lies.receiver) = c.input ∙ sym (where_only (part_from from) (part_pulls x) w.lies.k (in_parts w.lies.receiver) (only_part to w.lies.k from w.lies.receiver.device.input w.lies.from_is (receiver rs from to ports w.lies).input)) in
      let is = ap (map in_parts) c.is ∙ map_at in_parts rs to (where_it (part_from from) (part_pulls x)) w.lies.receiver c.after w.lies.receiver_at input in
      let wires = wires_are rs' ∙ ap₂ wires_in os is ∙ wires_pull from to x (map out_parts rs) (map in_parts rs) there_ ∙ ap (where_it (is_wire from to) (pulls (carried_of x))) (sym (wires_are rs)) in
      ap₂ (λ (ss : List Seat) (ws : List Wire). record { seats = ss; wires = ws }) seats wires
      ∙ ap (λ (n : ℕ). record { seats = at_number to (comes_in mac from n x.frame) (map seat_of rs); wires = where_it (is_wire from to) (pulls (carried_of x)) (world_of rs).wires }) (sym place_is)

pub next_is : (rs : List GuestView) (from to : ℕ) (x : Packet) → AreAtPorts rs → Waits rs from to x → next_on (world_of rs).wires from to ≡ Some (carried_of x)
next_is rs from to x ports w = next_here rs from to x ports w

pub none_is : (rs : List GuestView) (from to : ℕ) (l : Lies rs from to) → AreAtPorts rs → IsBare l.link l.end → next_on (world_of rs).wires from to ≡ None
none_is rs from to l ports bare = none_here rs from to ports l bare

pub takes_is : (mac : List ℕ) (rs rs' : List GuestView) (from to : ℕ) (x : Packet) (w : Waits rs from to x) → AreAtPorts rs → TakesOn mac rs from to x w rs'
    → world_of rs' ≡ record { seats = at_number to (comes_in mac from (pulled_on (world_of rs).wires from to) x.frame) (world_of rs).seats; wires = where_it (is_wire from to) (pulls (carried_of x)) (world_of rs).wires }
takes_is mac rs rs' from to x w ports c = takes_here rs from to x ports w mac rs' c
