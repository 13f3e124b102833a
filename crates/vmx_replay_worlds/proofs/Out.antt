-- What a device puts out in one turn is put out in the world, target by target.
use Rattle.std.proofs.Common.{◌≡◌, ℕ, zero, suc, ◌+◌, ◌≤◌, ◌<◌, Bool, true, false, List, [], ◌∷◌, length, set, ap, ap₂, sym, ◌∙◌, arith, Some, subst, if◌then◌else◌, append_assoc, append-nil, length-append}
use Rattle.std.specs.List.{fold, find, slice_get, AllByRecursion}
use Rattle.vmx_ends.specs.declared.packet.Tag.{Tag}
use Rattle.vmx_ends.specs.declared.packet.Packet.{Packet}
use Rattle.vmx_link.specs.Views.{LinkOutView, LinkInView}
use Rattle.vmx_model.specs.declared.journal.Entry.{Entry}
use Rattle.vmx_model.specs.declared.journal.Entry.TheVariants as entry
use Rattle.vmx_model.specs.declared.journal.Way.{Way}
use Rattle.vmx_model.specs.declared.journal.Way.TheVariants as way
use Rattle.vmx_model.specs.Bags.{EachQueue}
use Rattle.vmx_model.specs.Record.{carried_of}
use Rattle.vmx_model.specs.Serial.{World, Wire, Carried, Seat, at_number, where_it, is_wire, noted, pushed_on}
use Rattle.vmx_model.specs.Turns.{pushes, put_out}
use Rattle.vmx_device_looks.specs.Ports.{other}
use Rattle.vmx_device_looks.specs.PortLaws.{other_once}
use Rattle.vmx_device_looks.specs.Links.{Pushed, SendsTo, PutsOut}
use Rattle.vmx_replay_worlds.specs.Worlds.{wires_by, goes_to}
use Rattle.vmx_replay_worlds.specs.Ports.{IsOutOf, HaveRoom}
use Rattle.vmx_replay_worlds.specs.Moves.{noted_all}
use Rattle.vmx_replay_worlds.proofs.Lists.{at_twice, at_same, at_stays, set_is, get_set, set_set, set_same}
use Rattle.vmx_replay_worlds.proofs.Queues.{OnlyAt, where_only, find_only, only_named}
use Rattle.vmx_replay_worlds.proofs.Links.{FromPorts, out_pushes, wires_push, pushed_is}

-- ------------------------------------------------------------ links of one port

named : (port k : ℕ) (os : List LinkOutView) → EachQueue (IsOutOf port) k os → EachQueue (λ (n : ℕ) (o : LinkOutView). o.to ≡ other port n) k os
named port k [] h = tt
named port k (o ∷ os) h = (h.0.1, named port (suc k) os h.1)

-- one link of a port goes to its j-th other port
pub only_out : (port j to : ℕ) (os : List LinkOutView) → to ≡ other port j → EachQueue (IsOutOf port) 0 os → OnlyAt (goes_to to) j os
only_out port j to os e h = subst (λ (n : ℕ). OnlyAt (goes_to n) j os) (sym e) (only_named (λ (o : LinkOutView). o.to) (other port) (other_once port) j os (named port 0 os h))

-- the ports of links stay
where_out : (port k to : ℕ) (x : Packet) (os : List LinkOutView) → EachQueue (IsOutOf port) k os → EachQueue (IsOutOf port) k (where_it (goes_to to) (out_pushes x) os)
where_out port k to x [] h = tt
where_out port k to x (o ∷ os) h = (one (goes_to to o), where_out port (suc k) to x os h.1)
  where
    one : (b : Bool) → IsOutOf port k (if b then out_pushes x o else o)
    one true = h.0
    one false = h.0

where_from : (k to : ℕ) (x : Packet) (os : List LinkOutView) → AllByRecursion (λ (o : LinkOutView). o.from ≡ k) os → AllByRecursion (λ (o : LinkOutView). o.from ≡ k) (where_it (goes_to to) (out_pushes x) os)
where_from k to x [] h = tt
where_from k to x (o ∷ os) h = (one (goes_to to o), where_from k to x os h.1)
  where
    one : (b : Bool) → (if b then out_pushes x o else o).from ≡ k
    one true = h.0
    one false = h.0

from_kept : (k n to : ℕ) (x : Packet) (outs : List (List LinkOutView)) → FromPorts k outs → FromPorts k (at_number n (where_it (goes_to to) (out_pushes x)) outs)
from_kept k n to x [] h = tt
from_kept k zero to x (os ∷ outs) h = (where_from k to x os h.0, h.1)
from_kept k (suc n) to x (os ∷ outs) h = (h.0, from_kept (suc k) n to x outs h.1)

-- ------------------------------------------------------------ room

room_here : (n j : ℕ) (os : List LinkOutView) (l : LinkOutView) → HaveRoom (suc n) os → slice_get os j ≡ Some l → length l.pushed < length l.freed + l.capacity
room_here n j [] l h e = absurd (cc e)
room_here n zero (o ∷ os) l h e = let is : o ≡ l = cc e in subst (λ (x : LinkOutView). length x.pushed < length x.freed + x.capacity) is (let room = h.0 in omega (arith, room))
room_here n (suc j) (o ∷ os) l h e = room_here n j os l h.1 e

room_left : (to n : ℕ) (x : Packet) (os : List LinkOutView) → HaveRoom (suc n) os → HaveRoom n (where_it (goes_to to) (out_pushes x) os)
room_left to n x [] h = tt
room_left to n x (o ∷ os) h = (one (goes_to to o), room_left to n x os h.1)
  where
    one : (b : Bool) → length (if b then out_pushes x o else o).pushed + n ≤ length (if b then out_pushes x o else o).freed + (if b then out_pushes x o else o).capacity
    one true = let room = h.0 in let l = length-append o.pushed (x ∷ []) in omega (arith, room, l)
    one false = let room = h.0 in omega (arith, room)

-- ------------------------------------------------------------ all targets

module _ (t : Tag) (f : List ℕ) (ins : List (List LinkInView)) where
  abbrev world_with : List Seat → List (List LinkOutView) → World
  world_with seats outs = record { seats = seats; wires = wires_by outs ins }

  -- one target
  put_one : (n : ℕ) (seats : List Seat) (outs : List (List LinkOutView)) (os mid : List LinkOutView) (to : ℕ) (w : Way) → FromPorts 0 outs → EachQueue (IsOutOf t.guest) 0 os → slice_get outs t.guest ≡ Some os → HaveRoom (suc n) os → SendsTo t.guest t f to w os mid
      → (put_out t f (world_with seats outs) to ≡ world_with (at_number t.guest (noted (entry.Out t to w)) seats) (set outs t.guest mid))
      × (x : Packet) × (mid ≡ where_it (goes_to to) (out_pushes x) os)
  put_one n seats outs os mid to w from ports at room p = by_way w p.after p.pushed p.is
    where
      only : OnlyAt (goes_to to) p.number os
      only = only_out t.guest p.number to os p.target ports

      there_ : find (goes_to to) os ≡ Some p.link
      there_ = find_only (goes_to to) p.number os p.link only p.at

      carried : carried_of p.packet ≡ record { tag = t; frame = f }
      carried = ap₂ (λ (a : Tag) (b : List ℕ). record { tag = a; frame = b }) p.tagged p.holds

      by_way : (w : Way) (after : LinkOutView) → Pushed p.link p.packet w after → mid ≡ set os p.number after
          → (put_out t f (world_with seats outs) to ≡ world_with (at_number t.guest (noted (entry.Out t to w)) seats) (set outs t.guest mid)) × (x : Packet) × (mid ≡ where_it (goes_to to) (out_pushes x) os)
      by_way (way.Full look) after h is = let r = room_here n p.number os p.link room p.at in let full = h.1.2 in absurd (omega (arith, r, full))
      by_way (way.Link place) after h is =
          let mid_is : mid ≡ where_it (goes_to to) (out_pushes p.packet) os = is ∙ set_is os p.number (out_pushes p.packet) p.link after p.at h.1 ∙ sym (where_only (goes_to to) (out_pushes p.packet) p.number os only) in
          let place_is : pushed_on (wires_by outs ins) t.guest to ≡ place = pushed_is ins t.guest to outs os p.link from at there_ ∙ sym h.0 in
          let wires : where_it (is_wire t.guest to) (pushes (record { tag = t; frame = f })) (wires_by outs ins) ≡ wires_by (set outs t.guest mid) ins =
          ap (λ (c : Carried). where_it (is_wire t.guest to) (pushes c) (wires_by outs ins)) (sym carried) ∙ sym (wires_push ins p.packet t.guest to outs from)
          ∙ ap (λ (o : List (List LinkOutView)). wires_by o ins) (sym (set_is outs t.guest (where_it (goes_to to) (out_pushes p.packet)) os mid at mid_is)) in
          (ap₂ (λ (k : ℕ) (ws : List Wire). record { seats = at_number t.guest (noted (entry.Out t to (way.Link k))) seats; wires = ws }) place_is wires, p.packet, mid_is)

  none_noted : (s : Seat) → noted_all [] s ≡ s
  none_noted s = ap (λ (xs : List Entry). record s { entries = xs }) (append-nil s.entries)

  pub puts_each : (tos : List ℕ) (seats : List Seat) (outs : List (List LinkOutView)) (os new : List LinkOutView) (es : List Entry) → FromPorts 0 outs → EachQueue (IsOutOf t.guest) 0 os → slice_get outs t.guest ≡ Some os → HaveRoom (length tos) os → PutsOut t.guest t f tos es os new
      → fold (put_out t f) (world_with seats outs) tos ≡ world_with (at_number t.guest (noted_all es) seats) (set outs t.guest new)
  puts_each [] seats outs os new es from ports at room p =
      ap₂ world_with (sym (ap (λ (x : List Entry). at_number t.guest (noted_all x) seats) p.0 ∙ at_stays t.guest (noted_all []) none_noted seats)) (sym (set_same outs t.guest os new at p.1))
  puts_each (to ∷ tos) seats outs os new es from ports at room (w, (rest, (mid, is, sends, more))) =
      let one = put_one (length tos) seats outs os mid to w from ports at room sends in
      let x : Packet = one.1 in
      let outs' : List (List LinkOutView) = set outs t.guest mid in
      let from' : FromPorts 0 outs' = subst (FromPorts 0) (sym (set_is outs t.guest (where_it (goes_to to) (out_pushes x)) os mid at one.2)) (from_kept 0 t.guest to x outs from) in
      let ports' : EachQueue (IsOutOf t.guest) 0 mid = subst (EachQueue (IsOutOf t.guest) 0) (sym one.2) (where_out t.guest 0 to x os ports) in
      let room' : HaveRoom (length tos) mid = subst (HaveRoom (length tos)) (sym one.2) (room_left to (length tos) x os room) in
      ap (λ (v : World). fold (put_out t f) v tos) one.0
      ∙ puts_each tos (at_number t.guest (noted (entry.Out t to w)) seats) outs' mid new rest from' ports' (get_set outs t.guest os mid at) room' more
      ∙ ap₂ world_with
      (at_twice t.guest (noted_all rest) (noted (entry.Out t to w)) seats ∙ at_same t.guest (λ (s : Seat). noted_all rest (noted (entry.Out t to w) s)) (noted_all (entry.Out t to w ∷ rest)) (λ s. ap (λ (xs : List Entry). record s { entries = xs }) (append_assoc s.entries (entry.Out t to w ∷ []) rest)) seats ∙ ap (λ (xs : List Entry). at_number t.guest (noted_all xs) seats) (sym is))
      (set_set outs t.guest mid new)
