-- A packet that a guest's device pushes on a link is pushed on the world's wire.
use Rattle.std.proofs.Common.{◌≡◌, ℕ, zero, suc, ◌+◌, ◌<◌, Bool, true, false, List, [], ◌∷◌, ◌++◌, length, map, refl, ap, ap₂, sym, ◌∙◌, arith, nat_eq, Some, subst, if◌then◌else◌}
use Rattle.std.specs.Prelude.{◌&&◌}
use Rattle.std.specs.Option.{option_map}
use Rattle.std.proofs.lemmas.List.{length-map}
use Rattle.std.proofs.lemmas.Bool.Decides.{nat_tests}
use Rattle.std.specs.List.{find, slice_get, AllByRecursion}
use Rattle.vmx_ends.specs.declared.packet.Packet.{Packet}
use Rattle.vmx_link.specs.Views.{LinkOutView, LinkInView}
use Rattle.vmx_model.specs.Bags.{EachQueue}
use Rattle.vmx_model.specs.Record.{carried_of}
use Rattle.vmx_model.specs.Serial.{Wire, Carried, at_number, where_it, is_wire, pushed_of, pushed_on}
use Rattle.vmx_model.specs.Turns.{pushes}
use Rattle.vmx_replay_worlds.specs.Guests.{GuestView}
use Rattle.vmx_replay_worlds.specs.Worlds.{wire_by, wires_by, goes_to, outs_of}
use Rattle.vmx_replay_worlds.specs.Ports.{IsOutOf, IsAtPort}
use Rattle.vmx_replay_worlds.proofs.Lists.{map_push}
use Rattle.vmx_replay_worlds.proofs.Queues.{where_append, find_behind}

-- a packet is pushed on one end
abbrev pub out_pushes : Packet → LinkOutView → LinkOutView
out_pushes x o = record o { pushed = o.pushed ++ x ∷ [] }

-- the links out of each port, the first with the number k
abbrev pub FromPorts : ℕ → List (List LinkOutView) → Type 0
FromPorts k [] = Unit {0}
FromPorts k (os ∷ outs) = AllByRecursion (λ (o : LinkOutView). o.from ≡ k) os × FromPorts (suc k) outs

from_each : (port k : ℕ) (os : List LinkOutView) → EachQueue (IsOutOf port) k os → AllByRecursion (λ (o : LinkOutView). o.from ≡ port) os
from_each port k [] h = tt
from_each port k (o ∷ os) h = (h.0.0, from_each port (suc k) os h.1)

-- guests at their ports have such links
pub from_ports : (k : ℕ) (rs : List GuestView) → EachQueue IsAtPort k rs → FromPorts k (outs_of rs)
from_ports k [] h = tt
from_ports k (r ∷ rs) h = (from_each k 0 r.device.out h.0.out, from_ports (suc k) rs h.1)

module _ (ins : List (List LinkInView)) (x : Packet) (g to : ℕ) where
  -- links out of other ports
  others_stay : (k : ℕ) (os : List LinkOutView) → (k ≡ g → ⊥) → AllByRecursion (λ (o : LinkOutView). o.from ≡ k) os → where_it (is_wire g to) (pushes (carried_of x)) (map (wire_by ins) os) ≡ map (wire_by ins) os
  others_stay k [] away h = refl
  others_stay k (o ∷ os) away h =
      let e = h.0 in let ne : o.from ≡ g → ⊥ = λ f. away (sym e ∙ f) in let no : nat_eq o.from g ≡ false = grind (arith, nat_tests) in
      ap₂ (λ (w : Wire) (ws : List Wire). w ∷ ws) (ap (λ (b : Bool). if b && nat_eq o.to to then pushes (carried_of x) (wire_by ins o) else wire_by ins o) no) (others_stay k os away h.1)

  -- those of the sender
  own_push : (os : List LinkOutView) → AllByRecursion (λ (o : LinkOutView). o.from ≡ g) os → map (wire_by ins) (where_it (goes_to to) (out_pushes x) os) ≡ where_it (is_wire g to) (pushes (carried_of x)) (map (wire_by ins) os)
  own_push [] h = refl
  own_push (o ∷ os) h =
      let e = h.0 in let yes : nat_eq o.from g ≡ true = grind (arith, nat_tests) in
      ap₂ (λ (w : Wire) (ws : List Wire). w ∷ ws) (one (nat_eq o.to to) ∙ sym (ap (λ (b : Bool). if b && nat_eq o.to to then pushes (carried_of x) (wire_by ins o) else wire_by ins o) yes)) (own_push os h.1)
    where
      one : (b : Bool) → wire_by ins (if b then out_pushes x o else o) ≡ (if true && b then pushes (carried_of x) (wire_by ins o) else wire_by ins o)
      one true = ap (λ (ps : List Carried). record (wire_by ins o) { pushed = ps }) (map_push carried_of o.pushed x)
      one false = refl

  all_stay : (k : ℕ) (outs : List (List LinkOutView)) → g < k → FromPorts k outs → where_it (is_wire g to) (pushes (carried_of x)) (wires_by outs ins) ≡ wires_by outs ins
  all_stay k [] lt h = refl
  all_stay k (os ∷ outs) lt h = where_append (is_wire g to) (pushes (carried_of x)) (map (wire_by ins) os) (wires_by outs ins)
      ∙ ap₂ (λ (xs ys : List Wire). xs ++ ys) (others_stay k os (λ e. absurd (omega (arith, lt, e))) h.0) (all_stay (suc k) outs (omega (arith, lt)) h.1)

  push_from : (k j : ℕ) (outs : List (List LinkOutView)) → k + j ≡ g → FromPorts k outs → wires_by (at_number j (where_it (goes_to to) (out_pushes x)) outs) ins ≡ where_it (is_wire g to) (pushes (carried_of x)) (wires_by outs ins)
  push_from k j [] e h = refl
  push_from k zero (os ∷ outs) e h =
      let same : k ≡ g = omega (arith, e) in
      ap₂ (λ (xs ys : List Wire). xs ++ ys) (own_push os (subst (λ (n : ℕ). AllByRecursion (λ (o : LinkOutView). o.from ≡ n) os) same h.0)) (sym (all_stay (suc k) outs (omega (arith, same)) h.1))
      ∙ sym (where_append (is_wire g to) (pushes (carried_of x)) (map (wire_by ins) os) (wires_by outs ins))
  push_from k (suc j) (os ∷ outs) e h =
      ap₂ (λ (xs ys : List Wire). xs ++ ys) (sym (others_stay k os (λ f. absurd (omega (arith, e, f))) h.0)) (push_from (suc k) j outs (omega (arith, e)) h.1)
      ∙ sym (where_append (is_wire g to) (pushes (carried_of x)) (map (wire_by ins) os) (wires_by outs ins))

  pub wires_push : (outs : List (List LinkOutView)) → FromPorts 0 outs → wires_by (at_number g (where_it (goes_to to) (out_pushes x)) outs) ins ≡ where_it (is_wire g to) (pushes (carried_of x)) (wires_by outs ins)
  wires_push outs h = push_from 0 g outs (omega arith) h

module _ (ins : List (List LinkInView)) (g to : ℕ) where
  none_of : (k : ℕ) (os : List LinkOutView) → (k ≡ g → ⊥) → AllByRecursion (λ (o : LinkOutView). o.from ≡ k) os → AllByRecursion (λ (w : Wire). is_wire g to w ≡ false) (map (wire_by ins) os)
  none_of k [] away h = tt
  none_of k (o ∷ os) away h =
      let e = h.0 in let ne : o.from ≡ g → ⊥ = λ f. away (sym e ∙ f) in let no : nat_eq o.from g ≡ false = grind (arith, nat_tests) in
      (ap (λ (b : Bool). b && nat_eq o.to to) no, none_of k os away h.1)

  own_find : (os : List LinkOutView) (l : LinkOutView) (rest : List Wire) → AllByRecursion (λ (o : LinkOutView). o.from ≡ g) os → find (goes_to to) os ≡ Some l → find (is_wire g to) (map (wire_by ins) os ++ rest) ≡ Some (wire_by ins l)
  own_find [] l rest h e = absurd (cc e)
  own_find (o ∷ os) l rest h e =
      let f = h.0 in let yes : nat_eq o.from g ≡ true = grind (arith, nat_tests) in one (nat_eq o.to to) refl yes e (own_find os l rest h.1)
    where
      one : (b : Bool) → nat_eq o.to to ≡ b → nat_eq o.from g ≡ true → find (goes_to to) (o ∷ os) ≡ Some l → (find (goes_to to) os ≡ Some l → find (is_wire g to) (map (wire_by ins) os ++ rest) ≡ Some (wire_by ins l)) → find (is_wire g to) (wire_by ins o ∷ (map (wire_by ins) os ++ rest)) ≡ Some (wire_by ins l)
      one true t ours e ih = let same : Some o ≡ Some l = rw t at e in rw (ours, t) (ap (option_map (wire_by ins)) same)
      one false t ours e ih = rw (ours, t) (ih (rw t at e))

  find_from : (k j : ℕ) (outs : List (List LinkOutView)) (os : List LinkOutView) (l : LinkOutView) → k + j ≡ g → FromPorts k outs → slice_get outs j ≡ Some os → find (goes_to to) os ≡ Some l → find (is_wire g to) (wires_by outs ins) ≡ Some (wire_by ins l)
  find_from k j [] os l e h at f = absurd (cc at)
  find_from k zero (o ∷ outs) os l e h at f =
      let same : k ≡ g = omega (arith, e) in let here : o ≡ os = cc at in
      own_find o l (wires_by outs ins) (subst (λ (n : ℕ). AllByRecursion (λ (x : LinkOutView). x.from ≡ n) o) same h.0) (ap (find (goes_to to)) here ∙ f)
  find_from k (suc j) (o ∷ outs) os l e h at f =
      find_behind (is_wire g to) (map (wire_by ins) o) (wires_by outs ins) (none_of k o (λ x. absurd (omega (arith, e, x))) h.0) ∙ find_from (suc k) j outs os l (omega (arith, e)) h.1 at f

  -- the world's wire is that of the sender's link
  pub found_wire : (outs : List (List LinkOutView)) (os : List LinkOutView) (l : LinkOutView) → FromPorts 0 outs → slice_get outs g ≡ Some os → find (goes_to to) os ≡ Some l → find (is_wire g to) (wires_by outs ins) ≡ Some (wire_by ins l)
  found_wire outs os l h at f = find_from 0 g outs os l (omega arith) h at f

  -- the place of the next packet is the world's
  pub pushed_is : (outs : List (List LinkOutView)) (os : List LinkOutView) (l : LinkOutView) → FromPorts 0 outs → slice_get outs g ≡ Some os → find (goes_to to) os ≡ Some l → pushed_on (wires_by outs ins) g to ≡ length l.pushed
  pushed_is outs os l h at f = ap pushed_of (find_from 0 g outs os l (omega arith) h at f) ∙ length-map l.pushed carried_of
