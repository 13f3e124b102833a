-- A copy that reaches its target, and the links that are left.
use Rattle.std.proofs.Common.{◌≡◌, ◌≢◌, ℕ, Bool, true, false, true≢false, List, [], ◌∷◌, refl, ap, sym, ◌∙◌, arith, nat_eq, Option, Some, None, if◌then◌else◌}
use Rattle.std.specs.Prelude.{is_some, ◌&&◌}
use Rattle.std.specs.List.{AllByRecursion}
use Rattle.std.proofs.lemmas.Bool.Decides.{nat_tests}
use Rattle.vmx_model.specs.Serial.{World, Seat, Wire, Carried, where_it, is_wire}
use Rattle.vmx_model.specs.Turns.{pulls, next_on, IsEmptied, AreEmptied}
use Rattle.vmx_replay_runs.specs.Runs.{RunView, changes, looks, looked, found, ComesFrom}
use Rattle.vmx_replay_order.specs.Orders.{polled_due, arrives, arrives_by}
use Rattle.vmx_replay_order.proofs.Guests.{at_twice}

-- where a look found a packet, polls follow where they are due
pub arrived_one : (from to : ℕ) (r s : RunView) → s ≡ looks from to r → true ≡ found from to r → changes to (polled_due s.plan.poll_every) s ≡ arrives from r to
arrived_one from to r s e some = ap (λ (x : RunView). changes to (polled_due x.plan.poll_every) x) e ∙ by_next (next_on r.world.wires from to) some
  where
    by_next : (o : Option Carried) → true ≡ is_some o → changes to (polled_due r.plan.poll_every) (record r { world = looked r.plan from to r.world o }) ≡ record r { world = arrives_by r.plan from to r.world o }
    by_next None h = absurd (cc h)
    by_next (Some p) h = ap (λ (ss : List Seat). record r { world = record (looked r.plan from to r.world (Some p)) { seats = ss } }) (at_twice to (polled_due r.plan.poll_every) _ r.world.seats)

-- where it found none, nothing reaches the target
pub arrived_none : (from to : ℕ) (r s : RunView) → s ≡ looks from to r → false ≡ found from to r → s ≡ arrives from r to
arrived_none from to r s e none = e ∙ by_next (next_on r.world.wires from to) none
  where
    by_next : (o : Option Carried) → false ≡ is_some o → record r { world = looked r.plan from to r.world o } ≡ record r { world = arrives_by r.plan from to r.world o }
    by_next None h = refl
    by_next (Some p) h = absurd (cc h)

-- ------------------------------------------------------------ what waits

is_from : (from to : ℕ) (l : Wire) → is_wire from to l ≡ true → l.from ≡ from
is_from from to l e = left (nat_eq l.from from) (nat_eq l.to to) refl e
  where
    left : (a b : Bool) → nat_eq l.from from ≡ a → (a && b) ≡ true → l.from ≡ from
    left true b h e = grind (arith, nat_tests)
    left false b h e = absurd (true≢false (sym e))

-- a change of a link from a port leaves the others emptied
pub others_emptied : (from to : ℕ) (change : Wire → Wire) → ((l : Wire) → (change l).from ≡ l.from) → (ws : List Wire)
    → AllByRecursion (λ (l : Wire). l.from ≢ from → IsEmptied l) ws → AllByRecursion (λ (l : Wire). l.from ≢ from → IsEmptied l) (where_it (is_wire from to) change ws)
others_emptied from to change same [] h = tt
others_emptied from to change same (l ∷ ws) h = (one (is_wire from to l) refl, others_emptied from to change same ws h.1)
  where
    one : (b : Bool) → is_wire from to l ≡ b → (if b then change l else l).from ≢ from → IsEmptied (if b then change l else l)
    one true e away = absurd (away (same l ∙ is_from from to l e))
    one false e away = h.0 away

comes_by : (from to : ℕ) (r : RunView) (o : Option Carried) → ComesFrom from r.world → ComesFrom from (arrives_by r.plan from to r.world o)
comes_by from to r None h = h
comes_by from to r (Some p) h = others_emptied from to (pulls p) (λ l. refl) r.world.wires h

-- an arrival leaves the links from other ports emptied
pub comes_on : (from to : ℕ) (r : RunView) → ComesFrom from r.world → ComesFrom from (arrives from r to).world
comes_on from to r h = comes_by from to r (next_on r.world.wires from to) h

-- emptied links wait for nothing
pub comes_ready : (from : ℕ) (w : World) → AreEmptied w → ComesFrom from w
comes_ready from w h = all w.wires h
  where
    all : (ws : List Wire) → AllByRecursion IsEmptied ws → AllByRecursion (λ (l : Wire). l.from ≢ from → IsEmptied l) ws
    all [] h = tt
    all (l ∷ ws) h = ((λ away. h.0), all ws h.1)
