-- New guests stand for the world in which nobody is activated, and activating one after the other leads to the start of the serial run.
use Rattle.std.proofs.Common.{◌≡◌, ℕ, zero, suc, ◌+◌, ◌<◌, ◌≤◌, Bool, true, false, List, [], ◌∷◌, ◌++◌, length, map, refl, ap, ap₂, sym, ◌∙◌, arith, nat_eq, Option, Some, inl, inr}
use Rattle.std.specs.Prelude.{not, is_some}
use Rattle.std.specs.List.{filter, find, flat_map, slice_get, AllByRecursion}
use Rattle.std.proofs.lemmas.Bool.Decides.{nat_tests, eqb_tells}
use Rattle.vmx_link.specs.Views.{LinkOutView, LinkInView}
use Rattle.vmx_device_state.specs.SetupView.{setup_view}
use Rattle.vmx_machine_state.specs.Views.{ActiveView}
use Rattle.vmx_model.specs.declared.guest.GuestPlan.{GuestPlan}
use Rattle.vmx_model.specs.declared.plan.Plan.{Plan}
use Rattle.vmx_model.specs.Bags.{EachQueue}
use Rattle.vmx_model.specs.Lists.{count, upto}
use Rattle.vmx_model.specs.Record.{carried_of}
use Rattle.vmx_model.specs.Serial.{Seat, Wire, at_number, activated, fresh, seats_from, wires_from, start}
use Rattle.vmx_model.specs.Turns.{at_guest}
use Rattle.vmx_device_looks.specs.Ports.{other}
use Rattle.vmx_device_looks.specs.PortLaws.{other_is}
use Rattle.vmx_device_laws.specs.New.{IsNewOut, IsNewIn}
use Rattle.vmx_driver_steps.specs.Driver.{DriverView}
use Rattle.vmx_replay_worlds.specs.Guests.{GuestView, is_arrival, seat_of}
use Rattle.vmx_replay_worlds.specs.Worlds.{comes_from, pulled_by, input_by, wire_by, wires_by, outs_of, ins_of, world_of}
use Rattle.vmx_replay_worlds.specs.Starts.{IsNewGuest, AreNewGuests, seats_to, started}

-- ------------------------------------------------------------ seats

new_seat : (n port : ℕ) (p : GuestPlan) (r : GuestView) → IsNewGuest n port p r → seat_of r ≡ fresh p
new_seat n port p r h =
    ap (λ (v : DriverView). seat_of (record r { driver = v })) h.driver
    ∙ (λ i. record (fresh p) { active = ap (λ (o : Option ActiveView). is_some o) h.idle i; seen = ap (count is_arrival) h.entries i; entries = h.entries i; setups = ap (map setup_view) h.setups i })

new_seats : (n port : ℕ) (ps : List GuestPlan) (rs : List GuestView) → AreNewGuests n port ps rs → map seat_of rs ≡ map fresh ps
new_seats n port [] [] h = refl
new_seats n port [] (r ∷ rs) h = absurd h
new_seats n port (p ∷ ps) [] h = absurd h
new_seats n port (p ∷ ps) (r ∷ rs) h = ap₂ (λ (s : Seat) (ss : List Seat). s ∷ ss) (new_seat n port p r h.0) (new_seats n (suc port) ps rs h.1)

-- ------------------------------------------------------------ links

abbrev bare : ℕ → ℕ → Wire
bare from to = record { from = from; to = to; pushed = []; pulled = [] }

abbrev AreEmptyIn : List LinkInView → Type 0
AreEmptyIn is = AllByRecursion (λ (i : LinkInView). i.pulled ≡ []) is

new_in_empty : (port k : ℕ) (is : List LinkInView) → EachQueue (IsNewIn port) k is → AreEmptyIn is
new_in_empty port k [] h = tt
new_in_empty port k (i ∷ is) h = (ap (λ (x : LinkInView). x.pulled) h.0, new_in_empty port (suc k) is h.1)

all_in_empty : (n port : ℕ) (ps : List GuestPlan) (rs : List GuestView) → AreNewGuests n port ps rs → AllByRecursion AreEmptyIn (ins_of rs)
all_in_empty n port [] [] h = tt
all_in_empty n port [] (r ∷ rs) h = absurd h
all_in_empty n port (p ∷ ps) [] h = absurd h
all_in_empty n port (p ∷ ps) (r ∷ rs) h = (new_in_empty port 0 r.device.input h.0.input, all_in_empty n (suc port) ps rs h.1)

find_empty : (from : ℕ) (is : List LinkInView) → AreEmptyIn is → pulled_by (find (comes_from from) is) ≡ []
find_empty from [] h = refl
find_empty from (i ∷ is) h = step (nat_eq i.from from) refl (find_empty from is h.1)
  where
    step : (b : Bool) → nat_eq i.from from ≡ b → pulled_by (find (comes_from from) is) ≡ [] → pulled_by (find (comes_from from) (i ∷ is)) ≡ []
    step true e ih = rw e h.0
    step false e ih = rw e ih

none_pulled : (ins : List (List LinkInView)) (from to : ℕ) → AllByRecursion AreEmptyIn ins → pulled_by (input_by from (slice_get ins to)) ≡ []
none_pulled [] from to h = refl
none_pulled (is ∷ ins) from zero h = find_empty from is h.0
none_pulled (is ∷ ins) from (suc to) h = none_pulled ins from to h.1

-- the wires out of one port
out_wires : (ins : List (List LinkInView)) (port k : ℕ) (os : List LinkOutView) → AllByRecursion AreEmptyIn ins → EachQueue (IsNewOut port) k os → map (wire_by ins) os ≡ map (λ (j : ℕ). bare port (other port j)) (upto k (length os))
out_wires ins port k [] empty h = refl
out_wires ins port k (o ∷ os) empty h =
    let next : suc k ≡ k + 1 = omega arith in
    let one : wire_by ins o ≡ bare port (other port k) = (λ i. record {
      from = ap (λ (x : LinkOutView). x.from) h.0 i;
      to = ap (λ (x : LinkOutView). x.to) h.0 i;
      pushed = ap (λ (x : LinkOutView). map carried_of x.pushed) h.0 i;
      pulled = ap (map carried_of) (none_pulled ins o.from o.to empty) i;
    }) in
    ap₂ (λ (w : Wire) (ws : List Wire). w ∷ ws) one (out_wires ins port (suc k) os empty h.1 ∙ ap (λ (n : ℕ). map (λ (j : ℕ). bare port (other port j)) (upto n (length os))) next)

-- the wires of the serial run out of one port: all others, in order
abbrev kept : Wire → Bool
kept l = not (nat_eq l.from l.to)

other_low : (port j : ℕ) → j < port → other port j ≡ j
other_low port j lt = elim (other_is port j) [ inl h ↦ h.1 | inr h ↦ absurd (let le = h.0 in omega (arith, le, lt)) ]

other_high : (port j : ℕ) → port ≤ j → other port j ≡ suc j
other_high port j le = elim (other_is port j) [ inl h ↦ absurd (let lt = h.0 in omega (arith, le, lt)) | inr h ↦ h.1 ]

above : (port j m : ℕ) → port ≤ j → filter kept (map (bare port) (upto (suc j) m)) ≡ map (λ (i : ℕ). bare port (other port i)) (upto j m)
above port j zero le = refl
above port j (suc m) le =
    let ne : port ≡ suc j → ⊥ = λ e. absurd (omega (arith, e, le)) in let no : nat_eq port (suc j) ≡ false = grind (arith, nat_tests) in
    let a : suc j + 1 ≡ suc (j + 1) = omega arith in
    let ih = above port (j + 1) m (omega (arith, le)) in
    rw no (ap₂ (λ (t : ℕ) (ws : List Wire). bare port t ∷ ws) (sym (other_high port j le)) (ap (λ (n : ℕ). filter kept (map (bare port) (upto n m))) a ∙ ih))

below : (port j m : ℕ) → j ≤ port → port < j + suc m → filter kept (map (bare port) (upto j (suc m))) ≡ map (λ (i : ℕ). bare port (other port i)) (upto j m)
below port j zero le lt =
    let e : port ≡ j = omega (arith, le, lt) in let yes : nat_eq port j ≡ true = grind (arith, nat_tests) in rw yes refl
below port j (suc m) le lt = elim (eqb_tells port j) [
  | inl same ↦ (
      let a : j + 1 ≡ suc j = omega arith in
      rw same.0 (ap (λ (n : ℕ). filter kept (map (bare port) (upto n (suc m)))) a ∙ above port j (suc m) (let e = same.1 in omega (arith, e)))
      )
  | inr away ↦ (
      let less : j < port = (let ne = away.1 in omega (arith, le, ne)) in
      rw away.0 (ap₂ (λ (t : ℕ) (ws : List Wire). bare port t ∷ ws) (sym (other_low port j less)) (below port (j + 1) m (omega (arith, less)) (omega (arith, lt))))
      )
]

from_wires : (n port : ℕ) → port < suc n → wires_from (suc n) port ≡ map (λ (i : ℕ). bare port (other port i)) (upto 0 n)
from_wires n port lt = below port 0 n (omega arith) (omega (arith, lt))

all_wires : (ins : List (List LinkInView)) (n port : ℕ) (ps : List GuestPlan) (rs : List GuestView) → AllByRecursion AreEmptyIn ins → port + length ps ≤ n → AreNewGuests n port ps rs → wires_by (outs_of rs) ins ≡ flat_map (wires_from n) (upto port (length ps))
all_wires ins n port [] [] empty le h = refl
all_wires ins n port [] (r ∷ rs) empty le h = absurd h
all_wires ins n port (p ∷ ps) [] empty le h = absurd h
all_wires ins n port (p ∷ ps) (r ∷ rs) empty le h =
    let many = h.0.many in let next : suc port ≡ port + 1 = omega arith in
    let one : map (wire_by ins) r.device.out ≡ wires_from n port =
    out_wires ins port 0 r.device.out empty h.0.out ∙ sym (from_wires (length r.device.out) port (omega (arith, le, many))) ∙ ap (λ (k : ℕ). wires_from k port) many in
    ap₂ (λ (xs ys : List Wire). xs ++ ys) one (all_wires ins n (suc port) ps rs empty (omega (arith, le)) h.1 ∙ ap (λ (k : ℕ). flat_map (wires_from n) (upto k (length ps))) next)

-- ------------------------------------------------------------ the start

pub new_world : (plan : Plan) (rs : List GuestView) → AreNewGuests (length plan.guests) 0 plan.guests rs → world_of rs ≡ started 0 plan
new_world plan rs h = ap₂ (λ (ss : List Seat) (ws : List Wire). record { seats = ss; wires = ws }) (new_seats (length plan.guests) 0 plan.guests rs h)
    (all_wires (ins_of rs) (length plan.guests) 0 plan.guests rs (all_in_empty (length plan.guests) 0 plan.guests rs h) (omega arith) h)

-- whatever an activation does
module _ (act : ℕ → GuestPlan → Seat → Seat) (new : GuestPlan → Seat) where
  abbrev seats_by : ℕ → ℕ → List GuestPlan → List Seat
  seats_by port zero gs = map new gs
  seats_by port (suc k) [] = []
  seats_by port (suc k) (g ∷ gs) = act port g (new g) ∷ seats_by (port + 1) k gs

  next_first : (port : ℕ) (gs : List GuestPlan) (x g : GuestPlan) → port + 0 ≡ port → Some x ≡ Some g → act (port + 0) g (new x) ∷ map new gs ≡ act port x (new x) ∷ map new gs
  next_first port gs x g z e = let same : g ≡ x = cc e in λ i. act (z i) (same i) (new x) ∷ map new gs

  next_later : (port k : ℕ) (gs : List GuestPlan) (x g : GuestPlan) → port + suc k ≡ port + 1 + k → at_number k (act (port + 1 + k) g) (seats_by (port + 1) k gs) ≡ seats_by (port + 1) (suc k) gs
      → act port x (new x) ∷ at_number k (act (port + suc k) g) (seats_by (port + 1) k gs) ≡ act port x (new x) ∷ seats_by (port + 1) (suc k) gs
  next_later port k gs x g z e = ap (λ (n : ℕ). act port x (new x) ∷ at_number k (act n g) (seats_by (port + 1) k gs)) z ∙ ap (λ (ss : List Seat). act port x (new x) ∷ ss) e

  next_by : (port k : ℕ) (gs : List GuestPlan) (g : GuestPlan) → slice_get gs k ≡ Some g → at_number k (act (port + k) g) (seats_by port k gs) ≡ seats_by port (suc k) gs
  next_by port k [] g e = absurd (cc e)
  next_by port zero (x ∷ gs) g e = next_first port gs x g (omega arith) e
  next_by port (suc k) (x ∷ gs) g e = next_later port k gs x g (omega arith) (next_by (port + 1) k gs g e)

seats_are : (port k : ℕ) (gs : List GuestPlan) → seats_to port k gs ≡ seats_by activated fresh port k gs
seats_are port zero gs = refl
seats_are port (suc k) [] = refl
seats_are port (suc k) (g ∷ gs) = ap (λ (ss : List Seat). activated port g (fresh g) ∷ ss) (seats_are (port + 1) k gs)

next_seat : (port k : ℕ) (gs : List GuestPlan) (g : GuestPlan) → slice_get gs k ≡ Some g → at_number k (activated (port + k) g) (seats_to port k gs) ≡ seats_to port (suc k) gs
next_seat port k gs g e = ap (at_number k (activated (port + k) g)) (seats_are port k gs) ∙ next_by activated fresh port k gs g e ∙ sym (seats_are port (suc k) gs)

-- one guest more is activated
pub next_started : (plan : Plan) (k : ℕ) (g : GuestPlan) → slice_get plan.guests k ≡ Some g → at_guest k (activated k g) (started k plan) ≡ started (suc k) plan
next_started plan k g e = let z : k ≡ 0 + k = omega arith in
    ap (λ (n : ℕ). at_guest k (activated n g) (started k plan)) z ∙ ap (λ (ss : List Seat). record (start plan) { seats = ss }) (next_seat 0 k plan.guests g e)

last_seats : (port : ℕ) (gs : List GuestPlan) → seats_to port (length gs) gs ≡ seats_from port gs
last_seats port [] = refl
last_seats port (g ∷ gs) = ap (λ (ss : List Seat). activated port g (fresh g) ∷ ss) (last_seats (port + 1) gs)

-- all are
pub last_started : (plan : Plan) → started (length plan.guests) plan ≡ start plan
last_started plan = ap (λ (ss : List Seat). record (start plan) { seats = ss }) (last_seats 0 plan.guests)
