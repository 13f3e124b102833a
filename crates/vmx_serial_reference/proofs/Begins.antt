-- The world before the first number, one link and one guest at a time.
use Rattle.std.proofs.Common.{◌≡◌, ℕ, zero, suc, ◌+◌, ◌<◌, ◌≤◌, Bool, true, false, cond, not, nat_eq, max, List, [], ◌∷◌, ◌++◌, length, map, drop, get_or, refl, sym, ap, ◌∙◌, arith, append_assoc, All, if◌then◌else◌}
use Rattle.std.specs.List.{filter, flat_map}
use Rattle.std.proofs.lemmas.List.{map-append, append-nil, at_drop_more, flat_map_more}
use Rattle.std.proofs.lemmas.List.Elements.{filter-append, All-nil, All-cons}
use Rattle.std.proofs.lemmas.Bool.{and_parts, leb-true}
use Rattle.vmx_model.specs.declared.deeds.Action.{Action}
use Rattle.vmx_model.specs.declared.guest.GuestPlan.{GuestPlan}
use Rattle.vmx_model.specs.Lists.{upto}
use Rattle.vmx_model.specs.Serial.{Wire, seats_from, fresh, start, last_at, last_number}
use Rattle.vmx_model.specs.declared.plan.Plan.{Plan}
use Rattle.vmx_model.specs.Deeds.{quiet_after}
use Rattle.vmx_model.specs.Ranges.{fits_deed, fits_from, is_within, is_in_turn}
use Rattle.vmx_model.specs.Totals.{records_of}
use Rattle.vmx_serial_queues.specs.Small.{IsWithin}
use Rattle.vmx_serial_seats.specs.Small.{IsSmall}
use Rattle.vmx_serial_reference.specs.Worlds.{empty_wire, IsOnTheWay}
use Rattle.vmx_serial_seats.proofs.SmallLaws.{queues_in, small_activated}
use Rattle.vmx_serial_queues.proofs.Made.{upto_more}

-- the links from a port to others below n
abbrev pub wires_up_to : ℕ → ℕ → List Wire
wires_up_to from n = filter (λ (l : Wire). not (nat_eq l.from l.to)) (map (empty_wire from) (upto 0 n))

wires_on : (from n : ℕ) → wires_up_to from (n + 1) ≡ wires_up_to from n ++ cond (not (nat_eq from n)) (empty_wire from n ∷ []) []
wires_on from n = ap (λ (ks : List ℕ). filter (λ (l : Wire). not (nat_eq l.from l.to)) (map (empty_wire from) ks)) (upto_more n) ∙ ap (filter (λ (l : Wire). not (nat_eq l.from l.to))) (map-append (empty_wire from) (upto 0 n) (n ∷ []))
    ∙ filter-append (λ (l : Wire). not (nat_eq l.from l.to)) (map (empty_wire from) (upto 0 n)) (empty_wire from n ∷ [])

-- one port more
pub wires_next : (from n : ℕ) (old now new : List Wire) → now ≡ old ++ wires_up_to from n → new ≡ (if nat_eq from n then now else now ++ empty_wire from n ∷ []) → new ≡ old ++ wires_up_to from (n + 1)
wires_next from n old now new was e = e ∙ by_test (nat_eq from n) ∙ ap (λ (ws : List Wire). old ++ ws) (sym (wires_on from n))
  where
    by_test : (b : Bool) → (if b then now else now ++ empty_wire from n ∷ []) ≡ old ++ (wires_up_to from n ++ cond (not b) (empty_wire from n ∷ []) [])
    by_test true = was ∙ ap (λ (ws : List Wire). old ++ ws) (sym (append-nil (wires_up_to from n)))
    by_test false = ap (λ (ws : List Wire). ws ++ empty_wire from n ∷ []) was ∙ append_assoc old (wires_up_to from n) (empty_wire from n ∷ [])

pub flat_next : {X : Type 0} (f : ℕ → List X) (n : ℕ) (now new : List X) → now ≡ flat_map f (upto 0 n) → new ≡ now ++ f n → new ≡ flat_map f (upto 0 (n + 1))
flat_next {X} f n now new was e = e ∙ ap (λ (xs : List X). xs ++ f n) was ∙ flat_map_more f [] (upto 0 n) n ∙ ap (flat_map f) (sym (upto_more n))

-- ------------------------------------------------------------ guests

seats_small : (port : ℕ) (gs : List GuestPlan) → All (IsSmall 1) (seats_from port gs)
seats_small port [] = All-nil (IsSmall 1)
seats_small port (g ∷ gs) = All-cons (IsSmall 1) _ _ (small_activated 0 port g (fresh g) (record { begun = omega arith; seen = omega arith; setups = omega arith; delivered = All-nil (IsWithin 0) })) (seats_small (port + 1) gs)

seats_queues : (port : ℕ) (gs : List GuestPlan) → map queues_in (seats_from port gs) ≡ map (λ (g : GuestPlan). g.setup.rx_queues) gs
seats_queues port [] = refl
seats_queues port (g ∷ gs) = ap (λ (qs : List ℕ). g.setup.rx_queues ∷ qs) (seats_queues (port + 1) gs)

-- the numbers at the start
pub way_start : (plan : Plan) → IsOnTheWay plan 1 (start plan)
way_start plan = record { queues = seats_queues 0 plan.guests; small = seats_small 0 plan.guests }
