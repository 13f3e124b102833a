-- What holds of all targets: other ports of the switch, each once, in port order.
use Rattle.std.proofs.Common.{◌≡◌, ◌≢◌, ℕ, zero, suc, ◌+◌, ◌<◌, Bool, true, false, nat_eq, List, [], ◌∷◌, length, slice_index_or, refl, ap, ◌∙◌, arith}
use Rattle.std.specs.List.{All, Contains, filter, range_with_len}
use Rattle.std.specs.List.Sorted.{IsStrictlyIncreasing}
use Rattle.std.proofs.lemmas.Bool.{and_parts, not-true, eqb-false}
use Rattle.std.proofs.lemmas.List.Elements.{All-filter, All-weaker, All-from_get_or, filter_passes}
use Rattle.std.proofs.lemmas.List.FromFn.{length-range_with_len, get_or-range_with_len}
use Rattle.std.proofs.lemmas.List.Kept.{IsStrictlyIncreasing-filter}
use Rattle.vmx_switch.specs.Ports.{Wiring, is_target, target_ports}

ports_below : (n : ℕ) → All (λ port. port < n) (range_with_len 0 n)
ports_below n =
    All-from_get_or (λ port. port < n) (range_with_len 0 n) 0
    (λ i lt.
    let below : i < n = omega (arith, length-range_with_len 0 n) in
    rw (get_or-range_with_len 0 n i 0 below) (omega arith))

ports_rise : (n : ℕ) → IsStrictlyIncreasing (range_with_len 0 n)
ports_rise n k lt =
    let next : k + 1 < n = omega (arith, length-range_with_len 0 n) in
    rw (get_or-range_with_len 0 n k 0 (omega arith), get_or-range_with_len 0 n (k + 1) 0 next) (omega arith)

-- targets are ports of the switch
pub targets_below : (w : Wiring) (from : ℕ) (frame : List ℕ) → All (λ port. port < length w.macs) (target_ports w from frame)
unfolding target_ports
targets_below w from frame = All-filter (is_target w from frame) (λ port. port < length w.macs) (range_with_len 0 (length w.macs)) (ports_below (length w.macs))

-- each is in the set
pub targets_pass : (w : Wiring) (from : ℕ) (frame : List ℕ) → All (λ port. is_target w from frame port ≡ true) (target_ports w from frame)
unfolding target_ports
targets_pass w from frame = filter_passes (is_target w from frame) (range_with_len 0 (length w.macs))

other : (w : Wiring) (from : ℕ) (frame : List ℕ) (port : ℕ) → is_target w from frame port ≡ true → port ≢ from
unfolding is_target
other w from frame port passes = eqb-false port from (not-true (nat_eq port from) (and_parts _ _ passes).0)

-- the sender is none of them
pub targets_other : (w : Wiring) (from : ℕ) (frame : List ℕ) → All (λ port. port ≢ from) (target_ports w from frame)
targets_other w from frame = All-weaker (λ port. is_target w from frame port ≡ true) (λ port. port ≢ from) (other w from frame) (target_ports w from frame) (targets_pass w from frame)

kept : (p : ℕ → Bool) (x : ℕ) → p x ≡ true → (xs : List ℕ) (k : ℕ) → k < length xs → slice_index_or xs k x ≡ x → Contains (filter p xs) x
kept p x passes [] k lt at = absurd (omega arith)
kept p x passes (y ∷ ys) zero lt at =
    let holds : p y ≡ true = ap p at ∙ passes in
    rw holds (0, omega arith, at)
kept p x passes (y ∷ ys) (suc k) lt at = step (p y) refl (kept p x passes ys k (omega arith) at)
  where
    step : (b : Bool) → p y ≡ b → Contains (filter p ys) x → Contains (filter p (y ∷ ys)) x
    step true e found = rw e (suc found.0, omega (arith, found.1), found.2)
    step false e found = rw e found

-- each port in the set is among them
pub targets_all : (w : Wiring) (from : ℕ) (frame : List ℕ) (port : ℕ) → port < length w.macs → is_target w from frame port ≡ true → Contains (target_ports w from frame) port
unfolding target_ports
targets_all w from frame port lt passes =
    kept (is_target w from frame) port passes (range_with_len 0 (length w.macs)) port
    (omega (arith, length-range_with_len 0 (length w.macs)))
    (get_or-range_with_len 0 (length w.macs) port port lt ∙ omega arith)

-- they rise, so each stands once
pub targets_rise : (w : Wiring) (from : ℕ) (frame : List ℕ) → IsStrictlyIncreasing (target_ports w from frame)
unfolding target_ports
targets_rise w from frame = IsStrictlyIncreasing-filter (is_target w from frame) (range_with_len 0 (length w.macs)) (ports_rise (length w.macs))
