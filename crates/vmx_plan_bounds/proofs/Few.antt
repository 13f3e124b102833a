-- A plan has few guests, and a frame few targets.
use Rattle.std.proofs.Common.{◌≢◌, ℕ, ◌<◌, ◌≤◌, ◌&&◌, ◌==◌, ◌≡◌, Bool, true, nat_le, List, length, All, arith}
use Rattle.std.specs.List.{filter, range_with_len}
use Rattle.std.proofs.lemmas.List.FromFn.{length-range_with_len}
use Rattle.std.proofs.lemmas.List.Sums.{length-filter, count_by-le-length}
use Rattle.std.proofs.lemmas.Bool.{and_parts, leb-true}
use Rattle.vmx_switch.specs.declared.answer.TheConstants.{MAX_PORTS}
use Rattle.vmx_switch.specs.Ports.{target_ports, is_target, all_unicast, are_distinct}
use Rattle.vmx_switch.specs.Laws.{targets_below, targets_other}
use Rattle.vmx_model.specs.declared.plan.Plan.{Plan}
use Rattle.vmx_model.specs.Totals.{wiring, macs_of, sniffers_of}
use Rattle.vmx_model.specs.Wire.{targets}
use Rattle.vmx_model.proofs.Copies.{guests_count}

-- a filter keeps at most all
pub filter_few : {X : Type 0} (test : X → Bool) (xs : List X) → length (filter test xs) ≤ length xs
filter_few test xs = let n = length-filter test xs in let le = count_by-le-length test xs in omega (arith, n, le)

wiring_few : (macs : List (List ℕ)) (a b c d : Bool) → (a && b && nat_le (length macs) MAX_PORTS && c && d) ≡ true → length macs ≤ MAX_PORTS
wiring_few macs a b c d e = leb-true _ _ (and_parts _ _ (and_parts _ _ (and_parts _ _ e).0).0).1

-- a plan has at most as many guests as the switch has ports
pub guests_few : (plan : Plan) → length plan.guests ≤ MAX_PORTS
guests_few plan =
    let few = wiring_few (macs_of plan.guests) (length (macs_of plan.guests) == length (sniffers_of plan.guests)) (nat_le 1 (length (macs_of plan.guests))) (all_unicast (macs_of plan.guests)) (are_distinct (macs_of plan.guests)) plan.ports in
    let n = guests_count plan.guests in omega (arith, few, n)

-- a frame goes to at most so many
pub targets_few : (plan : Plan) (from : ℕ) (frame : List ℕ) → length (targets (wiring plan.guests) from frame) ≤ MAX_PORTS
unfolding target_ports
targets_few plan from frame =
    let ports : List ℕ = range_with_len 0 (length (macs_of plan.guests)) in
    let kept = filter_few (is_target (wiring plan.guests) from frame) ports in let all = length-range_with_len 0 (length (macs_of plan.guests)) in
    let n = guests_count plan.guests in let few = guests_few plan in omega (arith, kept, all, n, few)

-- each target is another guest's port
pub ports_of_targets : (plan : Plan) (from : ℕ) (frame : List ℕ) → All (λ to. (to < length plan.guests) × (to ≢ from)) (targets (wiring plan.guests) from frame)
ports_of_targets plan from frame = λ i d lt.
    let low = targets_below (wiring plan.guests) from frame i d lt in let n = guests_count plan.guests in
    (omega (arith, low, n), targets_other (wiring plan.guests) from frame i d lt)
