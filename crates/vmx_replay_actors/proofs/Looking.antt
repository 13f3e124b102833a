-- A guest's device looks at a link.
use Rattle.std.proofs.Common.{◌≡◌, ◌≢◌, ℕ, zero, suc, ◌≤◌, Bool, List, [], ◌∷◌, length, map, get_or, sym, ap, ◌∙◌, arith, subst}
use Rattle.std.specs.List.{AllByRecursion}
use Rattle.std.proofs.lemmas.List.{length-map}
use Rattle.vmx_model.specs.declared.plan.Plan.{Plan}
use Rattle.vmx_model.specs.Serial.{Seat}
use Rattle.vmx_model.specs.Turns.{next_on}
use Rattle.vmx_plan_bounds.proofs.Few.{filter_few}
use Rattle.vmx_replay_runs.specs.Runs.{ComesFrom, found, looks}
use Rattle.vmx_replay_runs.specs.Short.{AreShort}
use Rattle.vmx_replay_worlds.specs.Guests.{GuestView, is_arrival, seat_of}
use Rattle.vmx_replay_worlds.specs.Worlds.{world_of}
use Rattle.vmx_replay_chains.specs.Chains.{AllPaired, LooksOn, has_more_on}
use Rattle.vmx_replay_calls.specs.Results.{WasLooked, progress_of}
use Rattle.vmx_replay_calls.proofs.LookedOn.{looked_on}
use Rattle.vmx_replay_kept.proofs.Kept.{looks_sound}
use Rattle.vmx_replay_actors.specs.Counts.{more_if}
use Rattle.vmx_replay_actors.specs.Runs.{IsRun, passed_of, run_of, seen_of}
use Rattle.vmx_replay_actors.proofs.Seen.{looked_seen}
use Rattle.vmx_replay_actors.proofs.Lists.{reached_same}
use Rattle.vmx_replay_actors.proofs.Standing.{stand_same}
use Rattle.vmx_replay_actors.proofs.Acting.{Leaves}

-- ------------------------------------------------------------ how many copies reached a guest

-- no more than its journal has entries
seen_few : (k : ℕ) (rs : List GuestView) (port : ℕ) → AllByRecursion (λ (s : Seat). length s.entries ≤ k) (map seat_of rs) → get_or (map (λ (s : Seat). s.seen) (map seat_of rs)) port 0 ≤ k
seen_few k [] port few = omega arith
seen_few k (r ∷ rs) zero few = let all = filter_few is_arrival r.device.entries in let own = few.0 in omega (arith, all, own)
seen_few k (r ∷ rs) (suc port) few = seen_few k rs port few.1

module _ (plan : Plan) (rs : List GuestView) (passed arrived : List ℕ) (closings : ℕ) (run : IsRun plan rs passed arrived closings) where
  pub arrived_few : (k port : ℕ) → AreShort k (world_of rs) → get_or arrived port 0 ≤ k
  arrived_few k port short = subst (λ (ns : List ℕ). get_or ns port 0 ≤ k) (sym run.arrived_) (seen_few k rs port short)

  pub arrived_long : length arrived ≡ length plan.guests
  arrived_long = ap (λ (ns : List ℕ). length ns) run.arrived_ ∙ length-map (map seat_of rs) (λ (s : Seat). s.seen) ∙ length-map rs seat_of ∙ run.settled.rests.count

  -- ---------------------------------------------------------- a look

  module _ (from to : ℕ) (ne : to ≢ from) (alone : ComesFrom from (world_of rs)) (rs' : List GuestView) (f : LooksOn from to rs rs') (paired : AllPaired rs → AllPaired rs') (b : Bool) (is : b ≡ has_more_on to rs rs') where
    was : WasLooked plan from to rs rs'
    was = looked_on plan from to rs rs' run.settled.rests run.settled.keeps alone ne f

    pub look_found : b ≡ found from to (run_of plan rs passed closings)
    look_found = is ∙ was.found

    counted : more_if b to arrived ≡ seen_of (world_of rs')
    counted = (λ i. more_if (look_found i) to (run.arrived_ i)) ∙ sym (looked_seen plan from to (world_of rs) (next_on (world_of rs).wires from to)) ∙ ap seen_of (sym was.stand.world_is)

    pub look_leaves : (arrived' : List ℕ) → arrived' ≡ more_if b to arrived → Leaves plan rs' passed arrived' closings (looks from to (run_of plan rs passed closings))
    look_leaves arrived' e = record {
      run = record {
        settled = record { rests = was.stand.rests; keeps = was.stand.keeps; paired = paired run.settled.paired; sound = looks_sound plan from to rs rs' run.settled.rests run.settled.keeps run.settled.sound f };
        stand = stand_same plan (progress_of rs) (progress_of rs') passed closings was.stand.progress_is run.stand;
        passed_ = run.passed_;
        arrived_ = e ∙ counted;
      };
      is = λ i. record { plan = plan; world = was.stand.world_is i; reached = reached_same rs rs' was.stand.progress_is i; passed = passed_of passed; closings = closings };
    }
