-- The calls of a run, by what contracts see of it.
use Rattle.std.proofs.Common.{◌≡◌, ◌≢◌, ℕ, ◌+◌, ◌≤◌, ◌<◌, ◌^◌, Bool, true, List, length, map, set, take, sym, ap, ◌∙◌, subst, arith}
use Rattle.std.specs.List.{AllByRecursion}
use Rattle.std.proofs.lemmas.List.{length-map}
use Rattle.vmx_switch.specs.declared.answer.TheConstants.{MAX_PORTS}
use Rattle.vmx_model.specs.declared.plan.Plan.{Plan}
use Rattle.vmx_model.specs.Turns.{IsReady}
use Rattle.vmx_plan_bounds.proofs.Few.{guests_few}
use Rattle.vmx_driver_steps.specs.Progress.{is_over}
use Rattle.vmx_replay_runs.specs.Runs.{ComesFrom, acts, changes, closes, found, goes_to, is_next, live_poll, looks, puts, up_at}
use Rattle.vmx_replay_runs.specs.Short.{AreShort, MOST_ENTRIES}
use Rattle.vmx_replay_runs.specs.Standing.{HasBegun, IsOver}
use Rattle.vmx_replay_due.specs.Standing.{is_action, is_frame}
use Rattle.vmx_replay_worlds.specs.Guests.{GuestView}
use Rattle.vmx_replay_worlds.specs.Worlds.{world_of}
use Rattle.vmx_replay_settled.specs.Linked.{HasLinksIn, IsLinkOn}
use Rattle.vmx_replay_chains.specs.Chains.{AllPaired, ClosesOn, FollowsOn, IsAlikeOn, IsClosableOn, IsPairedOn, LooksOn, PollsOn, PutsBy, devices_of, due_at, entries_on, has_more_on}
use Rattle.vmx_replay_chains.specs.Targets.{targets_behind}
use Rattle.vmx_replay_calls.specs.Resting.{RunRests}
use Rattle.vmx_replay_calls.proofs.Wired.{link_on}
use Rattle.vmx_replay_actors.specs.Counts.{more_if}
use Rattle.vmx_replay_actors.specs.Runs.{AreSettled, IsRun, RunParts, passed_of, run_view}
use Rattle.vmx_replay_actors.proofs.Here.{Here, alike_on, below_guests, few_guests, here, links_on, pair_on}
use Rattle.vmx_replay_actors.proofs.Acting.{Leaves, acted, is_acting, poll_count, polled}
use Rattle.vmx_replay_actors.proofs.Putting.{put}
use Rattle.vmx_replay_actors.proofs.Looking.{arrived_few, arrived_long, look_found, look_leaves}
use Rattle.vmx_replay_actors.proofs.Closing.{all_over, closable, closed}

-- a list of guests is as long as what contracts see of it
pub few_in : {G : Type 0} (view : G → GuestView) (gs : List G) (plan : Plan) → RunRests plan (map view gs) → length gs ≤ MAX_PORTS
few_in view gs plan r = let long = length-map gs view in let few = few_guests plan (map view gs) r in omega (arith, long, few)

pub port_in : {G : Type 0} (view : G → GuestView) (gs : List G) (plan : Plan) (port : ℕ) → RunRests plan (map view gs) → port < length plan.guests → port < length gs
port_in view gs plan port r lt = let long = length-map gs view in let below = below_guests plan (map view gs) port r lt in omega (arith, long, below)

module _ (plan : Plan) (rs : List GuestView) (passed arrived : List ℕ) (closings : ℕ) (run : IsRun plan rs passed arrived closings) (v : RunParts) (e : record { plan = plan; guests = rs; passed = passed; closings = closings } ≡ v) where
  abbrev parts : RunParts
  parts = record { plan = plan; guests = rs; passed = passed; closings = closings }

  -- what holds of what contracts see holds of the guests
  back : (P : RunParts → Type 0) → P v → P parts
  back P h = subst P (sym e) h

  pub port_of : (port : ℕ) → port < length v.plan.guests → port < length plan.guests
  port_of port lt = back (λ (x : RunParts). port < length x.plan.guests) lt

  module _ (port : ℕ) (lt : port < length v.plan.guests) where
    at_ : Here plan rs port
    at_ = here plan rs port run.settled (port_of port lt)

    pub links_of : HasLinksIn port (devices_of rs)
    links_of = links_on plan rs port run.settled.rests (port_of port lt)

    pub alike_of : IsAlikeOn port rs
    alike_of = alike_on plan rs port at_

    pub pair_of : (n m : ℕ) → AreShort MOST_ENTRIES (run_view v).world → 2 ^ 50 ≤ n → 514 ≤ m → IsPairedOn n m port rs
    pair_of n m short le few = pair_on plan rs port at_ MOST_ENTRIES n m (back (λ (x : RunParts). AreShort MOST_ENTRIES (run_view x).world) short) le few

    pub any_pair : (n : ℕ) × (m : ℕ) × IsPairedOn n m port rs
    any_pair = (length at_.guest.device.entries, length at_.guest.device.calls.served, record { guest = at_.guest; at = at_.at; paired = at_.pair; entries_ = omega arith; commands_ = omega arith })

    -- ---------------------------------------------------------- an action

    module _ (number : ℕ) (is : passed_of v.passed port ≡ number) where
      is_of : passed_of passed port ≡ number
      is_of = back (λ (x : RunParts). passed_of x.passed port ≡ number) is

      pub call_acting : is_action number (due_at port rs) ≡ is_next port number (run_view v)
      call_acting = is_acting plan rs passed arrived closings run port (port_of port lt) number is_of ∙ ap (λ (x : RunParts). is_next port number (run_view x)) e

      pub call_acts : is_next port number (run_view v) ≡ true → IsReady v.plan (run_view v).world → (rs' : List GuestView) → FollowsOn port rs rs' → (AllPaired rs → AllPaired rs') → Leaves plan rs' passed arrived closings (acts port (run_view v))
      call_acts next ready rs' f paired =
          subst (λ (x : RunParts). Leaves plan rs' passed arrived closings (acts port (run_view x))) e
          (acted plan rs passed arrived closings run port (port_of port lt) number is_of (back (λ (x : RunParts). is_next port number (run_view x) ≡ true) next) rs' (back (λ (x : RunParts). IsReady x.plan (run_view x).world) ready).emptied f paired)

      -- -------------------------------------------------------- a frame

      pub record CallPuts (rs' : List GuestView) (passed' : List ℕ) : Type 0 where
        pub leaves : Leaves plan rs' passed' arrived closings (puts port number (run_view v))
        pub targets : take MAX_PORTS (targets_behind (length (entries_on port rs)) (entries_on port rs')) ≡ goes_to port number v.plan

      pub call_puts : HasBegun port (number + 1) (run_view v) → IsReady v.plan (run_view v).world → (rs' : List GuestView) → PutsBy (is_frame number (due_at port rs)) port rs rs' → (AllPaired rs → AllPaired rs')
          → (passed' : List ℕ) → passed' ≡ set passed port (number + 1) → CallPuts rs' passed'
      call_puts begun ready rs' f paired passed' h =
          let x = put plan rs passed arrived closings run port (port_of port lt) number is_of (back (λ (x : RunParts). HasBegun port (number + 1) (run_view x)) begun) rs' paired (back (λ (x : RunParts). IsReady x.plan (run_view x).world) ready).emptied f in
          subst (CallPuts rs') (sym h) (record {
            leaves = subst (λ (y : RunParts). Leaves plan rs' (set passed port (number + 1)) arrived closings (puts port number (run_view y))) e x.leaves;
            targets = x.targets ∙ ap (λ (y : RunParts). goes_to port number y.plan) e;
          })

    -- ---------------------------------------------------------- a poll

    pub call_count : (n : ℕ) (rs' : List GuestView) → PollsOn port n rs rs' → (AllPaired rs → AllPaired rs') → n ≡ up_at port (run_view v)
    call_count n rs' f paired = poll_count plan rs passed arrived closings run port (port_of port lt) n rs' f paired ∙ ap (λ (x : RunParts). up_at port (run_view x)) e

    pub call_polls : (n : ℕ) (rs' : List GuestView) → PollsOn port n rs rs' → (AllPaired rs → AllPaired rs') → Leaves plan rs' passed arrived closings (changes port live_poll (run_view v))
    call_polls n rs' f paired = subst (λ (x : RunParts). Leaves plan rs' passed arrived closings (changes port live_poll (run_view x))) e (polled plan rs passed arrived closings run port (port_of port lt) n rs' f paired)

    -- ---------------------------------------------------------- the end

    module _ (is : v.closings ≡ port) (over : IsOver port (run_view v)) where
      last_of : closings ≡ port
      last_of = back (λ (x : RunParts). x.closings ≡ port) is

      over_of : IsOver port (run_view parts)
      over_of = back (λ (x : RunParts). IsOver port (run_view x)) over

      pub call_closable : IsClosableOn port rs
      call_closable = closable plan rs passed arrived closings run port (port_of port lt) last_of over_of

      pub call_closes : IsReady v.plan (run_view v).world → (rs' : List GuestView) → ClosesOn port rs rs' → (AllPaired rs → AllPaired rs') → Leaves plan rs' passed arrived (closings + 1) (closes port (run_view v))
      call_closes ready rs' f paired =
          subst (λ (x : RunParts). Leaves plan rs' passed arrived (closings + 1) (closes port (run_view x))) e
          (closed plan rs passed arrived closings run port (port_of port lt) last_of over_of rs' (back (λ (x : RunParts). IsReady x.plan (run_view x).world) ready).emptied f paired)

      pub few_closed : closings < 16
      few_closed = let below = port_of port lt in let few = guests_few plan in let is = last_of in omega (arith, below, few, is)

  -- ------------------------------------------------------------ a look

  pub link_of : (from to : ℕ) → from < length v.plan.guests → to < length v.plan.guests → to ≢ from → IsLinkOn from to (devices_of rs)
  link_of from to a b ne = link_on plan from to rs run.settled.rests (below_guests plan rs from run.settled.rests (port_of from a)) (below_guests plan rs to run.settled.rests (port_of to b)) ne

  pub arrived_within : (port : ℕ) → port < length v.plan.guests → port < length arrived
  arrived_within port lt = let long = arrived_long plan rs passed arrived closings run in let below = port_of port lt in omega (arith, long, below)

  pub passed_within : (port : ℕ) → port < length v.plan.guests → port < length passed
  passed_within port lt = let long = run.passed_ in let below = port_of port lt in omega (arith, long, below)

  pub arrived_below : (port : ℕ) → AreShort MOST_ENTRIES (run_view v).world → passed_of arrived port < 2 ^ 60
  arrived_below port short =
      let few = arrived_few plan rs passed arrived closings run MOST_ENTRIES port (back (λ (x : RunParts). AreShort MOST_ENTRIES (run_view x).world) short) in omega (arith, few)

  module _ (from to : ℕ) (ne : to ≢ from) (alone : ComesFrom from (run_view v).world) (rs' : List GuestView) (f : LooksOn from to rs rs') (paired : AllPaired rs → AllPaired rs') (b : Bool) (is : b ≡ has_more_on to rs rs') where
    alone_of : ComesFrom from (world_of rs)
    alone_of = back (λ (x : RunParts). ComesFrom from (run_view x).world) alone

    pub call_found : b ≡ found from to (run_view v)
    call_found = look_found plan rs passed arrived closings run from to ne alone_of rs' f paired b is ∙ ap (λ (x : RunParts). found from to (run_view x)) e

    pub call_looks : (arrived' : List ℕ) → arrived' ≡ more_if b to arrived → Leaves plan rs' passed arrived' closings (looks from to (run_view v))
    call_looks arrived' h = subst (λ (x : RunParts). Leaves plan rs' passed arrived' closings (looks from to (run_view x))) e (look_leaves plan rs passed arrived closings run from to ne alone_of rs' f paired b is arrived' h)

  -- ------------------------------------------------------------ the guests

  pub settled_of : AreSettled v.plan v.guests
  settled_of = subst (λ (x : RunParts). AreSettled x.plan x.guests) e run.settled

  pub over_all : v.closings ≡ length v.plan.guests → AllByRecursion (λ (r : GuestView). is_over r.driver.at ≡ true) v.guests
  over_all is = subst (λ (x : RunParts). AllByRecursion (λ (r : GuestView). is_over r.driver.at ≡ true) x.guests) e (all_over plan rs passed arrived closings run (back (λ (x : RunParts). x.closings ≡ length x.plan.guests) is))
