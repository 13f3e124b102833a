-- What the calls of a replay's actors come to in the serial run.
use Rattle.std.specs.Prelude.{◌≡◌, ◌≢◌, ◌+◌, ℕ, true, is_some, List, length, map, Some, None, slice_get, slice_set}
use Rattle.vmx_pcap.specs.declared.records.Stamped.{Stamped}
use Rattle.vmx_model.specs.declared.guest.GuestPlan.{GuestPlan}
use Rattle.vmx_model.specs.declared.plan.Plan.{Plan}
use Rattle.vmx_model.specs.declared.sending.Sending.TheVariants.{Sent}
use Rattle.vmx_model.specs.Bags.{EachQueue}
use Rattle.vmx_model.specs.QueueSteps.{sent_before}
use Rattle.vmx_model.specs.Serial.{Seat, World, activated, closed}
use Rattle.vmx_model.specs.Turns.{at_guest, next_on}
use Rattle.vmx_model.specs.Wire.{posted_form}
use Rattle.vmx_driver_steps.specs.declared.progress.Then.{Then}
use Rattle.vmx_driver_steps.specs.declared.progress.Progress.{Progress}
use Rattle.vmx_driver_steps.specs.declared.progress.Stage.TheVariants.{Held}
use Rattle.vmx_driver_steps.specs.Progress.{is_over}
use Rattle.vmx_driver_steps.specs.Asking.{Waits}
use Rattle.vmx_driver_steps.specs.Driving.{PassesOver}
use Rattle.vmx_actor_laws.specs.Joint.{AreCaughtUp}
use Rattle.vmx_trusted_turns.specs.Trusted.{IsTrusted}
use Rattle.vmx_replay_runs.specs.Runs.{live_poll, count_up, put_by, targets_of, looked, action_in, does}
use Rattle.vmx_replay_worlds.specs.Guests.{GuestView}
use Rattle.vmx_replay_worlds.specs.Worlds.{world_of}
use Rattle.vmx_replay_steps.specs.Turns.{queue_of}
use Rattle.vmx_replay_steps.specs.Commands.{stopped}
use Rattle.vmx_replay_chains.specs.Chains.{entries_on, has_more_on}
use Rattle.vmx_replay_chains.specs.Targets.{targets_behind}
use Rattle.vmx_replay_calls.specs.Resting.{IsGuestAt, Rests, AreKnown, RunRests, AllKeep}

-- ------------------------------------------------------------ the calls

-- how far each driver is in its guest's plan, by port
abbrev pub progress_of : List GuestView → List Progress
progress_of rs = map (λ (r : GuestView). r.driver.at) rs

-- guests that stand for a world, each driver so far in its plan; all rest
pub record StandFor (plan : Plan) (world : World) (progress : List Progress) (rs : List GuestView) : Type 0 where
  pub world_is : world_of rs ≡ world
  pub progress_is : progress_of rs ≡ progress
  pub rests : RunRests plan rs
  pub keeps : AllKeep rs

-- a poll handed up so many frames
pub record WasPolled (plan : Plan) (port n : ℕ) (rs rs' : List GuestView) : Type 0 where
  pub count : n ≡ count_up (slice_get (world_of rs).seats port)
  pub stand : StandFor plan (at_guest port live_poll (world_of rs)) (progress_of rs) rs'

-- a look: the journal is longer just where a packet was found
pub record WasLooked (plan : Plan) (from to : ℕ) (rs rs' : List GuestView) : Type 0 where
  pub found : has_more_on to rs rs' ≡ is_some (next_on (world_of rs).wires from to)
  pub stand : StandFor plan (looked plan from to (world_of rs) (next_on (world_of rs).wires from to)) (progress_of rs) rs'

-- a frame was posted and put out: the journal tells its targets, and frames that are not sent are passed over
pub record WasSentOut (plan : Plan) (port : ℕ) (rs rs' : List GuestView) : Type 0 where
  pub guest : GuestView
  pub at : slice_get rs port ≡ Some guest
  pub frame : Stamped
  pub there_ : slice_get guest.driver.plan.capture.records guest.driver.at.next ≡ Some frame
  pub targets : targets_behind (length (entries_on port rs)) (entries_on port rs') ≡ targets_of plan port (posted_form guest.driver.plan frame.frame)
  pub next : ℕ
  pub over : PassesOver guest.driver.plan (guest.driver.at.next + 1) next
  pub stand : StandFor plan (put_by plan port (posted_form guest.driver.plan frame.frame) (Sent guest.driver.at.ended (queue_of guest.driver frame) (length (sent_before guest.driver.plan guest.driver.at.ended (queue_of guest.driver frame) guest.driver.at.next))) (world_of rs))
      (slice_set (progress_of rs) port (record guest.driver.at { next = next })) rs'

-- a driver did one more action of its script, and passed over frames that are not sent
pub record HasActed (p : GuestPlan) (s s' : Progress) : Type 0 where
  pub done : s'.done ≡ s.done + 1
  pub closed_ : s'.closed ≡ s.closed
  pub waits : Waits s'.stage
  pub over : PassesOver p s.next s'.next

-- a deed was done
pub record WasActed (plan : Plan) (port : ℕ) (rs rs' : List GuestView) : Type 0 where
  pub guest : GuestView
  pub at : slice_get rs port ≡ Some guest
  pub after : Progress
  pub acted : HasActed guest.driver.plan guest.driver.at after
  pub stand : StandFor plan (does port (slice_get plan.guests port) (action_in (slice_get plan.guests port) guest.driver.at.done) (world_of rs)) (slice_set (progress_of rs) port after) rs'

-- a guest was activated, and passed over frames that are not sent
pub record WasActivated (plan : Plan) (port : ℕ) (rs rs' : List GuestView) : Type 0 where
  pub guest : GuestView
  pub at : slice_get rs port ≡ Some guest
  pub after : Progress
  pub done : after.done ≡ guest.driver.at.done
  pub closed_ : after.closed ≡ guest.driver.at.closed
  pub waits : Waits after.stage
  pub over : PassesOver guest.driver.plan guest.driver.at.next after.next
  pub stand : StandFor plan (at_guest port (activated port guest.driver.plan) (world_of rs)) (slice_set (progress_of rs) port after) rs'

-- a guest was closed
pub record WasClosed (plan : Plan) (port : ℕ) (rs rs' : List GuestView) : Type 0 where
  pub guest : GuestView
  pub at : slice_get rs port ≡ Some guest
  pub after : Progress
  pub over : is_over after ≡ true
  pub done : after.done ≡ guest.driver.at.done
  pub stand : StandFor plan (at_guest port closed (world_of rs)) (slice_set (progress_of rs) port after) rs'

-- ------------------------------------------------------------ the commands of a call

-- a step of the guest at a port: the world after it; the run rests
pub record WasDone (plan : Plan) (port : ℕ) (change : Seat → Seat) (rs rs' : List GuestView) : Type 0 where
  pub world : world_of rs' ≡ at_guest port change (world_of rs)
  pub rests : RunRests plan rs'

-- a guest whose ends came back to its driver, where all others rest
pub record Holds (plan : Plan) (port : ℕ) (t : Then) (rs : List GuestView) : Type 0 where
  pub guest : GuestView
  pub at : slice_get rs port ≡ Some guest
  pub stage : guest.driver.at.stage ≡ Held t
  pub idle : guest.device.machine.active ≡ None
  pub caught_up : AreCaughtUp guest.driver guest.device
  pub trusted : IsTrusted guest.device.machine
  pub guests : EachQueue (IsGuestAt plan) 0 rs
  pub count : length rs ≡ length plan.guests
  pub links : AreKnown rs
  pub rest : (n : ℕ) (r : GuestView) → n ≢ port → slice_get rs n ≡ Some r → Rests r

-- a quiesce or a reset: the world after it; the guest's ends came back
pub record WasStopped (plan : Plan) (port number : ℕ) (t : Then) (rs rs' : List GuestView) : Type 0 where
  pub world : world_of rs' ≡ at_guest port (stopped number) (world_of rs)
  pub holds : Holds plan port t rs'
