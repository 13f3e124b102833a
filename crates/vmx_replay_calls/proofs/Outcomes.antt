-- What the steps of the calls come to in the serial run, as the proofs take them.
use Rattle.std.specs.Prelude.{◌≡◌, ◌++◌, ℕ, nat_lt, is_some, Bool, List, length, filter_map, Some, slice_get}
use Rattle.vmx_pcap.specs.declared.records.Stamped.{Stamped}
use Rattle.vmx_model.specs.declared.journal.Entry.{Entry}
use Rattle.vmx_model.specs.declared.sending.Sending.TheVariants.{Sent}
use Rattle.vmx_model.specs.declared.plan.Plan.{Plan}
use Rattle.vmx_model.specs.QueueSteps.{sent_before}
use Rattle.vmx_model.specs.Turns.{next_on}
use Rattle.vmx_model.specs.Wire.{posted_form}
use Rattle.vmx_replay_runs.specs.Runs.{live_poll, live_up, put_by, targets_of, looked}
use Rattle.vmx_replay_worlds.specs.Guests.{GuestView, seat_of}
use Rattle.vmx_replay_worlds.specs.Worlds.{world_of}
use Rattle.vmx_replay_worlds.specs.Moves.{KeepsLinks}
use Rattle.vmx_replay_steps.specs.Turns.{queue_of}
use Rattle.vmx_replay_chains.specs.Targets.{target_in}
use Rattle.vmx_replay_calls.specs.Resting.{Rests, RunRests}
use Rattle.vmx_replay_calls.proofs.Steps.{Looked, Posted}

-- a poll: what it handed up, and what stands after it
pub record PolledSo (n : ℕ) (r r' : GuestView) : Type 0 where
  pub seat : seat_of r' ≡ live_poll (seat_of r)
  pub count : n ≡ length (live_up (seat_of r))
  pub links : KeepsLinks r r'
  pub rests : Rests r'

-- a look: the world after it, and that the journal is longer just where a packet was found
pub record LookedSo (plan : Plan) (from to : ℕ) (worked : Bool) (rs rs' : List GuestView) (l : Looked from to worked rs rs') : Type 0 where
  pub world : world_of rs' ≡ looked plan from to (world_of rs) (next_on (world_of rs).wires from to)
  pub found : nat_lt (length l.guest.device.entries) (length l.turned.told.device.entries) ≡ is_some (next_on (world_of rs).wires from to)
  pub rests : RunRests plan rs'

-- a frame that was posted: the world after it, and the targets, which the journal tells
pub record SentSo (plan : Plan) (port : ℕ) (worked : Bool) (rs rs' : List GuestView) (p : Posted port worked rs rs') : Type 0 where
  pub frame : Stamped
  pub there_ : slice_get p.guest.driver.plan.capture.records p.guest.driver.at.next ≡ Some frame
  pub entries : List Entry
  pub journal : p.turned.told.device.entries ≡ p.guest.device.entries ++ entries
  pub targets : filter_map target_in entries ≡ targets_of plan port (posted_form p.guest.driver.plan frame.frame)
  pub world : world_of rs' ≡ put_by plan port (posted_form p.guest.driver.plan frame.frame) (Sent p.guest.driver.at.ended (queue_of p.guest.driver frame) (length (sent_before p.guest.driver.plan p.guest.driver.at.ended (queue_of p.guest.driver frame) p.guest.driver.at.next))) (world_of rs)
  pub rests : RunRests plan rs'
