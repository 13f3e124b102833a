-- A look of a device at a link, with the notes around it, in the serial run.
use Rattle.std.proofs.Common.{◌≡◌, ◌≢◌, ℕ, Bool, List, length, set, refl, sym, ap, ◌∙◌, Some, nat_lt}
use Rattle.std.specs.List.{slice_get}
use Rattle.vmx_model.specs.declared.plan.Plan.{Plan}
use Rattle.vmx_device_looks.specs.Queues.{all_at}
use Rattle.vmx_device_laws.specs.Views.{DeviceView}
use Rattle.vmx_replay_settled.specs.Settled.{BothKeep}
use Rattle.vmx_replay_runs.specs.Runs.{ComesFrom}
use Rattle.vmx_replay_worlds.specs.Guests.{GuestView}
use Rattle.vmx_replay_worlds.specs.Worlds.{world_of}
use Rattle.vmx_replay_worlds.proofs.Lists.{get_set, set_same, pair_at}
use Rattle.vmx_replay_chains.specs.Chains.{LinkOn, LooksOn, entries_in, entries_on}
use Rattle.vmx_replay_calls.specs.Resting.{guest_of, Rests, RunRests, AllKeep}
use Rattle.vmx_replay_calls.specs.Results.{progress_of, WasLooked}
use Rattle.vmx_replay_calls.proofs.Steps.{IsNearGuest, AreNear, LinkTold, Turned, Looked}
use Rattle.vmx_replay_calls.proofs.Outcomes.{LookedSo}
use Rattle.vmx_replay_calls.proofs.Pairs.{pair_from}
use Rattle.vmx_replay_calls.proofs.Near.{told_near, links_near, near_world}
use Rattle.vmx_replay_calls.proofs.Runs.{near_run}
use Rattle.vmx_replay_calls.proofs.Looked.{was_looked}
use Rattle.vmx_replay_calls.proofs.Whole.{guest_keeps}
use Rattle.vmx_replay_calls.proofs.Progress.{progress_set, progress_same, progress_get}
use Rattle.vmx_replay_calls.proofs.Zipped.{one_told, link_keeps, links_keep}
use Rattle.vmx_replay_calls.proofs.Settling.{changes_keep, turned_from, does}

pub notes_still : (from to : ℕ) (rs rs' : List GuestView) → LinkOn from to rs rs' → world_of rs' ≡ world_of rs
notes_still from to rs rs' l = near_world rs rs' (told_near from to rs rs' (one_told from to rs rs' l))

-- the journal of a guest that is near
pub near_entries : (rs rs' : List GuestView) (port : ℕ) (r : GuestView) → AreNear rs rs' → slice_get rs port ≡ Some r → entries_on port rs' ≡ r.device.entries
near_entries rs rs' port r n at = let y = pair_from IsNearGuest rs rs' port r n at in ap entries_in y.1 ∙ ap (λ (d : DeviceView). d.entries) y.2.is

module _ (plan : Plan) (from to : ℕ) (rs rs' : List GuestView) (run : RunRests plan rs) (keeps : AllKeep rs) (comes : ComesFrom from (world_of rs)) (apart : to ≢ from) (l : LooksOn from to rs rs') where
  abbrev guest : GuestView
  guest = l.turns.before

  first : LinkTold from to rs l.told
  first = one_told from to rs l.told l.tells

  near : AreNear rs l.told
  near = told_near from to rs l.told first

  mid_run : RunRests plan l.told
  mid_run = near_run plan rs l.told near run

  mid_keeps : AllKeep l.told
  mid_keeps = link_keeps from to rs l.told l.tells keeps

  guest_rest : Rests guest
  guest_rest = all_at Rests l.told to guest l.turns.at mid_run.rest

  guest_keep : BothKeep guest.driver guest.device
  guest_keep = all_at (λ (r : GuestView). BothKeep r.driver r.device) l.told to guest l.turns.at mid_keeps

  abbrev worked : Bool
  worked = (does to l.told l.told l.turned rs' guest refl l.turns refl guest_keep guest_rest.caught_up.none).worked

  abbrev turn : Turned to guest worked l.told rs'
  turn = turned_from to l.told l.told l.turned rs' guest refl l.turns refl guest_keep guest_rest.caught_up.none l.links

  abbrev look : Looked from to worked rs rs'
  look = record { mid = l.told; first = first; guest = guest; turned = turn }

  looked_so : LookedSo plan from to worked rs rs' look
  looked_so = was_looked plan from to worked rs rs' run comes apart look

  told_after : AreNear (set l.told to l.turns.after) rs'
  told_after = links_near to (length l.told) (set l.told to l.turns.after) rs' turn.links

  was : entries_on to rs ≡ guest.device.entries
  was = let x = pair_at IsNearGuest rs l.told to guest near l.turns.at in ap entries_in x.1 ∙ sym (ap (λ (d : DeviceView). d.entries) x.2.is)

  now : entries_on to rs' ≡ l.turns.after.device.entries
  now = near_entries (set l.told to l.turns.after) rs' to l.turns.after told_after (get_set l.told to guest l.turns.after l.turns.at)

  turn_at : l.turns.after.driver.at ≡ guest.driver.at
  turn_at = (guest_keeps (guest_of guest.driver turn.device) l.turns.after turn.passed).at

  pub looked_on : WasLooked plan from to rs rs'
  looked_on = record {
    found = (λ i. nat_lt (length (was i)) (length (now i))) ∙ looked_so.found;
    stand = record {
      world_is = looked_so.world;
      progress_is = progress_same l.turned rs' l.links.drivers ∙ ap (λ (xs : List GuestView). progress_of xs) l.turns.is ∙ progress_set l.told to l.turns.after
          ∙ set_same (progress_of l.told) to guest.driver.at l.turns.after.driver.at (progress_get l.told to guest l.turns.at) turn_at ∙ progress_same rs l.told l.tells.drivers;
      rests = looked_so.rests;
      keeps = links_keep to l.turned rs' l.links (changes_keep to _ l.told l.turned l.turns mid_keeps);
    };
  }
