-- A frame that is due goes out, in the serial run.
use Rattle.std.proofs.Common.{◌≡◌, ℕ, ◌+◌, Bool, List, [], ◌∷◌, ◌++◌, length, set, refl, sym, ap, ◌∙◌, subst, Some, None, Option, drop}
use Rattle.std.specs.Prelude.{is_some}
use Rattle.std.specs.List.{slice_get, filter_map}
use Rattle.vmx_regs.specs.declared.known.Calls.{Calls}
use Rattle.vmx_device_state.specs.declared.turn.CommandView.{CommandView}
use Rattle.vmx_model.specs.declared.journal.Entry.{Entry}
use Rattle.vmx_model.specs.declared.plan.Plan.{Plan}
use Rattle.vmx_model.specs.Turns.{AreEmptied}
use Rattle.vmx_device_looks.specs.Queues.{all_at}
use Rattle.vmx_driver_steps.specs.declared.progress.Due.{Due}
use Rattle.vmx_driver_steps.specs.declared.progress.Due.TheVariants as due
use Rattle.vmx_driver_steps.specs.Progress.{due_of}
use Rattle.vmx_driver_steps.specs.Driver.{DriverView, Keeps}
use Rattle.vmx_driver_steps.specs.Driving.{PassesOver, PostsFrame}
use Rattle.vmx_driver_steps.specs.Dues.{FrameDue, frame_due}
use Rattle.vmx_driver.specs.declared.driver.Act.{Act}
use Rattle.vmx_driver.specs.declared.driver.Act.TheVariants.{Worked, Waiting, Done}
use Rattle.vmx_driver.specs.Acts.{ActsSo, ActsAtFrame}
use Rattle.vmx_replay_settled.specs.Settled.{BothKeep}
use Rattle.vmx_replay_worlds.specs.Guests.{GuestView}
use Rattle.vmx_replay_worlds.specs.Worlds.{world_of}
use Rattle.vmx_replay_worlds.proofs.Lists.{get_set, set_set}
use Rattle.vmx_replay_steps.specs.Waits.{KnowsCompleted}
use Rattle.vmx_replay_steps.proofs.Waits.{has_room}
use Rattle.vmx_replay_chains.specs.Chains.{SendsOn, due_at, due_in, due_now, entries_in, entries_on}
use Rattle.vmx_replay_chains.specs.Targets.{target_in, targets_behind}
use Rattle.vmx_replay_calls.specs.Resting.{guest_of, Rests, RunRests, AllKeep}
use Rattle.vmx_replay_calls.specs.Results.{progress_of, WasSentOut}
use Rattle.vmx_replay_calls.proofs.Steps.{AreNear, Turned, Posted}
use Rattle.vmx_replay_calls.proofs.Outcomes.{SentSo}
use Rattle.vmx_replay_calls.proofs.Near.{links_near}
use Rattle.vmx_replay_calls.proofs.Posted.{was_sent_out}
use Rattle.vmx_replay_calls.proofs.Whole.{QueuesKeep, queues_keep, guest_keeps}
use Rattle.vmx_replay_calls.proofs.Progress.{progress_set, progress_same}
use Rattle.vmx_replay_calls.proofs.Zipped.{links_keep}
use Rattle.vmx_replay_calls.proofs.Settling.{changes_keep, same_guest, turned_from, does}
use Rattle.vmx_replay_calls.proofs.Resting.{knows_completed}
use Rattle.vmx_replay_calls.proofs.LookedOn.{near_entries}

posts_by : (v w : DriverView) (a : Act) → Keeps v → FrameDue v.plan v.at → KnowsCompleted v → ActsAtFrame v a w → PostsFrame v w
posts_by v w Worked k d c h = h
posts_by v w Waiting k d c h = absurd (has_room v w k d c h)
posts_by v w Done k d c h = absurd h

behind : (xs ys : List Entry) → drop (length xs) (xs ++ ys) ≡ ys
behind [] ys = refl
behind (x ∷ xs) ys = behind xs ys

module _ (plan : Plan) (port i : ℕ) (rs rs' : List GuestView) (run : RunRests plan rs) (keeps : AllKeep rs) (empty : AreEmptied (world_of rs)) (sending : due_at port rs ≡ due.Frame i) (s : SendsOn port rs rs') where
  abbrev v : DriverView
  v = s.posts.before.driver

  abbrev posted : DriverView
  posted = s.posts.does.1.acted

  abbrev told : GuestView
  told = s.posts.after

  rest : Rests s.posts.before
  rest = all_at Rests rs port s.posts.before s.posts.at run.rest

  keep : BothKeep v s.posts.before.device
  keep = all_at (λ (r : GuestView). BothKeep r.driver r.device) rs port s.posts.before s.posts.at keeps

  now : due_now v ≡ due.Frame i
  now = sym (ap due_in s.posts.at) ∙ sending

  frame : FrameDue v.plan v.at
  frame = frame_due v.plan v.at i keep.settled (ap (λ (o : Option CommandView). due_of v.plan v.at (is_some o)) (sym rest.caught_up.none) ∙ now)

  posts : PostsFrame v posted
  posts = posts_by v posted s.posts.does.0 keep.driver frame (knows_completed s.posts.before rest keep.device) (subst (λ (d : Due). ActsSo d v s.posts.does.0 posted) now s.posts.does.1.acts)

  kept : QueuesKeep posted s.posts.before.device told.driver told.device
  kept = queues_keep posted s.posts.before.device told.driver told.device s.posts.does.1.passed

  told_none : told.driver.calls.asked ≡ None
  told_none = ap (λ (x : Calls). x.asked) kept.calls ∙ ap (λ (x : DriverView). x.calls.asked) posts.posts.is ∙ ap (λ (x : DriverView). x.calls.asked) posts.reaps.is ∙ rest.caught_up.none

  abbrev mid : List GuestView
  mid = set rs port told

  abbrev worked : Bool
  worked = (does port mid s.posted s.turned rs' told s.posts.is s.turns (same_guest port _ _ rs s.posted s.turned s.posts s.turns) s.posts.keeps told_none).worked

  abbrev turn : Turned port told worked mid rs'
  turn = turned_from port mid s.posted s.turned rs' told s.posts.is s.turns (same_guest port _ _ rs s.posted s.turned s.posts s.turns) s.posts.keeps told_none s.links

  abbrev post : Posted port worked rs rs'
  post = record { guest = s.posts.before; at = s.posts.at; keep = keep; due = frame; driver = posted; posts = posts; told = told; passed = s.posts.does.1.passed; turned = turn }

  sent_so : SentSo plan port worked rs rs' post
  sent_so = was_sent_out plan port worked rs rs' run empty post

  mid_at : slice_get mid port ≡ Some told
  mid_at = get_set rs port s.posts.before told s.posts.at

  told_after : AreNear (set mid port s.turns.after) rs'
  told_after = links_near port (length mid) (set mid port s.turns.after) rs' turn.links

  after_entries : entries_on port rs' ≡ s.posts.before.device.entries ++ sent_so.entries
  after_entries = near_entries (set mid port s.turns.after) rs' port s.turns.after told_after (get_set mid port told s.turns.after mid_at) ∙ sent_so.journal

  before_entries : entries_on port rs ≡ s.posts.before.device.entries
  before_entries = ap entries_in s.posts.at

  targets : targets_behind (length (entries_on port rs)) (entries_on port rs') ≡ filter_map target_in sent_so.entries
  targets = (λ j. targets_behind (length (before_entries j)) (after_entries j)) ∙ ap (filter_map target_in) (behind s.posts.before.device.entries sent_so.entries)

  -- how far its driver is
  posted_at : posted.at ≡ record v.at { next = posted.at.next }
  posted_at = ap (λ (x : DriverView). x.at) posts.posts.is ∙ ap (λ (x : DriverView). record x.at { next = posted.at.next }) posts.reaps.is

  turn_at : s.turns.after.driver.at ≡ posted.at
  turn_at = (guest_keeps (guest_of told.driver turn.device) s.turns.after turn.passed).at ∙ kept.at

  turned_list : s.turned ≡ set rs port s.turns.after
  turned_list = s.turns.is ∙ ap (λ (xs : List GuestView). set xs port s.turns.after) s.posts.is ∙ set_set rs port told s.turns.after

  pub sent_on : WasSentOut plan port rs rs'
  sent_on = record {
    guest = s.posts.before;
    at = s.posts.at;
    frame = sent_so.frame;
    there_ = sent_so.there_;
    targets = targets ∙ sent_so.targets;
    next = posted.at.next;
    over = subst (λ (x : DriverView). PassesOver x.plan (x.at.next + 1) posted.at.next) posts.reaps.is posts.posts.over;
    stand = record {
      world_is = sent_so.world;
      progress_is = progress_same s.turned rs' s.links.drivers ∙ ap (λ (xs : List GuestView). progress_of xs) turned_list ∙ progress_set rs port s.turns.after ∙ ap (set (progress_of rs) port) (turn_at ∙ posted_at);
      rests = sent_so.rests;
      keeps = links_keep port s.turned rs' s.links (changes_keep port _ s.posted s.turned s.turns (changes_keep port _ rs s.posted s.posts keeps));
    };
  }
