-- The registers of a driver and of a device are the same ones after each step, and what a poll or a posted frame leaves of the commands.
use Rattle.std.proofs.Common.{◌≡◌, ◌+◌, Bool, true, false, ap, ◌∙◌, subst, Option, inl, inr}
use Rattle.std.specs.Prelude.{ℕ, is_some}
use Rattle.vmx_regs.specs.declared.known.Calls.{Calls}
use Rattle.vmx_device_state.specs.declared.turn.CommandView.{CommandView}
use Rattle.vmx_model.specs.declared.deeds.Deed.{Deed}
use Rattle.vmx_model.specs.declared.deeds.Deed.TheVariants as deed
use Rattle.vmx_device_laws.specs.Views.{DeviceView}
use Rattle.vmx_device_laws.specs.Steps.{TurnsOnce, CommandStep}
use Rattle.vmx_device_laws.proofs.Pairwise.{turn_pairs}
use Rattle.vmx_driver_steps.specs.declared.progress.Then.{Then}
use Rattle.vmx_driver_steps.specs.declared.progress.Then.TheVariants.{End, Rest}
use Rattle.vmx_driver_steps.specs.declared.progress.Due.{Due}
use Rattle.vmx_driver_steps.specs.declared.progress.Due.TheVariants as due
use Rattle.vmx_driver_steps.specs.Progress.{due_of}
use Rattle.vmx_driver_steps.specs.Driver.{DriverView}
use Rattle.vmx_driver_steps.specs.Driving.{ReapsAll, PollsAll}
use Rattle.vmx_driver.specs.declared.driver.Act.{Act}
use Rattle.vmx_driver.specs.declared.driver.Act.TheVariants.{Worked, Waiting, Done}
use Rattle.vmx_driver.specs.Acts.{Acts, ActsSo, ActsAtAnswer, ActsAtActivation, ActsAtMeeting, ActsAtFrame, ActsAtRest, ActsAtQuiesce, ActsAtReset, ActsAtUpdate, ActsAtDeed}
use Rattle.vmx_actor_laws.specs.Joint.{AreCaughtUp}

-- ------------------------------------------------------------ acts

reaps_key : (v w : DriverView) → ReapsAll v w → w.key ≡ v.key
reaps_key v w r = ap (λ (x : DriverView). x.key) r.is

pub polls_key : (v : DriverView) (n : ℕ) (w : DriverView) → PollsAll v n w → w.key ≡ v.key
polls_key v n w p = ap (λ (x : DriverView). x.key) p.is

at_answer : (v : DriverView) (a : Act) (w : DriverView) → ActsAtAnswer v a w → w.key ≡ v.key
at_answer v Worked w h = h.same.2
at_answer v Waiting w h = ap (λ (x : DriverView). x.key) h.is
at_answer v Done w h = absurd h

at_activation : (done : ℕ) (v : DriverView) (a : Act) (w : DriverView) → ActsAtActivation done v a w → w.key ≡ v.key
at_activation done v Worked w h = ap (λ (x : DriverView). x.key) h.is
at_activation done v Waiting w h = absurd h
at_activation done v Done w h = absurd h

at_meeting : (t : Then) (v : DriverView) (a : Act) (w : DriverView) → ActsAtMeeting t v a w → w.key ≡ v.key
at_meeting t v Worked w h = elim h [
  | inl m ↦ polls_key m.mid m.up w m.polls ∙ reaps_key v m.mid m.reaps
  | inr m ↦ ap (λ (x : DriverView). x.key) m.meets.is ∙ polls_key m.mid 0 m.emptied m.polls ∙ reaps_key v m.mid m.reaps
]
at_meeting t v Waiting w h = absurd h
at_meeting t v Done w h = absurd h

at_frame : (v : DriverView) (a : Act) (w : DriverView) → ActsAtFrame v a w → w.key ≡ v.key
at_frame v Worked w h = ap (λ (x : DriverView). x.key) h.posts.is ∙ reaps_key v h.mid h.reaps
at_frame v Waiting w h = ap (λ (x : DriverView). x.key) h.full.is ∙ reaps_key v h.mid h.reaps
at_frame v Done w h = absurd h

at_rest : (v : DriverView) (a : Act) (w : DriverView) → ActsAtRest v a w → w.key ≡ v.key
at_rest v Worked w h = absurd h
at_rest v Waiting w h = reaps_key v w h.0
at_rest v Done w h = reaps_key v w h.0

at_quiesce : (t : Then) (done : ℕ) (v : DriverView) (a : Act) (w : DriverView) → ActsAtQuiesce t done v a w → w.key ≡ v.key
at_quiesce t done v Worked w h = ap (λ (x : DriverView). x.key) h.stops.is ∙ reaps_key v h.mid h.reaps
at_quiesce t done v Waiting w h = reaps_key v w h.0
at_quiesce t done v Done w h = absurd h

at_reset : (done : ℕ) (v : DriverView) (a : Act) (w : DriverView) → ActsAtReset done v a w → w.key ≡ v.key
at_reset done v Worked w h = ap (λ (x : DriverView). x.key) h.stops.is ∙ reaps_key v h.mid h.reaps
at_reset done v Waiting w h = absurd h
at_reset done v Done w h = absurd h

at_update : (d : Deed) (v : DriverView) (a : Act) (w : DriverView) → ActsAtUpdate d v a w → w.key ≡ v.key
at_update d v Worked w h = ap (λ (x : DriverView). x.key) h.updates.is ∙ reaps_key v h.mid h.reaps
at_update d v Waiting w h = absurd h
at_update d v Done w h = absurd h

at_deed : (d : Deed) (v : DriverView) (a : Act) (w : DriverView) → ActsAtDeed d v a w → w.key ≡ v.key
at_deed deed.Quiesce v a w h = at_quiesce Rest (v.at.done + 1) v a w h
at_deed deed.Activate v a w h = at_activation (v.at.done + 1) v a w h
at_deed deed.Reset v a w h = at_reset (v.at.done + 1) v a w h
at_deed (deed.Mode m) v a w h = at_update (deed.Mode m) v a w h
at_deed (deed.Multicast t) v a w h = at_update (deed.Multicast t) v a w h
at_deed (deed.Vlans t) v a w h = at_update (deed.Vlans t) v a w h
at_deed (deed.Rss n t) v a w h = at_update (deed.Rss n t) v a w h

acts_so : (d : Due) (v : DriverView) (a : Act) (w : DriverView) → ActsSo d v a w → w.key ≡ v.key
acts_so due.Answer v a w h = at_answer v a w h
acts_so due.Meet v a w h = at_meeting h.then_ v a w h.does
acts_so due.Activate v a w h = at_activation v.at.done v a w h
acts_so (due.Action at) v a w h = at_deed h.action.deed v a w h.does
acts_so (due.Frame i) v a w h = at_frame v a w h
acts_so due.Close v a w h = at_quiesce End v.at.done v a w h
acts_so due.Nothing v a w h = at_rest v a w h

pub acts_key : (v : DriverView) (a : Act) (w : DriverView) → Acts v a w → w.key ≡ v.key
acts_key v a w h = acts_so (due_of v.plan v.at (is_some v.calls.asked)) v a w h

-- ------------------------------------------------------------ polls and frames change no command

pub polls_alike : (v : DriverView) (n : ℕ) (w : DriverView) (d : DeviceView) → PollsAll v n w → AreCaughtUp v d → AreCaughtUp w d
polls_alike v n w d p c = record { none = ap (λ (x : DriverView). x.calls.asked) p.is ∙ c.none; same = ap (λ (x : DriverView). x.calls.turns) p.is ∙ c.same }

frame_calls : (v : DriverView) (a : Act) (w : DriverView) → ActsAtFrame v a w → w.calls ≡ v.calls
frame_calls v Worked w h = ap (λ (x : DriverView). x.calls) h.posts.is ∙ ap (λ (x : DriverView). x.calls) h.reaps.is
frame_calls v Waiting w h = ap (λ (x : DriverView). x.calls) h.full.is ∙ ap (λ (x : DriverView). x.calls) h.reaps.is
frame_calls v Done w h = absurd h

-- an act where a frame is due
pub posts_alike : (v : DriverView) (a : Act) (w : DriverView) (d : DeviceView) → (i : ℕ) × (due_of v.plan v.at false ≡ due.Frame i) → Acts v a w → AreCaughtUp v d → AreCaughtUp w d
posts_alike v a w d due_ h c =
    let is : due_of v.plan v.at (is_some v.calls.asked) ≡ due.Frame due_.0 = ap (λ (o : Option CommandView). due_of v.plan v.at (is_some o)) c.none ∙ due_.1 in
    let calls = frame_calls v a w (subst (λ (x : Due). ActsSo x v a w) is h) in record {
      none = ap (λ (x : Calls). x.asked) calls ∙ c.none;
      same = ap (λ (x : Calls). x.turns) calls ∙ c.same;
    }

-- ------------------------------------------------------------ turns

command_key : (answered : Bool) (d asked : DeviceView) → CommandStep answered d asked → asked.key ≡ d.key
command_key true d asked c = ap (λ (x : DeviceView). x.key) c.is
command_key false d asked c = ap (λ (x : DeviceView). x.key) c.is

pub turn_key : (worked : Bool) (d d' : DeviceView) → TurnsOnce worked d d' → d'.key ≡ d.key
turn_key worked d d' t = (turn_pairs worked d d' t).same.2 ∙ command_key t.answered d t.asked t.command
