-- What is kept of every device, over the calls of a replay's actors.
use Rattle.std.proofs.Common.{◌≡◌, ◌≢◌, ℕ, zero, suc, Bool, true, false, true≢false, List, [], ◌∷◌, set, refl, sym, ap, ◌∙◌, subst, Option, Some, None}
use Rattle.std.specs.Prelude.{is_some}
use Rattle.std.specs.Option.{option_map}
use Rattle.std.specs.List.{slice_get, AllByRecursion}
use Rattle.vmx_device_state.specs.declared.turn.CommandView.{CommandView}
use Rattle.vmx_link.specs.Views.{LinkOutView, LinkInView}
use Rattle.vmx_machine_state.specs.Views.{ActiveView, MachineView, ends_of}
use Rattle.vmx_model.specs.declared.plan.Plan.{Plan}
use Rattle.vmx_model.specs.Bags.{gifts}
use Rattle.vmx_device_looks.specs.Queues.{all_at, all_set, each_all}
use Rattle.vmx_device_laws.specs.New.{IsNewOut, IsNewIn}
use Rattle.vmx_device_laws.specs.Views.{DeviceView}
use Rattle.vmx_device_laws.proofs.PairingIn.{some_same}
use Rattle.vmx_driver_steps.specs.declared.progress.Stage.{Stage}
use Rattle.vmx_driver_steps.specs.declared.progress.Stage.TheVariants.{Fresh, Active, Stopping, Held, Quiet, Ended}
use Rattle.vmx_driver_steps.specs.Progress.{due_of}
use Rattle.vmx_driver_steps.specs.Driver.{DriverView}
use Rattle.vmx_actor_laws.specs.Joint.{GoWith}
use Rattle.vmx_actor_laws.proofs.Joint.{leads_its_device}
use Rattle.vmx_trusted_turns.specs.Trusted.{IsTrusted}
use Rattle.vmx_replay_worlds.specs.Guests.{GuestView}
use Rattle.vmx_replay_worlds.proofs.Lists.{get_set, get_map}
use Rattle.vmx_replay_chains.specs.Chains.{ActsOn, AnswersOn, ChangesOn, ClosesOn, FollowsOn, LooksOn, Meets, PollsOn, QuiescesBy, RenewsBy, SendsOn, ToldClosed, TurnsOn, devices_of, due_at, due_in, due_now, is_activating, is_closing}
use Rattle.vmx_replay_calls.specs.Resting.{Rests, RunRests, AllKeep}
use Rattle.vmx_replay_calls.proofs.AllMet.{renews_none}
use Rattle.vmx_replay_calls.proofs.Settling.{changed_at, same_guest}
use Rattle.vmx_replay_start.specs.Made.{IsMadeAt, AreMade}
use Rattle.vmx_replay_kept.specs.Sound.{IsEvenOut, IsEvenIn, IsTrustedBag, IsSound, AllSound}
use Rattle.vmx_replay_kept.proofs.Turns.{HoldsTrusted, turn_sound}
use Rattle.vmx_replay_kept.proofs.Links.{link_sound, links_sound}
use Rattle.vmx_replay_kept.proofs.Notes.{queues_sound, queues_hold, settles_sound, settles_idle, settles_hold, settles_caught_up, idle_holds}

-- ------------------------------------------------------------ one guest

changes_sound : (port : ℕ) (P : GuestView → GuestView → Type 0) (rs rs' : List GuestView) (c : ChangesOn port P rs rs') → (IsSound c.before.device → IsSound c.after.device) → AllSound rs → AllSound rs'
changes_sound port P rs rs' c f h =
    subst AllSound (sym c.is) (all_set (λ (r : GuestView). IsSound r.device) rs port c.after (f (all_at (λ (r : GuestView). IsSound r.device) rs port c.before c.at h)) h)

acts_sound : (port : ℕ) (rs rs' : List GuestView) → ActsOn port rs rs' → AllSound rs → AllSound rs'
acts_sound port rs rs' c h = changes_sound port _ rs rs' c (settles_sound c.does.1.acted c.before.device c.after.driver c.after.device c.does.1.settles) h

turns_sound : (port : ℕ) (rs rs' : List GuestView) (c : TurnsOn port rs rs') → HoldsTrusted c.before.device.machine → AllSound rs → AllSound rs'
turns_sound port rs rs' c t h = changes_sound port _ rs rs' c (λ s. settles_sound c.before.driver c.does.turned c.after.driver c.after.device c.does.settles (turn_sound c.does.worked c.before.device c.does.turned c.does.once c.does.was.tracks t s)) h

answers_sound : (port : ℕ) (rs rs' : List GuestView) (a : AnswersOn port rs rs') → HoldsTrusted a.turns.before.device.machine → AllSound rs → AllSound rs'
answers_sound port rs rs' a t h = acts_sound port a.told rs' a.acts (links_sound port a.turned a.told a.links (turns_sound port rs a.turned a.turns t h))

-- a command and its answer
module _ (port : ℕ) (rs ms rs' : List GuestView) (acts : ActsOn port rs ms) (answers : AnswersOn port ms rs') where
  answered_sound : HoldsTrusted acts.after.device.machine → AllSound rs → AllSound rs'
  answered_sound t h = answers_sound port ms rs' answers (subst (λ (r : GuestView). HoldsTrusted r.device.machine) (sym (same_guest port _ _ rs ms answers.turned acts answers.turns)) t) (acts_sound port rs ms acts h)

  trusted_sound : IsTrusted acts.before.device.machine → AllSound rs → AllSound rs'
  trusted_sound t = answered_sound (settles_hold acts.does.1.acted acts.before.device acts.after.driver acts.after.device acts.does.1.settles t)

  idle_sound : acts.before.device.machine.active ≡ None → AllSound rs → AllSound rs'
  idle_sound none = answered_sound (idle_holds acts.after.device.machine (settles_idle acts.does.1.acted acts.before.device acts.after.driver acts.after.device acts.does.1.settles none))

-- ------------------------------------------------------------ a guest that is to activate again

asked_none : (v : DriverView) → is_activating (due_now v) ≡ true → v.calls.asked ≡ None
asked_none v on = by_asked v.calls.asked refl
  where
    by_asked : (o : Option CommandView) → v.calls.asked ≡ o → v.calls.asked ≡ None
    by_asked None e = e
    by_asked (Some c) e = absurd (true≢false (sym on ∙ ap (λ (o : Option CommandView). is_activating (due_of v.plan v.at (is_some o))) e))

is_first : (g : Stage) → ((g ≡ Fresh → ⊥) → ⊥) → g ≡ Fresh
is_first Fresh f = refl
is_first Active f = absurd (f (λ e. cc e))
is_first (Stopping t) f = absurd (f (λ e. cc e))
is_first (Held t) f = absurd (f (λ e. cc e))
is_first Quiet f = absurd (f (λ e. cc e))
is_first Ended f = absurd (f (λ e. cc e))

no_ends : (o : Option ActiveView) → option_map (λ (a : ActiveView). a.ends) o ≡ None → o ≡ None
no_ends None e = refl
no_ends (Some a) e = absurd (cc e)

idle_met : (port : ℕ) (rs rs' : List GuestView) (m : ChangesOn port Meets rs rs') → is_activating (due_now m.after.driver) ≡ true → m.after.device.machine.active ≡ None
idle_met port rs rs' m on =
    let r : GuestView = m.after in
    let none = asked_none r.driver on in
    let up = settles_caught_up m.does.last m.before.device r.driver r.device m.does.settles none in
    let first : r.driver.at.stage ≡ Fresh = is_first r.driver.at.stage (λ no. true≢false (sym on ∙ renews_none r.driver none no)) in
    let led = leads_its_device r.driver r.device m.keeps.driver m.keeps.device up in
    no_ends r.device.machine.active (subst (λ (g : Stage). GoWith g r.driver (ends_of r.device.machine)) first led.ends)

-- ------------------------------------------------------------ a command with all that follows

follows_on : (port : ℕ) (rs rs' : List GuestView) (f : FollowsOn port rs rs') → IsTrusted f.acts.before.device.machine → AllSound rs → AllSound rs'
follows_on port rs rs' f t h = by_renewal (is_activating (due_at port f.met)) refl f.renews
  where
    met : AllSound f.met
    met = changes_sound port Meets f.answered f.met f.meets (settles_sound f.meets.does.last f.meets.before.device f.meets.after.driver f.meets.after.device f.meets.does.settles) (trusted_sound port rs f.asked f.answered f.acts f.answers t h)

    by_renewal : (b : Bool) → is_activating (due_at port f.met) ≡ b → RenewsBy b port f.met rs' → AllSound rs'
    by_renewal false e r = subst AllSound (sym r) met
    by_renewal true e r =
        let on : is_activating (due_now f.meets.after.driver) ≡ true = sym (ap (λ (o : Option GuestView). is_activating (due_in o)) (changed_at port Meets f.answered f.met f.meets)) ∙ e in
        let same = same_guest port Meets _ f.answered f.met r.0 f.meets r.1 in
        idle_sound port f.met r.0 rs' r.1 r.2 (ap (λ (y : GuestView). y.device.machine.active) same ∙ idle_met port f.answered f.met f.meets on) met

-- ------------------------------------------------------------ the calls

trusted_at : (plan : Plan) (rs : List GuestView) (port : ℕ) (r : GuestView) → RunRests plan rs → slice_get rs port ≡ Some r → IsTrusted r.device.machine
trusted_at plan rs port r run at = (all_at Rests rs port r at run.rest).trusted

pub sends_sound : (plan : Plan) (port : ℕ) (rs rs' : List GuestView) → RunRests plan rs → AllKeep rs → AllSound rs → SendsOn port rs rs' → AllSound rs'
sends_sound plan port rs rs' run keeps h s =
    let c = s.posts in let p = c.does.1 in
    let posted = changes_sound port _ rs s.posted c (queues_sound p.acted c.before.device c.after.driver c.after.device p.passed) h in
    let t : HoldsTrusted c.after.device.machine = queues_hold p.acted c.before.device c.after.driver c.after.device p.passed (trusted_at plan rs port c.before run c.at) in
    links_sound port s.turned rs' s.links (turns_sound port s.posted s.turned s.turns (subst (λ (r : GuestView). HoldsTrusted r.device.machine) (sym (same_guest port _ _ rs s.posted s.turned c s.turns)) t) posted)

device_at : (rs : List GuestView) (n : ℕ) (r : GuestView) → slice_get rs n ≡ Some r → slice_get (devices_of rs) n ≡ Some r.device
device_at rs n r at = get_map (λ (x : GuestView). x.device) rs n ∙ ap (option_map (λ (x : GuestView). x.device)) at

pub looks_sound : (plan : Plan) (from to : ℕ) (rs rs' : List GuestView) → RunRests plan rs → AllKeep rs → AllSound rs → LooksOn from to rs rs' → AllSound rs'
looks_sound plan from to rs rs' run keeps h s =
    let d = s.tells.devices in
    let told = link_sound from to rs s.told s.tells h in
    let r : GuestView = s.turns.before in
    let there_ : slice_get (devices_of s.told) to ≡ Some d.receiver' = ap (λ (ds : List DeviceView). slice_get ds to) d.is ∙ set_twice from to (devices_of rs) d.sender' d.on.receiver d.receiver' d.on.receiver_at in
    let same : r.device ≡ d.receiver' = some_same (slice_get (devices_of s.told) to) r.device d.receiver' (device_at s.told to r s.turns.at) there_ in
    let machine : r.device.machine ≡ d.on.receiver.machine = ap (λ (x : DeviceView). x.machine) same ∙ ap (λ (x : DeviceView). x.machine) d.passed.receiver in
    let was = guest_of_device rs to d.on.receiver d.on.receiver_at in
    let trust : IsTrusted d.on.receiver.machine = subst (λ (x : DeviceView). IsTrusted x.machine) was.2 (trusted_at plan rs to was.0 run was.1) in
    links_sound to s.turned rs' s.links (turns_sound to s.told s.turned s.turns (subst (λ (m : MachineView). HoldsTrusted m) (sym machine) (record { tx = trust.tx; rx = trust.rx })) told)
  where
    guest_of_device : (rs : List GuestView) (n : ℕ) (x : DeviceView) → slice_get (devices_of rs) n ≡ Some x → (r : GuestView) × (slice_get rs n ≡ Some r) × (r.device ≡ x)
    guest_of_device [] n x e = absurd (cc e)
    guest_of_device (r ∷ rs) zero x e = (r, refl, cc e)
    guest_of_device (r ∷ rs) (suc n) x e = guest_of_device rs n x e

    set_any : (ds : List DeviceView) (n m : ℕ) (x y : DeviceView) → slice_get ds m ≡ Some x → (z : DeviceView) × (slice_get (set ds n y) m ≡ Some z)
    set_any [] n m x y e = absurd (cc e)
    set_any (d ∷ ds) zero zero x y e = (y, refl)
    set_any (d ∷ ds) zero (suc m) x y e = (x, e)
    set_any (d ∷ ds) (suc n) zero x y e = (x, e)
    set_any (d ∷ ds) (suc n) (suc m) x y e = set_any ds n m x y e

    set_twice : (n m : ℕ) (ds : List DeviceView) (s x y : DeviceView) → slice_get ds m ≡ Some x → slice_get (set (set ds n s) m y) m ≡ Some y
    set_twice n m ds s x y e = let z = set_any ds n m x s e in get_set (set ds n s) m z.0 y z.1

pub polls_sound : (plan : Plan) (port n : ℕ) (rs rs' : List GuestView) → RunRests plan rs → AllKeep rs → AllSound rs → PollsOn port n rs rs' → AllSound rs'
polls_sound plan port n rs rs' run keeps h c = changes_sound port _ rs rs' c (queues_sound c.does.polled c.before.device c.after.driver c.after.device c.does.passed) h

pub follows_sound : (plan : Plan) (port : ℕ) (rs rs' : List GuestView) → RunRests plan rs → AllKeep rs → AllSound rs → FollowsOn port rs rs' → AllSound rs'
follows_sound plan port rs rs' run keeps h f = follows_on port rs rs' f (trusted_at plan rs port f.acts.before run f.acts.at) h

pub renews_sound : (plan : Plan) (port : ℕ) (rs rs' : List GuestView) → RunRests plan rs → AllKeep rs → AllSound rs → RenewsBy true port rs rs' → AllSound rs'
renews_sound plan port rs rs' run keeps h r = trusted_sound port rs r.0 rs' r.1 r.2 (trusted_at plan rs port r.1.before run r.1.at) h

pub closes_sound : (plan : Plan) (port : ℕ) (rs rs' : List GuestView) → RunRests plan rs → AllKeep rs → AllSound rs → ClosesOn port rs rs' → AllSound rs'
closes_sound plan port rs rs' run keeps h c = by_due (is_closing (due_at port c.told)) c.quiesces
  where
    told : AllSound c.told
    told = changes_sound port ToldClosed rs c.told c.tells (λ s. subst IsSound (sym c.tells.does.device) s) h

    by_due : (b : Bool) → QuiescesBy b port c.told rs' → AllSound rs'
    by_due false e = subst AllSound (sym e) told
    by_due true f =
        let same = same_guest port ToldClosed _ rs c.told f.asked c.tells f.acts in
        let machine : f.acts.before.device.machine ≡ c.tells.before.device.machine = ap (λ (r : GuestView). r.device.machine) same ∙ ap (λ (x : DeviceView). x.machine) c.tells.does.device in
        follows_on port c.told rs' f (subst (λ (m : MachineView). IsTrusted m) (sym machine) (trusted_at plan rs port c.tells.before run c.tells.at)) told

-- ------------------------------------------------------------ new guests

new_sound : (plan : Plan) (port : ℕ) (r : GuestView) → IsMadeAt plan port r → IsSound r.device
new_sound plan port r m = record {
  out = each_all (IsNewOut port) IsEvenOut 0 r.device.out (λ k o e. ap (λ (x : LinkOutView). x.notes_given) e ∙ sym (ap (λ (x : LinkOutView). x.notes_heard) e)) m.out;
  input = each_all (IsNewIn port) IsEvenIn 0 r.device.input (λ k i e. ap (λ (x : LinkInView). x.notes_given) e ∙ sym (ap (λ (x : LinkInView). x.notes_heard) e)) m.input;
  bags = subst (AllByRecursion IsTrustedBag) (sym (ap (λ (d : DeviceView). gifts d.calls.served) m.device)) tt;
}

pub made_sound : (plan : Plan) (rs : List GuestView) → AreMade plan rs → AllSound rs
made_sound plan rs made = each_all (IsMadeAt plan) (λ (r : GuestView). IsSound r.device) 0 rs (new_sound plan) made.guests
