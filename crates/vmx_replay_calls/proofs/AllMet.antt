-- The acts of a driver that holds both ends of its queues, one after the other until all ends met.
use Rattle.std.proofs.Common.{◌≡◌, ℕ, Bool, true, false, true≢false, List, [], ◌∷◌, refl, sym, ap, ◌∙◌, subst, Some, None, Option, nat_lt, inl, inr, if◌then◌else◌}
use Rattle.std.specs.Prelude.{◌⊎◌}
use Rattle.std.specs.List.{slice_get}
use Rattle.vmx_pcap.specs.declared.records.Stamped.{Stamped}
use Rattle.vmx_model.specs.declared.deeds.Action.{Action}
use Rattle.vmx_driver_steps.specs.declared.progress.Then.{Then}
use Rattle.vmx_driver_steps.specs.declared.progress.Then.TheVariants.{Rest, Renew, End}
use Rattle.vmx_driver_steps.specs.declared.progress.Stage.{Stage}
use Rattle.vmx_driver_steps.specs.declared.progress.Stage.TheVariants.{Fresh, Active, Stopping, Held, Quiet, Ended}
use Rattle.vmx_driver_steps.specs.declared.progress.Due.{Due}
use Rattle.vmx_driver_steps.specs.declared.progress.Due.TheVariants as due
use Rattle.vmx_driver_steps.specs.Progress.{next_by, next_of, due_in}
use Rattle.vmx_driver_steps.specs.Nexts.{due_at}
use Rattle.vmx_driver_steps.specs.Parting.{after}
use Rattle.vmx_driver_steps.specs.Driver.{DriverView, Keeps as DriverKeeps}
use Rattle.vmx_driver_steps.specs.Driving.{HandsUpSome, MeetsEmpty}
use Rattle.vmx_driver.specs.declared.driver.Act.{Act}
use Rattle.vmx_driver.specs.declared.driver.Act.TheVariants.{Worked, Waiting, Done}
use Rattle.vmx_driver.specs.Acts.{Acts, ActsSo, ActsAtHeld, ActsAtMeeting}
use Rattle.vmx_replay_steps.specs.Commands.{HandUp}
use Rattle.vmx_replay_chains.specs.Chains.{due_now, is_meeting, is_activating, MeetsBy}
use Rattle.vmx_replay_calls.proofs.Answered.{AtRest}

-- ------------------------------------------------------------ what is due

-- what is next of the plan is neither a meeting nor an activation
abbrev IsPlain : Due → Type 0
IsPlain d = (is_meeting d ≡ false) × (is_activating d ≡ false)

plain_next : (n : ℕ) (a : Option Action) (r : Option Stamped) → IsPlain (next_by n a r)
plain_next n None None = (refl, refl)
plain_next n None (Some r) = (refl, refl)
plain_next n (Some a) None = (refl, refl)
plain_next n (Some a) (Some r) = step (nat_lt n a.at)
  where
    step : (b : Bool) → IsPlain (if b then due.Frame n else due.Action a.at)
    step true = (refl, refl)
    step false = (refl, refl)

plain_closed : (closed : Bool) (d : Due) → IsPlain d → IsPlain (if closed then due.Close else d)
plain_closed true d h = (refl, refl)
plain_closed false d h = h

-- a driver without ends under way is to let none meet
no_meeting : (g : Stage) (closed : Bool) (d : Due) → AtRest g → IsPlain d → is_meeting (due_in g closed d) ≡ false
no_meeting Fresh closed d r h = refl
no_meeting Active closed d r h = (plain_closed closed d h).0
no_meeting (Stopping t) closed d r h = absurd r
no_meeting (Held t) closed d r h = absurd r
no_meeting Quiet closed d r h = h.0
no_meeting Ended closed d r h = refl

due_plain : (v : DriverView) → v.calls.asked ≡ None → due_now v ≡ due_in v.at.stage v.at.closed (next_of v.plan v.at)
due_plain v none = due_at v.plan v.at v.calls.asked v.at.stage (due_in v.at.stage v.at.closed (next_of v.plan v.at)) none refl refl

pub rest_meets_none : (v : DriverView) → v.calls.asked ≡ None → AtRest v.at.stage → is_meeting (due_now v) ≡ false
rest_meets_none v none r = ap is_meeting (due_plain v none) ∙ no_meeting v.at.stage v.at.closed (next_of v.plan v.at) r (plain_next v.at.next (slice_get v.plan.script v.at.done) (slice_get v.plan.capture.records v.at.next))

-- an activation is due in one stage alone
abbrev is_fresh : Stage → Bool
is_fresh Fresh = true
is_fresh Active = false
is_fresh (Stopping t) = false
is_fresh (Held t) = false
is_fresh Quiet = false
is_fresh Ended = false

activates_in : (g : Stage) (closed : Bool) (d : Due) → IsPlain d → is_activating (due_in g closed d) ≡ is_fresh g
activates_in Fresh closed d h = refl
activates_in Active closed d h = (plain_closed closed d h).1
activates_in (Stopping t) closed d h = refl
activates_in (Held t) closed d h = refl
activates_in Quiet closed d h = h.1
activates_in Ended closed d h = refl

activates_now : (v : DriverView) → v.calls.asked ≡ None → is_activating (due_now v) ≡ is_fresh v.at.stage
activates_now v none = ap is_activating (due_plain v none) ∙ activates_in v.at.stage v.at.closed (next_of v.plan v.at) (plain_next v.at.next (slice_get v.plan.script v.at.done) (slice_get v.plan.capture.records v.at.next))

pub renews : (v : DriverView) → v.calls.asked ≡ None → v.at.stage ≡ Fresh → is_activating (due_now v) ≡ true
renews v none e = activates_now v none ∙ ap is_fresh e

not_fresh : (g : Stage) → (g ≡ Fresh → ⊥) → is_fresh g ≡ false
not_fresh Fresh f = absurd (f refl)
not_fresh Active f = refl
not_fresh (Stopping t) f = refl
not_fresh (Held t) f = refl
not_fresh Quiet f = refl
not_fresh Ended f = refl

pub renews_none : (v : DriverView) → v.calls.asked ≡ None → (v.at.stage ≡ Fresh → ⊥) → is_activating (due_now v) ≡ false
renews_none v none f = activates_now v none ∙ not_fresh v.at.stage f

-- ------------------------------------------------------------ acts until all met

held_due : (v : DriverView) (t : Then) → v.calls.asked ≡ None → v.at.stage ≡ Held t → due_now v ≡ due.Meet
held_due v t none on = due_at v.plan v.at v.calls.asked (Held t) due.Meet none on refl

-- behind the meeting nothing is to meet
after_met : (v : DriverView) (t : Then) → v.calls.asked ≡ None → v.at.stage ≡ after t → is_meeting (due_now v) ≡ false
after_met v t none on = rest_meets_none v none (subst AtRest (sym on) (rests t))
  where
    rests : (t : Then) → AtRest (after t)
    rests Rest = tt
    rests Renew = tt
    rests End = tt

-- no more acts
pub met_none : (v : DriverView) (ms : List DriverView) (v' : DriverView) → is_meeting (due_now v) ≡ false → MeetsBy v ms v' → v' ≡ v
met_none v [] v' past h = h
met_none v (m ∷ ms) v' past h = absurd (true≢false (sym h.0 ∙ past))

-- one act
meets_by : (t u : Then) (v m : DriverView) (a : Act) → Held u ≡ Held t → ActsAtMeeting u v a m → HandsUpSome v m ⊎ MeetsEmpty t v m
meets_by t u v m Worked e h = let same : u ≡ t = cc e in subst (λ (x : Then). HandsUpSome v m ⊎ MeetsEmpty x v m) same h
meets_by t u v m Waiting e h = absurd h
meets_by t u v m Done e h = absurd h

one_met : (t : Then) (v m : DriverView) (a : Act) → v.calls.asked ≡ None → v.at.stage ≡ Held t → Acts v a m → HandsUpSome v m ⊎ MeetsEmpty t v m
one_met t v m a none on acts =
    let h : ActsAtHeld v a m = subst (λ (d : Due). ActsSo d v a m) (held_due v t none on) acts in
    meets_by t h.then_ v m a (sym h.held ∙ on) h.does

-- some that hand up a frame, and the last
pub record AllMet (t : Then) (v v' : DriverView) : Type 0 where
  pub acts : List DriverView
  pub last : DriverView
  pub up : HandUp v acts last
  pub meets : MeetsEmpty t last v'
  pub keeps : DriverKeeps v'
  pub none : v'.calls.asked ≡ None

pub all_met : (t : Then) (v : DriverView) (ms : List DriverView) (v' : DriverView) → v.calls.asked ≡ None → v.at.stage ≡ Held t → is_meeting (due_now v') ≡ false → MeetsBy v ms v' → AllMet t v v'
all_met t v [] v' none on past h = absurd (true≢false (sym (ap is_meeting (held_due v t none on)) ∙ ap (λ (x : DriverView). is_meeting (due_now x)) (sym h) ∙ past))
all_met t v (m ∷ ms) v' none on past (here, act, keeps, more) = elim (one_met t v m act.0 none on act.1) [
  | inl h ↦ (
      let calls = ap (λ (x : DriverView). x.calls.asked) h.polls.is ∙ ap (λ (x : DriverView). x.calls.asked) h.reaps.is ∙ none in
      let stage = ap (λ (x : DriverView). x.at.stage) h.polls.is ∙ ap (λ (x : DriverView). x.at.stage) h.reaps.is ∙ on in
      let r = all_met t m ms v' calls stage past more in
      record { acts = m ∷ r.acts; last = r.last; up = (h, r.up); meets = r.meets; keeps = r.keeps; none = r.none }
      )
  | inr h ↦ (
      let calls = ap (λ (x : DriverView). x.calls.asked) h.meets.is ∙ ap (λ (x : DriverView). x.calls.asked) h.polls.is ∙ ap (λ (x : DriverView). x.calls.asked) h.reaps.is ∙ none in
      let stage = ap (λ (x : DriverView). x.at.stage) h.meets.is in
      let same : v' ≡ m = met_none m ms v' (after_met m t calls stage) more in
      record { acts = []; last = v; up = refl; meets = subst (MeetsEmpty t v) (sym same) h; keeps = subst DriverKeeps (sym same) keeps; none = ap (λ (x : DriverView). x.calls.asked) same ∙ calls }
      )
]
