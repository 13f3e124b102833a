-- What is next of the script and the capture, where nothing else is due.
use Rattle.std.proofs.Common.{◌≡◌, ℕ, zero, suc, ◌≤◌, Bool, true, false, true≢false, List, [], ◌∷◌, length, refl, ap, sym, ◌∙◌, subst, arith, Option, Some, None, nat_lt, if◌then◌else◌, inl, inr, ⊎_elim}
use Rattle.std.proofs.lemmas.Bool.Decides.{nat_tests}
use Rattle.std.specs.Prelude.{◌⊎◌, is_some, ⊤}
use Rattle.std.specs.List.{slice_get}
use Rattle.vmx_pcap.specs.declared.records.Stamped.{Stamped}
use Rattle.vmx_device_state.specs.declared.turn.CommandView.{CommandView}
use Rattle.vmx_model.specs.declared.deeds.Action.{Action}
use Rattle.vmx_model.specs.declared.guest.GuestPlan.{GuestPlan}
use Rattle.vmx_driver_steps.specs.declared.progress.Stage.{Stage}
use Rattle.vmx_driver_steps.specs.declared.progress.Stage.TheVariants.{Fresh, Active, Stopping, Held, Quiet, Ended}
use Rattle.vmx_driver_steps.specs.declared.progress.Progress.{Progress}
use Rattle.vmx_driver_steps.specs.declared.progress.Due.{Due}
use Rattle.vmx_driver_steps.specs.declared.progress.Due.TheVariants as due
use Rattle.vmx_driver_steps.specs.Progress.{next_by, next_of, due_in, due_of}
use Rattle.vmx_driver_steps.specs.Asking.{Waits}
use Rattle.vmx_driver_steps.specs.Acting.{ActionDue}

-- where a driver is active and open, or quiet, what is due is what is next
next_in : (g : Stage) (closed : Bool) (d : Due) → Waits g → (g ≡ Active → closed ≡ false) → due_in g closed d ≡ d
next_in Active closed d w open_ = ap (λ (b : Bool). if b then due.Close else d) (open_ refl)
next_in Quiet closed d w open_ = refl
next_in Fresh closed d w open_ = absurd w
next_in (Stopping t) closed d w open_ = absurd w
next_in (Held t) closed d w open_ = absurd w
next_in Ended closed d w open_ = absurd w

-- a frame, an action or nothing
abbrev pub IsNext : Due → Type 0
IsNext (due.Frame i) = ⊤
IsNext (due.Action at) = ⊤
IsNext due.Nothing = ⊤
IsNext due.Activate = ⊥
IsNext due.Answer = ⊥
IsNext due.Meet = ⊥
IsNext due.Close = ⊥

next_kind : (n : ℕ) (a : Option Action) (r : Option Stamped) → IsNext (next_by n a r)
next_kind n None None = tt
next_kind n None (Some r) = tt
next_kind n (Some a) None = tt
next_kind n (Some a) (Some r) = step (nat_lt n a.at)
  where
    step : (b : Bool) → IsNext (if b then due.Frame n else due.Action a.at)
    step true = tt
    step false = tt

pub is_next : (p : GuestPlan) (s : Progress) (d : Due) → Waits s.stage → (s.stage ≡ Active → s.closed ≡ false) → due_of p s false ≡ d → IsNext d
is_next p s d w open_ e = subst IsNext (sym (next_in s.stage s.closed (next_of p s) w open_) ∙ e) (next_kind s.next (slice_get p.script s.done) (slice_get p.capture.records s.next))

is_action : Due → Bool
is_action (due.Action at) = true
is_action (due.Frame i) = false
is_action due.Nothing = false
is_action due.Activate = false
is_action due.Answer = false
is_action due.Meet = false
is_action due.Close = false

later_action : (n : ℕ) (o : Option Action) (r : Option Stamped) → is_action (next_by n o r) ≡ true → (a : Action) × (o ≡ Some a) × ((r ≡ None) ⊎ (nat_lt n a.at ≡ false))
unfolding is_action
later_action n None None e = absurd (true≢false (sym e))
later_action n None (Some r) e = absurd (true≢false (sym e))
later_action n (Some a) None e = (a, refl, inl refl)
later_action n (Some a) (Some r) e = step (nat_lt n a.at) refl e
  where
    step : (b : Bool) → nat_lt n a.at ≡ b → is_action (if b then due.Frame n else due.Action a.at) ≡ true → (x : Action) × (Some a ≡ Some x) × ((Some r ≡ None) ⊎ (nat_lt n x.at ≡ false))
    step true h e = absurd (true≢false (sym e))
    step false h e = (a, refl, inr h)

past_end : {X : Type 0} (xs : List X) (i : ℕ) → slice_get xs i ≡ None → length xs ≤ i
past_end [] i e = omega arith
past_end (x ∷ xs) zero e = absurd (cc e)
past_end (x ∷ xs) (suc i) e = let h = past_end xs i e in omega (arith, h)

pub action_due : (p : GuestPlan) (s : Progress) (at : ℕ) → Waits s.stage → (s.stage ≡ Active → s.closed ≡ false) → due_of p s false ≡ due.Action at → (a : Action) × ActionDue p s a
unfolding is_action
action_due p s at w open_ e =
    let h = later_action s.next (slice_get p.script s.done) (slice_get p.capture.records s.next) (ap is_action (sym (next_in s.stage s.closed (next_of p s) w open_) ∙ e)) in (
      h.0,
      record {
        there = h.1;
        now = λ lt. ⊎_elim
            (λ (x : slice_get p.capture.records s.next ≡ None). let low = past_end p.capture.records s.next x in absurd (omega (arith, lt, low)))
            (λ (x : nat_lt s.next (h.0).at ≡ false). grind (arith, nat_tests, x))
            h.2;
      },
    )

-- what is due where no command is outstanding
pub due_none : (p : GuestPlan) (s : Progress) (o : Option CommandView) (d : Due) → o ≡ None → due_of p s false ≡ d → due_of p s (is_some o) ≡ d
due_none p s o d none e = ap (λ (x : Option CommandView). due_of p s (is_some x)) none ∙ e

pub due_at : (p : GuestPlan) (s : Progress) (o : Option CommandView) (g : Stage) (d : Due) → o ≡ None → s.stage ≡ g → due_in g s.closed (next_of p s) ≡ d → due_of p s (is_some o) ≡ d
due_at p s o g d none on e = due_none p s o d none (ap (λ (x : Stage). due_in x s.closed (next_of p s)) on ∙ e)

pub due_answer : (p : GuestPlan) (s : Progress) (asked : Bool) → asked ≡ true → due_of p s asked ≡ due.Answer
due_answer p s asked e = ap (λ (b : Bool). if b then due.Answer else due_in s.stage s.closed (next_of p s)) e
