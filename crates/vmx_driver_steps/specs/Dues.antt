-- What it means that a step is due.
use Rattle.std.proofs.Common.{◌≡◌, ℕ, Bool, true, false, not, true≢false, refl, ap, sym, ◌∙◌, subst, Option, Some, None, nat_lt, if◌then◌else◌}
use Rattle.std.specs.List.{slice_get}
use Rattle.vmx_pcap.specs.declared.records.Stamped.{Stamped}
use Rattle.vmx_model.specs.declared.guest.GuestPlan.{GuestPlan}
use Rattle.vmx_model.specs.declared.deeds.Action.{Action}
use Rattle.vmx_driver_steps.specs.declared.progress.Stage.{Stage}
use Rattle.vmx_driver_steps.specs.declared.progress.Stage.TheVariants.{Fresh, Active, Stopping, Held, Quiet, Ended}
use Rattle.vmx_driver_steps.specs.declared.progress.Progress.{Progress}
use Rattle.vmx_driver_steps.specs.declared.progress.Due.{Due}
use Rattle.vmx_driver_steps.specs.declared.progress.Due.TheVariants as due
use Rattle.vmx_driver_steps.specs.Progress.{is_later, is_sendable, is_passed, passes_by, passes, next_by, next_of, due_in, due_of}

-- a frame is to be posted
pub record FrameDue (p : GuestPlan) (s : Progress) : Type 0 where
  pub record_ : Stamped
  pub there : slice_get p.capture.records s.next ≡ Some record_
  pub later : is_later s.next (slice_get p.script s.done) ≡ true
  pub active : s.stage ≡ Active
  pub fit : is_sendable p record_.frame ≡ true

is_frame : Due → Bool
is_frame (due.Frame i) = true
is_frame due.Activate = false
is_frame due.Answer = false
is_frame due.Meet = false
is_frame (due.Action at) = false
is_frame due.Close = false
is_frame due.Nothing = false

not_false : (b : Bool) → not b ≡ false → b ≡ true
not_false true e = refl
not_false false e = absurd (true≢false e)

-- of an action and a frame, where a frame is next
later_by : (n : ℕ) (a : Option Action) (r : Option Stamped) → is_frame (next_by n a r) ≡ true → (x : Stamped) × (r ≡ Some x) × (is_later n a ≡ true)
unfolding is_frame
later_by n None None e = absurd (true≢false (sym e))
later_by n None (Some r) e = (r, refl, refl)
later_by n (Some a) None e = absurd (true≢false (sym e))
later_by n (Some a) (Some r) e = step (nat_lt n a.at) refl e
  where
    step : (b : Bool) → nat_lt n a.at ≡ b → is_frame (if b then due.Frame n else due.Action a.at) ≡ true → (x : Stamped) × (Some r ≡ Some x) × (nat_lt n a.at ≡ true)
    step true h e = (r, refl, h)
    step false h e = absurd (true≢false (sym e))

pub frame_due : (p : GuestPlan) (s : Progress) (i : ℕ) → passes p s ≡ false → due_of p s false ≡ due.Frame i → FrameDue p s
unfolding is_frame
frame_due p s i settled e = by_stage s.stage refl (ap is_frame e)
  where
    make : (g : Stage) → s.stage ≡ g → ((r : Stamped) → is_passed p g r.frame ≡ false → (g ≡ Active) × (is_sendable p r.frame ≡ true)) → is_frame (next_of p s) ≡ true → FrameDue p s
    make g on f h = let l = later_by s.next (slice_get p.script s.done) (slice_get p.capture.records s.next) h in let r = l.0 in
        let here : passes_by p s (slice_get p.script s.done) (Some r) ≡ false = subst (λ (o : Option Stamped). passes_by p s (slice_get p.script s.done) o ≡ false) l.1 settled in
        let kept : is_passed p s.stage r.frame ≡ false = rw l.2 at here in
        let both = f r (subst (λ (x : Stage). is_passed p x r.frame ≡ false) on kept) in
        record { record_ = r; there = l.1; later = l.2; active = on ∙ both.0; fit = both.1 }

    by_closed : (b : Bool) → s.stage ≡ Active → is_frame (if b then due.Close else next_of p s) ≡ true → FrameDue p s
    by_closed true on h = absurd (true≢false (sym h))
    by_closed false on h = make Active on (λ r x. (refl, not_false (is_sendable p r.frame) x)) h

    by_stage : (g : Stage) → s.stage ≡ g → is_frame (due_in g s.closed (next_of p s)) ≡ true → FrameDue p s
    by_stage Active on h = by_closed s.closed on h
    by_stage Quiet on h = make Quiet on (λ r x. absurd (true≢false x)) h
    by_stage Fresh on h = absurd (true≢false (sym h))
    by_stage (Stopping t) on h = absurd (true≢false (sym h))
    by_stage (Held t) on h = absurd (true≢false (sym h))
    by_stage Ended on h = absurd (true≢false (sym h))
