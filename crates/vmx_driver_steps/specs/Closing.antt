-- A driver with which nothing is due is closed.
use Rattle.std.proofs.Common.{◌≡◌, ℕ, zero, suc, ◌≤◌, Bool, true, false, true≢false, List, [], ◌∷◌, length, refl, ap, sym, ◌∙◌, subst, arith, Option, Some, None, nat_lt, if◌then◌else◌}
use Rattle.std.specs.Prelude.{is_some}
use Rattle.std.specs.List.{slice_get}
use Rattle.vmx_pcap.specs.declared.records.Stamped.{Stamped}
use Rattle.vmx_device_state.specs.SetupView.{SetupView}
use Rattle.vmx_device_state.specs.declared.turn.CommandView.{CommandView}
use Rattle.vmx_model.specs.declared.deeds.Action.{Action}
use Rattle.vmx_driver_steps.specs.declared.progress.Stage.{Stage}
use Rattle.vmx_driver_steps.specs.declared.progress.Stage.TheVariants.{Fresh, Active, Stopping, Held, Quiet, Ended}
use Rattle.vmx_driver_steps.specs.declared.progress.Due.{Due}
use Rattle.vmx_driver_steps.specs.declared.progress.Due.TheVariants as due
use Rattle.vmx_driver_steps.specs.Progress.{next_by, next_of, due_in, due_of, is_down_in}
use Rattle.vmx_driver_steps.specs.Driver.{DriverView, Runs, GivesBack, other_ends}

is_nothing : Due → Bool
is_nothing due.Nothing = true
is_nothing (due.Frame i) = false
is_nothing due.Activate = false
is_nothing due.Answer = false
is_nothing due.Meet = false
is_nothing (due.Action at) = false
is_nothing due.Close = false

past_end : {X : Type 0} (xs : List X) (i : ℕ) → slice_get xs i ≡ None → length xs ≤ i
past_end [] i e = omega arith
past_end (x ∷ xs) zero e = absurd (cc e)
past_end (x ∷ xs) (suc i) e = let h = past_end xs i e in omega (arith, h)

none_next : (n : ℕ) (a : Option Action) (r : Option Stamped) → is_nothing (next_by n a r) ≡ true → (a ≡ None) × (r ≡ None)
unfolding is_nothing
none_next n None None e = (refl, refl)
none_next n None (Some r) e = absurd (true≢false (sym e))
none_next n (Some a) None e = absurd (true≢false (sym e))
none_next n (Some a) (Some r) e = step (nat_lt n a.at) e
  where
    step : (b : Bool) → is_nothing (if b then due.Frame n else due.Action a.at) ≡ true → (Some a ≡ None) × (Some r ≡ None)
    step true e = absurd (true≢false (sym e))
    step false e = absurd (true≢false (sym e))

-- all actions are begun, and all frames posted or passed over
pub at_end : (v : DriverView) (s : SetupView) → Runs v s → due_of v.plan v.at (is_some v.calls.asked) ≡ due.Nothing → (v.at.done ≡ length v.plan.script) × (v.at.next ≡ length v.plan.capture.records)
unfolding is_nothing
at_end v s k e = by_asked v.calls.asked refl (ap is_nothing e)
  where
    ends : is_nothing (next_of v.plan v.at) ≡ true → (v.at.done ≡ length v.plan.script) × (v.at.next ≡ length v.plan.capture.records)
    ends h = let n = none_next v.at.next (slice_get v.plan.script v.at.done) (slice_get v.plan.capture.records v.at.next) h in
        let a = past_end v.plan.script v.at.done n.0 in let b = past_end v.plan.capture.records v.at.next n.1 in let low = k.keeps.under.done in let few = k.keeps.under.next in (omega (arith, a, low), omega (arith, b, few))

    by_closed : (b : Bool) → is_nothing (if b then due.Close else next_of v.plan v.at) ≡ true → (v.at.done ≡ length v.plan.script) × (v.at.next ≡ length v.plan.capture.records)
    by_closed true h = absurd (true≢false (sym h))
    by_closed false h = ends h

    by_stage : (g : Stage) → v.at.stage ≡ g → v.calls.asked ≡ None → is_nothing (due_in g v.at.closed (next_of v.plan v.at)) ≡ true → (v.at.done ≡ length v.plan.script) × (v.at.next ≡ length v.plan.capture.records)
    by_stage Active on none h = by_closed v.at.closed h
    by_stage Quiet on none h = ends h
    by_stage Ended on none h = k.keeps.under.whole (ap is_down_in on)
    by_stage Fresh on none h = absurd (true≢false (sym h))
    by_stage (Held t) on none h = absurd (true≢false (sym h))
    by_stage (Stopping t) on none h =
        let gives = subst (λ (g : Stage). GivesBack g v.calls.turns v.calls.asked (other_ends v.tx v.rx)) on k.keeps.commands.gives in
        absurd (cc (sym none ∙ gives.2))

    by_asked : (o : Option CommandView) → v.calls.asked ≡ o → is_nothing (due_of v.plan v.at (is_some o)) ≡ true → (v.at.done ≡ length v.plan.script) × (v.at.next ≡ length v.plan.capture.records)
    by_asked None at h = by_stage v.at.stage refl at h
    by_asked (Some c) at h = absurd (true≢false (sym h))

pub closes : (v : DriverView) (s : SetupView) → Runs v s → due_of v.plan v.at (is_some v.calls.asked) ≡ due.Nothing → Runs (record v { at = record v.at { closed = true } }) s
closes v s k e = record {
  keeps = record {
    under = record { done = k.keeps.under.done; next = k.keeps.under.next; reached = k.keeps.under.reached; counted = k.keeps.under.counted; quiet = k.keeps.under.quiet; whole = k.keeps.under.whole; closed = λ _. at_end v s k e };
    tx_count = k.keeps.tx_count;
    rx_count = k.keeps.rx_count;
    tx = k.keeps.tx;
    rx = k.keeps.rx;
    held = k.keeps.held;
    parting = k.keeps.parting;
    commands = record { sent = k.keeps.commands.sent; zero = k.keeps.commands.zero; leads = k.keeps.commands.leads; gives = k.keeps.commands.gives };
    bags = k.keeps.bags;
    bags_are = k.keeps.bags_are;
    gifts_are = k.keeps.gifts_are;
    got_back = k.keeps.got_back;
    tx_names = k.keeps.tx_names;
    rx_names = k.keeps.rx_names;
    tx_facts = k.keeps.tx_facts;
    rx_facts = k.keeps.rx_facts;
    owned = k.keeps.owned;
    rising = k.keeps.rising;
    none_yet = k.keeps.none_yet;
  };
  settled = k.settled;
  setup = k.setup;
  short = k.short;
  interrupts = k.interrupts;
}
