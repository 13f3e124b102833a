-- A driver that stands at a captured number of the serial order.
use Rattle.std.specs.Prelude.{◌≡◌, ℕ, ◌+◌, Bool, true, false, nat_eq, drop}
use Rattle.vmx_model.specs.declared.guest.GuestPlan.{GuestPlan}
use Rattle.vmx_model.specs.declared.sending.Sending.{Sending}
use Rattle.vmx_model.specs.declared.sending.Sending.TheVariants as sending
use Rattle.vmx_model.specs.QueueSteps.{sent_before}
use Rattle.vmx_driver_steps.specs.declared.progress.Progress.{Progress}
use Rattle.vmx_driver_steps.specs.declared.progress.Due.{Due}
use Rattle.vmx_driver_steps.specs.declared.progress.Due.TheVariants as due
use Rattle.vmx_driver_steps.specs.Progress.{passes, IsUnderway}
use Rattle.vmx_driver_steps.specs.Asking.{Waits}
use Rattle.vmx_replay_runs.specs.Standing.{AreFrom}

-- a driver has gone through the frames below number n: before its next frame go those of each queue that go before number n, and no others
abbrev pub HasGone : ℕ → GuestPlan → ℕ → Type 0
HasGone n p next = (a q : ℕ) → sent_before p a q next ≡ sent_before p a q n

-- an open driver with no command outstanding, active or quiet, that stands at an action, at a frame that is sent, or at the end, and has gone through the frames below number n
pub record StandsAt (n : ℕ) (p : GuestPlan) (s : Progress) : Type 0 where
  pub under : IsUnderway p s
  pub settled : passes p s ≡ false
  pub unclosed : s.closed ≡ false
  pub waits : Waits s.stage
  pub gone : HasGone n p s.next

-- all actions up to number n were begun
abbrev pub HasActed : ℕ → GuestPlan → ℕ → Type 0
HasActed n p done = AreFrom (n + 1) (drop done p.script)

-- an action of number n is due
abbrev pub is_action : ℕ → Due → Bool
is_action n (due.Action at) = nat_eq at n
is_action n (due.Frame i) = false
is_action n due.Nothing = false
is_action n due.Activate = false
is_action n due.Answer = false
is_action n due.Meet = false
is_action n due.Close = false

-- the frame of number n is due
abbrev pub is_frame : ℕ → Due → Bool
is_frame n (due.Frame i) = nat_eq i n
is_frame n (due.Action at) = false
is_frame n due.Nothing = false
is_frame n due.Activate = false
is_frame n due.Answer = false
is_frame n due.Meet = false
is_frame n due.Close = false

-- the verdict is that the frame is sent
abbrev pub is_sent : Sending → Bool
is_sent (sending.Sent a q k) = true
is_sent sending.Down = false
is_sent sending.Short = false
is_sent sending.TooLong = false
