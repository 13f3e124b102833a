-- The device is asked to give its ends back.
use Rattle.std.proofs.Common.{◌≡◌, ℕ, ◌&&◌, Bool, true, false, List, ◌∷◌, refl, ap, sym, ◌∙◌, subst, Option, Some, None}
use Rattle.std.specs.List.{slice_get}
use Rattle.vmx_pcap.specs.declared.records.Stamped.{Stamped}
use Rattle.vmx_device_state.specs.SetupView.{SetupView}
use Rattle.vmx_device_state.specs.ImageSetup.{image_setup}
use Rattle.vmx_device_state.specs.Orders.{order_of}
use Rattle.vmx_device_state.specs.declared.order.Order.TheVariants.{Stop}
use Rattle.vmx_device_state.specs.declared.turn.CommandView.{CommandView}
use Rattle.vmx_model.specs.declared.guest.GuestPlan.{GuestPlan}
use Rattle.vmx_model.specs.declared.deeds.Action.{Action}
use Rattle.vmx_model.specs.Plan.{Ask}
use Rattle.vmx_driver_steps.specs.declared.progress.Then.{Then}
use Rattle.vmx_driver_steps.specs.declared.progress.Stage.{Stage}
use Rattle.vmx_driver_steps.specs.declared.progress.Stage.TheVariants.{Active, Stopping}
use Rattle.vmx_driver_steps.specs.declared.progress.Progress.{Progress}
use Rattle.vmx_driver_steps.specs.Progress.{in_hand, count_in, passes_by, is_later, setup_now, asks_left, IsUnderway}
use Rattle.vmx_driver_steps.specs.Driver.{DriverView, Runs, Leads, IsReady, ask_by, other_ends, state_in, held_in}
use Rattle.vmx_driver_steps.specs.Sending.{stop_leads}
use Rattle.vmx_driver_steps.specs.Asking.{sends, is_held}

-- a quiesce or a reset of this number is due
pub record MayStop (v : DriverView) (number : ℕ) (t : Then) (done : ℕ) : Type 0 where
  pub active : v.at.stage ≡ Active
  pub none : v.calls.asked ≡ None
  pub order : order_of number ≡ Stop
  pub under : IsUnderway v.plan (record v.at { stage = Stopping t; done = done })
  pub same : setup_now v.plan (record v.at { stage = Stopping t; done = done }) ≡ setup_now v.plan v.at
  pub left : asks_left v.plan v.at ≡ record { number = number; setup = setup_now v.plan v.at } ∷ asks_left v.plan (record v.at { stage = Stopping t; done = done })
  pub ready : IsReady t v.plan v.at.ended v.tx

no_pass : (b : Bool) → (b && false) ≡ false
no_pass true = refl
no_pass false = refl

stopping_settled : (p : GuestPlan) (s : Progress) (t : Then) (a : Option Action) (o : Option Stamped) → passes_by p (record s { stage = Stopping t }) a o ≡ false
stopping_settled p s t a None = refl
stopping_settled p s t a (Some r) = no_pass (is_later s.next a)

pub stops_runs : (v : DriverView) (s : SetupView) (number : ℕ) (t : Then) (done : ℕ) (c : CommandView) → Runs v s → MayStop v number t done → c.number ≡ number → image_setup c.image ≡ setup_now v.plan v.at → c.ends ≡ None
    → Runs (record v { at = record v.at { stage = Stopping t; done = done }; calls = record v.calls { asked = Some c } }) s
stops_runs v s number t done c k m num told ends = record {
  keeps = sends v (Stopping t) done c k.keeps m.none m.under (m.left ∙ ap (λ (x : Ask). x ∷ asks_left v.plan (record v.at { stage = Stopping t; done = done })) ask_is)
      (stop_leads v.calls.turns (state_in v.at.stage (setup_now v.plan v.at)) (held_in v.at.stage (other_ends v.tx v.rx)) c led (ap order_of num ∙ m.order) ends)
      (led.1 ∙ ap (λ (g : Stage). held_in g (other_ends v.tx v.rx)) m.active, c, refl, ap order_of num ∙ m.order, ends)
      (λ n. ap (λ (g : Stage). count_in g n) (sym m.active)) (ap in_hand (sym m.active)) (ap is_held m.active) refl m.ready;
  settled = stopping_settled v.plan (record v.at { done = done }) t (slice_get v.plan.script done) (slice_get v.plan.capture.records v.at.next);
  setup = k.setup ∙ sym m.same;
  short = k.short;
  interrupts = k.interrupts;
}
  where
    led : Leads v.calls.turns None (state_in v.at.stage (setup_now v.plan v.at)) (held_in v.at.stage (other_ends v.tx v.rx))
    led = subst (λ (o : Option CommandView). Leads v.calls.turns o (state_in v.at.stage (setup_now v.plan v.at)) (held_in v.at.stage (other_ends v.tx v.rx))) m.none k.keeps.commands.leads

    ask_is : record { number = number; setup = setup_now v.plan v.at } ≡ ask_by c
    ask_is = λ i. record { number = sym num i; setup = sym told i }

-- what the command says is the setup in force
pub stop_told : (v : DriverView) (number : ℕ) (t : Then) (done : ℕ) (image : List ℕ) → MayStop v number t done → image_setup image ≡ setup_now v.plan v.at → image_setup image ≡ setup_now v.plan (record v.at { stage = Stopping t; done = done })
stop_told v number t done image m told = told ∙ sym m.same
