-- A guest's turn: its actions, then its frame.
use Rattle.std.proofs.Common.{◌≡◌, ℕ, ◌+◌, ap, ap₂, sym, ◌∙◌, subst}
use Rattle.std.specs.List.{slice_get}
use Rattle.vmx_model.specs.declared.plan.Plan.{Plan}
use Rattle.vmx_model.specs.Serial.{World, turn}
use Rattle.vmx_replay_runs.specs.Runs.{RunView}
use Rattle.vmx_replay_order.specs.Orders.{acted_by, sent_in, sends_at}
use Rattle.vmx_replay_runs.specs.Standing.{IsAt, HasBegun, Stands, OthersBegun, OthersStand}
use Rattle.vmx_replay_runs.proofs.Counts.{more_here, more_other}
use Rattle.vmx_replay_order.proofs.Frames.{turn_is}

module _ (port n : ℕ) (r s t : RunView) (others : OthersBegun port r s) where
  pub turned_is : s.world ≡ acted_by port n (slice_get r.plan.guests port) r.world → t ≡ sends_at port n s → t.world ≡ turn r.plan n port r.world
  turned_is acted e = ap (λ (x : RunView). x.world) e ∙ ap₂ (λ (plan : Plan) (w : World). sent_in plan port n (slice_get plan.guests port) w) others.plan acted ∙ turn_is r.plan port n (slice_get r.plan.guests port) r.world

  pub turned_stands : HasBegun port (n + 1) s → r.passed port ≡ n → t ≡ sends_at port n s → Stands (n + 1) port t
  turned_stands begun at e = record {
    begun = λ p is. subst (IsAt (n + 1) p) (sym (ap (λ (x : RunView). x.reached port) e)) (begun p (ap (λ (x : RunView). slice_get x.plan.guests port) (sym e) ∙ is));
    passed = ap (λ (x : RunView). x.passed port) e ∙ more_here port s.passed ∙ ap (λ (f : ℕ → ℕ). f port + 1) others.passed ∙ ap (λ (k : ℕ). k + 1) at;
  }

  pub turned_others : t ≡ sends_at port n s → OthersStand port r t
  turned_others e = record {
    plan = ap (λ (x : RunView). x.plan) e ∙ others.plan;
    reached = λ h away. ap (λ (x : RunView). x.reached h) e ∙ others.reached h away;
    passed = λ h away. ap (λ (x : RunView). x.passed h) e ∙ more_other port h s.passed away ∙ ap (λ (f : ℕ → ℕ). f h) others.passed;
    closings = ap (λ (x : RunView). x.closings) e ∙ others.closings;
  }
