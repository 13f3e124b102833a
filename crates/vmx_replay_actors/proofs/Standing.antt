-- Where the drivers of all guests stand, when one of them goes on.
use Rattle.std.proofs.Common.{◌≡◌, ◌≢◌, ℕ, Bool, List, set, get_or, sym, ap, ◌∙◌, subst, nat_lt, Some, inl, inr}
use Rattle.std.specs.List.{slice_get}
use Rattle.std.proofs.lemmas.Bool.Decides.{eqb_tells}
use Rattle.vmx_model.specs.declared.guest.GuestPlan.{GuestPlan}
use Rattle.vmx_model.specs.declared.plan.Plan.{Plan}
use Rattle.vmx_device_laws.proofs.Pairing.{get_set_other}
use Rattle.vmx_driver_steps.specs.declared.progress.Progress.{Progress}
use Rattle.vmx_replay_actors.specs.Runs.{StandsBy, AllStand}
use Rattle.vmx_replay_actors.proofs.Lists.{set_only}

-- by whether a guest is closed, and the number to which it has come
pub stands_as : (b b' : Bool) (n n' : ℕ) (p : GuestPlan) (s : Progress) → b' ≡ b → n' ≡ n → StandsBy b n p s → StandsBy b' n' p s
stands_as b b' n n' p s e f h = subst (λ (x : Bool × ℕ). StandsBy x.0 x.1 p s) (λ i. (sym e i, sym f i)) h

-- what else stands is as it was: the number, and whether the guest is closed
pub record ElseSame (port : ℕ) (passed passed' : List ℕ) (closings closings' : ℕ) : Type 0 where
  pub number : (h : ℕ) → h ≢ port → get_or passed' h 0 ≡ get_or passed h 0
  pub closed_ : (h : ℕ) → h ≢ port → nat_lt h closings' ≡ nat_lt h closings

module _ (plan : Plan) (ps : List Progress) (passed passed' : List ℕ) (closings closings' port : ℕ) (all : AllStand plan ps passed closings) (same : ElseSame port passed passed' closings closings') where
  else_stands : (h : ℕ) (p : GuestPlan) (s : Progress) → h ≢ port → slice_get plan.guests h ≡ Some p → slice_get ps h ≡ Some s → StandsBy (nat_lt h closings') (get_or passed' h 0) p s
  else_stands h p s ne at there = stands_as (nat_lt h closings) (nat_lt h closings') (get_or passed h 0) (get_or passed' h 0) p s (same.closed_ h ne) (same.number h ne) (all h p s at there)

  -- a driver went on
  pub stand_set : (a : Progress) → ((p : GuestPlan) → slice_get plan.guests port ≡ Some p → StandsBy (nat_lt port closings') (get_or passed' port 0) p a) → AllStand plan (set ps port a) passed' closings'
  stand_set a now = λ h p s at there. elim (eqb_tells h port) [
    | inl here ↦ (
        let is : s ≡ a = set_only ps port a s (ap (slice_get (set ps port a)) (sym here.1) ∙ there) in
        let stands : StandsBy (nat_lt port closings') (get_or passed' port 0) p a = now p (ap (slice_get plan.guests) (sym here.1) ∙ at) in
        subst (λ (x : ℕ × Progress). StandsBy (nat_lt x.0 closings') (get_or passed' x.0 0) p x.1) (λ i. (sym here.1 i, sym is i)) stands)
    | inr away ↦ else_stands h p s away.1 at (sym (get_set_other ps port a h away.1) ∙ there)
  ]

  -- a guest went on, and its driver is where it was
  pub stand_there : ((p : GuestPlan) (s : Progress) → slice_get plan.guests port ≡ Some p → slice_get ps port ≡ Some s → StandsBy (nat_lt port closings') (get_or passed' port 0) p s) → AllStand plan ps passed' closings'
  stand_there now = λ h p s at there. elim (eqb_tells h port) [
    | inl here ↦ subst (λ (k : ℕ). StandsBy (nat_lt k closings') (get_or passed' k 0) p s) (sym here.1) (now p s (ap (slice_get plan.guests) (sym here.1) ∙ at) (ap (slice_get ps) (sym here.1) ∙ there))
    | inr away ↦ else_stands h p s away.1 at there
  ]

-- with the same progress
pub stand_same : (plan : Plan) (ps ps' : List Progress) (passed : List ℕ) (closings : ℕ) → ps' ≡ ps → AllStand plan ps passed closings → AllStand plan ps' passed closings
stand_same plan ps ps' passed closings e all = subst (λ (xs : List Progress). AllStand plan xs passed closings) (sym e) all
