-- What an activation is answered, where the image holds a setup; and an update whose check passes.
use Rattle.std.proofs.Common.{◌≡◌, ◌≢◌, ◌⊎◌, inl, inr, ℕ, List, Bool, true, false, true≢false, refl, sym, ap, ◌∙◌, arith, nat_eq}
use Rattle.std.specs.Prelude.{Option, Some, None, Ok, is_some, ◌==◌, ◌&&◌, if◌then◌else◌}
use Rattle.std.proofs.lemmas.Bool.Decides.{nat_tests}
use Rattle.vmx_shared_area.specs.Passing.{eq_true}
use Rattle.vmx_shared_area.specs.Tells.{Reads}
use Rattle.vmx_shared_area.specs.declared.fault.ImageFault.{ImageFault}
use Rattle.vmx_shared_area.specs.declared.setup.Setup.{Setup}
use Rattle.vmx_device_state.specs.SetupView.{SetupView}
use Rattle.vmx_device_state.specs.ImageSetup.{image_setup}
use Rattle.vmx_device_state.specs.DeviceState.{DeviceState, Idle, fault_number, counts_answer, activate_answer, unless}
use Rattle.vmx_device_state.specs.Agree.{setup_agrees}
use Rattle.vmx_device_state.specs.Plain.{state_by}
use Rattle.vmx_device_state.specs.declared.answers.TheConstants.{OTHER_ENDS}
use Rattle.vmx_device_state.specs.declared.turn.EndCounts.{EndCounts}

pub is_idle : (o : Option Setup) → is_some o ≡ false → state_by o ≡ Idle
is_idle None e = refl
is_idle (Some s) e = absurd (true≢false e)

eq_false : (m n : ℕ) → m ≢ n → nat_eq m n ≡ false
eq_false m n h = grind (arith, nat_tests)

-- the answer by whether the numbers are the image's
abbrev counted : Bool → ℕ
counted b = if b then 0 else OTHER_ENDS

second_false : (a b : Bool) → b ≡ false → counted (a && b) ≡ OTHER_ENDS
second_false true b e = ap counted e
second_false false b e = refl

counts_match : (a b x y : ℕ) → a ≡ x → b ≡ y → counted (a == x && b == y) ≡ 0
counts_match a b x y e f = rw (eq_true a x e, eq_true b y f) refl

counts_differ : (a b x y : ℕ) → (a ≢ x) ⊎ (b ≢ y) → counted (a == x && b == y) ≡ OTHER_ENDS
counts_differ a b x y (inl h) = rw (eq_false a x h) refl
counts_differ a b x y (inr h) = second_false (a == x) (b == y) (eq_false b y h)

by_counts : (d : DeviceState) (bs : List ℕ) (s : Setup) (ends : Option EndCounts) (c : EndCounts) → d ≡ Idle → Reads bs (Ok s) → ends ≡ Some c
    → activate_answer d bs ends ≡ counted (c.tx == s.tx_queues && c.rx == s.rx_queues)
by_counts d bs s ends c idle h is =
    ap (λ x. activate_answer x bs ends) idle ∙ ap (λ e. activate_answer Idle bs e) is ∙ ap (λ f. fault_number f (counts_answer (image_setup bs) (Some c))) h.0
    ∙ ap (λ v. counts_answer v (Some c)) (sym (setup_agrees bs s h))

-- the bag has the image's numbers of ends
pub activates : (d : DeviceState) (bs : List ℕ) (s : Setup) (ends : Option EndCounts) (c : EndCounts) → d ≡ Idle → Reads bs (Ok s) → ends ≡ Some c → c.tx ≡ s.tx_queues → c.rx ≡ s.rx_queues
    → 0 ≡ activate_answer d bs ends
activates d bs s ends c idle h is tx rx = sym (by_counts d bs s ends c idle h is ∙ counts_match c.tx c.rx s.tx_queues s.rx_queues tx rx)

-- it has other numbers
pub refuses : (d : DeviceState) (bs : List ℕ) (s : Setup) (ends : Option EndCounts) (c : EndCounts) → d ≡ Idle → Reads bs (Ok s) → ends ≡ Some c → (c.tx ≢ s.tx_queues) ⊎ (c.rx ≢ s.rx_queues)
    → OTHER_ENDS ≡ activate_answer d bs ends
refuses d bs s ends c idle h is other = sym (by_counts d bs s ends c idle h is ∙ counts_differ c.tx c.rx s.tx_queues s.rx_queues other)

pub unless_none : (f : Option ImageFault) (s : SetupView) → f ≡ None → unless f s ≡ Some s
unless_none f s e = ap (λ x. unless x s) e
