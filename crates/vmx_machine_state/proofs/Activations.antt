-- What an activation is answered, where the machine is idle, its image holds a setup and its bag has ends.
use Rattle.std.proofs.Common.{◌≡◌, ℕ, List, length, Bool, false, true≢false, refl, sym, ap, ap₂, ◌∙◌}
use Rattle.std.specs.Prelude.{Option, Some, None, Ok, is_some, option_map, ◌==◌, ◌&&◌, if◌then◌else◌}
use Rattle.vmx_shared_area.specs.Tells.{Reads}
use Rattle.vmx_shared_area.specs.declared.setup.Setup.{Setup}
use Rattle.vmx_device_state.specs.ImageSetup.{image_setup}
use Rattle.vmx_device_state.specs.DeviceState.{DeviceState, Idle, fault_number, counts_answer, activate_answer}
use Rattle.vmx_device_state.specs.Agree.{setup_agrees}
use Rattle.vmx_device_state.specs.declared.answers.TheConstants.{OTHER_ENDS}
use Rattle.vmx_machine_state.specs.Views.{EndsView, ActiveView, counts_in, state_by}

pub is_idle : {A : Type 0} (f : A → ActiveView) (o : Option A) → is_some o ≡ false → state_by (option_map f o) ≡ Idle
is_idle f None e = refl
is_idle f (Some a) e = absurd (true≢false e)

-- 0 or 11, by whether the numbers of ends are the setup's
abbrev pub answer_by : Bool → ℕ
answer_by b = if b then 0 else OTHER_ENDS

by_counts : (d : DeviceState) (bs : List ℕ) (s : Setup) (o : Option EndsView) (e : EndsView) → d ≡ Idle → Reads bs (Ok s) → o ≡ Some e
    → activate_answer d bs (counts_in o) ≡ answer_by (length e.tx == s.tx_queues && length e.rx == s.rx_queues)
by_counts d bs s o e idle reads is =
    ap (λ x. activate_answer x bs (counts_in o)) idle ∙ ap (λ x. activate_answer Idle bs (counts_in x)) is
    ∙ ap (λ f. fault_number f (counts_answer (image_setup bs) (counts_in (Some e)))) reads.0
    ∙ ap (λ v. counts_answer v (counts_in (Some e))) (sym (setup_agrees bs s reads))

-- the answer to a bag with these ends, where n and m of them were counted and compared
pub answered : (d : DeviceState) (bs : List ℕ) (s : Setup) (o : Option EndsView) (e : EndsView) → d ≡ Idle → Reads bs (Ok s) → o ≡ Some e
    → (n m : ℕ) → length e.tx ≡ n → length e.rx ≡ m → (b b' : Bool) → b ≡ (n == s.tx_queues && m == s.rx_queues) → b ≡ b' → answer_by b' ≡ activate_answer d bs (counts_in o)
answered d bs s o e idle reads is n m tx rx b b' same was =
    ap answer_by (sym was ∙ same ∙ ap₂ (λ (x y : ℕ). x == s.tx_queues && y == s.rx_queues) (sym tx) (sym rx)) ∙ sym (by_counts d bs s o e idle reads is)
