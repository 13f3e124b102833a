-- What a driver knows when it sends a command, and when it takes the answer.
use Rattle.std.proofs.Common.{◌≡◌, ℕ, Bool, true, List, [], ◌∷◌, ◌++◌, refl, ap, sym, ◌∙◌, subst, append_assoc, append-nil, Option, Some, None, if◌then◌else◌, inl, inr}
use Rattle.std.proofs.lemmas.Bool.Decides.{eqb_tells}
use Rattle.std.specs.Prelude.{◌==◌, ◌&&◌, IfSome}
use Rattle.vmx_io.specs.declared.handed.HandedView.{HandedView}
use Rattle.vmx_layout.specs.Command.{number_of}
use Rattle.vmx_layout.specs.declared.command.Command.TheVariants.{ActivateDev}
use Rattle.vmx_shared_area.specs.Checks.{fault}
use Rattle.vmx_shared_area.specs.Layout.{image_of}
use Rattle.vmx_shared_area.specs.ReadsBack.{image_reads}
use Rattle.vmx_shared_area.specs.declared.setup.Setup.{Setup}
use Rattle.vmx_device_state.specs.SetupView.{SetupView, setup_view}
use Rattle.vmx_device_state.specs.ImageSetup.{image_setup}
use Rattle.vmx_device_state.specs.Agree.{setup_agrees}
use Rattle.vmx_device_state.specs.Laws.{state_snoc}
use Rattle.vmx_device_state.specs.DeviceState as state
use Rattle.vmx_device_state.specs.Orders.{order_of}
use Rattle.vmx_device_state.specs.Deals.{Held as HeldEnds, held_as, held_of, held_by, deal_by, deal_of, held_after, held_from, held_after_turn, AreEndsBack, Deal}
use Rattle.vmx_device_state.specs.declared.order.Order.TheVariants.{Activate, Stop, Update}
use Rattle.vmx_device_state.specs.declared.order.Part.{Part}
use Rattle.vmx_device_state.specs.declared.turn.CommandView.{CommandView}
use Rattle.vmx_device_state.specs.declared.turn.AnswerView.{AnswerView}
use Rattle.vmx_device_state.specs.declared.turn.Turn.{Turn}
use Rattle.vmx_regs.specs.Turns.{IsTurn}
use Rattle.vmx_regs.specs.Rule.{turn_of}
use Rattle.vmx_regs.specs.Lawful.{held_snoc}
use Rattle.vmx_model.specs.Bags.{gift, gifts, gifts_from}
use Rattle.vmx_driver_steps.specs.Driver.{Leads}

-- what an image of a setup says
pub says : (s : Setup) → image_setup (image_of s) ≡ setup_view s
says s = sym (setup_agrees (image_of s) s (image_reads s))

no_fault : (s : Setup) → fault (image_of s) ≡ None
no_fault s = (image_reads s).0

same_count : (n m : ℕ) → n ≡ m → (n == m) ≡ true
same_count n m e = elim (eqb_tells n m) [
  | inl x ↦ x.0
  | inr x ↦ absurd (x.1 e)
]

-- an activation of an idle device, with as many ends as its setup says, is answered 0
pub activation_leads : (past : List Turn) (s : Setup) (c : CommandView) (v : HandedView) → Leads past None state.Idle None → c.number ≡ number_of ActivateDev → c.image ≡ image_of s → c.ends ≡ Some v → v.tx ≡ s.tx_queues → v.rx ≡ s.rx_queues
    → Leads past (Some c) (state.Active (setup_view s)) (Some (held_as v))
activation_leads past s c v h number image ends tx rx =
    let order : order_of c.number ≡ Activate = ap order_of number in
    let here : state.activate_answer state.Idle (image_of s) (Some (record { tx = v.tx; rx = v.rx })) ≡ 0 =
    ap (λ f. state.fault_number f (state.counts_answer (image_setup (image_of s)) (Some (record { tx = v.tx; rx = v.rx })))) (no_fault s)
    ∙ ap (λ (x : SetupView). state.counts_answer x (Some (record { tx = v.tx; rx = v.rx }))) (says s)
    ∙ ap (λ (b : Bool × Bool). if b.0 && b.1 then 0 else 11) (λ i. (same_count v.tx s.tx_queues tx i, same_count v.rx s.rx_queues rx i)) in
    (rw (order, h.0, image, ends) (ap Some here), rw (order, image) (ap state.Active (says s)), rw (order, ends) refl)

-- a device that is asked to give its ends back, with none in the bag, answers 0
pub stop_leads : (past : List Turn) (d : state.DeviceState) (held : Option HeldEnds) (c : CommandView) → Leads past None d held → order_of c.number ≡ Stop → c.ends ≡ None → Leads past (Some c) state.Idle None
stop_leads past d held c h order ends = (rw (order, ends) (ap Some (step (state.state_after past))), rw order refl, rw order refl)
  where
    step : (d : state.DeviceState) → state.stop_answer d None ≡ 0
    step state.Idle = refl
    step (state.Active s) = refl

-- an update that is taken
pub update_leads : (past : List Turn) (d d' : state.DeviceState) (held : Option HeldEnds) (part : Part) (c : CommandView) → Leads past None d held → order_of c.number ≡ Update part
    → state.update_answer part d c.image ≡ 0 → state.after_update part d c.image ≡ d' → Leads past (Some c) d' held
update_leads past d d' held part c h order zero after = (rw (order, h.0) (ap Some zero), rw (order, h.0) after, rw (order, h.1) refl)

-- the value that was led to
value_is : (o : Option ℕ) (n : ℕ) → o ≡ Some 0 → IfSome o (λ k. n ≡ k) → n ≡ 0
value_is o n e h = rw e at h

-- what an answer tells
pub record Answered (past : List Turn) (c : CommandView) (a : AnswerView) (d : state.DeviceState) (held : Option HeldEnds) : Type 0 where
  pub zero : a.value ≡ 0
  pub leads : Leads (past ++ turn_of c a ∷ []) None d held
  pub back : AreEndsBack (deal_by (order_of c.number)) (held_after past) c.ends a.ends

pub answered : (past : List Turn) (c : CommandView) (a : AnswerView) (d : state.DeviceState) (held : Option HeldEnds) → Leads past (Some c) d held → IsTurn past (turn_of c a) → Answered past c a d held
answered past c a d held h is =
    let zero : a.value ≡ 0 = value_is (state.set_answer (state.state_after past) c.number c.image (state.counts_of c.ends)) a.value h.0 is.answer.reply.value in
    let deal : deal_of c.number a.value ≡ deal_by (order_of c.number) = ap (deal_of c.number) zero in record {
      zero = zero;
      leads = (
        state_snoc state.Idle past (turn_of c a) ∙ ap (λ (n : ℕ). state.after_answer (state.state_after past) c.number c.image n) zero ∙ h.1,
        held_snoc None past (turn_of c a) ∙ ap (λ (x : Deal). held_by x (held_after past) (held_of c.ends)) deal ∙ h.2,
      );
      back = subst (λ (x : Deal). AreEndsBack x (held_after past) c.ends a.ends) deal is.answer.reply.ends;
    }

-- the bags that came back, one turn more
gifts_more : (h : Option HeldEnds) (ts : List Turn) (t : Turn) → gifts_from h (ts ++ t ∷ []) ≡ gifts_from h ts ++ gift (deal_of t.command.number t.answer.value) (held_from h ts) t.answer.ends
gifts_more h [] t = append-nil _
gifts_more h (x ∷ ts) t = ap (λ (vs : List HandedView). gift (deal_of x.command.number x.answer.value) h x.answer.ends ++ vs) (gifts_more (held_after_turn h x) ts t) ∙ sym (append_assoc (gift (deal_of x.command.number x.answer.value) h x.answer.ends) _ _)

pub gifts_snoc : (ts : List Turn) (t : Turn) → gifts (ts ++ t ∷ []) ≡ gifts ts ++ gift (deal_of t.command.number t.answer.value) (held_after ts) t.answer.ends
gifts_snoc ts t = gifts_more None ts t
