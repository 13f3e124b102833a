-- From what the machine answers to what the registers want of a reply.
use Rattle.std.proofs.Common.{◌≡◌, ℕ, List, [], ◌∷◌, ◌++◌, refl, sym, ap, ◌∙◌, subst}
use Rattle.std.specs.Prelude.{Option, Some, None, IfSome, option_map, unwrap_or}
use Rattle.vmx_io.specs.declared.handed.HandedView.{HandedView}
use Rattle.vmx_device_state.specs.DeviceState.{DeviceState, set_answer, after_answer, after_turn, state_after, Idle}
use Rattle.vmx_device_state.specs.Laws.{state_snoc}
use Rattle.vmx_device_state.specs.declared.turn.Turn.{Turn}
use Rattle.vmx_device_state.specs.Deals.{Held, Deal, Begins, Stops, Passes, deal_of, held_of, held_by, held_after, held_after_turn, IsWhole, AreEndsBack}
use Rattle.vmx_regs.specs.Turns.{command_of, answer_of, IsReply}
use Rattle.vmx_regs.specs.Ends.{replying, Owes}
use Rattle.vmx_regs.specs.Rule.{turn_of}
use Rattle.vmx_regs.specs.Lawful.{held_snoc}
use Rattle.vmx_regs.specs.declared.bag.Bag.{Bag}
use Rattle.vmx_regs.specs.declared.known.Calls.{Calls}
use Rattle.vmx_machine_state.specs.Views.{EndsView, MachineView, Stays, handed_of, counts_in, state_of, ends_of}
use Rattle.vmx_device_state.specs.Answers.{answer_to}
use Rattle.vmx_machine_state.specs.Ends.{ends_held, ends_back}
use Rattle.vmx_machine_state.specs.Images.{image_back}
use Rattle.vmx_machine_state.specs.Stopped.{errors_after}

-- ends, as they are held
abbrev pub held_in : Option EndsView → Option Held
held_in ends = held_of (option_map handed_of ends)

-- the machine stands where a list of turns leads
pub record Tracks (m : MachineView) (past : List Turn) : Type 0 where
  pub state : state_after past ≡ state_of m
  pub held : held_after past ≡ held_in (ends_of m)

-- What the machine did with a command, whole: the answer, the state and the ends after it, the image and the ends that go back, the errors after it; address and statistics stay.
pub record Applied (old : MachineView) (number : ℕ) (image : List ℕ) (given : Option EndsView) (value : ℕ) (written : List ℕ) (back : Option EndsView) (new : MachineView) : Type 0 where
  pub answer : value ≡ answer_to old.mac (state_of old) number image (counts_in given)
  pub state : state_of new ≡ after_answer (state_of old) number image value
  pub held : ends_of new ≡ ends_held (deal_of number value) (ends_of old) given
  pub ends : back ≡ ends_back (deal_of number value) (ends_of old) given
  pub writes : written ≡ image_back old number image
  pub stays : Stays old new
  pub tx_errors : new.tx_stopped ≡ errors_after number value old.tx_stopped
  pub rx_errors : new.rx_stopped ≡ errors_after number value old.rx_stopped

owed_value : (o : Option ℕ) (value other : ℕ) → value ≡ unwrap_or o other → IfSome o (λ n. value ≡ n)
owed_value None value other e = tt
owed_value (Some n) value other e = e

owed_ends : (d : Deal) (held given : Option EndsView) → IsWhole (option_map handed_of held) → AreEndsBack d (held_in held) (option_map handed_of given) (option_map handed_of (ends_back d held given))
owed_ends Begins held given whole = refl
owed_ends Stops None given whole = refl
owed_ends Stops (Some e) given whole = (refl, whole)
owed_ends Passes held given whole = refl

plain_reply : (past : List Turn) (old new : MachineView) (number : ℕ) (image written : List ℕ) (given back : Option EndsView) (value : ℕ)
    → Tracks old past → IsWhole (option_map handed_of (ends_of old)) → Applied old number image given value written back new
    → IsReply past (record { number = number; image = image; ends = option_map handed_of given }) (record { value = value; image = written; ends = option_map handed_of back })
plain_reply past old new number image written given back value tracks whole is = record {
  value = subst (λ (d : DeviceState). IfSome (set_answer d number image (counts_in given)) (λ n. value ≡ n)) (sym tracks.state) (owed_value (set_answer (state_of old) number image (counts_in given)) value _ is.answer);
  ends = subst (λ (q : Option Held × Option EndsView). AreEndsBack (deal_of number value) q.0 (option_map handed_of given) (option_map handed_of q.1)) (λ i. (sym tracks.held i, sym is.ends i))
      (owed_ends (deal_of number value) (ends_of old) given whole);
}

held_dealt : (d : Deal) (held given : Option EndsView) → held_in (ends_held d held given) ≡ held_by d (held_in held) (held_in given)
held_dealt Begins held given = refl
held_dealt Stops held given = refl
held_dealt Passes held given = refl

plain_tracks : (past : List Turn) (old new : MachineView) (number : ℕ) (image written : List ℕ) (given back : Option EndsView) (value : ℕ)
    → Tracks old past → Applied old number image given value written back new
    → Tracks new (past ++ record { command = record { number = number; image = image; ends = option_map handed_of given }; answer = record { value = value; image = written; ends = option_map handed_of back } } ∷ [])
plain_tracks past old new number image written given back value tracks is =
    let turn : Turn = record { command = record { number = number; image = image; ends = option_map handed_of given }; answer = record { value = value; image = written; ends = option_map handed_of back } } in record {
      state = state_snoc Idle past turn ∙ ap (λ (d : DeviceState). after_turn d turn) tracks.state ∙ sym is.state;
      held = held_snoc None past turn ∙ ap (λ (h : Option Held). held_after_turn h turn) tracks.held ∙ sym (held_dealt (deal_of number value) (ends_of old) given) ∙ ap held_in (sym is.held);
    }

-- After an answer the ends that the machine holds are whole, where those that it held and those of the command were.
pub whole_on : (d : Deal) (held given : Option EndsView) → IsWhole (option_map handed_of held) → IsWhole (option_map handed_of given) → IsWhole (option_map handed_of (ends_held d held given))
whole_on Begins held given whole is = is
whole_on Stops held given whole is = tt
whole_on Passes held given whole is = whole

-- what a bag tells of its ends, by their view
told_of : {E : Type 0} (view : E → EndsView) (o : Option E) → option_map handed_of (option_map view o) ≡ option_map (λ e. handed_of (view e)) o
told_of view None = refl
told_of view (Some e) = refl

module _ {E : Type 0} (view : E → EndsView) (was polled : Calls) (old new : MachineView) (number : ℕ) (bag : Bag E) (value : ℕ) (back : Bag E)
    (told : polled ≡ record was { serving = Some (command_of (λ e. handed_of (view e)) number bag) }) (tracks : Tracks old was.served)
    (is : Applied old number bag.image (option_map view bag.ends) value back.image (option_map view back.ends) new) where
  is_reply : IsWhole (option_map handed_of (ends_of old)) → IsReply was.served (command_of (λ e. handed_of (view e)) number bag) (answer_of (λ e. handed_of (view e)) value back)
  is_reply whole =
      subst (λ (q : Option HandedView × Option HandedView). IsReply was.served (record { number = number; image = bag.image; ends = q.0 }) (record { value = value; image = back.image; ends = q.1 }))
      (λ i. (told_of view bag.ends i, told_of view back.ends i)) (plain_reply was.served old new number bag.image back.image (option_map view bag.ends) (option_map view back.ends) value tracks whole is)

  -- The condition of a reply: what the machine answered to the command that was polled, and the ends in its bag, are what the registers want.
  pub reply_is_owed : IsWhole (option_map handed_of (ends_of old)) → Owes (λ e. handed_of (view e)) polled.served polled.serving value back
  reply_is_owed whole = subst (λ (v : Calls). Owes (λ e. handed_of (view e)) v.served v.serving value back) (sym told) (is_reply whole)

  tracks_turn : Tracks new (was.served ++ turn_of (command_of (λ e. handed_of (view e)) number bag) (answer_of (λ e. handed_of (view e)) value back) ∷ [])
  tracks_turn =
      subst (λ (q : Option HandedView × Option HandedView). Tracks new (was.served ++ record { command = record { number = number; image = bag.image; ends = q.0 }; answer = record { value = value; image = back.image; ends = q.1 } } ∷ []))
      (λ i. (told_of view bag.ends i, told_of view back.ends i)) (plain_tracks was.served old new number bag.image back.image (option_map view bag.ends) (option_map view back.ends) value tracks is)

  -- After the reply the machine stands where the turns lead again.
  pub tracks_on : (replied : Calls) → replied ≡ replying (λ e. handed_of (view e)) polled value back → Tracks new replied.served
  tracks_on replied e =
      subst (λ (v : Calls). Tracks new v.served) (sym (e ∙ ap (λ (v : Calls). replying (λ e. handed_of (view e)) v value back) told)) tracks_turn
