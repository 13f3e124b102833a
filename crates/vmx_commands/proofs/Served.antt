-- From the clauses of a poll, an answer and a reply to what a look at the command register does.
use Rattle.std.proofs.Common.{◌≡◌, ℕ, List, [], ◌∷◌, ◌++◌, refl, sym, ap, ◌∙◌, subst, Some, None, Option}
use Rattle.std.specs.Prelude.{option_map}
use Rattle.vmx_io.specs.declared.handed.HandedView.{HandedView}
use Rattle.vmx_ring_laws.specs.Lists.{AreComparable}
use Rattle.vmx_device_state.specs.Deals.{IsWhole}
use Rattle.vmx_device_state.specs.declared.turn.CommandView.{CommandView}
use Rattle.vmx_device_state.specs.declared.turn.Turn.{Turn}
use Rattle.vmx_regs.specs.Rule.{seen_of, DeviceAgrees}
use Rattle.vmx_regs.specs.Lawful.{commands_of_snoc}
use Rattle.vmx_regs.specs.Turns.{command_of, answer_of, IsCommand, IsReply}
use Rattle.vmx_regs.specs.Ends.{replying, Owes}
use Rattle.vmx_regs.specs.declared.bag.Bag.{Bag}
use Rattle.vmx_regs.specs.declared.known.Calls.{Calls}
use Rattle.vmx_machine_state.specs.Views.{EndsView, MachineView, handed_of, ends_of}
use Rattle.vmx_commands.specs.Replies.{Applied, Tracks, reply_is_owed}
use Rattle.vmx_commands.specs.Serving.{AnswersCommand}

told_of : {E : Type 0} (view : E → EndsView) (o : Option E) → option_map (λ e. handed_of (view e)) o ≡ option_map handed_of (option_map view o)
told_of view None = refl
told_of view (Some e) = refl

module _ {E : Type 0} (view : E → EndsView) (was polled now : Calls) (old new : MachineView) (number : ℕ) (bag : Bag E) (value : ℕ) (back : Bag E)
    (told : polled ≡ record was { serving = Some (command_of (λ e. handed_of (view e)) number bag) }) (command : IsCommand (command_of (λ e. handed_of (view e)) number bag)) (agrees : DeviceAgrees polled)
    (replied : now ≡ replying (λ e. handed_of (view e)) polled value back) (tracks : Tracks old was.served) (whole : IsWhole (option_map handed_of (ends_of old)))
    (is : Applied old number bag.image (option_map view bag.ends) value back.image (option_map view back.ends) new) where
  abbrev taken : Calls
  taken = record was { serving = Some (command_of (λ e. handed_of (view e)) number bag) }

  abbrev turn : Turn
  turn = record { command = command_of (λ e. handed_of (view e)) number bag; answer = answer_of (λ e. handed_of (view e)) value back }

  now_is : now ≡ record was { served = was.served ++ turn ∷ []; serving = None }
  now_is = replied ∙ ap (λ (c : Calls). replying (λ e. handed_of (view e)) c value back) told

  owed : IsReply was.served (command_of (λ e. handed_of (view e)) number bag) (answer_of (λ e. handed_of (view e)) value back)
  owed = subst (λ (c : Calls). Owes (λ e. handed_of (view e)) c.served c.serving value back) told (reply_is_owed view was polled old new number bag value back told tracks is whole)

  -- the commands that were seen are the same before and after the reply
  seen_same : seen_of taken ≡ seen_of (record was { served = was.served ++ turn ∷ []; serving = None })
  seen_same = sym (commands_of_snoc was.served turn)

  still_agrees : DeviceAgrees now
  still_agrees =
      let before : DeviceAgrees taken = subst DeviceAgrees told agrees in
      subst DeviceAgrees (sym now_is) (subst (λ (seen : List CommandView). AreComparable was.heard_commands seen) seen_same before)

  pub was_answered : AnswersCommand was old number value now new
  was_answered = record {
    image = bag.image;
    given = option_map view bag.ends;
    written = back.image;
    back = option_map view back.ends;
    calls = now_is ∙ (λ i. record was { served = was.served ++ record { command = record { number = number; image = bag.image; ends = told_of view bag.ends i }; answer = record { value = value; image = back.image; ends = told_of view back.ends i } } ∷ []; serving = None });
    command = subst (λ (o : Option HandedView). IsCommand (record { number = number; image = bag.image; ends = o })) (told_of view bag.ends) command;
    reply = subst (λ (o : Option HandedView × Option HandedView). IsReply was.served (record { number = number; image = bag.image; ends = o.0 }) (record { value = value; image = back.image; ends = o.1 })) (λ i. (told_of view bag.ends i, told_of view back.ends i)) owed;
    applied = is;
    agrees = still_agrees;
  }
