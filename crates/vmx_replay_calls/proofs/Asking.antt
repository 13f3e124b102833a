-- A command that a driver sends is answered in the next turn of its device, and the driver finds the answer.
use Rattle.std.proofs.Common.{◌≡◌, ℕ, suc, ◌≤◌, Bool, true, false, List, [], ◌∷◌, ◌++◌, length, length-append, set, sym, ap, ◌∙◌, subst, arith, Some, Option}
use Rattle.std.specs.Prelude.{is_some}
use Rattle.std.specs.List.{slice_get}
use Rattle.std.proofs.lemmas.List.{length-set}
use Rattle.vmx_device_state.specs.declared.turn.CommandView.{CommandView}
use Rattle.vmx_regs.specs.declared.known.Calls.{Calls}
use Rattle.vmx_commands.specs.Serving.{asked_with, told_with}
use Rattle.vmx_device_state.specs.declared.turn.Turn.{Turn}
use Rattle.vmx_model.specs.declared.plan.Plan.{Plan}
use Rattle.vmx_device_looks.specs.Queues.{all_at}
use Rattle.vmx_device_laws.specs.Views.{DeviceView}
use Rattle.vmx_device_laws.specs.Steps.{CommandStep}
use Rattle.vmx_device_laws.proofs.Pairwise.{turn_pairs}
use Rattle.vmx_driver_steps.specs.declared.progress.Due.{Due}
use Rattle.vmx_driver_steps.specs.Nexts.{due_answer}
use Rattle.vmx_driver_steps.specs.Driver.{DriverView}
use Rattle.vmx_driver_steps.specs.Driving.{TakesAnswer}
use Rattle.vmx_driver.specs.declared.driver.Act.{Act}
use Rattle.vmx_driver.specs.declared.driver.Act.TheVariants.{Worked, Waiting, Done}
use Rattle.vmx_driver.specs.Acts.{Acts, ActsSo, ActsAtAnswer}
use Rattle.vmx_note_laws.specs.Registers.{AreTold}
use Rattle.vmx_note_laws.proofs.Registers.{passes_told, finds_command}
use Rattle.vmx_replay_guests.specs.Passing.{RegsPassed}
use Rattle.vmx_replay_settled.specs.Settled.{BothKeep, TurnsSettled}
use Rattle.vmx_replay_worlds.specs.Guests.{GuestView}
use Rattle.vmx_replay_worlds.proofs.Lists.{get_set, set_set}
use Rattle.vmx_replay_steps.specs.Waits.{KnowsAnswer}
use Rattle.vmx_replay_steps.proofs.Waits.{has_answer}
use Rattle.vmx_replay_chains.specs.Chains.{ActsOn, AnswersOn}
use Rattle.vmx_replay_calls.specs.Resting.{Rests, RunRests, AllKeep}
use Rattle.vmx_replay_calls.proofs.Steps.{LinksTold, Commanded}
use Rattle.vmx_replay_calls.proofs.Notes.{regs_asked, regs_turns, regs_served}
use Rattle.vmx_replay_calls.proofs.Zipped.{all_told, driver_on}
use Rattle.vmx_replay_calls.proofs.Settling.{settles_asked, settles_none, same_guest}

-- ------------------------------------------------------------ small things

-- an act while a command is outstanding, of a driver that was told of the answer, takes it
answer_by : (v w : DriverView) (a : Act) → KnowsAnswer v → ActsAtAnswer v a w → TakesAnswer v w
answer_by v w Worked k h = h
answer_by v w Waiting k h = absurd (has_answer v w k h)
answer_by v w Done k h = absurd h

takes_by : (v w : DriverView) (a : Act) → is_some v.calls.asked ≡ true → KnowsAnswer v → Acts v a w → TakesAnswer v w
takes_by v w a on k h = answer_by v w a k (subst (λ (d : Due). ActsSo d v a w) (due_answer v.plan v.at (is_some v.calls.asked) on) h)

-- a device that heard of a command answers one
serves_one : (b : Bool) (d asked : DeviceView) → CommandStep b d asked → (length d.calls.heard_commands ≤ length d.calls.served → ⊥) → length asked.calls.served ≡ suc (length d.calls.served)
serves_one false d asked c heard = absurd (heard c.finds.untold)
serves_one true d asked c heard =
    let t : Turn = record { command = asked_with c.number c.answers.image c.answers.given; answer = told_with c.value c.answers.written c.answers.back } in
    let served : length asked.calls.served ≡ length (d.calls.served ++ t ∷ []) = ap (λ (x : DeviceView). length x.calls.served) c.is ∙ ap (λ (x : Calls). length x.served) c.answers.calls in
    let long = length-append d.calls.served (t ∷ []) in omega (arith, served, long)

-- ------------------------------------------------------------ the command

module _ (plan : Plan) (port : ℕ) (rs ms rs' : List GuestView) (run : RunRests plan rs) (keeps : AllKeep rs) (acts : ActsOn port rs ms) (answers : AnswersOn port ms rs') (c : CommandView) (asks : acts.does.1.acted.calls.asked ≡ Some c) (turns : acts.does.1.acted.calls.turns ≡ acts.before.driver.calls.turns) where
  abbrev guest : GuestView
  guest = acts.before

  abbrev sent : DriverView
  sent = acts.does.1.acted

  abbrev told : GuestView
  told = answers.turns.after

  abbrev here : GuestView
  here = answers.acts.before

  rest : Rests guest
  rest = all_at Rests rs port guest acts.at run.rest

  keep : BothKeep guest.driver guest.device
  keep = all_at (λ (r : GuestView). BothKeep r.driver r.device) rs port guest acts.at keeps

  -- the device was told of it
  asked_regs : RegsPassed sent guest.device acts.after.driver acts.after.device
  asked_regs = settles_asked sent guest.device acts.after.driver acts.after.device c acts.does.1.settles asks

  after_asked : acts.after.driver.calls.asked ≡ Some c
  after_asked = regs_asked sent guest.device acts.after.driver acts.after.device asked_regs ∙ asks

  after_turns : acts.after.driver.calls.turns ≡ guest.driver.calls.turns
  after_turns = regs_turns sent guest.device acts.after.driver acts.after.device asked_regs ∙ turns

  after_served : acts.after.device.calls.served ≡ guest.driver.calls.turns
  after_served = regs_served sent guest.device acts.after.driver acts.after.device asked_regs ∙ sym rest.caught_up.same

  -- and had a turn
  pub t : TurnsSettled acts.after.driver acts.after.device told.driver told.device
  t = subst (λ (r : GuestView). TurnsSettled r.driver r.device told.driver told.device) (same_guest port _ _ rs ms answers.turned acts answers.turns) answers.turns.does

  heard : length acts.after.device.calls.heard_commands ≤ length acts.after.device.calls.served → ⊥
  heard few = finds_command acts.after.driver.calls acts.after.device.calls c (passes_told sent.calls acts.after.driver.calls guest.device.calls acts.after.device.calls asked_regs.regs)
      (record { asked = after_asked; served = after_served ∙ sym after_turns; serving = acts.keeps.device.serving }) few

  one : length t.turned.calls.served ≡ suc (length acts.after.device.calls.served)
  one = ap (λ (x : Calls). length x.served) (turn_pairs t.worked acts.after.device t.turned t.once).same.3 ∙ serves_one t.once.answered acts.after.device t.once.asked t.once.command heard

  -- its driver was told of the answer
  told_regs : RegsPassed acts.after.driver t.turned told.driver told.device
  told_regs = settles_asked acts.after.driver t.turned told.driver told.device c t.settles after_asked

  knows_told : KnowsAnswer told.driver
  knows_told =
      let a : AreTold told.driver.calls told.device.calls = passes_told acts.after.driver.calls told.driver.calls t.turned.calls told.device.calls told_regs.regs in
      let all = a.served in let served = ap length (regs_served acts.after.driver t.turned told.driver told.device told_regs) in
      let was = ap length after_served in let now = ap length (regs_turns acts.after.driver t.turned told.driver told.device told_regs ∙ after_turns) in let more = one in
      omega (arith, all, served, was, now, more)

  list_is : answers.turned ≡ set rs port told
  list_is = answers.turns.is ∙ ap (λ (xs : List GuestView). set xs port told) acts.is ∙ set_set rs port acts.after told

  told_at : slice_get answers.turned port ≡ Some told
  told_at = ap (λ (xs : List GuestView). slice_get xs port) list_is ∙ get_set rs port guest told acts.at

  -- and was the same behind notes of links
  here_is : here.driver ≡ told.driver
  here_is = driver_on port answers.turned answers.told told here answers.links.drivers told_at answers.acts.at

  here_asked : here.driver.calls.asked ≡ Some c
  here_asked = ap (λ (v : DriverView). v.calls.asked) here_is ∙ regs_asked acts.after.driver t.turned told.driver told.device told_regs ∙ after_asked

  takes : TakesAnswer here.driver answers.acts.does.1.acted
  takes = takes_by here.driver answers.acts.does.1.acted answers.acts.does.0 (ap (λ (o : Option CommandView). is_some o) here_asked) (subst KnowsAnswer (sym here_is) knows_told) answers.acts.does.1.acts

  pub commanded : Commanded port guest sent t.worked rs rs'
  commanded = record {
    at = acts.at;
    keep = keep;
    turns = turns;
    asked = acts.after;
    asks = asked_regs;
    asked_keeps = acts.keeps.device;
    device = t.turned;
    once = t.once;
    device_keeps = t.keeps;
    told = told;
    answers = told_regs;
    mid = answers.told;
    links = subst (λ (x : ℕ × List GuestView). LinksTold port x.0 x.1 answers.told) (λ i. ((ap (λ (xs : List GuestView). length xs) list_is ∙ length-set rs port told) i, list_is i)) (all_told port answers.turned answers.told answers.links);
    here = here;
    here_at = answers.acts.at;
    driver = answers.acts.does.1.acted;
    takes = takes;
    driver_keeps = answers.acts.does.1.keeps;
    last = answers.acts.after;
    passed = settles_none answers.acts.does.1.acted here.device answers.acts.after answers.acts.does.1.settles (ap (λ (x : Calls). x.asked) takes.calls);
    kept = answers.acts.keeps;
    is = answers.acts.is;
  }
