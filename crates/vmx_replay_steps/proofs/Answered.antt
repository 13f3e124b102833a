-- A turn in which the device answered its driver's command.
use Rattle.std.proofs.Common.{◌≡◌, suc, Bool, true, false, List, [], ◌∷◌, ◌++◌, length, length-append, sym, ap, ◌∙◌, subst, arith, Some}
use Rattle.vmx_link.specs.Views.{LinkOutView}
use Rattle.vmx_device_state.specs.declared.turn.CommandView.{CommandView}
use Rattle.vmx_device_state.specs.declared.turn.Turn.{Turn}
use Rattle.vmx_regs.specs.declared.known.Calls.{Calls}
use Rattle.vmx_commands.specs.Serving.{asked_with, told_with}
use Rattle.vmx_device_laws.specs.Views.{DeviceView, tx_held}
use Rattle.vmx_device_laws.specs.Steps.{CommandStep, Obeys, TxSteps}
use Rattle.vmx_device_laws.proofs.Pairwise.{turn_pairs}
use Rattle.vmx_driver_steps.specs.Driver.{DriverView}
use Rattle.vmx_driver_steps.specs.Driving.{TakesAnswer}
use Rattle.vmx_replay_steps.specs.Commands.{AnswersBetween}
use Rattle.vmx_replay_steps.proofs.Standing.{Split}

last_is : {X : Type 0} (xs : List X) (x y : X) → xs ++ x ∷ [] ≡ xs ++ y ∷ [] → x ≡ y
last_is [] x y e = cc e
last_is (z ∷ xs) x y e = let tail : xs ++ x ∷ [] ≡ xs ++ y ∷ [] = cc e in last_is xs x y tail

-- the command was the one that the driver had sent, and the answer the one that it took
pub record Served (c : CommandView) (told v2 : DriverView) (takes : TakesAnswer told v2) (old asked : DeviceView) : Type 0 where
  pub obeys : Obeys old asked
  pub command : asked_with obeys.number obeys.answers.image obeys.answers.given ≡ c
  pub answer : told_with obeys.value obeys.answers.written obeys.answers.back ≡ takes.answer

obeyed : (b : Bool) (old asked : DeviceView) → CommandStep b old asked → length asked.calls.served ≡ suc (length old.calls.served) → Obeys old asked
obeyed true old asked c long = c
obeyed false old asked c long = absurd (let same = ap (λ (x : DeviceView). length x.calls.served) c.is ∙ ap (λ (x : Calls). length x.served) c.finds.calls in omega (arith, long, same))

module _ (v v1 v2 : DriverView) (links : List LinkOutView) (worked : Bool) (old new : DeviceView) (b : AnswersBetween v v1 v2 links worked old new) (c : CommandView) (asks : v1.calls.asked ≡ Some c) (turns : v1.calls.turns ≡ v.calls.turns) where
  -- all turns so far, as both sides know them
  served_is : b.once.asked.calls.served ≡ old.calls.served ++ record { command = b.takes.command; answer = b.takes.answer } ∷ []
  served_is =
      sym (ap (λ (x : Calls). x.served) (turn_pairs worked old new b.once).same.3) ∙ sym b.caught_up.same ∙ ap (λ (x : Calls). x.turns) b.takes.calls
      ∙ ap (λ (ts : List Turn). ts ++ record { command = b.takes.command; answer = b.takes.answer } ∷ []) (b.noted.turns ∙ turns ∙ b.stands.caught_up.same)

  obeys : Obeys old b.once.asked
  obeys = obeyed b.once.answered old b.once.asked b.once.command (let e = ap length served_is in let l = length-append old.calls.served (record { command = b.takes.command; answer = b.takes.answer } ∷ []) in omega (arith, e, l))

  turn_is : ◌≡◌ {A = Turn} (record { command = asked_with obeys.number obeys.answers.image obeys.answers.given; answer = told_with obeys.value obeys.answers.written obeys.answers.back }) (record { command = b.takes.command; answer = b.takes.answer })
  turn_is = last_is old.calls.served _ _ (sym (ap (λ (x : DeviceView). x.calls.served) obeys.is ∙ ap (λ (x : Calls). x.served) obeys.answers.calls) ∙ served_is)

  pub served : Served c b.told v2 b.takes old b.once.asked
  served = record {
    obeys = obeys;
    command = ap (λ (t : Turn). t.command) turn_is ∙ (let both : Some b.takes.command ≡ Some c = sym b.takes.asked ∙ b.noted.asked ∙ asks in cc both);
    answer = ap (λ (t : Turn). t.answer) turn_is;
  }

  -- the rest of the turn
  pub rest : Split b.once.asked new
  rest = record {
    calls = b.once.asked.calls;
    masks = b.once.bells.0;
    taken = b.once.taken;
    sent = b.once.sent;
    takes = subst (λ (z : DeviceView). TxSteps (tx_held b.once.asked.machine.active) b.once.taken z b.once.sent) b.once.bells.2 b.once.takes;
    pulled = b.once.pulled;
    pulls = b.once.pulls;
  }
