-- What a look at the command register does: it finds no command, or a command was taken, answered by the machine and replied to.
use Rattle.std.specs.Prelude.{◌≡◌, ℕ, ◌≤◌, List, [], ◌∷◌, ◌++◌, length, Option, None, option_map}
use Rattle.vmx_device_state.specs.declared.turn.CommandView.{CommandView}
use Rattle.vmx_device_state.specs.declared.turn.AnswerView.{AnswerView}
use Rattle.vmx_regs.specs.declared.known.Calls.{Calls}
use Rattle.vmx_regs.specs.Rule.{looking, word_of, last_number, DeviceAgrees}
use Rattle.vmx_regs.specs.Turns.{IsCommand, IsReply}
use Rattle.vmx_machine_state.specs.Views.{EndsView, MachineView, handed_of}
use Rattle.vmx_commands.specs.Replies.{Applied}

-- a command, and an answer, with what their bags hold
abbrev pub asked_with : ℕ → List ℕ → Option EndsView → CommandView
asked_with number image ends = record { number = number; image = image; ends = option_map handed_of ends }

abbrev pub told_with : ℕ → List ℕ → Option EndsView → AnswerView
told_with value image ends = record { value = value; image = image; ends = option_map handed_of ends }

-- A command was found: it came with an image and perhaps with ends, the machine answered it, and the answer went back with the image and the ends that it brings.
pub record AnswersCommand (was : Calls) (old : MachineView) (number value : ℕ) (now : Calls) (new : MachineView) : Type 0 where
  pub image : List ℕ
  pub given : Option EndsView
  pub written : List ℕ
  pub back : Option EndsView
  pub calls : now ≡ record was { served = was.served ++ record { command = asked_with number image given; answer = told_with value written back } ∷ []; serving = None }
  pub command : IsCommand (asked_with number image given)
  pub reply : IsReply was.served (asked_with number image given) (told_with value written back)
  pub applied : Applied old number image given value written back new
  pub agrees : DeviceAgrees now

-- No command was found: the look is one more, at the word of the command before; no note had told of a new command; the machine is as it was.
pub record FindsNoCommand (was : Calls) (old : MachineView) (now : Calls) (new : MachineView) : Type 0 where
  pub word : ℕ
  pub calls : now ≡ looking was (length was.served) word
  pub shows : word ≡ word_of (length was.served) (last_number was.served)
  pub untold : length was.heard_commands ≤ length was.served
  pub machine : new ≡ old
