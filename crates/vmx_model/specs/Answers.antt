-- What a device answers to a turn's command, and which queue ends come back in the bag.
use Rattle.std.specs.Prelude.{ℕ, List, Option}
use Rattle.vmx_device_state.specs.DeviceState.{DeviceState, counts_of}
use Rattle.vmx_device_state.specs.Answers as device
use Rattle.vmx_device_state.specs.Deals.{Held, deal_of, AreEndsBack}
use Rattle.vmx_device_state.specs.declared.turn.Turn.{Turn}

-- the answer of a device with this permanent address and in this state to a turn's command
abbrev pub answer_to : List ℕ → DeviceState → Turn → ℕ
answer_to mac d t = device.answer_to mac d t.command.number t.command.image (counts_of t.command.ends)

-- what comes back in the bag of a turn's answer, where the device holds these ends
abbrev pub ComesBack : Option Held → Turn → Type 0
ComesBack held t = AreEndsBack (deal_of t.command.number t.answer.value) held t.command.ends t.answer.ends
