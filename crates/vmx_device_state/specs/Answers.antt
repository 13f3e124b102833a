-- What a device answers to a command (own to this project but the form of GET_LINK, of the permanent address and of GET_CONF_INTR, which is Linux's).
use Rattle.std.specs.Prelude.{ℕ, ◌+◌, ◌*◌, nat_eq, if◌then◌else◌, List, [], ◌∷◌, take, drop, unwrap_or, Option}
use Rattle.vmx_layout.specs.Command.{number_of}
use Rattle.vmx_layout.specs.declared.command.Command.TheVariants.{GetLink, GetPermMacLo, GetPermMacHi, GetDidLo, GetDidHi, GetConfIntr}
use Rattle.vmx_device_state.specs.DeviceState.{DeviceState, set_answer}
use Rattle.vmx_device_state.specs.declared.answers.TheConstants.{LINK_UP, DEVICE_LOW, DEVICE_HIGH, MSI_X}
use Rattle.vmx_device_state.specs.declared.turn.EndCounts.{EndCounts}

-- bytes as a number, the first one lowest
abbrev pub low_first : List ℕ → ℕ
low_first [] = 0
low_first (b ∷ bs) = b + 256 * low_first bs

-- the answers of commands that ask for a value: they need no state
abbrev pub get_answer : List ℕ → ℕ → ℕ
get_answer mac number =
    if nat_eq number (number_of GetLink) then LINK_UP else
    (if nat_eq number (number_of GetPermMacLo) then low_first (take 4 mac) else
    (if nat_eq number (number_of GetPermMacHi) then low_first (drop 4 mac) else
    (if nat_eq number (number_of GetDidLo) then DEVICE_LOW else
    (if nat_eq number (number_of GetDidHi) then DEVICE_HIGH else
    (if nat_eq number (number_of GetConfIntr) then MSI_X else 0)))))

-- the answer of a device with this permanent address and in this state: that of a set command, where the number is one's, else that of a GET
abbrev pub answer_to : List ℕ → DeviceState → ℕ → List ℕ → Option EndCounts → ℕ
answer_to mac d number image counts = unwrap_or (set_answer d number image counts) (get_answer mac number)
