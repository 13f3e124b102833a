-- The rule of the registers' table: two words, for the commands and for the answers, and one slot for the bag.
use Rattle.std.specs.Prelude.{◌≡◌, ℕ, suc, ◌+◌, ◌*◌, ◌%◌, ◌^◌, ◌<◌, ◌≤◌, List, [], ◌∷◌, ◌++◌, map, length, Option, Some, None, Bool, true, false}
use mathlib.Core.Option.{some, none}
use mathlib.Core.List.{IsPrefix}
use Rattle.atomic_table.specs.Table.{State}
use Rattle.vmx_io.specs.declared.handed.HandedView.{HandedView}
use Rattle.vmx_ring_laws.specs.Lists.{longer, AreComparable}
use Rattle.vmx_ring_laws.specs.Views.{All, total}
use Rattle.vmx_regs.specs.declared.bag.Bag.{Bag}
use Rattle.vmx_device_state.specs.declared.turn.CommandView.{CommandView}
use Rattle.vmx_device_state.specs.declared.turn.AnswerView.{AnswerView}
use Rattle.vmx_device_state.specs.declared.turn.Turn.{Turn}
use Rattle.vmx_regs.specs.declared.known.Calls.{Calls}
use Rattle.vmx_regs.specs.declared.places.TheConstants.{COUNT_BIT}
use Rattle.vmx_regs.specs.Turns.{command_of, answer_of, IsCommand, IsAnswer, AreTurns}

-- Where the bag is: nowhere, before the first command and after the end; the driver's slot is empty; sent; with the device; sent back.
pub data Phase : Type 0 where
  Closed : Phase
  Rest : Phase
  Sent : CommandView → Phase
  Serving : CommandView → Phase
  Answered : CommandView → AnswerView → Phase

-- a command with its answer
abbrev pub turn_of : CommandView → AnswerView → Turn
turn_of c a = record { command = c; answer = a }

-- the number of the last command of a list, or the one that was there before it
abbrev pub last_number_from : ℕ → List Turn → ℕ
last_number_from n [] = n
last_number_from n (t ∷ ts) = last_number_from t.command.number ts

-- the value of the last answer of a list, or the one that was there before it
abbrev pub last_value_from : ℕ → List Turn → ℕ
last_value_from n [] = n
last_value_from n (t ∷ ts) = last_value_from t.answer.value ts

-- the number of the last command, and the value of the last answer; 0 before the first
abbrev pub last_number : List Turn → ℕ
last_number ts = last_number_from 0 ts

abbrev pub last_value : List Turn → ℕ
last_value ts = last_value_from 0 ts

-- a word has the number or value in its low 32 bits, and bit 32 is 1 where the count is odd
abbrev pub word_of : ℕ → ℕ → ℕ
word_of count n = n + COUNT_BIT * (count % 2)

-- the word of commands, and that of answers, after the turns that are past, by where the bag is
abbrev pub command_word : List Turn → Phase → ℕ
command_word past Closed = word_of (length past) (last_number past)
command_word past Rest = word_of (length past) (last_number past)
command_word past (Sent c) = word_of (length past + 1) c.number
command_word past (Serving c) = word_of (length past + 1) c.number
command_word past (Answered c a) = word_of (length past + 1) c.number

abbrev pub answer_word : List Turn → Phase → ℕ
answer_word past Closed = word_of (length past) (last_value past)
answer_word past Rest = word_of (length past) (last_value past)
answer_word past (Sent c) = word_of (length past) (last_value past)
answer_word past (Serving c) = word_of (length past) (last_value past)
answer_word past (Answered c a) = word_of (length past + 1) a.value

-- what the driver knows of the phase: whether it may command, and which command it waits for
abbrev pub begun_of : Phase → Bool
begun_of Closed = false
begun_of Rest = true
begun_of (Sent c) = true
begun_of (Serving c) = true
begun_of (Answered c a) = true

abbrev pub asked_of : Phase → Option CommandView
asked_of Closed = None
asked_of Rest = None
asked_of (Sent c) = Some c
asked_of (Serving c) = Some c
asked_of (Answered c a) = Some c

-- what the device knows: the turns that it served, and the command that it holds
abbrev pub served_of : List Turn → Phase → List Turn
served_of past Closed = past
served_of past Rest = past
served_of past (Sent c) = past
served_of past (Serving c) = past
served_of past (Answered c a) = past ++ turn_of c a ∷ []

abbrev pub serving_of : Phase → Option CommandView
serving_of Closed = None
serving_of Rest = None
serving_of (Sent c) = None
serving_of (Serving c) = Some c
serving_of (Answered c a) = None

-- the commands of turns
abbrev pub commands_of : List Turn → List CommandView
commands_of ts = map (λ t. t.command) ts

-- commands, and one more where there is one
abbrev pub with_asked : List CommandView → Option CommandView → List CommandView
with_asked cs None = cs
with_asked cs (Some c) = cs ++ c ∷ []

-- all commands that were sent
abbrev pub sent_of : List Turn → Phase → List CommandView
sent_of past p = with_asked (commands_of past) (asked_of p)

-- what a note may tell: commands that were sent, and turns that the device and the driver know
abbrev pub IsNews : List Turn → Phase → List CommandView → List Turn → List Turn → Type 0
IsNews past p commands served turns = IsPrefix commands (sent_of past p) × IsPrefix served (served_of past p) × IsPrefix turns past

-- what the rule says of the last command and answer, and that their numbers fit
pub record Narrow (past : List Turn) : Type 0 where
  pub number : last_number past < 2 ^ 32
  pub value : last_value past < 2 ^ 32

-- what the rule says of the command that is under way, and of its answer
abbrev pub Stands : List Turn → Phase → Type 0
Stands past Closed = Unit {0}
Stands past Rest = Unit {0}
Stands past (Sent c) = (c.number < 2 ^ 32) × IsCommand c
Stands past (Serving c) = (c.number < 2 ^ 32) × IsCommand c
Stands past (Answered c a) = (c.number < 2 ^ 32) × IsCommand c × (a.value < 2 ^ 32) × IsAnswer past c a

module _ {E : Type 0} (handed : E → HandedView) where
  -- where the slot is, and what is in it
  abbrev pub Lies : List (mathlib.Core.Option.Option (Option (Bag E))) → Phase → Type 0
  Lies homes Closed = homes ≡ some None ∷ []
  Lies homes Rest = homes ≡ none ∷ []
  Lies homes (Sent c) = (b : Bag E) × (homes ≡ some (Some b) ∷ []) × (command_of handed c.number b ≡ c)
  Lies homes (Serving c) = homes ≡ none ∷ []
  Lies homes (Answered c a) = (b : Bag E) × (homes ≡ some (Some b) ∷ []) × (answer_of handed a.value b ≡ a)

-- All that was done, and by which seats; and the words of the other rule.
pub record Story : Type 0 where
  pub past : List Turn
  pub phase : Phase
  pub driver : ℕ
  pub device : ℕ
  pub more : List ℕ
  pub driver_notes_given : ℕ
  pub driver_notes_heard : ℕ
  pub device_notes_given : ℕ
  pub device_notes_heard : ℕ

-- What a seat knows is so: of the driver's seat, and the device's, what that side did; of each seat, what notes told it.
pub record Fits (y : Story) (seat : ℕ) (v : Calls) : Type 0 where
  pub driver's : v.drives ≡ true → (seat ≡ y.driver) × (v.turns ≡ y.past) × (v.asked ≡ asked_of y.phase) × (v.begun ≡ begun_of y.phase) × (v.driver_notes_given ≡ y.driver_notes_given) × (v.driver_notes_heard ≡ y.driver_notes_heard)
  pub device's : v.serves ≡ true → (seat ≡ y.device) × (v.served ≡ served_of y.past y.phase) × (v.serving ≡ serving_of y.phase) × (v.device_notes_given ≡ y.device_notes_given) × (v.device_notes_heard ≡ y.device_notes_heard)
  pub heard : IsNews y.past y.phase v.heard_commands v.heard_served v.heard_turns
  pub last : IsNews y.past y.phase v.last_commands v.last_served v.last_turns

-- 1 for true
abbrev pub one_if : Bool → ℕ
one_if true = 1
one_if false = 0

-- how many notes of the driver's, and of the device's, are not heard yet
abbrev pub commands_note : Calls → ℕ
commands_note v = one_if v.tells_commands

abbrev pub served_note : Calls → ℕ
served_note v = one_if v.tells_served

-- the rule, where all that was done is y
pub record Told {E : Type 0} (handed : E → HandedView) (s : State (Option (Bag E)) Calls) (y : Story) : Type 0 where
  pub words : s.words ≡ command_word y.past y.phase ∷ answer_word y.past y.phase ∷ y.more
  pub lies : Lies handed s.homes y.phase
  pub turns : AreTurns y.past
  pub narrow : Narrow y.past
  pub stands : Stands y.past y.phase
  pub each : All (Fits y) s.views
  pub driver_told : total commands_note s.views + y.device_notes_heard ≡ y.driver_notes_given
  pub device_told : total served_note s.views + y.driver_notes_heard ≡ y.device_notes_given

-- the rule of commands and answers
pub record Kept {E : Type 0} (handed : E → HandedView) (s : State (Option (Bag E)) Calls) : Type 0 where
  pub story : Story
  pub told : Told handed s story

-- the seat of nobody, which was joined into another
abbrev pub nobody : Calls
nobody = record {
  interrupts = 0;
  drives = false;
  serves = false;
  begun = false;
  turns = [];
  asked = None;
  served = [];
  serving = None;
  looks = [];
  heard_commands = [];
  heard_served = [];
  heard_turns = [];
  last_commands = [];
  last_served = [];
  last_turns = [];
  tells_commands = false;
  tells_served = false;
  driver_notes_given = 0;
  driver_notes_heard = 0;
  device_notes_given = 0;
  device_notes_heard = 0;
}

-- the seat of new registers with so many interrupts, which is both sides'
abbrev pub newcomer : ℕ → Calls
newcomer n = record nobody { interrupts = n; drives = true; serves = true }

-- the driver's seat, and the device's, of two that were one
abbrev pub driver_part : Calls → Calls
driver_part v = record v { serves = false }

abbrev pub device_part : Calls → Calls
device_part v = record v { drives = false }

-- the driver's seat joined into the device's
abbrev pub together : Calls → Calls → Calls
together v w = record v { drives = true; begun = w.begun; turns = w.turns; asked = w.asked; driver_notes_given = w.driver_notes_given; driver_notes_heard = w.driver_notes_heard }

-- the commands that the driver has sent
abbrev pub sent_by : Calls → List CommandView
sent_by v = with_asked (commands_of v.turns) v.asked

-- the commands that the device has seen
abbrev pub seen_of : Calls → List CommandView
seen_of v = with_asked (commands_of v.served) v.serving

-- what a side has heard agrees with what it has seen
abbrev pub DriverAgrees : Calls → Type 0
DriverAgrees v = AreComparable v.heard_served v.turns

abbrev pub DeviceAgrees : Calls → Type 0
DeviceAgrees v = AreComparable v.heard_commands (seen_of v)

-- the driver gave a note, and what that note tells; then the same of the device
abbrev pub told_driver : Calls → Calls
told_driver v = record v { driver_notes_given = suc v.driver_notes_given }

abbrev pub driver_note : Calls → Calls
driver_note v = record nobody { heard_commands = sent_by v; heard_turns = v.turns; tells_commands = true }

abbrev pub told_device : Calls → Calls
told_device v = record v { device_notes_given = suc v.device_notes_given }

abbrev pub device_note : Calls → Calls
device_note v = record nobody { heard_commands = seen_of v; heard_served = v.served; tells_served = true }

-- a note of the driver's was heard, and one of the device's
abbrev pub hears_driver : Calls → Calls → Calls
hears_driver v w = record v {
  device_notes_heard = suc v.device_notes_heard;
  heard_commands = longer v.heard_commands w.heard_commands;
  heard_turns = longer v.heard_turns w.heard_turns;
  last_commands = w.heard_commands;
  last_served = w.heard_served;
  last_turns = w.heard_turns;
}

abbrev pub hears_device : Calls → Calls → Calls
hears_device v w = record v {
  driver_notes_heard = suc v.driver_notes_heard;
  heard_commands = longer v.heard_commands w.heard_commands;
  heard_served = longer v.heard_served w.heard_served;
  last_commands = w.heard_commands;
  last_served = w.heard_served;
  last_turns = w.heard_turns;
}

-- a look that found nothing new, after so many turns
abbrev pub looking : Calls → ℕ → ℕ → Calls
looking v p r = record v { looks = v.looks ++ (p, r) ∷ [] }

-- What the driver knows of what it heard: commands that it sent, and turns that agree with its own, by at most one more; with no command outstanding it has taken all of them.
pub record DriverKnows (v : Calls) : Type 0 where
  pub agrees : DriverAgrees v
  pub short : length v.heard_served ≤ length v.turns + 1
  pub idle : v.asked ≡ None → IsPrefix v.heard_served v.turns
  pub sent : IsPrefix v.heard_commands (sent_by v)
  pub last_agrees : AreComparable v.last_served v.turns
  pub last_idle : v.asked ≡ None → IsPrefix v.last_served v.turns
  pub last_sent : IsPrefix v.last_commands (sent_by v)

-- What the device knows of what it heard: commands that agree with those it has seen, by at most one more, and turns that it served.
pub record DeviceKnows (v : Calls) : Type 0 where
  pub agrees : DeviceAgrees v
  pub short : length v.heard_commands ≤ length v.served + 1
  pub served : IsPrefix v.heard_turns v.served
  pub last_agrees : AreComparable v.last_commands (seen_of v)
  pub last_served : IsPrefix v.last_turns v.served
