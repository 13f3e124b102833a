-- The state of a device after the commands that it was told, and what it answers to one that sets something.
use Rattle.std.specs.Prelude.{ℕ, List, [], ◌∷◌, ◌==◌, ◌&&◌, if◌then◌else◌, option_map, unwrap_or, Option, Some, None}
use Rattle.vmx_io.specs.declared.handed.HandedView.{HandedView}
use Rattle.vmx_shared_area.specs.Bytes.{number_at, bytes_at, words_at}
use Rattle.vmx_shared_area.specs.Checks.{fault, multicast_fault, rss_fault, table_fault}
use Rattle.vmx_shared_area.specs.FaultNumber as checks
use Rattle.vmx_shared_area.specs.Tells.{mode_of}
use Rattle.vmx_shared_area.specs.declared.fault.ImageFault.{ImageFault}
use Rattle.vmx_shared_area.specs.declared.offsets.TheConstants.{LEVELS, LEVEL_COUNT, VLANS, VLAN_WORDS, TABLE_LENGTH, TABLE_SIZE, TABLE}
use Rattle.vmx_device_state.specs.SetupView.{RssView, SetupView}
use Rattle.vmx_device_state.specs.ImageSetup.{image_macs, image_strip, image_csum, image_rss, image_setup}
use Rattle.vmx_device_state.specs.Orders.{order_of}
use Rattle.vmx_device_state.specs.declared.order.Order.{Order}
use Rattle.vmx_device_state.specs.declared.order.Order.TheVariants.{Activate, Stop, Update, Unknown, Get}
use Rattle.vmx_device_state.specs.declared.order.Part.{Part}
use Rattle.vmx_device_state.specs.declared.order.Part.TheVariants.{Mode, Macs, Vlans, Table, Levels, Features}
use Rattle.vmx_device_state.specs.declared.answers.TheConstants.{ALREADY_ACTIVE, OTHER_ENDS, UNKNOWN_COMMAND, FILTER_CHECK, RSS_CHECK}
use Rattle.vmx_device_state.specs.declared.turn.EndCounts.{EndCounts}
use Rattle.vmx_device_state.specs.declared.turn.Turn.{Turn}

-- idle, or active with the setup of its last activation, changed by the updates since
pub data DeviceState : Type 0 where
  Idle : DeviceState
  Active : SetupView → DeviceState

-- the number of the check that an image fails, else n
abbrev pub fault_number : Option ImageFault → ℕ → ℕ
fault_number None n = n
fault_number (Some f) n = checks.number_of f

-- another number where the bag has no ends, or not the image's numbers of them
abbrev pub counts_answer : SetupView → Option EndCounts → ℕ
counts_answer s None = OTHER_ENDS
counts_answer s (Some c) = if c.tx == s.tx_queues && c.rx == s.rx_queues then 0 else OTHER_ENDS

abbrev pub activate_answer : DeviceState → List ℕ → Option EndCounts → ℕ
activate_answer Idle image ends = fault_number (fault image) (counts_answer (image_setup image) ends)
activate_answer (Active s) image ends = ALREADY_ACTIVE

-- a device that gives its ends back wants none
abbrev pub stop_answer : DeviceState → Option EndCounts → ℕ
stop_answer Idle ends = 0
stop_answer (Active s) None = 0
stop_answer (Active s) (Some c) = OTHER_ENDS

abbrev pub unless : Option ImageFault → SetupView → Option SetupView
unless None s = Some s
unless (Some f) s = None

-- an indirection table is taken only where there is an RSS setting
abbrev pub with_table : SetupView → Option RssView → List ℕ → Option SetupView
with_table s None image = None
with_table s (Some r) image = unless (table_fault image s.rx_queues) (record s { rss = Some (record r { size = number_at 2 TABLE_LENGTH image; table = bytes_at TABLE_SIZE TABLE image }) })

-- the setup after an update of an active device; none where the image fails the update's check
abbrev pub updated : Part → SetupView → List ℕ → Option SetupView
updated Mode s image = option_map (λ m. record s { mode = m }) (mode_of image)
updated Macs s image = unless (multicast_fault image) (record s { macs = image_macs image })
updated Vlans s image = Some (record s { vlans = words_at VLAN_WORDS VLANS image })
updated Table s image = with_table s s.rss image
updated Levels s image = Some (record s { levels = bytes_at LEVEL_COUNT LEVELS image })
updated Features s image = unless (rss_fault image s.rx_queues) (record s { rss = image_rss image; strip = image_strip image; csum = image_csum image })

-- the number of the check that an update makes; the VLAN table and the levels have none
abbrev pub check_of : Part → ℕ
check_of Mode = FILTER_CHECK
check_of Macs = FILTER_CHECK
check_of Vlans = 0
check_of Table = RSS_CHECK
check_of Levels = 0
check_of Features = RSS_CHECK

abbrev pub taken_or : ℕ → Option SetupView → ℕ
taken_or check None = check
taken_or check (Some s) = 0

abbrev pub update_answer : Part → DeviceState → List ℕ → ℕ
update_answer part Idle image = 0
update_answer part (Active s) image = taken_or (check_of part) (updated part s image)

-- the answer to a set command, by the state before it, its image and the numbers of ends in its bag, where it has ends; none for a GET
abbrev pub answer_by : Order → DeviceState → List ℕ → Option EndCounts → Option ℕ
answer_by Activate d image ends = Some (activate_answer d image ends)
answer_by Stop d image ends = Some (stop_answer d ends)
answer_by (Update part) d image ends = Some (update_answer part d image)
answer_by Unknown d image ends = Some UNKNOWN_COMMAND
answer_by Get d image ends = None

abbrev pub set_answer : DeviceState → ℕ → List ℕ → Option EndCounts → Option ℕ
set_answer d number image ends = answer_by (order_of number) d image ends

abbrev pub after_update : Part → DeviceState → List ℕ → DeviceState
after_update part Idle image = Idle
after_update part (Active s) image = Active (unwrap_or (updated part s image) s)

-- the state after a command that was answered 0
abbrev pub after_order : Order → DeviceState → List ℕ → DeviceState
after_order Activate d image = Active (image_setup image)
after_order Stop d image = Idle
after_order (Update part) d image = after_update part d image
after_order Unknown d image = d
after_order Get d image = d

-- the state after a command and its answer: only an answer of 0 changes it
abbrev pub after_answer : DeviceState → ℕ → List ℕ → ℕ → DeviceState
after_answer d number image answer = if answer == 0 then after_order (order_of number) d image else d

abbrev pub after_turn : DeviceState → Turn → DeviceState
after_turn d t = after_answer d t.command.number t.command.image t.answer.value

-- the state after a list of turns: from d on, and from the start
abbrev pub state_from : DeviceState → List Turn → DeviceState
state_from d [] = d
state_from d (t ∷ ts) = state_from (after_turn d t) ts

abbrev pub state_after : List Turn → DeviceState
state_after ts = state_from Idle ts

abbrev pub counts : HandedView → EndCounts
counts v = record { tx = v.tx; rx = v.rx }

-- the numbers of ends in a bag, where it has ends
abbrev pub counts_of : Option HandedView → Option EndCounts
counts_of ends = option_map counts ends
