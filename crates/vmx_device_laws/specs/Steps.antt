-- What a turn of a device does, look by look.
use Rattle.std.specs.Prelude.{◌≡◌, ◌⊎◌, ◌+◌, ◌-◌, ◌∷◌, ◌++◌, [], ℕ, zero, suc, Bool, true, false, not, ◌==◌, ◌||◌, List, length, Option, Some, None}
use Rattle.vmx_frame.specs.Ethernet.{class_of}
use Rattle.vmx_switch.specs.Ports.{target_ports}
use Rattle.vmx_shared_area.specs.declared.stats.Side.TheVariants.{Tx}
use Rattle.vmx_ends.specs.declared.packet.Packet.{Packet}
use Rattle.vmx_ends.specs.declared.packet.Tag.{Tag}
use Rattle.vmx_ends.specs.declared.meta.TxMark.{TxMark}
use Rattle.vmx_ends.specs.declared.answers.EndFault.{EndFault}
use Rattle.vmx_ends.specs.Frames.{sent_as}
use Rattle.vmx_regs.specs.declared.known.Calls.{Calls}
use Rattle.vmx_regs.specs.declared.known.Masks.{Masks}
use Rattle.vmx_link.specs.Views.{LinkOutView, LinkInView}
use Rattle.vmx_machine_state.specs.declared.statistics.Count.TheVariants.{Frame, Error, Discard}
use Rattle.vmx_machine_state.specs.Statistics.{after_count}
use Rattle.vmx_machine_state.specs.Stopped.{error_on, error_of, after_stop}
use Rattle.vmx_machine_state.specs.Views.{MachineView, state_of}
use Rattle.vmx_commands.specs.Replies.{Tracks}
use Rattle.vmx_commands.specs.Serving.{AnswersCommand, FindsNoCommand}
use Rattle.vmx_model.specs.Types.{Setup}
use Rattle.vmx_model.specs.declared.journal.Entry.{Entry}
use Rattle.vmx_model.specs.declared.journal.Entry.TheVariants as entry
use Rattle.vmx_model.specs.declared.journal.Fate.{Fate}
use Rattle.vmx_model.specs.Lists.{count}
use Rattle.vmx_model.specs.Journal.{is_activation}
use Rattle.vmx_model.specs.Wire.{wire_form}
use Rattle.vmx_device_looks.specs.Ports.{other}
use Rattle.vmx_device_looks.specs.Links.{PutsFrame, PullsOne, PullsNone}
use Rattle.vmx_device_looks.specs.Looks.{TakesOne, TakesNone, TakesBad}
use Rattle.vmx_device_looks.specs.Interrupts.{Signals, Alarms, masks_itself}
use Rattle.vmx_device_looks.specs.Bells.{ReadsBells}
use Rattle.vmx_device_looks.specs.Commands.{ShowsState}
use Rattle.vmx_device_looks.specs.Arrivals.{Handles}
use Rattle.vmx_device_looks.specs.declared.events.TheConstants.{TX_ERROR_EVENT}
use Rattle.vmx_device_laws.specs.declared.turn.Turn.{Turn}
use Rattle.vmx_device_laws.specs.declared.turn.Turn.TheVariants as turn
use Rattle.vmx_device_laws.specs.Views.{DeviceView, tx_held, rx_held}

-- ------------------------------------------------------------ the command register

-- the look found no command, and no note had told of one
pub record SeesNoCommand (old new : DeviceView) : Type 0 where
  pub calls : Calls
  pub finds : FindsNoCommand old.calls old.machine calls old.machine
  pub is : new ≡ record old { calls = calls }

-- a command was answered, and the journal has an entry more
pub record Obeys (old new : DeviceView) : Type 0 where
  pub number : ℕ
  pub value : ℕ
  pub calls : Calls
  pub machine : MachineView
  pub answers : AnswersCommand old.calls old.machine number value calls machine
  pub tracks : Tracks machine calls.served
  pub setup : Option ℕ
  pub setups : List Setup
  pub shows : ShowsState old.setups setup setups (state_of machine)
  pub is : new ≡ record old { machine = machine; calls = calls; entries = old.entries ++ entry.Setting number value setup ∷ []; setups = setups }

-- the look at the command register; the flag says whether it found something, and so below
abbrev pub CommandStep : Bool → DeviceView → DeviceView → Type 0
CommandStep false old new = SeesNoCommand old new
CommandStep true old new = Obeys old new

-- ------------------------------------------------------------ doorbells

-- an active device reads each doorbell of its queues once
abbrev pub BellStep : DeviceView → DeviceView → Type 0
BellStep old new = (masks : Masks) × ReadsBells old.calls.interrupts (tx_held old.machine.active) (rx_held old.machine.active) old.masks masks × (new ≡ record old { masks = masks })

-- ------------------------------------------------------------ a transmit queue

-- the machine after a frame was counted, and that it has no target
abbrev pub counted_taken : ℕ → List ℕ → Bool → MachineView → MachineView
counted_taken q frame true m = after_count Tx q (Frame (class_of frame) (length frame)) m
counted_taken q frame false m = after_count Tx q Discard (after_count Tx q (Frame (class_of frame) (length frame)) m)

-- it is stopped, and no look was made
pub record PassesOver (q : ℕ) (old new : DeviceView) : Type 0 where
  pub error : ℕ
  pub stopped : error_on Tx old.machine q ≡ Some error
  pub is : new ≡ old

-- the look found no frame
pub record SeesNoFrame (q : ℕ) (old new : DeviceView) : Type 0 where
  pub unstopped : error_on Tx old.machine q ≡ None
  pub machine : MachineView
  pub takes : TakesNone q old.machine machine
  pub is : new ≡ record old { machine = machine }

-- the tag of a frame that is taken now
abbrev pub tag_of : DeviceView → ℕ → ℕ → Tag
tag_of d q place = record { guest = d.port; activation = count is_activation d.entries - 1; queue = q; place = place }

-- a frame was taken and completed, its interrupt raised, its wire form given to its targets and counted
pub record SwitchesFrame (q : ℕ) (old new : DeviceView) : Type 0 where
  pub unstopped : error_on Tx old.machine q ≡ None
  pub place : ℕ
  pub bytes : List ℕ
  pub mark : TxMark
  pub machine : MachineView
  pub takes : TakesOne q place bytes mark old.machine machine
  pub masks : Masks
  pub signals : Signals old.masks q (masks_itself takes.here.active.setup) masks
  pub entries : List Entry
  pub out : List LinkOutView
  pub puts : PutsFrame old.port (tag_of old q place) (wire_form (sent_as bytes mark)) (target_ports old.table old.port (wire_form (sent_as bytes mark))) entries old.out out
  pub is : new ≡ record old {
    machine = counted_taken q (wire_form (sent_as bytes mark)) (not (length (target_ports old.table old.port (wire_form (sent_as bytes mark))) == 0)) machine;
    masks = masks;
    out = out;
    entries = old.entries ++ entries;
  }

-- its given words show a fault: the error is counted, the queue stops, and the event of transmit errors is set
pub record StopsQueue (q : ℕ) (old new : DeviceView) : Type 0 where
  pub unstopped : error_on Tx old.machine q ≡ None
  pub fault : EndFault
  pub machine : MachineView
  pub takes : TakesBad q fault old.machine machine
  pub masks : Masks
  pub alarms : Alarms old.calls.interrupts TX_ERROR_EVENT (takes.here.active.setup.tx_queues + takes.here.active.setup.rx_queues) (masks_itself takes.here.active.setup) old.masks masks
  pub is : new ≡ record old { machine = after_stop Tx q (error_of fault) (after_count Tx q Error machine); masks = masks }

abbrev pub TxStep : ℕ → Bool → DeviceView → DeviceView → Type 0
TxStep q false old new = PassesOver q old new ⊎ SeesNoFrame q old new
TxStep q true old new = SwitchesFrame q old new ⊎ StopsQueue q old new

-- queues 0 to q - 1, in order
abbrev pub TxSteps : ℕ → Bool → DeviceView → DeviceView → Type 0
TxSteps zero found old new = (found ≡ false) × (new ≡ old)
TxSteps (suc q) found old new = (before here : Bool) × ((mid : DeviceView) × (found ≡ before || here) × TxStep q here mid new × TxSteps q before old mid)

-- ------------------------------------------------------------ a link

-- the look found no packet
pub record SeesNoPacket (k : ℕ) (old new : DeviceView) : Type 0 where
  pub input : List LinkInView
  pub pulls : PullsNone old.input k input
  pub is : new ≡ record old { input = input }

-- a packet was pulled, and handled
pub record HandlesPacket (k : ℕ) (old new : DeviceView) : Type 0 where
  pub place : ℕ
  pub packet : Packet
  pub input : List LinkInView
  pub pulls : PullsOne old.input k place packet input
  pub fate : Fate
  pub machine : MachineView
  pub masks : Masks
  pub handles : Handles (count is_activation old.entries - 1) packet.frame old.calls.interrupts fate old.machine old.masks machine masks
  pub is : new ≡ record old { machine = machine; masks = masks; input = input; entries = old.entries ++ entry.In (other old.port k) place fate ∷ [] }

abbrev pub InStep : ℕ → Bool → DeviceView → DeviceView → Type 0
InStep k false old new = SeesNoPacket k old new
InStep k true old new = HandlesPacket k old new

-- links 0 to k - 1, in port order
abbrev pub InSteps : ℕ → Bool → DeviceView → DeviceView → Type 0
InSteps zero found old new = (found ≡ false) × (new ≡ old)
InSteps (suc k) found old new = (before here : Bool) × ((mid : DeviceView) × (found ≡ before || here) × InStep k here mid new × InSteps k before old mid)

-- ------------------------------------------------------------ looks that found nothing

-- at queues 0 to q - 1
abbrev pub SeesNoFrames : ℕ → DeviceView → DeviceView → Type 0
SeesNoFrames zero old new = new ≡ old
SeesNoFrames (suc q) old new = (mid : DeviceView) × (PassesOver q mid new ⊎ SeesNoFrame q mid new) × SeesNoFrames q old mid

-- at links 0 to k - 1
abbrev pub SeesNoPackets : ℕ → DeviceView → DeviceView → Type 0
SeesNoPackets zero old new = new ≡ old
SeesNoPackets (suc k) old new = (mid : DeviceView) × SeesNoPacket k mid new × SeesNoPackets k old mid

-- every look of a turn was empty: at the command register, at each transmit queue that is not stopped, at each link; the journal is as before
pub record FindsNothing (old new : DeviceView) : Type 0 where
  pub asked : DeviceView
  pub command : SeesNoCommand old asked
  pub rung : DeviceView
  pub bells : BellStep asked rung
  pub sent : DeviceView
  pub frames : SeesNoFrames (tx_held asked.machine.active) rung sent
  pub packets : SeesNoPackets (length sent.input) sent new
  pub entries : new.entries ≡ old.entries
  pub setups : new.setups ≡ old.setups

-- ------------------------------------------------------------ a turn

-- one look at the command register; then, when active, the doorbells and one look at each transmit queue in order; then one look at each link in port order
pub record TurnsOnce (worked : Bool) (old new : DeviceView) : Type 0 where
  pub answered : Bool
  pub asked : DeviceView
  pub command : CommandStep answered old asked
  pub rung : DeviceView
  pub bells : BellStep asked rung
  pub taken : Bool
  pub sent : DeviceView
  pub takes : TxSteps (tx_held asked.machine.active) taken rung sent
  pub pulled : Bool
  pub pulls : InSteps (length sent.input) pulled sent new
  pub found : worked ≡ answered || (taken || pulled)

-- the answer of a turn
abbrev pub worked : Turn → Bool
worked turn.Worked = true
worked turn.Idle = false
worked turn.Drained = false
worked turn.Ended = false
