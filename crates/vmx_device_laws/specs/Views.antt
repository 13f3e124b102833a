-- What contracts see of a device: plain data alone.
use Rattle.std.specs.Prelude.{ℕ, List, [], ◌∷◌, map, Option, Some, None, length, option_map}
use Rattle.vmx_switch.specs.Ports.{Wiring}
use Rattle.vmx_ends.specs.LinkView.{LinkView}
use Rattle.vmx_link.specs.Views.{LinkOutView, LinkInView}
use Rattle.vmx_regs.specs.declared.known.Calls.{Calls}
use Rattle.vmx_regs.specs.declared.known.Masks.{Masks}
use Rattle.vmx_machine_state.specs.Views.{EndsView, ActiveView, MachineView, ends_of, handed_of}
use Rattle.vmx_device_state.specs.declared.turn.Turn.{Turn}
use Rattle.vmx_device_state.specs.Deals.{IsWhole}
use Rattle.vmx_model.specs.Types.{Setup}
use Rattle.vmx_model.specs.declared.journal.Entry.{Entry}
use Rattle.vmx_model.specs.Journal.{Beside, stopped_in}

-- its port at the switch, the switch's table, the machine, the key of its registers and what it knows of commands and masks, the links to and from the other ports in port order, and its journal
pub record DeviceView : Type 0 where
  pub port : ℕ
  pub table : Wiring
  pub machine : MachineView
  pub key : List ℕ
  pub calls : Calls
  pub masks : Masks
  pub out : List LinkOutView
  pub input : List LinkInView
  pub entries : List Entry
  pub setups : List Setup

-- a link as its receiver knows it
abbrev pub own_link : LinkInView → LinkView
own_link i = record { from = i.from; to = i.to; pushed = []; pulled = i.pulled; full = [] }

-- what stands beside a journal, as its device knows it
abbrev pub beside_by : ℕ → List ℕ → List Turn → List LinkInView → Beside
beside_by port mac told input = record { port = port; mac = mac; told = told; links = map own_link input; stopped = stopped_in }

abbrev pub beside_of : DeviceView → Beside
beside_of d = beside_by d.port d.machine.mac d.calls.served d.input

-- the ends that are held, where some are
abbrev pub held_ends : Option ActiveView → List EndsView
held_ends None = []
held_ends (Some a) = a.ends ∷ []

-- how many transmit ends are held
abbrev pub tx_held : Option ActiveView → ℕ
tx_held None = 0
tx_held (Some a) = length a.ends.tx

-- how many receive ends are held
abbrev pub rx_held : Option ActiveView → ℕ
rx_held None = 0
rx_held (Some a) = length a.ends.rx

-- the ends that are held are even, and no frame is taken and not completed
abbrev pub AreWhole : DeviceView → Type 0
AreWhole d = IsWhole (option_map handed_of (ends_of d.machine))
