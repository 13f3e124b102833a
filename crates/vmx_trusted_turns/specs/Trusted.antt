-- A device with a driver behind the words of all its ends: none of its queues is stopped, and each look at one is made.
use Rattle.std.specs.Prelude.{⊤, ◌≡◌, ◌⊎◌, ◌-◌, ℕ, suc, false, List, [], ◌∷◌, ◌++◌, Option, Some, None}
use Rattle.std.specs.List.{AllByRecursion}
use Rattle.vmx_switch.specs.Ports.{Wiring}
use Rattle.vmx_ends.specs.Transmit.{TxDeviceView}
use Rattle.vmx_ends.specs.Receive.{RxDeviceView}
use Rattle.vmx_link.specs.Views.{LinkOutView}
use Rattle.vmx_regs.specs.declared.known.Masks.{Masks}
use Rattle.vmx_machine_state.specs.Views.{EndsView, MachineView, no_errors}
use Rattle.vmx_model.specs.declared.journal.Entry.{Entry}
use Rattle.vmx_model.specs.declared.journal.Fate.{Fate}
use Rattle.vmx_model.specs.Lists.{count}
use Rattle.vmx_model.specs.Journal.{is_activation}
use Rattle.vmx_model.specs.Wire.{rx_queue}
use Rattle.vmx_device_looks.specs.Arrivals.{IsLetIn, FindsIdle, Refuses, ComesUp, LacksBuffer}
use Rattle.vmx_device_laws.specs.Views.{DeviceView}
use Rattle.vmx_device_laws.specs.Pairs.{tx_of, rx_of, TookOne, TookNone}

-- no end of a list stands over given words
abbrev pub TrustedTx : List TxDeviceView → Type 0
TrustedTx es = AllByRecursion (λ (e : TxDeviceView). e.given ≡ false) es

abbrev pub TrustedRx : List RxDeviceView → Type 0
TrustedRx es = AllByRecursion (λ (e : RxDeviceView). e.given ≡ false) es

pub record IsTrusted (m : MachineView) : Type 0 where
  pub tx : TrustedTx (tx_of m.active)
  pub rx : TrustedRx (rx_of m.active)
  pub tx_stopped : m.tx_stopped ≡ no_errors
  pub rx_stopped : m.rx_stopped ≡ no_errors

-- the ends that a command brings
abbrev pub BringsTrusted : Option EndsView → Type 0
BringsTrusted None = ⊤
BringsTrusted (Some e) = TrustedTx e.tx × TrustedRx e.rx

-- ------------------------------------------------------------ transmit queues

-- the look found no frame, and nothing was put out
pub record FoundNone (e n : TxDeviceView) (es : List Entry) (old new : List LinkOutView) : Type 0 where
  pub none : TookNone e n
  pub entries : es ≡ []
  pub links : new ≡ old

-- one end, before and after its look: it took a frame or found none
abbrev pub Looks : ℕ → Wiring → ℕ → ℕ → TxDeviceView → TxDeviceView → List Entry → List LinkOutView → List LinkOutView → Type 0
Looks port table activation q e n es old new = TookOne port table activation q e n es old new ⊎ FoundNone e n es old new

-- each end in order, from queue q on
abbrev pub LooksEach : ℕ → Wiring → ℕ → ℕ → List TxDeviceView → List TxDeviceView → List Entry → List LinkOutView → List LinkOutView → Type 0
LooksEach port table activation q [] [] es old new = (es ≡ []) × (new ≡ old)
LooksEach port table activation q [] (n ∷ ns) es old new = ⊥
LooksEach port table activation q (e ∷ ends) [] es old new = ⊥
LooksEach port table activation q (e ∷ ends) (n ∷ ns) es old new =
    (one rest : List Entry) × ((mid : List LinkOutView) × (es ≡ one ++ rest) × Looks port table activation q e n one old mid × LooksEach port table activation (suc q) ends ns rest mid new)

-- all transmit ends that are held
pub record LooksAll (d d' : DeviceView) : Type 0 where
  pub entries : List Entry
  pub each : LooksEach d.port d.table (count is_activation d.entries - 1) 0 (tx_of d.machine.active) (tx_of d'.machine.active) entries d.out d'.out
  pub is : d'.entries ≡ d.entries ++ entries

-- ------------------------------------------------------------ a packet

-- the frame of a packet goes to the queue of its flow, which delivers it or lacks a buffer
pub record Delivers (activation : ℕ) (frame : List ℕ) (f : Fate) (old : MachineView) (was : Masks) (new : MachineView) (now : Masks) : Type 0 where
  pub let_in : IsLetIn old frame
  pub delivers : ComesUp let_in.active.setup activation (rx_queue let_in.active.setup.rss frame) frame f old was new now
      ⊎ LacksBuffer let_in.active.setup activation (rx_queue let_in.active.setup.rss frame) frame f old was new now

-- or the device is idle, or the filter refuses it
abbrev pub HandlesTrusted : ℕ → List ℕ → Fate → MachineView → Masks → MachineView → Masks → Type 0
HandlesTrusted activation frame f old was new now = FindsIdle f old was new now ⊎ Refuses frame f old was new now ⊎ Delivers activation frame f old was new now
