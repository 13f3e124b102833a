-- What the looks of a turn do to queue ends and links, pairwise over the lists of ends before and after.
use Rattle.std.specs.Prelude.{⊤, ◌≡◌, ◌≢◌, ◌⊎◌, ◌≤◌, ◌-◌, ◌*◌, ◌/◌, map, ℕ, suc, List, [], ◌∷◌, ◌++◌, length, Option, Some, None}
use Rattle.vmx_switch.specs.Ports.{Wiring, target_ports}
use Rattle.vmx_ends.specs.declared.meta.TxMark.{TxMark}
use Rattle.vmx_ends.specs.declared.answers.EndFault.{EndFault}
use Rattle.vmx_ends.specs.Frames.{sent_as}
use Rattle.vmx_ends.specs.Transmit.{TxDeviceView}
use Rattle.vmx_ends.specs.TransmitClauses.{TakesFrame, FindsNone, ShowsFault, Completes}
use Rattle.vmx_ends.specs.Receive.{RxDeviceView}
use Rattle.vmx_ends.specs.ReceiveClauses.{Delivers}
use Rattle.vmx_ends.specs.declared.packet.Packet.{Packet}
use Rattle.vmx_ends.specs.declared.answers.Deliver.{Deliver}
use Rattle.vmx_ends.specs.declared.answers.Deliver.TheVariants as answer
use Rattle.vmx_device_state.specs.SetupView.{SetupView}
use Rattle.vmx_link.specs.Views.{LinkOutView, LinkInView}
use Rattle.vmx_machine_state.specs.Views.{ActiveView, setup_of}
use Rattle.vmx_model.specs.declared.journal.Entry.{Entry}
use Rattle.vmx_model.specs.declared.journal.Entry.TheVariants as entry
use Rattle.vmx_model.specs.declared.journal.Fate.{Fate}
use Rattle.vmx_model.specs.declared.journal.Fate.TheVariants as fate
use Rattle.vmx_model.specs.Lists.{count}
use Rattle.vmx_model.specs.Journal.{is_activation}
use Rattle.vmx_model.specs.Wire.{wire_form}
use Rattle.vmx_model.specs.Meta.{delivered_as}
use Rattle.vmx_device_looks.specs.Ports.{other}
use Rattle.vmx_device_looks.specs.Links.{PutsFrame, pulled_one}
use Rattle.vmx_device_laws.specs.Views.{DeviceView}

-- the transmit ends that are held
abbrev pub tx_of : Option ActiveView → List TxDeviceView
tx_of None = []
tx_of (Some a) = a.ends.tx

-- a frame was taken and completed, and put out
pub record TookOne (port : ℕ) (table : Wiring) (activation q : ℕ) (e n : TxDeviceView) (es : List Entry) (old new : List LinkOutView) : Type 0 where
  pub place : ℕ
  pub frame : List ℕ
  pub mark : TxMark
  pub mid : TxDeviceView
  pub takes : TakesFrame e frame place mark mid
  pub completes : Completes mid n
  pub puts : PutsFrame port (record { guest = port; activation = activation; queue = q; place = place }) (wire_form (sent_as frame mark)) (target_ports table port (wire_form (sent_as frame mark))) es old new

-- the look found no frame
pub record TookNone (e n : TxDeviceView) : Type 0 where
  pub word : ℕ
  pub finds : FindsNone e word n

-- given words showed a fault
pub record TookBad (e n : TxDeviceView) : Type 0 where
  pub words : List ℕ
  pub fault : EndFault
  pub shows : ShowsFault e words fault n

-- an end that was passed over, was empty or showed a fault put nothing out
pub record PutNothing (e n : TxDeviceView) (es : List Entry) (old new : List LinkOutView) : Type 0 where
  pub end : (n ≡ e) ⊎ TookNone e n ⊎ TookBad e n
  pub entries : es ≡ []
  pub links : new ≡ old

-- one end, before and after its look
abbrev pub LooksOnce : ℕ → Wiring → ℕ → ℕ → TxDeviceView → TxDeviceView → List Entry → List LinkOutView → List LinkOutView → Type 0
LooksOnce port table activation q e n es old new = TookOne port table activation q e n es old new ⊎ PutNothing e n es old new

-- each end in order, from queue q on
abbrev pub PairsTx : ℕ → Wiring → ℕ → ℕ → List TxDeviceView → List TxDeviceView → List Entry → List LinkOutView → List LinkOutView → Type 0
PairsTx port table activation q [] [] es old new = (es ≡ []) × (new ≡ old)
PairsTx port table activation q [] (n ∷ ns) es old new = ⊥
PairsTx port table activation q (e ∷ ends) [] es old new = ⊥
PairsTx port table activation q (e ∷ ends) (n ∷ ns) es old new =
    (one rest : List Entry) × ((mid : List LinkOutView) × (es ≡ one ++ rest) × LooksOnce port table activation q e n one old mid × PairsTx port table activation (suc q) ends ns rest mid new)

-- ------------------------------------------------------------ links from other ports

-- a packet that was pulled: the port from which it came, its place on that link, itself, and what became of it
pub record Came : Type 0 where
  pub from : ℕ
  pub place : ℕ
  pub packet : Packet
  pub fate : Fate

-- its entry in the journal
abbrev pub entry_of : Came → Entry
entry_of c = entry.In c.from c.place c.fate

-- the k-th link gave its next packet
pub record PulledOne (port k : ℕ) (i n : LinkInView) (came : List Came) : Type 0 where
  pub packet : Packet
  pub fate : Fate
  pub is : n ≡ pulled_one i packet
  pub one : came ≡ record { from = other port k; place = length i.pulled; packet = packet; fate = fate } ∷ []

-- the look at it found none: by its word the entry was not filled, and no note told of a packet
pub record PulledNone (i n : LinkInView) (came : List Came) : Type 0 where
  pub word : ℕ
  pub shows : word ≡ 2 * (length i.pulled / i.capacity)
  pub unheard : length i.filled ≤ length i.pulled
  pub is : n ≡ record i { empty = i.empty ++ (length i.pulled, word) ∷ [] }
  pub none : came ≡ []

-- each link in port order, from the k-th on
abbrev pub PairsIn : ℕ → ℕ → List LinkInView → List LinkInView → List Came → Type 0
PairsIn port k [] [] came = came ≡ []
PairsIn port k [] (n ∷ ns) came = ⊥
PairsIn port k (i ∷ links) [] came = ⊥
PairsIn port k (i ∷ links) (n ∷ ns) came = (one rest : List Came) × (came ≡ one ++ rest) × (PulledOne port k i n one ⊎ PulledNone i n one) × PairsIn port (suc k) links ns rest

-- ------------------------------------------------------------ receive ends

-- the receive ends that are held
abbrev pub rx_of : Option ActiveView → List RxDeviceView
rx_of None = []
rx_of (Some a) = a.ends.rx

-- the fate of a frame, by the answer of the end of queue q
abbrev pub IsFateOf : ℕ → ℕ → Deliver → Fate → Type 0
IsFateOf activation q (answer.Done place) f = f ≡ fate.Up activation q place
IsFateOf activation q (answer.NoBuffer ring position word look) f = f ≡ fate.NoBuffer activation q ring position look
IsFateOf activation q (answer.Bad words fault) f = f ≡ fate.Stopped activation q

-- a fate that does not say that queue q was given the frame
abbrev pub IsElse : ℕ → Fate → Type 0
IsElse q (fate.Up activation queue place) = queue ≢ q
IsElse q (fate.NoBuffer activation queue ring position look) = queue ≢ q
IsElse q f = ⊤

-- the end of queue q was given the packet's frame, in its delivered form
pub record WasGiven (s : SetupView) (activation q : ℕ) (c : Came) (v n : RxDeviceView) : Type 0 where
  pub said : Deliver
  pub fate_is : IsFateOf activation q said c.fate
  pub delivers : Delivers v (delivered_as s c.packet.frame).frame (delivered_as s c.packet.frame).meta said n

-- or it was not
pub record WasPassedOver (q : ℕ) (c : Came) (v n : RxDeviceView) : Type 0 where
  pub elsewhere : IsElse q c.fate
  pub same : n ≡ v

-- what the packets of a turn did to the end of queue q, one after the other
abbrev pub GetsAll : SetupView → ℕ → ℕ → List Came → RxDeviceView → RxDeviceView → Type 0
GetsAll s activation q [] v n = n ≡ v
GetsAll s activation q (c ∷ came) v n = (mid : RxDeviceView) × (WasGiven s activation q c v mid ⊎ WasPassedOver q c v mid) × GetsAll s activation q came mid n

-- each end in order, from queue q on
abbrev pub PairsRx : SetupView → ℕ → ℕ → List Came → List RxDeviceView → List RxDeviceView → Type 0
PairsRx s activation q came [] [] = ⊤
PairsRx s activation q came [] (n ∷ ns) = ⊥
PairsRx s activation q came (v ∷ vs) [] = ⊥
PairsRx s activation q came (v ∷ vs) (n ∷ ns) = GetsAll s activation q came v n × PairsRx s activation (suc q) came vs ns

-- ------------------------------------------------------------ a turn

-- what a turn does after its command: each transmit end and each link is looked at once, in order; each receive end gets what came for its queue; the journal grows by the entries of the frames that were sent, then by those of the packets that came
pub record PairsUp (asked new : DeviceView) : Type 0 where
  pub sends : List Entry
  pub tx : PairsTx asked.port asked.table (count is_activation asked.entries - 1) 0 (tx_of asked.machine.active) (tx_of new.machine.active) sends asked.out new.out
  pub came : List Came
  pub links : PairsIn asked.port 0 asked.input new.input came
  pub rx : (a : ActiveView) → asked.machine.active ≡ Some a → PairsRx a.setup (count is_activation asked.entries - 1) 0 came a.ends.rx (rx_of new.machine.active)
  pub entries : new.entries ≡ asked.entries ++ sends ++ map entry_of came
  pub setup : setup_of new.machine ≡ setup_of asked.machine
  pub same : (new.port ≡ asked.port) × (new.table ≡ asked.table) × (new.key ≡ asked.key) × (new.calls ≡ asked.calls) × (new.setups ≡ asked.setups)
