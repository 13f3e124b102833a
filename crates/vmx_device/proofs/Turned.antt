-- A turn, from its looks: memory first, which changes nothing that contracts see.
use Rattle.std.proofs.Common.{◌≡◌, Bool, List, sym, ap, ◌∙◌, subst}
use Rattle.vmx_io.specs.declared.buffer.Buffer.{Buffer}
use Rattle.vmx_model.specs.declared.journal.Journal.{Journal}
use Rattle.vmx_model.specs.Lists.{count}
use Rattle.vmx_model.specs.Journal.{is_activation}
use Rattle.vmx_device.specs.declared.inner.Inner.{Inner}
use Rattle.vmx_device_laws.specs.declared.turn.Turn.{Turn}
use Rattle.vmx_device_laws.specs.declared.turn.Turn.TheVariants as turn
use Rattle.vmx_device_laws.specs.Views.{DeviceView}
use Rattle.vmx_device_laws.specs.Keeps.{Keeps}
use Rattle.vmx_device_laws.specs.Steps.{TurnsOnce, FindsNothing, worked}
use Rattle.vmx_device.specs.Holds.{inner_view, Holds}
use Rattle.vmx_device_laws.proofs.Turns.{found_nothing}

module _ {F TxNote TxDriver TxDevice TxFacts RxNote RxDriver RxDevice RxFacts : Type 0} (n : Inner F TxNote TxDriver TxDevice TxFacts RxNote RxDriver RxDevice RxFacts) (journal : Journal) (copies : List Buffer) (entries : journal.entries.0 ≡ n.journal.entries.0) (setups : journal.setups.0 ≡ n.journal.setups.0) where
  pub grown_is : inner_view (record n { journal = journal; copies = copies }) ≡ inner_view n
  grown_is = λ i. record (inner_view n) { entries = entries i; setups = setups i }

  pub grown : Holds n → Holds (record n { journal = journal; copies = copies })
  grown h = record { keeps = subst Keeps (sym grown_is) h.keeps; rooms = h.rooms; begun = h.begun ∙ ap (count is_activation) (sym entries) }

pub turned_once : {found answer : Bool} {old mid new : DeviceView} → answer ≡ found → mid ≡ old → TurnsOnce found mid new → TurnsOnce answer old new
turned_once {found} {answer} {old} {mid} {new} is same once = subst (λ (x : Bool × DeviceView). TurnsOnce x.0 x.1 new) (λ i. (sym is i, same i)) once

pub turned_idle : (t : Turn) → t ≡ turn.Idle → {old new : DeviceView} → TurnsOnce (worked t) old new → FindsNothing old new
turned_idle t idle {old} {new} once = found_nothing old new (subst (λ (x : Turn). TurnsOnce (worked x) old new) idle once)
