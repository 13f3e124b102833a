-- What a driver does with its ends of all queues.
use Rattle.std.specs.Prelude.{◌≡◌, ℕ, ◌+◌, ◌<◌, ◌≤◌, ◌^◌, List, [], ◌∷◌, ◌++◌, length, false, Some, slice_get, slice_index_or, slice_set}
use Rattle.vmx_ends.specs.declared.meta.TxMark.{TxMark}
use Rattle.vmx_layout.specs.declared.TheConstants.{COMPLETION_GENERATION_BIT}
use Rattle.vmx_ends.specs.Words.{IsMissed}
use Rattle.vmx_ends.specs.Frames.{sent_as}
use Rattle.vmx_ends.specs.Transmit.{TxDriverView, TxDeviceView, posted, need, used as used_by}
use Rattle.vmx_regs.specs.declared.known.Masks.{Masks}
use Rattle.vmx_driver_steps.specs.Hints.{index_of, rung_tx}
use Rattle.vmx_ends.specs.TransmitClauses.{Posts, GrowsPosted}
use Rattle.vmx_ends.specs.declared.answers.Post.TheVariants.{Done as Posted_}
use Rattle.vmx_pcap.specs.declared.records.Stamped.{Stamped}
use Rattle.vmx_model.specs.declared.guest.GuestPlan.{GuestPlan}
use Rattle.vmx_model.specs.Wire.{tx_queue, posted_form}
use Rattle.vmx_model.specs.QueueSteps.{sent_before}
use Rattle.vmx_driver_steps.specs.declared.progress.Progress.{Progress}
use Rattle.vmx_driver_steps.specs.Progress.{IsUnderway, passes}
use Rattle.vmx_ends.specs.Receive.{RxDriverView, RxDeviceView}
use Rattle.vmx_ends.specs.Queues.{driver_passed, device_passed, driver_passed_rx, device_passed_rx}

-- a transmit end with room for the numbers of more frames
pub record IsFine (d : TxDriverView) : Type 0 where
  pub within : d.reaped ≤ length d.sent
  pub small : length d.sent < 2 ^ 58

-- completions were taken back until a look found none: the word that it found there, and that no note told of one
pub record IsReaped (old new : TxDriverView) : Type 0 where
  pub word : ℕ
  pub missed : IsMissed COMPLETION_GENERATION_BIT new.made.size new.reaped word
  pub looked : new.looks ≡ old.looks ++ (new.reaped, word) ∷ []
  pub is : new ≡ record old { reaped = new.reaped; looks = new.looks }
  pub within : new.reaped ≤ length new.sent
  pub more : old.reaped ≤ new.reaped
  pub heard : new.heard ≤ new.reaped

-- notes went both ways: the ends are as they were, and each knows what the other did
pub record PassedTx (old : TxDriverView) (e : TxDeviceView) (new : TxDriverView) (e' : TxDeviceView) : Type 0 where
  pub driver : new ≡ driver_passed old e
  pub device : e' ≡ device_passed e old
  pub heard : e.completed ≤ new.heard

pub record PassedRx (old : RxDriverView) (e : RxDeviceView) (new : RxDriverView) (e' : RxDeviceView) : Type 0 where
  pub driver : new ≡ driver_passed_rx old e
  pub device : e' ≡ device_passed_rx e old
  pub heard : length e.delivered ≤ length new.heard

-- a transmit end with room for the numbers of one more frame
abbrev pub IsSmallTx : TxDriverView → Type 0
IsSmallTx d = (length d.sent < 2 ^ 58) × (posted d < 2 ^ 62)

-- the next frame is posted on its queue, and those behind it that are not sent are passed over
pub record PostsThere (p : GuestPlan) (n : ℕ) (s : Progress) (m : Masks) (tx : List TxDriverView) (s' : Progress) (m' : Masks) (tx' : List TxDriverView) : Type 0 where
  pub frame : List ℕ
  pub end : TxDriverView
  pub end' : TxDriverView
  pub place : ℕ
  pub mark : TxMark
  pub there : (r : Stamped) → slice_get p.capture.records s.next ≡ Some r → (frame ≡ r.frame) × (sent_as frame mark ≡ posted_form p r.frame)
  pub at : end ≡ slice_index_or tx (tx_queue frame p.setup.tx_queues) end
  pub below : tx_queue frame p.setup.tx_queues < length tx
  pub told : Posts end frame mark (Posted_ place) end'
  pub grows : GrowsPosted end end'
  pub is : tx' ≡ slice_set tx (tx_queue frame p.setup.tx_queues) end'
  pub bell : m' ≡ rung_tx n (tx_queue frame p.setup.tx_queues) (index_of (length end.sent + 1)) m
  pub kept : s' ≡ record s { next = s'.next }
  pub up : s.next + 1 ≤ s'.next
  pub under : IsUnderway p s'
  pub settled : passes p s' ≡ false
  pub frames : (a q : ℕ) → sent_before p a q s'.next ≡ sent_before p a q (s.next + 1)

-- its ring has fewer free descriptors than it needs
pub record FullThere (p : GuestPlan) (s : Progress) (tx : List TxDriverView) : Type 0 where
  pub frame : Stamped
  pub there : slice_get p.capture.records s.next ≡ Some frame
  pub end : TxDriverView
  pub at : end ≡ slice_index_or tx (tx_queue frame.frame p.setup.tx_queues) end
  pub full : end.made.size < used_by end + need end.made (length frame.frame)

-- queue by queue, notes went both ways
abbrev pub PassedAllTx : List TxDriverView → List TxDeviceView → List TxDriverView → List TxDeviceView → Type 0
PassedAllTx [] [] [] [] = Unit {0}
PassedAllTx (d ∷ ds) (e ∷ es) (d' ∷ ds') (e' ∷ es') = PassedTx d e d' e' × PassedAllTx ds es ds' es'
PassedAllTx ds es ds' es' = ⊥

abbrev pub PassedAllRx : List RxDriverView → List RxDeviceView → List RxDriverView → List RxDeviceView → Type 0
PassedAllRx [] [] [] [] = Unit {0}
PassedAllRx (d ∷ ds) (e ∷ es) (d' ∷ ds') (e' ∷ es') = PassedRx d e d' e' × PassedAllRx ds es ds' es'
PassedAllRx ds es ds' es' = ⊥
