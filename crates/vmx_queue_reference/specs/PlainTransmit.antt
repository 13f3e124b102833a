-- A plain transmit queue as a state of the core, and what its calls answer.
use Rattle.std.specs.Prelude.{ℕ, ◌≡◌, List, [], length, true, false, Option, Some, None, slice_index_or}
use Rattle.vmx_ends.specs.Transmit.{need}
use Rattle.vmx_ends.specs.Frames.{sent_as}
use Rattle.vmx_ends.specs.TransmitCore.{TxCore, posts, takes, reaps, allows, after}
use Rattle.vmx_ends.specs.declared.answers.Post.{Post}
use Rattle.vmx_ends.specs.declared.answers.Post.TheVariants.{Done, Full}
use Rattle.vmx_ends.specs.declared.meta.TxMark.{TxMark}
use Rattle.vmx_queue_reference.specs.declared.tx.PlainTx.{PlainTx}
use Rattle.vmx_queue_reference.specs.declared.tx.TxFrame.{TxFrame}
use Rattle.vmx_queue_reference.specs.declared.tx.Taken.{Taken}
use Rattle.vmx_queue_reference.specs.declared.tx.Reaped.{Reaped}
use Rattle.vmx_queue_reference.specs.PlainFrames.{all_sent, needed_from}

abbrev pub tx_core : PlainTx → TxCore
tx_core q = record { made = q.made; sent = all_sent q.sent; reaped = q.reaped; completed = q.completed; taken = q.taken }

-- a post is done where the core allows it, and else the ring is full
abbrev pub Posts : PlainTx → List ℕ → TxMark → Post → PlainTx → Type 0
Posts old frame mark (Done place) new = (allows (tx_core old) (posts (sent_as frame mark)) ≡ true) × (place ≡ length old.sent) × (tx_core new ≡ after (tx_core old) (posts (sent_as frame mark)))
Posts old frame mark (Full used needed) new =
    (allows (tx_core old) (posts (sent_as frame mark)) ≡ false) × (used ≡ needed_from old.made old.reaped old.sent) × (needed ≡ need old.made (length frame)) × (tx_core new ≡ after (tx_core old) (posts (sent_as frame mark)))

-- the next frame is taken, with its mark
pub record TakesFrame (old : PlainTx) (into : List ℕ) (t : Taken) (new : PlainTx) : Type 0 where
  pub allowed : allows (tx_core old) takes ≡ true
  pub place : t.place ≡ old.taken
  pub next : TxFrame
  pub there : next ≡ slice_index_or old.sent old.taken next
  pub bytes : into ≡ next.frame
  pub mark : t.mark ≡ next.mark
  pub core : tx_core new ≡ after (tx_core old) takes

-- a take gives the next frame where the core allows it
abbrev pub Takes : PlainTx → List ℕ → Option Taken → PlainTx → Type 0
Takes old into (Some t) new = TakesFrame old into t new
Takes old into None new = (allows (tx_core old) takes ≡ false) × (into ≡ []) × (tx_core new ≡ after (tx_core old) takes)

-- the descriptors of the next completed frame come back
pub record ReapsFrame (old : PlainTx) (r : Reaped) (new : PlainTx) : Type 0 where
  pub allowed : allows (tx_core old) reaps ≡ true
  pub place : r.place ≡ old.reaped
  pub next : TxFrame
  pub there : next ≡ slice_index_or old.sent old.reaped next
  pub count : r.descriptors ≡ need old.made (length next.frame)
  pub core : tx_core new ≡ after (tx_core old) reaps

abbrev pub Reaps : PlainTx → Option Reaped → PlainTx → Type 0
Reaps old (Some r) new = ReapsFrame old r new
Reaps old None new = (allows (tx_core old) reaps ≡ false) × (tx_core new ≡ after (tx_core old) reaps)
