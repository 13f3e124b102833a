-- What the steps of a transmit queue's ends do, by what they tell: the relations of the calls without the numbers of their answers.
use Rattle.std.specs.Prelude.{◌≡◌, ℕ, List, [], Bool, true, false}
use Rattle.vmx_ends.specs.Transmit.{TxDriverView, TxDeviceView}
use Rattle.vmx_ends.specs.TransmitClauses.{Posts, Reaps, TakesFrame, FindsNone, Completes}
use Rattle.vmx_ends.specs.declared.meta.TxMark.{TxMark}
use Rattle.vmx_ends.specs.declared.answers.Post.TheVariants.{Done as Posted_, Full}
use Rattle.vmx_ends.specs.declared.answers.Reap.TheVariants.{Done as Reaped_, NotYet}

-- the frame goes last in the sent list, or its descriptors do not fit beside those in use
abbrev pub PostsOne : TxDriverView → List ℕ → TxMark → Bool → TxDriverView → Type 0
PostsOne old frame mark true new = (place : ℕ) × Posts old frame mark (Posted_ place) new
PostsOne old frame mark false new = (in_use : ℕ) × (needed : ℕ) × Posts old frame mark (Full in_use needed) new

-- the next completed frame's descriptors come back, or its completion is not there
abbrev pub ReapsOne : TxDriverView → Bool → TxDriverView → Type 0
ReapsOne old true new = (place : ℕ) × (count : ℕ) × Reaps old (Reaped_ place count) new
ReapsOne old false new = (word : ℕ) × Reaps old (NotYet word) new

-- the next sent frame is taken, and then completed
pub record TakesAndCompletes (old : TxDeviceView) (into : List ℕ) (new : TxDeviceView) : Type 0 where
  pub place : ℕ
  pub mark : TxMark
  pub between : TxDeviceView
  pub takes : TakesFrame old into place mark between
  pub completes : Completes between new

-- it is, or no further frame is there
abbrev pub TakesOne : TxDeviceView → List ℕ → Bool → TxDeviceView → Type 0
TakesOne old into true new = TakesAndCompletes old into new
TakesOne old into false new = (into ≡ []) × (word : ℕ) × FindsNone old word new
