-- What the steps of a receive queue's ends do, by what they tell: the relations of the calls without the numbers of their answers.
use Rattle.std.specs.Prelude.{◌≡◌, ℕ, List, [], length, Bool, true, false}
use Rattle.vmx_ends.specs.Receive.{RxDriverView, RxDeviceView}
use Rattle.vmx_ends.specs.ReceiveClauses.{DeliversFrame, Refuses, ReceivesFrame, FindsNone}
use Rattle.vmx_ends.specs.declared.meta.RxMeta.{RxMeta}

-- a look that refused a frame: its ring, position and word, and its number
pub record RefusesOne (old : RxDeviceView) (bytes : ℕ) (new : RxDeviceView) : Type 0 where
  pub ring : ℕ
  pub position : ℕ
  pub word : ℕ
  pub look : ℕ
  pub refuses : Refuses old bytes ring position word look new

-- the frame goes last in the delivered list, or a descriptor that it needed is the driver's and nothing is consumed
abbrev pub DeliversOne : RxDeviceView → List ℕ → RxMeta → Bool → RxDeviceView → Type 0
DeliversOne old frame meta true new = DeliversFrame old frame meta new
DeliversOne old frame meta false new = RefusesOne old (length frame) new

-- the next delivered frame is received, with its place, its meta and how many descriptors come back
pub record ReceivesNext (old : RxDriverView) (into : List ℕ) (new : RxDriverView) : Type 0 where
  pub place : ℕ
  pub meta : RxMeta
  pub count : ℕ
  pub receives : ReceivesFrame old into place meta count new

-- it is, or no further frame is there
abbrev pub ReceivesOne : RxDriverView → List ℕ → Bool → RxDriverView → Type 0
ReceivesOne old into true new = ReceivesNext old into new
ReceivesOne old into false new = (into ≡ []) × (word : ℕ) × FindsNone old word new
