-- A receive queue: its two supplies, its deliveries, and what its two ends, their notes and the facts show.
-- Each supply is counted by positions. The buffer at the position p of a supply is the buffer p modulo the size of its ring, since buffers come back in the order in which they left. So a supply is the positions from those consumed up to those posted.
use Rattle.std.specs.Prelude.{ℕ, suc, ◌+◌, ◌%◌, List, [], ◌∷◌, length, Bool, false, not, ◌==◌, if◌then◌else◌, Option, slice_index_or}
use Rattle.vmx_ends.specs.declared.made.Bodies.{Bodies}
use Rattle.vmx_ends.specs.declared.made.Bodies.TheVariants.{Every, Given}
use Rattle.vmx_ends.specs.declared.made.RxMade.{RxMade}
use Rattle.vmx_ends.specs.declared.frames.Delivery.{Delivery}
use Rattle.vmx_ends.specs.declared.answers.EndFault.{EndFault}

-- Index i of ring 1 is HEAD where i modulo bodies + 1 is 0, and else BODY; or it is as its word says. Ring 2 is all BODY.
abbrev pub is_body_index : Bodies → ℕ → Bool
is_body_index (Every bodies) i = not (i % (bodies + 1) == 0)
is_body_index (Given kinds) i = slice_index_or kinds i false

abbrev pub is_body : RxMade → ℕ → Bool
is_body m p = is_body_index m.bodies (p % m.size1)

-- how many pieces of a frame lie in a ring
abbrev pub in_ring : ℕ → List (ℕ × ℕ) → ℕ
in_ring r [] = 0
in_ring r (spot ∷ chain) = if spot.0 == r then suc (in_ring r chain) else in_ring r chain

-- how many buffers of each supply a frame takes, and how many pieces it has
abbrev pub took1 : Delivery → ℕ
took1 d = d.passed + in_ring 1 d.chain

abbrev pub took2 : Delivery → ℕ
took2 d = in_ring 2 d.chain

abbrev pub pieces_of : Delivery → ℕ
pieces_of d = length d.chain

-- the sum of a number over frames
abbrev pub used : (Delivery → ℕ) → List Delivery → ℕ
used f [] = 0
used f (d ∷ ds) = f d + used f ds

-- how many positions of each supply are posted where these frames were received and posted back
abbrev pub posted1 : RxMade → List Delivery → ℕ
posted1 m ds = (if m.full then m.size1 else 0) + used took1 ds

abbrev pub posted2 : RxMade → List Delivery → ℕ
posted2 m ds = (if m.full then m.size2 else 0) + used took2 ds

-- The device's end. refused: ring, position and word of each look that refused a frame. looks: position and word of those at ring 1 for further pieces. seen1, seen2: how many positions of each supply it knows as posted. heard: the frames that notes told as received. given: its words were given to it. bad: the words and the fault that end it.
pub record RxDeviceView : Type 0 where
  pub key : List ℕ
  pub made : RxMade
  pub delivered : List Delivery
  pub refused : List (ℕ × ℕ × ℕ)
  pub looks : List (ℕ × ℕ)
  pub seen1 : ℕ
  pub seen2 : ℕ
  pub heard : List Delivery
  pub given : Bool
  pub bad : Option (List ℕ × EndFault)
  pub notes_given : ℕ
  pub notes_heard : ℕ

-- The driver's end. looks: position and word of each completion that was not there. heard: the frames that notes told as delivered.
pub record RxDriverView : Type 0 where
  pub key : List ℕ
  pub made : RxMade
  pub received : List Delivery
  pub looks : List (ℕ × ℕ)
  pub heard : List Delivery
  pub notes_given : ℕ
  pub notes_heard : ℕ

-- What one end tells the other: a device its delivered frames and what it knows as posted, a driver its received frames.
pub record RxNoteView : Type 0 where
  pub key : List ℕ
  pub made : RxMade
  pub of_driver : Bool
  pub frames : List Delivery
  pub seen1 : ℕ
  pub seen2 : ℕ

-- what is known of a receive queue whose two ends have met
pub record RxView : Type 0 where
  pub key : List ℕ
  pub made : RxMade
  pub delivered : List Delivery
  pub received : List Delivery
  pub refused : List (ℕ × ℕ × ℕ)

-- how many buffers left each supply
abbrev pub consumed1 : RxDeviceView → ℕ
consumed1 v = used took1 v.delivered

abbrev pub consumed2 : RxDeviceView → ℕ
consumed2 v = used took2 v.delivered
