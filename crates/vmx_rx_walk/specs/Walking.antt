-- What the functions of the device's walk do to what the device knows.
use Rattle.std.specs.Prelude.{◌≡◌, ℕ, zero, suc, ◌+◌, ◌≤◌, ◌⊎◌, List, [], ◌∷◌, ◌++◌, length, Option, Bool, true, false, All}
use Rattle.vmx_ends.specs.Words.{IsMissed}
use Rattle.vmx_ends.specs.Receive.{is_body, posted1, posted2}
use Rattle.vmx_ends.specs.ReceiveClauses.{made_of}
use Rattle.vmx_ends.specs.Walk.{Stand, at_head, further, walk, AreBodies, IsHead}
use Rattle.vmx_ends.specs.declared.made.RxMade.{RxMade}
use Rattle.vmx_ends.specs.declared.made.RxShape.{RxShape}
use Rattle.vmx_rx_ring.specs.declared.known.DeviceKnows.{DeviceKnows}
use Rattle.vmx_rx_walk.specs.declared.walking.HeadEnd.{HeadEnd}
use Rattle.vmx_rx_walk.specs.declared.walking.HeadEnd.TheVariants as head
use Rattle.vmx_rx_walk.specs.declared.walking.More.{More}
use Rattle.vmx_rx_walk.specs.declared.walking.More.TheVariants as more
use Rattle.vmx_rx_ring.specs.declared.known.Spot.{Spot}
use Rattle.vmx_rx_walk.specs.declared.walking.Plan.{Plan}
use Rattle.vmx_rx_walk.specs.declared.walking.Plan.TheVariants as plan
use Rattle.vmx_rx_ring.specs.Words.{spot_of}
use Rattle.vmx_rx_ring.specs.Tells.{Seated, with_device, saw_one, looks_past}
use Rattle.vmx_layout.specs.declared.TheConstants.{RX_DESC_GENERATION_BIT}

-- the device's seat with nothing out
abbrev pub IsDevice : Seated → RxShape → Type 0
IsDevice m s = (m.0.delivers ≡ true) × (m.0.receives ≡ false) × (m.1 ≡ []) × (m.0.made ≡ made_of s)

-- how far the search for a head came
abbrev pub HeadSearched : Seated → HeadEnd → Seated → Type 0
HeadSearched m (head.Found p) m' = let e = m.0.device in
    (seen1 : ℕ) × (m' ≡ (with_device m.0 (record e { next1 = suc p; head = p; seen1 = seen1 }), [])) × (e.seen1 ≤ seen1) × (suc p ≤ seen1) × IsHead m.0.made e.next1 p
HeadSearched m (head.Missing p word) m' = let e = m.0.device in
    (seen1 : ℕ) × (h : ℕ) × (m' ≡ (with_device m.0 (record e { refused = e.refused ++ (1, p, word) ∷ []; next1 = e.gone1; next2 = e.gone2; seen1 = seen1; head = h }), []))
    × (e.seen1 ≤ seen1) × (p ≤ seen1) × AreBodies m.0.made e.next1 p × IsMissed RX_DESC_GENERATION_BIT m.0.made.size1 p word × (posted1 m.0.made e.heard ≤ p)

-- a look at ring 1
abbrev pub IsPast : RxMade → DeviceKnows → ℕ × ℕ → Type 0
IsPast m e look = IsMissed RX_DESC_GENERATION_BIT m.size1 look.0 look.1 × (posted1 m e.heard ≤ look.0)

-- a look at ring 1 for a further piece, which is made where its next is BODY alone
abbrev pub LooksAtOne : Seated → Bool → Seated → Type 0
LooksAtOne m true m' = (is_body m.0.made m.0.device.next1 ≡ true) × (m' ≡ (with_device m.0 (saw_one m.0.device), []))
LooksAtOne m false m' = ((is_body m.0.made m.0.device.next1 ≡ false) × (m' ≡ (with_device m.0 m.0.device, [])))
    ⊎ ((word : ℕ) × (is_body m.0.made m.0.device.next1 ≡ true) × (m' ≡ (with_device m.0 (looks_past m.0.device word), [])) × IsPast m.0.made m.0.device (m.0.device.next1, word))

-- Where a walk of the device stands: it began at what the device knew as e0, found its head at h, and further pieces as in `found`.
pub record Walking (m : RxMade) (e0 e : DeviceKnows) (h : ℕ) (a : Stand) (found : List (Option ℕ)) : Type 0 where
  pub is : e ≡ record e0 { next1 = a.next1; next2 = a.next2; head = h; looks = e0.looks ++ a.looks; seen1 = e.seen1; seen2 = e.seen2 }
  pub walked : a ≡ walk m (at_head h e0.gone2) found
  pub was : (e0.seen1 ≤ e.seen1) × (e0.seen2 ≤ e.seen2)
  pub seen : (a.next1 ≤ e.seen1) × (a.next2 ≤ e.seen2)
  pub looked : All (IsPast m e0) a.looks

-- The walk missed the position p of ring 2: it is the walk's last.
pub record WalkMissed (m : RxMade) (e0 e : DeviceKnows) (h p word : ℕ) (b : Stand) (found : List (Option ℕ)) : Type 0 where
  pub is : e ≡ record e0 { refused = e0.refused ++ (2, p, word) ∷ []; next1 = e0.gone1; next2 = e0.gone2; head = h; looks = e0.looks ++ b.looks; seen1 = e.seen1; seen2 = e.seen2 }
  pub walked : b ≡ walk m (at_head h e0.gone2) found
  pub was : (e0.seen1 ≤ e.seen1) × (e0.seen2 ≤ e.seen2)
  pub seen : (b.next1 ≤ e.seen1) × (p ≤ e.seen2)
  pub looked : All (IsPast m e0) b.looks

-- the next positions are known as posted, and nothing is consumed
abbrev pub StaysReady : DeviceKnows → DeviceKnows → Type 0
StaysReady e e' = ((e.next1 ≤ e.seen1) × (e.next2 ≤ e.seen2) → (e'.next1 ≤ e'.seen1) × (e'.next2 ≤ e'.seen2)) × (e'.gone1 ≡ e.gone1) × (e'.gone2 ≡ e.gone2) × (e'.heard ≡ e.heard)

-- one further piece: in which ring it is, or that ring 2 has none
abbrev pub LooksOn : Seated → More → Seated → Type 0
LooksOn m (more.Ring ring p) m' = let e = m.0.device in let e' = m'.0.device in (m' ≡ (with_device m.0 e', []))
    × (((ring ≡ 1) × (p ≡ e.next1) × (e'.next1 ≡ suc e.next1) × (e'.next2 ≡ e.next2)) ⊎ ((ring ≡ 2) × (p ≡ e.next2) × (e'.next1 ≡ e.next1) × (e'.next2 ≡ suc e.next2)))
    × StaysReady e e'
    × ((e0 : DeviceKnows) (h : ℕ) (a : Stand) (found : List (Option ℕ)) → Walking m.0.made e0 e h a found
    → (f : Option ℕ) × Walking m.0.made e0 e' h (further m.0.made a f) (found ++ f ∷ []) × ((further m.0.made a f).chain ≡ a.chain ++ (ring, p) ∷ []))
LooksOn m (more.Missing p word) m' = (m' ≡ (with_device m.0 m'.0.device, [])) × IsMissed RX_DESC_GENERATION_BIT m.0.made.size2 p word × (posted2 m.0.made m.0.device.heard ≤ p)
    × ((e0 : DeviceKnows) (h : ℕ) (a : Stand) (found : List (Option ℕ)) → Walking m.0.made e0 m.0.device h a found
    → (f : Option ℕ) × WalkMissed m.0.made e0 m'.0.device h p word (further m.0.made a f) (found ++ f ∷ []) × ((further m.0.made a f).chain ≡ a.chain ++ (2, p) ∷ []))

-- the chain of a frame of n further pieces
abbrev pub chain_of : ℕ → Spot → Spot → Spot → List (ℕ × ℕ)
chain_of zero a b c = spot_of a ∷ []
chain_of (suc zero) a b c = spot_of a ∷ spot_of b ∷ []
chain_of (suc (suc n)) a b c = spot_of a ∷ spot_of b ∷ spot_of c ∷ []

-- Further pieces, n of them: the walk reached its end, or missed a position of ring 2.
pub record WalkEnds (m : RxMade) (e0 e : DeviceKnows) (h : ℕ) (chain : List (ℕ × ℕ)) (count next1 next2 : ℕ) : Type 0 where
  pub stand : Stand
  pub found : List (Option ℕ)
  pub walking : Walking m e0 e h stand found
  pub count_is : length found ≡ count
  pub chain_is : stand.chain ≡ chain
  pub nexts : (next1 ≡ stand.next1) × (next2 ≡ stand.next2)

pub record WalkStops (m : RxMade) (e0 e : DeviceKnows) (h p word count : ℕ) : Type 0 where
  pub stand : Stand
  pub found : List (Option ℕ)
  pub missed : WalkMissed m e0 e h p word stand found
  pub few : length found ≤ count
  pub last : (front : List (ℕ × ℕ)) × (stand.chain ≡ front ++ (2, p) ∷ [])

abbrev pub WalksOn : Seated → ℕ → List (ℕ × ℕ) → (Spot → Spot → List (ℕ × ℕ)) → Plan → Seated → Type 0
WalksOn m n before chain (plan.Goes first second third next1 next2) m' = (m' ≡ (with_device m.0 m'.0.device, []))
    × ((e0 : DeviceKnows) (h : ℕ) (a : Stand) (found : List (Option ℕ)) → Walking m.0.made e0 m.0.device h a found → a.chain ≡ before → WalkEnds m.0.made e0 m'.0.device h (chain second third) (length found + n) next1 next2)
WalksOn m n before chain (plan.Missing ring p word) m' = (m' ≡ (with_device m.0 m'.0.device, [])) × (ring ≡ 2) × IsMissed RX_DESC_GENERATION_BIT m.0.made.size2 p word × (posted2 m.0.made m.0.device.heard ≤ p)
    × ((e0 : DeviceKnows) (h : ℕ) (a : Stand) (found : List (Option ℕ)) → Walking m.0.made e0 m.0.device h a found → WalkStops m.0.made e0 m'.0.device h p word (length found + n))

abbrev pub FirstIs : Spot → Plan → Type 0
FirstIs a (plan.Goes first second third next1 next2) = first ≡ a
FirstIs a (plan.Missing ring p word) = Unit {0}

abbrev pub FirstsAre : Spot → Spot → Plan → Type 0
FirstsAre a b (plan.Goes first second third next1 next2) = (first ≡ a) × (second ≡ b)
FirstsAre a b (plan.Missing ring p word) = Unit {0}

-- a further piece of ring 1 lies in a BODY buffer
abbrev pub IsInBody : RxMade → Spot → Type 0
IsInBody m s = s.ring ≡ 1 → is_body m s.position ≡ true

abbrev pub IsFoundInBody : RxMade → More → Type 0
IsFoundInBody m (more.Ring ring p) = ring ≡ 1 → is_body m p ≡ true
IsFoundInBody m (more.Missing p word) = Unit {0}

abbrev pub AreInBodies : RxMade → ℕ → Plan → Type 0
AreInBodies m n (plan.Goes first second third next1 next2) = (1 ≤ n → IsInBody m second) × (2 ≤ n → IsInBody m third)
AreInBodies m n (plan.Missing ring p word) = Unit {0}

-- the device between two calls
abbrev pub IsResting : DeviceKnows → Type 0
IsResting e = (e.next1 ≡ e.gone1) × (e.next2 ≡ e.gone2) × (e.gone1 ≤ e.seen1) × (e.gone2 ≤ e.seen2)

-- the walk of a frame of n + 1 pieces
pub record PlanGoes (m : RxMade) (e0 e : DeviceKnows) (n : ℕ) (first second third : Spot) (next1 next2 : ℕ) : Type 0 where
  pub is_first : first.ring ≡ 1
  pub head : IsHead m e0.gone1 first.position
  pub ends : WalkEnds m e0 e first.position (chain_of n first second third) n next1 next2

pub record PlanStops (m : RxMade) (e0 e : DeviceKnows) (n p word : ℕ) : Type 0 where
  pub h : ℕ
  pub head : IsHead m e0.gone1 h
  pub missed : IsMissed RX_DESC_GENERATION_BIT m.size2 p word
  pub unheard : posted2 m e0.heard ≤ p
  pub stops : WalkStops m e0 e h p word n

abbrev pub Planned : Seated → ℕ → Plan → Seated → Type 0
Planned m n (plan.Goes first second third next1 next2) m' = (m' ≡ (with_device m.0 m'.0.device, [])) × PlanGoes m.0.made m.0.device m'.0.device n first second third next1 next2
Planned m n (plan.Missing ring p word) m' = ((ring ≡ 1) × HeadSearched m (head.Missing p word) m') ⊎ ((ring ≡ 2) × (m' ≡ (with_device m.0 m'.0.device, [])) × PlanStops m.0.made m.0.device m'.0.device n p word)
