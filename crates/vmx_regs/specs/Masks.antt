-- The rule of masks, line, doorbells and events. A mask word is 2w + m: the driver's writes to it, up to 2^63 - 1, and 1 while the interrupt is masked.
use Rattle.std.specs.Prelude.{◌≡◌, ◌≢◌, ℕ, ◌+◌, ◌*◌, ◌/◌, ◌%◌, ◌^◌, ◌<◌, ◌≤◌, ◌⊎◌, List, [], ◌∷◌, ◌++◌, length, min, Bool, true, false, ◌==◌, if◌then◌else◌, slice_index}
use mathlib.Core.Option.{some}
use mathlib.Core.List.{IsPrefix}
use lib.ListN.{get_elem?}
use Rattle.atomic_table.specs.Table.{State, Me, Step}
use Rattle.vmx_ring_laws.specs.Lists.{longer}
use Rattle.vmx_ring_laws.specs.Views.{All}
use Rattle.vmx_regs.specs.declared.known.MaskWrite.{MaskWrite}
use Rattle.vmx_regs.specs.declared.known.MaskSet.{MaskSet}
use Rattle.vmx_regs.specs.declared.known.Deed.{Deed}
use Rattle.vmx_regs.specs.declared.known.Masks.{Masks}
use Rattle.vmx_regs.specs.declared.places.TheConstants.{LINE_WORD, FIRST_MASK, BELLS, LAST_COUNT}

-- where the words stand, with so many interrupts
abbrev pub line_word : ℕ
line_word = LINE_WORD

abbrev pub mask_word : ℕ → ℕ
mask_word i = FIRST_MASK + i

abbrev pub bell_word : ℕ → ℕ → ℕ
bell_word interrupts bell = interrupts + FIRST_MASK + bell

abbrev pub event_word : ℕ → ℕ
event_word interrupts = interrupts + FIRST_MASK + BELLS

abbrev pub words_of : ℕ → ℕ
words_of interrupts = interrupts + FIRST_MASK + BELLS + 1

-- the words of new registers, where the first masks are set
pub record AreFirst (interrupts set : ℕ) (ws : List ℕ) : Type 0 where
  pub many : length ws ≡ words_of interrupts
  pub masks : (k : ℕ) → FIRST_MASK ≤ k → k < FIRST_MASK + set → slice_index ws k ≡ 1
  pub low : (k : ℕ) → k < FIRST_MASK → slice_index ws k ≡ 0
  pub high : (k : ℕ) → FIRST_MASK + set ≤ k → slice_index ws k ≡ 0

-- the count of writes stands still at 2^63 - 1
abbrev pub capped : ℕ → ℕ
capped n = min n LAST_COUNT

-- what was written to the mask in the word k, in order: true where it was masked
abbrev pub writes_to : ℕ → List MaskWrite → List Bool
writes_to k [] = []
writes_to k (w ∷ ws) = if w.word == k then w.masked ∷ writes_to k ws else writes_to k ws

-- the last write of a list, or what was before it
abbrev pub last_from : Bool → List Bool → Bool
last_from b [] = b
last_from b (x ∷ xs) = last_from x xs

-- the device has set the mask in the word k where it had n writes
abbrev pub IsSetAt : List MaskSet → ℕ → ℕ → Type 0
IsSetAt sets k n = (i : ℕ) × (h : ℕ) × (get_elem? sets i ≡ some (record { word = k; writes = n; hints = h }))

-- Why the mask in the word k is set: there was no write yet, the last one masked, or the device has set it since
abbrev pub IsCaused : List Bool → List MaskSet → ℕ → Type 0
IsCaused own sets k = (length own ≡ 0) ⊎ (last_from false own ≡ true) ⊎ IsSetAt sets k (length own)

-- What the word k holds, where the driver's writes and the device's settings are these: their number and a bit, which is set only for a cause, and clear only where the last write unmasked.
pub record MaskFits (ws : List MaskWrite) (sets : List MaskSet) (k x : ℕ) : Type 0 where
  pub bit : ℕ
  pub small : bit ≤ 1
  pub word : x ≡ 2 * capped (length (writes_to k ws)) + bit
  pub cause : bit ≡ 1 → length (writes_to k ws) < LAST_COUNT → IsCaused (writes_to k ws) sets k
  pub clear : bit ≢ 1 → last_from true (writes_to k ws) ≡ false

-- all that was done to masks, and by which seats
pub record MaskStory : Type 0 where
  pub driver : ℕ
  pub device : ℕ
  pub writes : List MaskWrite
  pub sets : List MaskSet

-- what a seat knows is so
pub record MaskSeat (y : MaskStory) (seat : ℕ) (v : Masks) : Type 0 where
  pub driver's : v.drives ≡ true → (seat ≡ y.driver) × (v.writes ≡ y.writes)
  pub device's : v.serves ≡ true → (seat ≡ y.device) × (v.sets ≡ y.sets)
  pub heard : IsPrefix v.heard y.writes

-- what the rule says of the word k: a mask fits, and doorbells and events are numbers of 32 bits
abbrev pub WordFits : ℕ → MaskStory → ℕ → ℕ → Type 0
WordFits interrupts y k x = (FIRST_MASK ≤ k → k < interrupts + FIRST_MASK → MaskFits y.writes y.sets k x) × (interrupts + FIRST_MASK ≤ k → x < 2 ^ 32)

-- the rule of masks, line, doorbells and events
pub record MasksKept {S : Type 0} (interrupts : ℕ) (s : State S Masks) : Type 0 where
  pub story : MaskStory
  pub wide : length s.words ≡ words_of interrupts
  pub words : (k : ℕ) → k < length s.words → WordFits interrupts story k (slice_index s.words k)
  pub each : All (MaskSeat story) s.views

-- the seat of nobody, which was joined into another
abbrev pub no_masks : Masks
no_masks = record { drives = false; serves = false; writes = []; sets = []; saw = []; heard = []; hints = [] }

-- the seat of new registers, which is both sides'
abbrev pub new_masks : Masks
new_masks = record no_masks { drives = true; serves = true }

-- the driver's seat, and the device's, of two that were one
abbrev pub driver_masks_part : Masks → Masks
driver_masks_part v = record v { serves = false }

abbrev pub device_masks_part : Masks → Masks
device_masks_part v = record v { drives = false }

-- the driver's seat joined into the device's
abbrev pub masks_together : Masks → Masks → Masks
masks_together v w = record v { drives = true; writes = w.writes }

-- a note of the driver's tells its writes, and the device keeps the longest list
abbrev pub masks_note : Masks → Masks
masks_note v = record no_masks { heard = v.writes }

abbrev pub hears_masks : Masks → Masks → Masks
hears_masks v w = record v { heard = longer v.heard w.heard }

-- the driver has written to the mask in the word k
abbrev pub writing : Masks → ℕ → Bool → Masks
writing v k b = record v { writes = v.writes ++ record { word = k; masked = b } ∷ [] }

-- the device has looked at the mask in the word k, and found r
abbrev pub seeing : Masks → ℕ → ℕ → Masks
seeing v k r = record v { saw = v.saw ++ record { word = k; found = r } ∷ [] }

-- the device has set the mask in the word k, where the writes were so many, after all its deeds
abbrev pub setting : Masks → ℕ → ℕ → Masks
setting v k n = record v { sets = v.sets ++ record { word = k; writes = n; hints = length v.hints } ∷ [] }

-- a deed at the word k
abbrev pub hinting : Masks → ℕ → Deed → ℕ → ℕ → Masks
hinting v k deed operand r = record v { hints = v.hints ++ record { word = k; deed = deed; operand = operand; found = r } ∷ [] }

-- What a mask word shows to the device: its count is not below that of heard notes, up to 2^63 - 1. Where it is that count, an odd word has one of three causes, and an even one shows that the last write told unmasked.
abbrev pub Shows : Masks → ℕ → ℕ → Type 0
Shows v k r = (capped (length (writes_to k v.heard)) ≤ r / 2)
    × (r % 2 ≡ 1 → r / 2 ≡ length (writes_to k v.heard) → r / 2 < LAST_COUNT → IsCaused (writes_to k v.heard) v.sets k)
    × (r % 2 ≢ 1 → r / 2 ≡ length (writes_to k v.heard) → r / 2 < LAST_COUNT → last_from true (writes_to k v.heard) ≡ false)

-- what each step tells
abbrev pub MaskSeated : Type 0 → Type 0
MaskSeated S = Me S Masks

module _ {S : Type 0} where
  abbrev pub mask_looked : Step S → MaskSeated S → ℕ → MaskSeated S → Type 0
  mask_looked st m r m' = (m' ≡ m) × (r / 2 ≡ capped (length (writes_to st.word m.0.writes)))

  abbrev pub mask_stored : Step S → MaskSeated S → ℕ → MaskSeated S → Type 0
  mask_stored st m r m' = m' ≡ (writing m.0 st.word (r % 2 == 1), m.1)

  abbrev pub raise_looked : Step S → MaskSeated S → ℕ → MaskSeated S → Type 0
  raise_looked st m r m' = (m' ≡ (seeing m.0 st.word r, m.1)) × Shows m.0 st.word r

  abbrev pub auto_set : Step S → MaskSeated S → ℕ → MaskSeated S → Type 0
  auto_set st m r m' = m' ≡ (setting m.0 st.word (r / 2), m.1)

  abbrev pub hinted : Deed → Step S → MaskSeated S → ℕ → MaskSeated S → Type 0
  hinted deed st m r m' = m' ≡ (hinting m.0 st.word deed st.first r, m.1)

  -- a look at a doorbell or at the events finds a number of 32 bits
  abbrev pub hint_looked : Deed → Step S → MaskSeated S → ℕ → MaskSeated S → Type 0
  hint_looked deed st m r m' = (m' ≡ (hinting m.0 st.word deed st.first r, m.1)) × (r < 2 ^ 32)
