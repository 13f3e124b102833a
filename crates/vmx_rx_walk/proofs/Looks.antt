-- What a look for the next frame tells.
use Rattle.std.proofs.Common.{◌≡◌, ℕ, ◌+◌, ◌^◌, List, [], ◌∷◌, ◌++◌, length, Bool, true, false, not, cond, sym, refl, ap, ◌∙◌}
use mathlib.Core.Option.{some, some-ne-none}
use lib.ListN.{get_elem?}
use Rattle.vmx_genring.specs.Rings.{generation}
use Rattle.vmx_ends.specs.Words.{bit, IsMissed, missed_word}
use Rattle.vmx_ends.specs.Receive.{used, took1, pieces_of}
use Rattle.vmx_ends.specs.declared.made.RxMade.{RxMade}
use Rattle.vmx_ends.specs.declared.frames.Delivery.{Delivery}
use Rattle.vmx_rx_ring.specs.declared.known.Entry.{Entry}
use Rattle.vmx_rx_ring.specs.declared.known.Known.{Known}
use Rattle.vmx_rx_ring.specs.Words.{entries, entries_from, flat, with_bit}
use Rattle.vmx_rx_ring.specs.Tells.{with_driver, receives, Found, IsNext}
use Rattle.vmx_rx_ring.proofs.Flats.{flat_count, flat_one}
use Rattle.vmx_rx_walk.proofs.Frames.{head_is}

behind : (xs ys : List Entry) (x : Entry) → get_elem? ys 0 ≡ some x → get_elem? (xs ++ ys) (length xs) ≡ some x
behind [] ys x at = at
behind (z ∷ zs) ys x at = behind zs ys x at

-- a frame that is received has a first completion, which is read next
pub first_next : (v : Known) (d : Delivery) → Found v d → v.driver.read ≡ used pieces_of v.driver.received → (x : Entry) × IsNext (with_driver v (receives v.driver d)) x
first_next v d found all = by_chain d.chain refl found.placed.head
  where
    m : RxMade
    m = v.made

    by_chain : (chain : List (ℕ × ℕ)) → d.chain ≡ chain → get_elem? chain 0 ≡ some (1, used took1 v.driver.received + d.passed) → (x : Entry) × IsNext (with_driver v (receives v.driver d)) x
    by_chain [] is at = absurd (some-ne-none _ (sym at))
    by_chain (s ∷ more) is at = let head = head_is m true d.meta s more d.frame in (
      _,
      ap (λ (l : List Entry). get_elem? l v.driver.read) (flat_one m v.driver.received d) ∙ ap (get_elem? (flat m v.driver.received ++ entries m d)) (all ∙ sym (flat_count m v.driver.received))
          ∙ behind (flat m v.driver.received) (entries m d) _ (ap (λ (l : List Entry). get_elem? l 0) (ap (λ (c : List (ℕ × ℕ)). entries_from m true d.meta c d.frame) is ∙ head)),
    )

-- the word that a look at a position makes up has another generation than the position
pub missed_shows : (size p : ℕ) → IsMissed 63 size p (missed_word 63 size p)
missed_shows size p = by_bit (generation size p)
  where
    by_bit : (b : Bool) → bit 63 (cond b 0 (2 ^ 63)) ≡ not b
    by_bit true = refl
    by_bit false = refl

pub part_is : (w : ℕ) (b : Bool) → w ≡ with_bit 63 0 (not b) → w ≡ cond b 0 (2 ^ 63)
part_is w true is = is
part_is w false is = is
