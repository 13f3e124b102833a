-- The steps on masks, line, doorbells and events, as the table asks them.
use Rattle.std.proofs.Common.{◌≡◌, ℕ, ◌+◌, ◌*◌, ◌^◌, ◌<◌, ◌≤◌, ◌⊎◌, length, Bool, true, false, arith}
use Rattle.std.specs.Prelude.{Option, min, bit_or, bit_and}
use mathlib.Core.Option.{none}
use Rattle.atomic_table.specs.Table.{Me, step, Allows}
use Rattle.vmx_io.specs.declared.handed.HandedView.{HandedView}
use Rattle.vmx_regs.specs.declared.bag.Bag.{Bag}
use Rattle.vmx_regs.specs.declared.known.Known.{Known}
use Rattle.vmx_regs.specs.declared.known.Deed.TheVariants.{Load, Store, Swap, Or, And}
use Rattle.vmx_regs.specs.Masks.{words_of, capped, writes_to, mask_looked, mask_stored, raise_looked, auto_set, hinted, hint_looked}
use Rattle.vmx_regs.specs.Whole.{Keeps}
use Rattle.vmx_regs.specs.Plays.{of_masks}
use Rattle.vmx_regs.proofs.Masking as plain
use Rattle.vmx_regs.proofs.Seen.{masks_allow}
use Rattle.vmx_regs.specs.declared.places.TheConstants.{LAST_COUNT}

module _ {E : Type 0} (handed : E → HandedView) (n c id : ℕ) (me : Me (Option (Bag E)) Known) (k : ℕ) where
  pub mask_looks : 3 ≤ k → k < n + 3 → me.0.masks.drives ≡ true → Allows (Keeps handed n) c id me k (λ x. x) (of_masks mask_looked (step c k 0 0 none) me)
  mask_looks above below may = masks_allow handed n c id me k (λ x. x) (mask_looked (step c k 0 0 none) (me.0.masks, me.1)) (omega arith) (plain.mask_looks n c id (me.0.masks, me.1) k (omega arith) above below may)

  pub mask_stores : 3 ≤ k → k < n + 3 → me.0.masks.drives ≡ true → me.0.masks.serves ≡ false → (b : Bool) (bit new : ℕ) → (b ≡ true) × (bit ≡ 1) ⊎ (b ≡ false) × (bit ≡ 0)
      → new ≡ 2 * min (capped (length (writes_to k me.0.masks.writes)) + 1) LAST_COUNT + bit
      → Allows (Keeps handed n) c id me k (λ _. new) (λ _. of_masks mask_stored (step c k new 0 none) me new)
  mask_stores above below may not b bit new which is = masks_allow handed n c id me k (λ _. new) (λ _. mask_stored (step c k new 0 none) (me.0.masks, me.1) new) (omega arith) (plain.mask_stores n c id (me.0.masks, me.1) k (omega arith) above below may not b bit new which is)

  pub raise_looks : 3 ≤ k → k < n + 3 → me.0.masks.serves ≡ true → Allows (Keeps handed n) c id me k (λ x. x) (of_masks raise_looked (step c k 0 0 none) me)
  raise_looks above below may = masks_allow handed n c id me k (λ x. x) (raise_looked (step c k 0 0 none) (me.0.masks, me.1)) (omega arith) (plain.raise_looks n c id (me.0.masks, me.1) k (omega arith) above below may)

  pub auto_sets : 3 ≤ k → k < n + 3 → me.0.masks.serves ≡ true → me.0.masks.drives ≡ false → Allows (Keeps handed n) c id me k (λ x. bit_or x 1) (of_masks auto_set (step c k 1 0 none) me)
  auto_sets above below may not = masks_allow handed n c id me k (λ x. bit_or x 1) (auto_set (step c k 1 0 none) (me.0.masks, me.1)) (omega arith) (plain.auto_sets n c id (me.0.masks, me.1) k (omega arith) above below may not)

  pub line_ors : (bits : ℕ) → k ≡ 2 → Allows (Keeps handed n) c id me k (λ x. bit_or x bits) (of_masks (hinted Or) (step c k bits 0 none) me)
  line_ors bits is = masks_allow handed n c id me k (λ x. bit_or x bits) (hinted Or (step c k bits 0 none) (me.0.masks, me.1)) (omega (arith, is)) (plain.line_ors n c id (me.0.masks, me.1) k (omega (arith, is)) bits is)

  pub line_swaps : (new : ℕ) → k ≡ 2 → Allows (Keeps handed n) c id me k (λ _. new) (of_masks (hinted Swap) (step c k new 0 none) me)
  line_swaps new is = masks_allow handed n c id me k (λ _. new) (hinted Swap (step c k new 0 none) (me.0.masks, me.1)) (omega (arith, is)) (plain.line_swaps n c id (me.0.masks, me.1) k (omega (arith, is)) new is)

  pub hint_looks : n + 3 ≤ k → k < words_of n → Allows (Keeps handed n) c id me k (λ x. x) (of_masks (hint_looked Load) (step c k 0 0 none) me)
  hint_looks high low = masks_allow handed n c id me k (λ x. x) (hint_looked Load (step c k 0 0 none) (me.0.masks, me.1)) (omega arith) (plain.hint_looks n c id (me.0.masks, me.1) k low high)

  pub bell_stores : (new : ℕ) → n + 3 ≤ k → k < words_of n → new < 2 ^ 32 → Allows (Keeps handed n) c id me k (λ _. new) (λ _. of_masks (hinted Store) (step c k new 0 none) me new)
  bell_stores new high low small = masks_allow handed n c id me k (λ _. new) (λ _. hinted Store (step c k new 0 none) (me.0.masks, me.1) new) (omega arith) (plain.bell_stores n c id (me.0.masks, me.1) k low new high small)

  pub event_ors : (bits : ℕ) → n + 3 ≤ k → k < words_of n → bits < 2 ^ 32 → Allows (Keeps handed n) c id me k (λ x. bit_or x bits) (of_masks (hinted Or) (step c k bits 0 none) me)
  event_ors bits high low small = masks_allow handed n c id me k (λ x. bit_or x bits) (hinted Or (step c k bits 0 none) (me.0.masks, me.1)) (omega arith) (plain.event_ors n c id (me.0.masks, me.1) k low bits high small)

  pub event_ands : (bits : ℕ) → n + 3 ≤ k → k < words_of n → Allows (Keeps handed n) c id me k (λ x. bit_and x bits) (of_masks (hinted And) (step c k bits 0 none) me)
  event_ands bits high low = masks_allow handed n c id me k (λ x. bit_and x bits) (hinted And (step c k bits 0 none) (me.0.masks, me.1)) (omega arith) (plain.event_ands n c id (me.0.masks, me.1) k low bits high)
