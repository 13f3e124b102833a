-- The rule of the masks of new registers; seats that are cut in two, and joined.
use Rattle.std.proofs.Common.{◌≡◌, ◌≢◌, ℕ, inl, List, [], length, set, true, true≢false, sym, refl, ◌∙◌, ⊎_elim, arith, append-nil}
use mathlib.Core.List.{IsPrefix}
use mathlib.Core.Option.{some}
use lib.ListN.{get_elem?}
use Rattle.atomic_table.specs.Table.{Splits, Joins, opening}
use Rattle.atomic_table.proofs.Lists.{at_set}
use Rattle.vmx_ring_laws.specs.Lists.{longer, longer_of}
use Rattle.vmx_ring_laws.specs.Views.{all_set, all_snoc}
use Rattle.vmx_regs.specs.declared.known.MaskWrite.{MaskWrite}
use Rattle.vmx_regs.specs.declared.known.Masks.{Masks}
use Rattle.vmx_regs.specs.Masks.{AreFirst, MaskStory, MaskSeat, MasksKept, no_masks, new_masks, driver_masks_part, device_masks_part, masks_together, masks_note, hears_masks}

no_seat : (y : MaskStory) (j : ℕ) → MaskSeat y j no_masks
no_seat y j = record { driver's = λ e. absurd (true≢false (sym e)); device's = λ e. absurd (true≢false (sym e)); heard = (y.writes, refl) }

-- masks begin as 1, doorbells and events as 0
pub masks_begin : {S : Type 0} (n : ℕ) (ws : List ℕ) (xs : List S) → AreFirst n n ws → MasksKept n (opening ws xs new_masks)
masks_begin n ws xs f = record {
  story = record { driver = 0; device = 0; writes = []; sets = [] };
  wide = f.many;
  words = λ k less. (
    (λ a b. record { bit = 1; small = omega arith; word = f.masks k a (omega arith); cause = λ _ _. inl refl; clear = λ none. absurd (none refl) }),
    λ high. (let e = f.high k (omega arith) in omega arith),
  );
  each = all_snoc (MaskSeat (record { driver = 0; device = 0; writes = []; sets = [] })) [] new_masks record { driver's = λ _. (refl, refl); device's = λ _. (refl, refl); heard = ([], refl) } (λ j u less e. absurd (omega arith));
}

pub masks_cut : {S : Type 0} (n id : ℕ) (v : Masks) → v.drives ≡ true → v.serves ≡ true → Splits (MasksKept {S = S} n) id v (driver_masks_part v) (device_masks_part v)
masks_cut n id v a b s l at = let y : MaskStory = l.story in let f = l.each id v at in let left : Masks = driver_masks_part v in let vs : List Masks = set s.views id left in let y' : MaskStory = record y { device = length vs } in record {
  story = y';
  wide = l.wide;
  words = l.words;
  each = all_snoc (MaskSeat y') vs (device_masks_part v) record { driver's = λ e. absurd (true≢false (sym e)); device's = λ _. (refl, (f.device's b).1); heard = f.heard }
      (λ j u _. all_set (MaskSeat y') s.views id left record { driver's = f.driver's; device's = λ e. absurd (true≢false (sym e)); heard = f.heard }
      (λ i x apart e. let g = l.each i x e in record { driver's = g.driver's; device's = λ may. absurd (apart ((g.device's may).0 ∙ sym (f.device's b).0)); heard = g.heard }) j u);
}

-- a note, whose lists are prefixes
gives_note : {S : Type 0} (n id : ℕ) (v : Masks) (ws : List MaskWrite) → ((y : MaskStory) → MaskSeat y id v → IsPrefix ws y.writes) → Splits (MasksKept {S = S} n) id v v (record no_masks { heard = ws })
gives_note n id v ws told s l at = let y : MaskStory = l.story in let f = l.each id v at in let vs : List Masks = set s.views id v in record {
  story = y;
  wide = l.wide;
  words = l.words;
  each = all_snoc (MaskSeat y) vs (record no_masks { heard = ws }) record { driver's = λ e. absurd (true≢false (sym e)); device's = λ e. absurd (true≢false (sym e)); heard = told y f }
      (λ j u _. all_set (MaskSeat y) s.views id v f (λ i x _ e. l.each i x e) j u);
}

pub driver_note_cut : {S : Type 0} (n id : ℕ) (v : Masks) → v.drives ≡ true → Splits (MasksKept {S = S} n) id v v (masks_note v)
driver_note_cut n id v may = gives_note n id v v.writes (λ y f. ([], append-nil v.writes ∙ (f.driver's may).1))

pub device_note_cut : {S : Type 0} (n id : ℕ) (v : Masks) → Splits (MasksKept {S = S} n) id v v no_masks
device_note_cut n id v = gives_note n id v [] (λ y f. (y.writes, refl))

-- a note is heard, and its seat is spent
hears_note : {S : Type 0} (n id : ℕ) (v : Masks) (other : ℕ) (w : Masks) (ws : List MaskWrite) → ((y : MaskStory) → IsPrefix v.heard y.writes → IsPrefix w.heard y.writes → IsPrefix ws y.writes) → Joins (MasksKept {S = S} n) id v other w (record v { heard = ws }) no_masks
hears_note n id v other w ws told s l at two at' = let y : MaskStory = l.story in let both : Masks = record v { heard = ws } in let f = l.each id v at in let vs : List Masks = set s.views id both in
    let was : get_elem? s.views other ≡ some w = ⊎_elim (λ x. absurd (two x.0)) (λ x. x.1) (at_set s.views id other both w at') in let theirs = l.each other w was in record {
      story = y;
      wide = l.wide;
      words = l.words;
      each = all_set (MaskSeat y) vs other no_masks (no_seat y other)
          (λ j u _. all_set (MaskSeat y) s.views id both record { driver's = f.driver's; device's = f.device's; heard = told y f.heard theirs.heard } (λ i x _ e. l.each i x e) j u);
    }

pub driver_note_heard : {S : Type 0} (n id : ℕ) (v : Masks) (other : ℕ) (w : Masks) → Joins (MasksKept {S = S} n) id v other w (hears_masks v w) no_masks
driver_note_heard n id v other w = hears_note n id v other w (longer v.heard w.heard) (λ y p q. longer_of (λ l. IsPrefix l y.writes) v.heard w.heard p q)

pub device_note_heard : {S : Type 0} (n id : ℕ) (v : Masks) (other : ℕ) (w : Masks) → Joins (MasksKept {S = S} n) id v other w v no_masks
device_note_heard n id v other w = hears_note n id v other w v.heard (λ y p q. p)

-- the driver's seat is joined into the device's
pub masks_meet : {S : Type 0} (n id : ℕ) (v : Masks) (other : ℕ) (w : Masks) → v.serves ≡ true → w.drives ≡ true → Joins (MasksKept {S = S} n) id v other w (masks_together v w) no_masks
masks_meet n id v other w a b s l at two at' = let y : MaskStory = l.story in let both : Masks = masks_together v w in let f = l.each id v at in let vs : List Masks = set s.views id both in
    let was : get_elem? s.views other ≡ some w = ⊎_elim (λ x. absurd (two x.0)) (λ x. x.1) (at_set s.views id other both w at') in let theirs = (l.each other w was).driver's b in let y' : MaskStory = record y { driver = id } in record {
      story = y';
      wide = l.wide;
      words = l.words;
      each = all_set (MaskSeat y') vs other no_masks (no_seat y' other)
          (λ j u apart e. all_set (λ i x. i ≢ other → MaskSeat y' i x) s.views id both
          (λ _. record { driver's = λ _. (refl, theirs.1); device's = λ _. f.device's a; heard = f.heard })
          (λ i x not e' away. let g = l.each i x e' in record { driver's = λ may. absurd (away ((g.driver's may).0 ∙ sym theirs.0)); device's = g.device's; heard = g.heard })
          j u e apart);
    }
