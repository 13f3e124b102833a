-- The counts of a table are those of the record's fates.
use Rattle.std.proofs.Common.{◌≡◌, ℕ, List, [], ◌∷◌, length, map, refl, ap, sym, ◌∙◌, cond, ◌+◌, ◌≤◌, arith}
use Rattle.std.specs.Prelude.{flat_map}
use Rattle.std.specs.List.{fold}
use Rattle.std.proofs.lemmas.List.{length-map}
use Rattle.vmx_model.specs.declared.guest.GuestPlan.{GuestPlan}
use Rattle.vmx_model.specs.declared.plan.Plan.{Plan}
use Rattle.vmx_model.specs.Totals.{bytes_of}
use Rattle.vmx_model.specs.declared.journal.Fate.{Fate}
use Rattle.vmx_model.specs.Views.{RecordView}
use Rattle.vmx_model.specs.Fates.{all_fates}
use Rattle.vmx_copies.specs.declared.copy.FrameCopy.{FrameCopy}
use Rattle.vmx_copies.specs.Table.{fates_in_row, IsTable}
use Rattle.vmx_summary.specs.declared.kinds.Kind.{Kind}
use Rattle.vmx_summary.specs.Summary.{tails_of, has_kind, rows_of_kind, fates_of_kind, fates_listed, lines_by, summary}

listed : (rows : List FrameCopy) → flat_map (λ (fs : List Fate). fs) (map fates_in_row rows) ≡ map (λ (x : FrameCopy). x.fate) rows
listed [] = refl
listed (x ∷ rows) = ap (λ (fs : List Fate). x.fate ∷ fs) (listed rows)

-- a fold over the parts of items
fold_parts : {X Y : Type 0} (h : ℕ → Y → ℕ) (part : X → Y) (n : ℕ) (xs : List X) → fold h n (map part xs) ≡ fold (λ (a : ℕ) (x : X). h a (part x)) n xs
fold_parts h part n [] = refl
fold_parts h part n (x ∷ xs) = fold_parts h part (h n (part x)) xs

counted : (k : Kind) (rows : List FrameCopy) → fates_of_kind k (map (λ (x : FrameCopy). x.fate) rows) ≡ rows_of_kind k rows
counted k rows = fold_parts (λ (a : ℕ) (f : Fate). a + cond (has_kind k f) 1 0) (λ (x : FrameCopy). x.fate) 0 rows

pub kinds : (plan : Plan) (r : RecordView) (rows : List FrameCopy) → IsTable plan r rows → (k : Kind) → rows_of_kind k rows ≡ fates_of_kind k (fates_listed plan r)
kinds plan r rows h k = sym (ap (λ (xs : List (List Fate)). fates_of_kind k (flat_map (λ (fs : List Fate). fs) xs)) (sym h.fates) ∙ ap (fates_of_kind k) (listed rows) ∙ counted k rows)

pub many : (plan : Plan) (r : RecordView) (rows : List FrameCopy) → IsTable plan r rows → length rows ≡ length (all_fates plan r)
many plan r rows h = sym (length-map rows fates_in_row) ∙ ap length h.fates

pub lines_are : (plan : Plan) (r : RecordView) (rows : List FrameCopy) → IsTable plan r rows → lines_by plan (length rows) (λ k. rows_of_kind k rows) ≡ summary plan r
lines_are plan r rows h = λ i. lines_by plan (many plan r rows h i) (λ k. kinds plan r rows h k i)

-- a plan's records and tails are few
pub few_tails : (gs : List GuestPlan) → tails_of gs ≤ bytes_of gs
few_tails [] = omega arith
few_tails (g ∷ gs) = let ih = few_tails gs in omega (arith, ih)
