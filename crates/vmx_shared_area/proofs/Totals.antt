-- How much some fields take.
use Rattle.std.proofs.Common.{◌≡◌, ℕ, zero, suc, ◌+◌, ◌<◌, ◌≤◌, List, [], ◌∷◌, ◌++◌, length, take, drop, get_or, refl, sym, ap, ◌∙◌, add-one, append_assoc, arith}
use Rattle.std.specs.List.{flat_map}
use Rattle.std.proofs.lemmas.List.{append-nil, take_more, drop-drop, take-append-drop}
use Rattle.std.proofs.lemmas.List.Concat.{flat_map-append}
use Rattle.vmx_shared_area.specs.declared.fields.Field.{Field}
use Rattle.vmx_shared_area.specs.Fields.{field_bytes, width, total}

pub total_step : (fs : List Field) (i : ℕ) (d : Field) → i < length fs
    → (total (take (i + 1) fs) ≡ total (take i fs) + width (get_or fs i d)) × (total (take i fs) + width (get_or fs i d) ≤ total fs)
total_step fs i d lt = let s = step fs i d lt in (rw add-one s.0, s.1)
  where
    step : (fs : List Field) (i : ℕ) (d : Field) → i < length fs → (total (take (suc i) fs) ≡ total (take i fs) + width (get_or fs i d)) × (total (take i fs) + width (get_or fs i d) ≤ total fs)
    step [] i d lt = absurd (omega arith)
    step (x ∷ fs) zero d lt = (omega arith, omega arith)
    step (x ∷ fs) (suc i) d lt = let ih = step fs i d (omega arith) in (omega arith, omega arith)

pub bytes_step : (fs : List Field) (i : ℕ) (d : Field) → i < length fs
    → flat_map field_bytes (take (i + 1) fs) ≡ flat_map field_bytes (take i fs) ++ field_bytes (get_or fs i d)
bytes_step fs i d lt = rw (take_more fs i d lt, flat_map-append field_bytes (take i fs) (get_or fs i d ∷ []), append-nil (field_bytes (get_or fs i d))) refl

-- what is the same from a place on is the same from a later one on
pub drop_later : (xs : List ℕ) (at n : ℕ) (ys : List ℕ) → drop at xs ≡ drop at ys → drop (at + n) xs ≡ drop (at + n) ys
drop_later xs at n ys h = sym (drop-drop n at xs) ∙ ap (drop n) h ∙ drop-drop n at ys

-- bytes by their front, a part and their rest
pub spliced : (xs ys part : List ℕ) (start end : ℕ) → take end xs ≡ take start ys ++ part → drop end xs ≡ drop end ys → xs ≡ take start ys ++ (part ++ drop end ys)
spliced xs ys part start end p a =
    sym (take-append-drop end xs) ∙ ap (λ (l : List ℕ). l ++ drop end xs) p ∙ append_assoc (take start ys) part (drop end xs) ∙ ap (λ (l : List ℕ). take start ys ++ (part ++ l)) a
