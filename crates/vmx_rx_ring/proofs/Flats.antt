-- The completions of lists of frames.
use Rattle.std.proofs.Common.{◌≡◌, ℕ, zero, suc, ◌+◌, ◌%◌, ◌^◌, ◌<◌, List, [], ◌∷◌, ◌++◌, length, take, Bool, true, false, sym, refl, ap, ◌∙◌, arith, append_assoc, append-nil, length-append}
use native.Mathlib.Nat.{add-mod_right}
use Rattle.std.proofs.Math.Nat.{mod-eq_of_lt}
use mathlib.Core.List.{IsPrefix}
use Rattle.vmx_ends.specs.declared.made.RxMade.{RxMade}
use Rattle.vmx_ends.specs.declared.meta.RxMeta.{RxMeta}
use Rattle.vmx_ends.specs.declared.frames.Delivery.{Delivery}
use Rattle.vmx_ends.specs.Receive.{used, pieces_of}
use Rattle.vmx_rx_ring.specs.Words.{with_bit, entries_from, entries, flat}

pub flat_append : (m : RxMade) (ds es : List Delivery) → flat m (ds ++ es) ≡ flat m ds ++ flat m es
flat_append m [] es = refl
flat_append m (d ∷ ds) es = ap (λ l. entries m d ++ l) (flat_append m ds es) ∙ sym (append_assoc (entries m d) (flat m ds) (flat m es))

pub flat_one : (m : RxMade) (ds : List Delivery) (d : Delivery) → flat m (ds ++ d ∷ []) ≡ flat m ds ++ entries m d
flat_one m ds d = flat_append m ds (d ∷ []) ∙ ap (λ l. flat m ds ++ l) (append-nil (entries m d))

pub entries_count : (m : RxMade) (sop : Bool) (meta : RxMeta) (chain : List (ℕ × ℕ)) (bytes : List ℕ) → length (entries_from m sop meta chain bytes) ≡ length chain
entries_count m sop meta [] bytes = refl
entries_count m sop meta (s ∷ []) bytes = refl
entries_count m sop meta (s ∷ t ∷ more) bytes = ap suc (entries_count m false meta (t ∷ more) _)

pub flat_count : (m : RxMade) (ds : List Delivery) → length (flat m ds) ≡ used pieces_of ds
flat_count m [] = refl
flat_count m (d ∷ ds) = let a = length-append (entries m d) (flat m ds) in let b = entries_count m true d.meta d.chain d.frame in let c = flat_count m ds in omega arith

pub flat_prefix : (m : RxMade) (xs ys : List Delivery) → IsPrefix xs ys → IsPrefix (flat m xs) (flat m ys)
flat_prefix m xs ys p = (flat m p.0, sym (flat_append m xs p.0) ∙ ap (flat m) p.1)

pub take_again : {A : Type 0} (k : ℕ) (l : List A) → take (length (take k l)) l ≡ take k l
take_again zero l = refl
take_again (suc k) [] = refl
take_again (suc k) (x ∷ xs) = ap (λ l. x ∷ l) (take_again k xs)

-- a word without its highest bit
pub rest_of : (rest : ℕ) (b : Bool) → rest < 2 ^ 63 → with_bit 63 rest b % 2 ^ 63 ≡ rest
rest_of rest true small = add-mod_right rest (2 ^ 63) ∙ mod-eq_of_lt small
rest_of rest false small = ap (λ (w : ℕ). w % 2 ^ 63) (let e : rest + 0 ≡ rest = omega arith in e) ∙ mod-eq_of_lt small
