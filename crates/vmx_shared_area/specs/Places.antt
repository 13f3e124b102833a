-- What stands at a place of bytes.
use Rattle.std.proofs.Common.{◌≡◌, inl, inr, replicate, ℕ, zero, suc, ◌+◌, ◌*◌, ◌^◌, ◌<◌, ◌≤◌, List, length, take, drop, get_or, slice_index, refl, sym, ap, ◌∙◌, arith}
use Rattle.std.proofs.lemmas.Bool.{cases_lt}
use Rattle.std.proofs.lemmas.List.{get_or-drop, get_or-take, get_or_past, length-take, length-drop}
use Rattle.byteorder.specs.Endian.{little_number}
use Rattle.byteorder.specs.Numbers.{little_from-lt}
use Rattle.vmx_shared_area.specs.Bytes.{number_at, bytes_at, words_at}

pub bytes_at-index : (w at : ℕ) (bs : List ℕ) (i : ℕ) → i < w → slice_index (bytes_at w at bs) i ≡ slice_index bs (at + i)
unfolding bytes_at
bytes_at-index w at bs i lt = get_or-take w (drop at bs) i 0 lt ∙ get_or-drop at bs i 0

pub length-bytes_at : (w at : ℕ) (bs : List ℕ) → at + w ≤ length bs → length (bytes_at w at bs) ≡ w
unfolding bytes_at
length-bytes_at w at bs room = grind (arith, length-take, length-drop)

pub bytes_at-past : (w at : ℕ) (bs : List ℕ) (i : ℕ) → at + w ≤ length bs → w ≤ i → slice_index (bytes_at w at bs) i ≡ 0
bytes_at-past w at bs i room past = get_or_past (bytes_at w at bs) i 0 (let len = length-bytes_at w at bs room in omega (arith, len))

pub length-words_at : (n at : ℕ) (bs : List ℕ) → length (words_at n at bs) ≡ n
unfolding words_at
length-words_at zero at bs = refl
length-words_at (suc n) at bs = let ih = length-words_at n (at + 4) bs in omega (arith, ih)

pub words_at-index : (n at : ℕ) (bs : List ℕ) (i : ℕ) → i < n → slice_index (words_at n at bs) i ≡ number_at 4 (at + 4 * i) bs
unfolding words_at
words_at-index zero at bs i lt = absurd (omega arith)
words_at-index (suc n) at bs zero lt = ap (λ (k : ℕ). number_at 4 k bs) (let e : at ≡ at + 4 * zero = omega arith in e)
words_at-index (suc n) at bs (suc i) lt =
    words_at-index n (at + 4) bs i (omega arith) ∙ ap (λ (k : ℕ). number_at 4 k bs) (let e : at + 4 + 4 * i ≡ at + 4 * suc i = omega arith in e)

-- one of many numbers that stand one after the other
part_at : (bs : List ℕ) (at n k j : ℕ) → 4 * k + j < n → slice_index (drop (4 * k) (take n (drop at bs))) j ≡ slice_index (drop (at + 4 * k) bs) j
part_at bs at n k j lt =
    let sum : at + (4 * k + j) ≡ at + 4 * k + j = omega arith in
    get_or-drop (4 * k) (take n (drop at bs)) j 0 ∙ get_or-take n (drop at bs) (4 * k + j) 0 lt ∙ get_or-drop at bs (4 * k + j) 0
    ∙ ap (λ (i : ℕ). get_or bs i 0) sum ∙ sym (get_or-drop (at + 4 * k) bs j 0)

pub word_at : (bs : List ℕ) (at n k : ℕ) → 4 * k + 3 < n → little_number 4 (drop (4 * k) (take n (drop at bs))) ≡ number_at 4 (at + 4 * k) bs
unfolding number_at
word_at bs at n k lt =
    let p0 = part_at bs at n k 0 (omega arith) in
    let p1 = part_at bs at n k 1 (omega arith) in
    let p2 = part_at bs at n k 2 (omega arith) in
    let p3 = part_at bs at n k 3 (omega arith) in
    rw (p0, p1, p2, p3) refl

pub number_at-below : (w at : ℕ) (bs : List ℕ) → ((i : ℕ) → slice_index bs i < 256) → number_at w at bs < 256 ^ w
unfolding number_at
number_at-below w at bs fits = little_from-lt 0 w (drop at bs) (λ k. rw (get_or-drop at bs k 0) (fits (at + k)))

pub bytes_at-below : (w at : ℕ) (bs : List ℕ) → ((i : ℕ) → slice_index bs i < 256) → (j : ℕ) → slice_index (bytes_at w at bs) j < 256
unfolding bytes_at
bytes_at-below w at bs fits j =
    elim (cases_lt j w) [
      | inl lt ↦ rw (get_or-take w (drop at bs) j 0 lt, get_or-drop at bs j 0) (fits (at + j))
      | inr past ↦ rw (get_or_past (take w (drop at bs)) j 0 (grind (arith, length-take))) (omega arith)
    ]

-- in a list of one item, that item stands everywhere, and past the end where it is the default
pub get_or-replicate_same : {A : Type 0} (n i : ℕ) (x : A) → get_or (replicate n x) i x ≡ x
get_or-replicate_same zero i x = refl
get_or-replicate_same (suc n) zero x = refl
get_or-replicate_same (suc n) (suc i) x = get_or-replicate_same n i x
