-- A part of spelled bytes stands at its offset.
use Rattle.std.proofs.Common.{◌≡◌, ℕ, zero, suc, ◌+◌, ◌*◌, ◌^◌, ◌<◌, List, [], ◌∷◌, ◌++◌, length, take, drop, slice_index, refl, sym, ap, ◌∙◌, inl, inr, append_assoc, length-append, arith}
use Rattle.std.specs.List.{flat_map, AllByRecursion}
use Rattle.std.proofs.lemmas.Bool.{cases_lt}
use Rattle.std.proofs.lemmas.List.{take_at, drop_at, drop-drop, length-replicate, append-nil}
use Rattle.byteorder.specs.Endian.{little_bytes, little_number}
use Rattle.byteorder.specs.Numbers.{little_number-reads_back, length-bytes_low_first}
use Rattle.vmx_shared_area.specs.Bytes.{le, le_words, zero_bytes, number_at, bytes_at, words_at, spell}
use Rattle.vmx_shared_area.specs.Layout.{queues, mac_bytes}
use Rattle.vmx_shared_area.specs.Macs.{mac_of}
use Rattle.vmx_shared_area.specs.declared.offsets.TheConstants.{MAC_SIZE, DESCRIPTOR_SIZE}

-- from a place on, bytes begin with a part
abbrev pub Stands : ℕ → List ℕ → List ℕ → Type 0
Stands at part bs = (rest : List ℕ) × (drop at bs ≡ part ++ rest)

pub moved : (at to : ℕ) (part bs : List ℕ) → at ≡ to → Stands at part bs → Stands to part bs
moved at to part bs e h = (h.0, ap (λ (k : ℕ). drop k bs) (sym e) ∙ h.1)

pub stands_whole : (bs : List ℕ) → Stands 0 bs bs
stands_whole bs = ([], sym (append-nil bs))

pub stands_front : (at : ℕ) (p q bs : List ℕ) → Stands at (p ++ q) bs → Stands at p bs
stands_front at p q bs h = (q ++ h.0, h.1 ∙ append_assoc p q h.0)

pub stands_back : (at n : ℕ) (p q bs : List ℕ) → length p ≡ n → Stands at (p ++ q) bs → Stands (at + n) q bs
stands_back at n p q bs len h = (h.0, sym (drop-drop n at bs) ∙ ap (drop n) (h.1 ∙ append_assoc p q h.0) ∙ drop_at p (q ++ h.0) n len)

-- parts with the widths that they name
abbrev pub PartFits : ℕ × List ℕ → Type 0
PartFits f = length f.1 ≡ f.0

-- where part k begins, and its bytes
abbrev pub offset : ℕ → List (ℕ × List ℕ) → ℕ
offset zero fs = 0
offset (suc k) [] = 0
offset (suc k) (f ∷ fs) = f.0 + offset k fs

abbrev pub part : ℕ → List (ℕ × List ℕ) → List ℕ
part k [] = []
part zero (f ∷ fs) = f.1
part (suc k) (f ∷ fs) = part k fs

pub stands_part : (k at : ℕ) (fs : List (ℕ × List ℕ)) (bs : List ℕ) → AllByRecursion PartFits fs → Stands at (spell fs) bs → Stands (at + offset k fs) (part k fs) bs
stands_part zero at [] bs fit h = moved at (at + 0) [] bs (omega arith) h
stands_part (suc k) at [] bs fit h = moved at (at + 0) [] bs (omega arith) h
stands_part zero at (f ∷ fs) bs fit h = moved at (at + 0) f.1 bs (omega arith) (stands_front at f.1 (spell fs) bs h)
stands_part (suc k) at (f ∷ fs) bs fit h =
    moved (at + f.0 + offset k fs) (at + (f.0 + offset k fs)) (part k fs) bs (omega arith)
    (stands_part k (at + f.0) fs bs fit.1 (stands_back at f.0 f.1 (spell fs) bs fit.0 h))

abbrev pub total_width : List (ℕ × List ℕ) → ℕ
total_width [] = 0
total_width (f ∷ fs) = f.0 + total_width fs

pub length-spell : (fs : List (ℕ × List ℕ)) → AllByRecursion PartFits fs → length (spell fs) ≡ total_width fs
length-spell [] fit = refl
length-spell (f ∷ fs) fit = let ih = length-spell fs fit.1 in omega (arith, ih, fit.0, length-append f.1 (spell fs))

pub length-le : (w n : ℕ) → length (le w n) ≡ w
unfolding le
length-le w n = length-bytes_low_first 0 w n

pub length-zero_bytes : (n : ℕ) → length (zero_bytes n) ≡ n
unfolding zero_bytes
length-zero_bytes n = length-replicate n 0

pub length-le_words : (ws : List ℕ) → length (le_words ws) ≡ 4 * length ws
unfolding le_words
length-le_words [] = refl
length-le_words (w ∷ ws) = let ih = length-le_words ws in omega (arith, ih)

-- what is read where a part stands
pub number_there : (w at n : ℕ) (bs : List ℕ) → Stands at (le w n) bs → n < 256 ^ w → number_at w at bs ≡ n
unfolding number_at le
number_there w at n bs h small = ap (little_number w) h.1 ∙ little_number-reads_back w n h.0 small

pub bytes_there : (w at : ℕ) (p bs : List ℕ) → Stands at p bs → length p ≡ w → bytes_at w at bs ≡ p
unfolding bytes_at
bytes_there w at p bs h len = ap (take w) h.1 ∙ take_at p h.0 w len

pub words_there : (at : ℕ) (ws bs : List ℕ) → Stands at (le_words ws) bs → ((i : ℕ) → slice_index ws i < 2 ^ 32) → words_at (length ws) at bs ≡ ws
unfolding words_at le_words le
words_there at [] bs h fits = refl
words_there at (w ∷ ws) bs h fits =
    let first = number_there 4 at w bs (stands_front at (little_bytes 4 w) (flat_map (little_bytes 4) ws) bs h) (fits 0) in
    let others = words_there (at + 4) ws bs (stands_back at 4 (little_bytes 4 w) (flat_map (little_bytes 4) ws) bs (length-bytes_low_first 0 4 w) h) (λ i. fits (suc i)) in
    λ i. first i ∷ others i

pub stands_mac : (macs : List (List ℕ)) (i at : ℕ) (bs : List ℕ) → ((k : ℕ) → length (mac_of macs k) ≡ MAC_SIZE) → i < length macs → Stands at (mac_bytes macs) bs
    → Stands (at + MAC_SIZE * i) (mac_of macs i) bs
unfolding mac_bytes
stands_mac [] i at bs six lt h = absurd (omega arith)
stands_mac (m ∷ ms) zero at bs six lt h = moved at (at + MAC_SIZE * zero) m bs (omega arith) (stands_front at m (flat_map (λ mac. mac) ms) bs h)
stands_mac (m ∷ ms) (suc i) at bs six lt h =
    moved (at + MAC_SIZE + MAC_SIZE * i) (at + MAC_SIZE * suc i) (mac_of ms i) bs (omega arith)
    (stands_mac ms i (at + MAC_SIZE) bs (λ k. six (suc k)) (omega arith) (stands_back at MAC_SIZE m (flat_map (λ mac. mac) ms) bs (six 0) h))

pub length-mac_bytes : (macs : List (List ℕ)) → ((k : ℕ) → length (mac_of macs k) ≡ MAC_SIZE) → length (mac_bytes macs) ≡ MAC_SIZE * length macs
unfolding mac_bytes
length-mac_bytes [] six = refl
length-mac_bytes (m ∷ ms) six =
    let ih = length-mac_bytes ms (λ k. six (suc k)) in
    let first = six 0 in
    omega (arith, ih, first, length-append m (flat_map (λ mac. mac) ms))

-- the descriptor of a queue among those of all queues
pub length-queues : (descriptor : ℕ → List ℕ) → ((q : ℕ) → length (descriptor q) ≡ DESCRIPTOR_SIZE) → (n : ℕ) → length (queues descriptor n) ≡ DESCRIPTOR_SIZE * n
length-queues descriptor len zero = omega arith
length-queues descriptor len (suc n) =
    let ih = length-queues descriptor len n in
    omega (arith, ih, len n, length-append (queues descriptor n) (descriptor n))

pub stands_queue : (descriptor : ℕ → List ℕ) → ((q : ℕ) → length (descriptor q) ≡ DESCRIPTOR_SIZE) → (n q at : ℕ) (bs : List ℕ) → q < n → Stands at (queues descriptor n) bs
    → Stands (at + DESCRIPTOR_SIZE * q) (descriptor q) bs
stands_queue descriptor len zero q at bs lt h = absurd (omega arith)
stands_queue descriptor len (suc n) q at bs lt h =
    elim (cases_lt q n) [
      | inl below ↦ stands_queue descriptor len n q at bs below (stands_front at (queues descriptor n) (descriptor n) bs h)
      | inr past ↦
          let here : n ≡ q = omega arith in
          let size : length (queues descriptor n) ≡ DESCRIPTOR_SIZE * q = omega (arith, length-queues descriptor len n) in
          let there = stands_back at (DESCRIPTOR_SIZE * q) (queues descriptor n) (descriptor n) bs size h in
          (there.0, there.1 ∙ ap (λ (k : ℕ). descriptor k ++ there.0) here)
    ]
