-- A window of key bits moves along the key, and the hash with it.
use Rattle.std.proofs.Common.{◌≡◌, ℕ, zero, suc, ◌+◌, ◌*◌, ◌/◌, ◌%◌, ◌^◌, ◌-◌, ◌<◌, List, [], ◌∷◌, length, slice_index, refl, sym, ap, ◌∙◌, inl, inr, add-one, arith}
use Rattle.std.specs.Prelude.{bit_xor}
use Rattle.std.specs.Int.{bit_at, from_be_bytes, w32}
use Rattle.std.proofs.lemmas.Bool.{cases_lt}
use Rattle.std.proofs.lemmas.Nat.{shr_split, mod_below}
use Rattle.std.proofs.lemmas.Nat.Bits.{bit_at_lowest, bit_at-suc, bit_at_xor, bit_at_cat_low, bit_at_cat_high, same_from_bits_below}
use Rattle.vmx_rss.specs.Laws.{number_of_below}
use Rattle.vmx_rss.specs.Toeplitz.{left_bit, both, IsHashOf, number_of, hash_of}

-- the word has the 32 key bits from place n on
abbrev pub IsWindow : List ℕ → ℕ → ℕ → Type 0
IsWindow key n window = (j : ℕ) → j < 32 → bit_at window (31 - j) ≡ left_bit key (n + j)

-- bit k of byte i
pub left_bit-byte : (bytes : List ℕ) (i k n : ℕ) → k < 8 → n ≡ 8 * i + k → left_bit bytes n ≡ bit_at (slice_index bytes i) (7 - k)
left_bit-byte bytes i k n lt e =
    let byte : n / 8 ≡ i = omega arith in
    let place : n % 8 ≡ k = omega arith in
    rw (byte, place) refl

-- the window one bit on, under a new last bit
shifted_bit : (w b i : ℕ) → b < 2 → i < 31 → bit_at (w * 2 % 2 ^ 32 + b) (suc i) ≡ bit_at w i
shifted_bit w b i lt h =
    let half : (w * 2 % 2 ^ 32 + b) / 2 ≡ w % 2 ^ 31 = omega arith in
    bit_at-suc (w * 2 % 2 ^ 32 + b) i ∙ ap (λ (x : ℕ). bit_at x i) half
    ∙ sym (ap (λ (x : ℕ). bit_at x i) (sym (shr_split w 31)) ∙ bit_at_cat_low (w / 2 ^ 31) 31 (w % 2 ^ 31) i h)

pub window_step : (key : List ℕ) (n w b : ℕ) → IsWindow key n w → b < 2 → b ≡ left_bit key (n + 32) → IsWindow key (n + 1) (w * 2 % 2 ^ 32 + b)
window_step key n w b is lt e j h =
    elim (cases_lt j 31) [
      | inl below ↦
          let place : 31 - j ≡ suc (31 - (j + 1)) = omega arith in
          let next : n + 1 + j ≡ n + (j + 1) = omega arith in
          rw (place, next) (shifted_bit w b (31 - (j + 1)) lt (omega arith) ∙ is (j + 1) (omega arith))
      | inr last ↦
          let place : 31 - j ≡ 0 = omega arith in
          let next : n + 1 + j ≡ n + 32 = omega arith in
          let low : (w * 2 % 2 ^ 32 + b) % 2 ≡ b = omega arith in
          rw (place, next) (bit_at_lowest (w * 2 % 2 ^ 32 + b) ∙ low ∙ e)
    ]

-- an input bit that is 1 takes the window in
pub hash_taken : (key input : List ℕ) (n h w : ℕ) → IsHashOf key input n h → IsWindow key n w → left_bit input n ≡ 1 → IsHashOf key input (n + 1) (bit_xor h w)
hash_taken key input n h w is window one j lt =
    let e = is j lt in
    let f = window j lt in
    rw (add-one n, bit_at_xor h w (31 - j), e, f, one) (omega arith)

-- one that is 0 leaves the hash
pub hash_left : (key input : List ℕ) (n h : ℕ) → IsHashOf key input n h → left_bit input n ≡ 0 → IsHashOf key input (n + 1) h
hash_left key input n h is none j lt =
    let e = is j lt in
    rw (add-one n, e, none) (omega arith)

-- the bits of four bytes, from the left
four_bits : (a b c d i : ℕ) → a < 256 → b < 256 → c < 256 → d < 256 → i < 32
    → bit_at (((a * 2 ^ 8 + b) * 2 ^ 8 + c) * 2 ^ 8 + d) (31 - i) ≡ bit_at (slice_index (a ∷ b ∷ c ∷ d ∷ []) (i / 8)) (7 - i % 8)
four_bits a b c d i la lb lc ld lt =
    elim (cases_lt i 24) [
      | inr ge ↦
          let byte : i / 8 ≡ 3 = omega arith in
          let place : 31 - i ≡ 7 - i % 8 = omega arith in
          rw (byte, place) (bit_at_cat_low ((a * 2 ^ 8 + b) * 2 ^ 8 + c) 8 d (7 - i % 8) (omega arith))
      | inl lt24 ↦
          bit_at_cat_high ((a * 2 ^ 8 + b) * 2 ^ 8 + c) 8 d (31 - i) ld (omega arith)
          ∙ elim (cases_lt i 16) [
            | inr ge ↦
                let byte : i / 8 ≡ 2 = omega arith in
                let place : 31 - i - 8 ≡ 7 - i % 8 = omega arith in
                rw (byte, place) (bit_at_cat_low (a * 2 ^ 8 + b) 8 c (7 - i % 8) (omega arith))
            | inl lt16 ↦
                bit_at_cat_high (a * 2 ^ 8 + b) 8 c (31 - i - 8) lc (omega arith)
                ∙ elim (cases_lt i 8) [
                  | inr ge ↦
                      let byte : i / 8 ≡ 1 = omega arith in
                      let place : 31 - i - 8 - 8 ≡ 7 - i % 8 = omega arith in
                      rw (byte, place) (bit_at_cat_low a 8 b (7 - i % 8) (omega arith))
                  | inl lt8 ↦
                      let byte : i / 8 ≡ 0 = omega arith in
                      let place : 31 - i - 8 - 8 - 8 ≡ 7 - i % 8 = omega arith in
                      bit_at_cat_high a 8 b (31 - i - 8 - 8) lb (omega arith) ∙ rw (byte, place) refl
                ]
          ]
    ]

-- the first four key bytes are the first window
pub first_window : (key : List ℕ) (w : ℕ) → ((k : ℕ) → slice_index key k < 256)
    → w ≡ from_be_bytes w32 (slice_index key 0 ∷ slice_index key 1 ∷ slice_index key 2 ∷ slice_index key 3 ∷ []) → IsWindow key 0 w
first_window key w fits e j lt =
    let a : ℕ = slice_index key 0 in
    let b : ℕ = slice_index key 1 in
    let c : ℕ = slice_index key 2 in
    let d : ℕ = slice_index key 3 in
    let number : w ≡ ((a * 2 ^ 8 + b) * 2 ^ 8 + c) * 2 ^ 8 + d = e ∙ omega arith in
    let start : 0 + j ≡ j = omega arith in
    rw (number, start) (four_bits a b c d j (fits 0) (fits 1) (fits 2) (fits 3) lt ∙ ap (λ (x : ℕ). bit_at x (7 - j % 8)) (four_items key (j / 8) (omega arith)))
  where
    four_items : (key : List ℕ) (i : ℕ) → i < 4 → slice_index (slice_index key 0 ∷ slice_index key 1 ∷ slice_index key 2 ∷ slice_index key 3 ∷ []) i ≡ slice_index key i
    four_items key zero h = refl
    four_items key (suc zero) h = refl
    four_items key (suc (suc zero)) h = refl
    four_items key (suc (suc (suc zero))) h = refl
    four_items key (suc (suc (suc (suc i)))) h = absurd (omega arith)

-- the bits of a number of n bits
number-bits : (f : ℕ → ℕ) (n j : ℕ) → ((k : ℕ) → f k < 2) → j < n → bit_at (number_of f n) (n - 1 - j) ≡ f j
number-bits f zero j small lt = absurd (omega arith)
number-bits f (suc n) j small lt =
    elim (cases_lt j n) [
      | inl below ↦
          let place : suc n - 1 - j ≡ suc (n - 1 - j) = omega arith in
          let last = small n in
          let half : (number_of f n * 2 + f n) / 2 ≡ number_of f n = omega arith in
          rw (place, bit_at-suc (number_of f n * 2 + f n) (n - 1 - j), half) (number-bits f n j small below)
      | inr at ↦
          let here : j ≡ n = omega arith in
          let place : suc n - 1 - j ≡ 0 = omega arith in
          let last = small n in
          let low : (number_of f n * 2 + f n) % 2 ≡ f n = omega arith in
          rw (place, here) (bit_at_lowest (number_of f n * 2 + f n) ∙ low)
    ]

-- the bits of the hash tell it
pub hash_is : (key input : List ℕ) (h : ℕ) → h < 2 ^ 32 → IsHashOf key input (8 * length input) h → h ≡ hash_of key input
unfolding hash_of
hash_is key input h fits is =
    let f : ℕ → ℕ = λ j. both key input j (8 * length input) % 2 in
    let small : (k : ℕ) → f k < 2 = λ k. mod_below (both key input k (8 * length input)) 2 (omega arith) in
    same_from_bits_below 32 h (number_of f 32) fits (number_of_below f 32 small)
    (λ i lt.
    let e = is (31 - i) (omega arith) in
    let g = number-bits f 32 (31 - i) small (omega arith) in
    let back : 31 - (31 - i) ≡ i = omega arith in
    rw back at e ∙ sym (rw back at g))
