-- What holds of sums of words, and of words stored in bytes.
use Rattle.std.proofs.Common.{◌≡◌, ◌≢◌, ℕ, zero, suc, ◌+◌, ◌-◌, ◌*◌, ◌/◌, ◌%◌, ◌<◌, ◌≤◌, List, [], ◌∷◌, length, take, drop, set, slice_index, slice_range, refl, sym, ap, ◌∙◌, arith, length-set, length-drop, length-take-le, get_or-set_other, set-set}
use Rattle.std.proofs.lemmas.List.{drop_more, drop_all, drop-set-add, set_comm, take-set-le}
use Rattle.std.proofs.Math.Seq.{take-set-lt}
use Rattle.vmx_checksum.specs.Words.{word_sum, ones, put_word}

-- ------------------------------------------------------------ ones' complement

pub ones_pos : (n : ℕ) → 0 < n → ones n ≡ (n - 1) % 65535 + 1
ones_pos zero h = absurd (omega (arith, h))
ones_pos (suc n) h = let e : n ≡ suc n - 1 = omega arith in ap (λ (k : ℕ). k % 65535 + 1) e

-- it has 16 bits
pub ones_most : (n : ℕ) → ones n ≤ 65535
ones_most zero = omega arith
ones_most (suc n) = omega arith

-- a word stands for itself
pub ones_word : (n : ℕ) → n ≤ 65535 → ones n ≡ n
ones_word zero h = refl
ones_word (suc n) h = omega arith

-- a part may be summed up before
pub ones_again : (a b : ℕ) → ones (a + ones b) ≡ ones (a + b)
ones_again a zero = refl
ones_again a (suc b) =
    let x : ones (a + (b % 65535 + 1)) ≡ (a + (b % 65535 + 1) - 1) % 65535 + 1 = ones_pos (a + (b % 65535 + 1)) (omega arith) in
    let y : ones (a + suc b) ≡ (a + suc b - 1) % 65535 + 1 = ones_pos (a + suc b) (omega arith) in
    let m : (a + (b % 65535 + 1) - 1) % 65535 + 1 ≡ (a + suc b - 1) % 65535 + 1 = omega arith in x ∙ m ∙ sym y

-- a sum with its complement has all ones (RFC 1071, 1 (3))
pub ones_complement : (a : ℕ) → ones (a + (65535 - ones a)) ≡ 65535
ones_complement zero = refl
ones_complement (suc a) =
    let x : ones (suc a + (65535 - (a % 65535 + 1))) ≡ (suc a + (65535 - (a % 65535 + 1)) - 1) % 65535 + 1 = ones_pos (suc a + (65535 - (a % 65535 + 1))) (omega arith) in
    let m : (suc a + (65535 - (a % 65535 + 1)) - 1) % 65535 + 1 ≡ 65535 = omega arith in x ∙ m

-- ------------------------------------------------------------ sums, word by word

pub word_sum_more : (xs : List ℕ) (n : ℕ) → n + 2 ≤ length xs → word_sum (drop n xs) ≡ slice_index xs n * 256 + slice_index xs (n + 1) + word_sum (drop (n + 2) xs)
word_sum_more xs n h =
    let two : n + 1 + 1 ≡ n + 2 = omega arith in
    ap (λ (ys : List ℕ). word_sum ys) (drop_more xs n 0 (omega arith))
    ∙ ap (λ (ys : List ℕ). word_sum (slice_index xs n ∷ ys)) (drop_more xs (n + 1) 0 (omega arith))
    ∙ ap (λ (k : ℕ). slice_index xs n * 256 + slice_index xs (n + 1) + word_sum (drop k xs)) two

-- an odd last byte
pub word_sum_last : (xs : List ℕ) (n : ℕ) → n + 1 ≡ length xs → word_sum (drop n xs) ≡ slice_index xs n * 256
word_sum_last xs n h =
    ap (λ (ys : List ℕ). word_sum ys) (drop_more xs n 0 (omega arith))
    ∙ ap (λ (ys : List ℕ). word_sum (slice_index xs n ∷ ys)) (drop_all (n + 1) xs (omega arith))

pub word_sum_none : (xs : List ℕ) (n : ℕ) → length xs ≤ n → word_sum (drop n xs) ≡ 0
word_sum_none xs n h = ap (λ (ys : List ℕ). word_sum ys) (drop_all n xs h)

-- ------------------------------------------------------------ stored words

pub put_word_length : (xs : List ℕ) (at w : ℕ) → length (put_word xs at w) ≡ length xs
put_word_length xs at w = length-set (set xs at (w / 256)) (at + 1) (w % 256) ∙ length-set xs at (w / 256)

-- other bytes stay
pub put_word_other : (xs : List ℕ) (at w i : ℕ) → i ≢ at → i ≢ at + 1 → slice_index (put_word xs at w) i ≡ slice_index xs i
put_word_other xs at w i high low =
    get_or-set_other (set xs at (w / 256)) (at + 1) i (w % 256) 0 low ∙ get_or-set_other xs at i (w / 256) 0 high

pub put_word_front : (n : ℕ) (xs : List ℕ) (at w : ℕ) → n ≤ at → take n (put_word xs at w) ≡ take n xs
put_word_front n xs at w h =
    take-set-le n (set xs at (w / 256)) (at + 1) (w % 256) (omega arith) ∙ take-set-le n xs at (w / 256) h

-- the last word that is stored counts
pub put_word_again : (xs : List ℕ) (at v w : ℕ) → put_word (put_word xs at v) at w ≡ put_word xs at w
put_word_again xs at v w =
    let apart : at + 1 ≢ at = λ e. omega (arith, e) in
    ap (λ (ys : List ℕ). set ys (at + 1) (w % 256)) (set_comm (set xs at (v / 256)) (at + 1) at (v % 256) (w / 256) apart)
    ∙ ap (λ (ys : List ℕ). set (set ys (at + 1) (v % 256)) (at + 1) (w % 256)) (set-set xs at (v / 256) (w / 256))
    ∙ set-set (set xs at (w / 256)) (at + 1) (v % 256) (w % 256)

-- a word stored within a part
pub put_word_part : (xs : List ℕ) (w a b k : ℕ) → a + k + 2 ≤ b → slice_range (put_word xs (a + k) w) a b ≡ put_word (slice_range xs a b) k w
put_word_part xs w a b k h =
    let high : ℕ = w / 256 in
    let low : ℕ = w % 256 in
    let place : a + k + 1 ≡ a + (k + 1) = omega arith in
    ap (λ (i : ℕ). take (b - a) (drop a (set (set xs (a + k) high) i low))) place
    ∙ ap (λ (ys : List ℕ). take (b - a) ys) (drop-set-add a (set xs (a + k) high) (k + 1) low)
    ∙ ap (λ (ys : List ℕ). take (b - a) (set ys (k + 1) low)) (drop-set-add a xs k high)
    ∙ take-set-lt (b - a) (set (drop a xs) k high) (k + 1) low (omega arith)
    ∙ ap (λ (ys : List ℕ). set ys (k + 1) low) (take-set-lt (b - a) (drop a xs) k high (omega arith))

-- the ninth word counts as itself
ninth_word : (xs : List ℕ) (w : ℕ) → 18 ≤ length xs → word_sum (put_word xs 16 w) ≡ word_sum (put_word xs 16 0) + w
ninth_word (b0 ∷ b1 ∷ b2 ∷ b3 ∷ b4 ∷ b5 ∷ b6 ∷ b7 ∷ b8 ∷ b9 ∷ b10 ∷ b11 ∷ b12 ∷ b13 ∷ b14 ∷ b15 ∷ b16 ∷ b17 ∷ rest) w h = omega arith
ninth_word xs w h = absurd (omega (arith, h))

pub length_part : (xs : List ℕ) (a b : ℕ) → b ≤ length xs → length (slice_range xs a b) ≡ b - a
length_part xs a b h = let left : length (drop a xs) ≡ length xs - a = length-drop a xs in length-take-le (b - a) (drop a xs) (omega arith)

-- a word stored in the ninth place of a part counts as itself
pub word_sum_part : (xs : List ℕ) (a b w : ℕ) → a + 18 ≤ b → b ≤ length xs → word_sum (slice_range (put_word xs (a + 16) w) a b) ≡ word_sum (slice_range (put_word xs (a + 16) 0) a b) + w
word_sum_part xs a b w room within =
    let len : length (slice_range xs a b) ≡ b - a = length_part xs a b within in
    let enough : 18 ≤ length (slice_range xs a b) = omega arith in
    ap (λ (ys : List ℕ). word_sum ys) (put_word_part xs w a b 16 (omega arith))
    ∙ ninth_word (slice_range xs a b) w enough
    ∙ ap (λ (ys : List ℕ). word_sum ys + w) (sym (put_word_part xs 0 a b 16 (omega arith)))
