-- A row is a list of words cut into parts that lie one behind the other: a word that is set or read in one of them.
use Rattle.std.specs.Prelude.{◌≡◌, ℕ, ◌+◌, ◌<◌, List, ◌++◌, length, slice_index, slice_set}
use Rattle.std.proofs.Common.{sym, ap, ◌∙◌, arith}
use Rattle.std.proofs.lemmas.List.{set-append_left, set-append_right, get_or_append_left, get_or-append-add}

-- two parts, the first with n words
module _ (n : ℕ) (a b : List ℕ) (wide : length a ≡ n) (i x : ℕ) where
  pub read_left : i < n → slice_index (a ++ b) i ≡ slice_index a i
  read_left low = get_or_append_left a b 0 i (omega arith)

  pub read_right : slice_index (a ++ b) (n + i) ≡ slice_index b i
  read_right = ap (λ (k : ℕ). slice_index (a ++ b) (k + i)) (sym wide) ∙ get_or-append-add a b i 0

  pub set_left : i < n → slice_set (a ++ b) i x ≡ slice_set a i x ++ b
  set_left low = set-append_left a b i x (omega arith)

  pub set_right : slice_set (a ++ b) (n + i) x ≡ a ++ slice_set b i x
  set_right = set-append_right a b n (n + i) x wide (omega arith) ∙ ap (λ (k : ℕ). a ++ slice_set b k x) (omega arith)

-- four parts with n words each, as two rings of entries of two words have them
module _ (n : ℕ) (a b c d : List ℕ) (wide_a : length a ≡ n) (wide_b : length b ≡ n) (wide_c : length c ≡ n) (i x : ℕ) (low : i < n) where
  abbrev pub row : List ℕ
  row = a ++ (b ++ (c ++ d))

  pub read_first : slice_index row i ≡ slice_index a i
  read_first = read_left n a (b ++ (c ++ d)) wide_a i x low

  pub read_second : slice_index row (n + i) ≡ slice_index b i
  read_second = read_right n a (b ++ (c ++ d)) wide_a i x ∙ read_left n b (c ++ d) wide_b i x low

  pub read_third : slice_index row (n + (n + i)) ≡ slice_index c i
  read_third = read_right n a (b ++ (c ++ d)) wide_a (n + i) x ∙ read_right n b (c ++ d) wide_b i x ∙ read_left n c d wide_c i x low

  pub read_fourth : slice_index row (n + (n + (n + i))) ≡ slice_index d i
  read_fourth = read_right n a (b ++ (c ++ d)) wide_a (n + (n + i)) x ∙ read_right n b (c ++ d) wide_b (n + i) x ∙ read_right n c d wide_c i x

  pub set_first : slice_set row i x ≡ slice_set a i x ++ (b ++ (c ++ d))
  set_first = set_left n a (b ++ (c ++ d)) wide_a i x low

  pub set_second : slice_set row (n + i) x ≡ a ++ (slice_set b i x ++ (c ++ d))
  set_second = set_right n a (b ++ (c ++ d)) wide_a i x ∙ ap (λ l. a ++ l) (set_left n b (c ++ d) wide_b i x low)

  pub set_third : slice_set row (n + (n + i)) x ≡ a ++ (b ++ (slice_set c i x ++ d))
  set_third = set_right n a (b ++ (c ++ d)) wide_a (n + i) x ∙ ap (λ l. a ++ l) (set_right n b (c ++ d) wide_b i x ∙ ap (λ l. b ++ l) (set_left n c d wide_c i x low))

  pub set_fourth : slice_set row (n + (n + (n + i))) x ≡ a ++ (b ++ (c ++ slice_set d i x))
  set_fourth = set_right n a (b ++ (c ++ d)) wide_a (n + (n + i)) x ∙ ap (λ l. a ++ l) (set_right n b (c ++ d) wide_b (n + i) x ∙ ap (λ l. b ++ l) (set_right n c d wide_c i x))
