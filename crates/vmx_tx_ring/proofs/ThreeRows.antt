-- Three rows of words in one list, the first two as long as the ring: a word that is set or read in one of them.
use Rattle.std.proofs.Common.{◌≡◌, ℕ, ◌+◌, ◌<◌, List, ◌++◌, length, get_or, set, ap, ◌∙◌}
use Rattle.vmx_ring_laws.specs.Rows.{read_left, read_right, set_left, set_right}

module _ (n : ℕ) (a b c : List ℕ) (la : length a ≡ n) (lb : length b ≡ n) where
  pub set_first : (i x : ℕ) → i < n → set (a ++ (b ++ c)) i x ≡ set a i x ++ (b ++ c)
  set_first i x low = set_left n a (b ++ c) la i x low

  pub set_second : (i x : ℕ) → i < n → set (a ++ (b ++ c)) (n + i) x ≡ a ++ (set b i x ++ c)
  set_second i x low = set_right n a (b ++ c) la i x ∙ ap (λ l. a ++ l) (set_left n b c lb i x low)

  pub set_rest : (i x : ℕ) → set (a ++ (b ++ c)) (n + (n + i)) x ≡ a ++ (b ++ set c i x)
  set_rest i x = set_right n a (b ++ c) la (n + i) x ∙ ap (λ l. a ++ l) (set_right n b c lb i x)

  pub get_first : (i : ℕ) → i < n → get_or (a ++ (b ++ c)) i 0 ≡ get_or a i 0
  get_first i low = read_left n a (b ++ c) la i 0 low

  pub get_second : (i : ℕ) → i < n → get_or (a ++ (b ++ c)) (n + i) 0 ≡ get_or b i 0
  get_second i low = read_right n a (b ++ c) la i 0 ∙ read_left n b c lb i 0 low

  pub get_rest : (i : ℕ) → get_or (a ++ (b ++ c)) (n + (n + i)) 0 ≡ get_or c i 0
  get_rest i = read_right n a (b ++ c) la (n + i) 0 ∙ read_right n b c lb i 0
