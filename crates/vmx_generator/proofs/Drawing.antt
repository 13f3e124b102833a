-- One draw more, and the draws of a frame among those of all.
use Rattle.std.proofs.Common.{◌≡◌, ℕ, suc, ◌+◌, ◌*◌, ◌/◌, ◌%◌, ◌^◌, ◌<◌, List, [], ◌∷◌, ◌++◌, length, get_or, refl, sym, ap, ◌∙◌, add-one, arith}
use Rattle.std.proofs.Math.Nat.{mod-add-mod}
use Rattle.std.proofs.lemmas.List.FromFn.{map-range_with_len_more, length-map-range_with_len, get_or-map-range_with_len}
use Rattle.vmx_generator.specs.declared.draws.Draws.{Draws}
use Rattle.vmx_generator.specs.Draws.{next_state, state_after, draws_after, first_draws}

-- a product and a sum that wrap
pub wraps : (x : ℕ) → (x * 6364136223846793005 % 2 ^ 64 + 1442695040888963407) % 2 ^ 64 ≡ next_state x
wraps x = mod-add-mod (x * 6364136223846793005) (2 ^ 64) 1442695040888963407

-- no draw yet
pub state_first : (number : ℕ) → state_after number 0 ≡ number
unfolding state_after
state_first number = refl

-- one draw more
pub state_more : (number k : ℕ) → state_after number (k + 1) ≡ next_state (state_after number k)
unfolding state_after
state_more number k = ap (state_after number) (add-one k)

-- the states of three draws
pub record Three (number i a b c : ℕ) : Type 0 where
  pub first : a ≡ state_after number (3 * i + 1)
  pub second : b ≡ state_after number (3 * i + 1 + 1)
  pub third : c ≡ state_after number (3 * i + 2 + 1)
  pub after : c ≡ state_after number (3 * (i + 1))

pub three : (number i s a b c : ℕ) → s ≡ state_after number (3 * i) → a ≡ next_state s → b ≡ next_state a → c ≡ next_state b → Three number i a b c
three number i s a b c before x y z =
    let first : a ≡ state_after number (3 * i + 1) = x ∙ ap next_state before ∙ sym (state_more number (3 * i)) in
    let second : b ≡ state_after number (3 * i + 1 + 1) = y ∙ ap next_state first ∙ sym (state_more number (3 * i + 1)) in
    let two : 3 * i + 1 + 1 ≡ 3 * i + 2 = omega arith in
    let third : c ≡ state_after number (3 * i + 2 + 1) = z ∙ ap next_state (second ∙ ap (state_after number) two) ∙ sym (state_more number (3 * i + 2)) in
    let end : 3 * i + 2 + 1 ≡ 3 * (i + 1) = omega arith in
    record { first = first; second = second; third = third; after = third ∙ ap (state_after number) end }

-- no draws yet
pub draws_none : (number : ℕ) → first_draws number 0 ≡ []
unfolding first_draws
draws_none number = refl

-- the draws of one frame more
pub draws_more : (number i : ℕ) → first_draws number (i + 1) ≡ first_draws number i ++ draws_after number i ∷ []
unfolding first_draws
draws_more number i = map-range_with_len_more (draws_after number) 0 i i (omega arith)

pub draws_count : (number count : ℕ) → length (first_draws number count) ≡ count
unfolding first_draws
draws_count number count = length-map-range_with_len (draws_after number) 0 count

pub draws_at : (number count i : ℕ) (d : Draws) → i < count → get_or (first_draws number count) i d ≡ draws_after number i
unfolding first_draws
draws_at number count i d lt = get_or-map-range_with_len (draws_after number) 0 count i i d lt (omega arith)
