-- No words that have a meaning hold the option `--threads`.
use Rattle.std.proofs.Common.{◌≡◌, ℕ, Bool, true, false, List, [], ◌∷◌, refl, ap, ◌∙◌, arith, eqb}
use Rattle.std.specs.Prelude.{◌&&◌, ◌||◌, not, if◌then◌else◌, Some, None, is_some, codes}
use Rattle.std.specs.Str.{bytes_eq}
use Rattle.std.proofs.lemmas.Bool.Decides.{nat_tests}
use Rattle.vmx_tool.specs.Words.{is_name, pair_of, asks_threads}

both : (a b : Bool) → (a && b) ≡ true → (a ≡ true) × (b ≡ true)
both true b e = (refl, e)
both false b e = cc

not_true : (b : Bool) → not b ≡ true → b ≡ false
not_true true e = cc
not_true false e = refl

other_first : (c : ℕ) (cs : List ℕ) → eqb c 45 ≡ false → bytes_eq (c ∷ cs) (codes "--threads") ≡ false
other_first c cs e = ap (λ b. b && bytes_eq cs (codes "-threads")) e

-- a name is no option
name_is_other : (w : List ℕ) → is_name w ≡ true → bytes_eq w (codes "--threads") ≡ false
name_is_other [] e = refl
name_is_other (c ∷ cs) e = other_first c cs (not_true (eqb c 45) (both _ _ e).1)

p_is_no_dash : (c : ℕ) → eqb c 112 ≡ true → eqb c 45 ≡ false
p_is_no_dash c e = grind (arith, nat_tests)

-- the word `pair` is no option
pair_is_other : (w : List ℕ) → bytes_eq w (codes "pair") ≡ true → bytes_eq w (codes "--threads") ≡ false
pair_is_other [] e = refl
pair_is_other (c ∷ cs) e = other_first c cs (p_is_no_dash c (both _ _ e).0)

none_of_three : (p : List ℕ × List ℕ) (a b c x y z : Bool) → (a ≡ true → x ≡ false) → (b ≡ true → y ≡ false) → (c ≡ true → z ≡ false)
    → (is_some (if a && (b && c) then Some p else None) && (x || (y || (z || false)))) ≡ false
none_of_three p true true true x y z f g h = ap (λ v. v || (y || (z || false))) (f refl) ∙ ap (λ v. v || (z || false)) (g refl) ∙ ap (λ v. v || false) (h refl)
none_of_three p true true false x y z f g h = refl
none_of_three p true false c x y z f g h = refl
none_of_three p false b c x y z f g h = refl

pub no_threads : (words : List (List ℕ)) → asks_threads words ≡ false
unfolding pair_of
no_threads [] = refl
no_threads (a ∷ []) = refl
no_threads (a ∷ b ∷ []) = refl
no_threads (word ∷ from ∷ to ∷ []) =
    none_of_three (from, to) (bytes_eq word (codes "pair")) (is_name from) (is_name to) _ _ _ (pair_is_other word) (name_is_other from) (name_is_other to)
no_threads (a ∷ b ∷ c ∷ d ∷ rest) = refl
