-- Lists of which one begins the other.
use Rattle.std.proofs.Common.{◌≡◌, suc, Bool, true, false, List, [], ◌∷◌, ◌++◌, length, length-append, append-nil, append_assoc, refl, sym, ap, ◌∙◌, subst, arith, nat_lt, if◌then◌else◌}
use Rattle.std.proofs.lemmas.Bool.{ltb-false}
use mathlib.Core.List.{IsPrefix}
use Rattle.vmx_ring_laws.specs.Lists.{prefix_trans}
use Rattle.vmx_ends.specs.Frames.{longer}
use Rattle.vmx_ends.specs.CaughtUp.{whole_front}

module _ {X : Type 0} where
  -- the longer of a list and one that it begins is that one
  pub longer_whole : (xs ys : List X) → IsPrefix xs ys → longer xs ys ≡ ys
  longer_whole xs ys p = by_length (nat_lt (length xs) (length ys)) refl
    where
      by_length : (b : Bool) → nat_lt (length xs) (length ys) ≡ b → (if b then ys else xs) ≡ ys
      by_length true e = refl
      by_length false e = whole_front xs ys p (ltb-false (length xs) (length ys) e)

  pub all_of : (xs ys : List X) → xs ≡ ys → IsPrefix xs ys
  all_of xs ys e = ([], append-nil xs ∙ e)

  -- nothing begins with something
  pub none_before : (xs ys : List X) → ys ≡ [] → IsPrefix xs ys → xs ≡ []
  none_before [] ys e p = refl
  none_before (x ∷ xs) ys e p = absurd (cc (p.1 ∙ e))

  -- a list that begins what was there still begins it when it has grown
  pub front_grows : (xs xs' ys ys' : List X) → xs' ≡ xs → IsPrefix xs ys → IsPrefix ys ys' → IsPrefix xs' ys'
  front_grows xs xs' ys ys' same p more = subst (λ (l : List X). IsPrefix l ys') (sym same) (prefix_trans xs ys ys' p more)

  -- one more at the end of a front is the next
  pub next_behind : (xs ys zs : List X) (x : X) → zs ≡ xs ++ x ∷ [] → IsPrefix zs ys → (more : List X) × (ys ≡ xs ++ x ∷ more)
  next_behind xs ys zs x e p = (p.0, sym p.1 ∙ ap (λ (l : List X). l ++ p.0) e ∙ append_assoc xs (x ∷ []) p.0)

  pub one_longer : (xs : List X) (x : X) → length (xs ++ x ∷ []) ≡ suc (length xs)
  one_longer xs x = let e = length-append xs (x ∷ []) in omega (arith, e)

  -- no list is itself with something behind it
  pub none_behind : (xs more : List X) (x : X) → xs ≡ xs ++ x ∷ more → ⊥
  none_behind xs more x e = let l = ap length e in let m = length-append xs (x ∷ more) in absurd (omega (arith, l, m))

  -- what stands behind one front is one thing
  pub last_same : (xs more : List X) (x y : X) → (xs ++ x ∷ []) ++ more ≡ xs ++ y ∷ [] → x ≡ y
  last_same [] more x y e = cc e
  last_same (z ∷ xs) more x y e = let tail : (xs ++ x ∷ []) ++ more ≡ xs ++ y ∷ [] = cc e in last_same xs more x y tail
