-- Reading to the end and writing whole, where the bytes of the stream are told.
use Rattle.std.proofs.Common.{◌≡◌, ℕ, ◌+◌, ◌-◌, ◌<◌, ◌≤◌, List, ◌++◌, Option, Some, None, length, take, drop, sym, ap, ◌∙◌, subst, arith, append_assoc, append-nil, take-append-drop, length-append, length-take}
use Rattle.std.proofs.Math.Seq.{take-add}
use Rattle.std.proofs.lemmas.List.{take_rest}
use Rattle.std.specs.Io.KnownBytes.{Consumes, IsAtEnd}
use Rattle.std.proofs.KnownBytes.{Consumes-trans}
use Rattle.vmx_io.specs.Outside.{WhereTold}
use Rattle.vmx_io.specs.Streams.{TakesAtMost}

-- what was taken so far stands at the front, and n bytes more behind it
pub taken_more : (a b c : Option (List ℕ)) (xs ys : List ℕ) (f n : ℕ) → take f ys ≡ take f xs → Consumes a b (take f xs) → Consumes b c (take n (drop f ys))
    → Consumes a c (take (f + n) ys)
taken_more a b c xs ys f n front before read =
    let joined : take (f + n) ys ≡ take f xs ++ take n (drop f ys) = take-add f n ys ∙ ap (λ l. l ++ take n (drop f ys)) front in
    subst (Consumes a c) (sym joined) (Consumes-trans a b c _ _ before read)

-- at most so many bytes were taken as stand at the front
pub taken_at_most : (a b : Option (List ℕ)) (xs : List ℕ) (f most : ℕ) → Consumes a b (take f xs) → f ≤ most → TakesAtMost a b most
taken_at_most a b xs f most taken within = (take f xs, taken, omega (arith, length-take f xs))

-- a stream that is at its end gave all that was left in it
pub drained : (a b : Option (List ℕ)) (xs : List ℕ) → Consumes a b xs → IsAtEnd b → WhereTold a (λ rest. xs ≡ rest)
drained None b xs taken end rest e = cc
drained (Some all) None xs taken end rest e = absurd taken
drained (Some all) (Some left) xs taken end rest e =
    let whole : all ≡ xs = taken ∙ ap (λ l. xs ++ l) end ∙ append-nil xs in
    let same : all ≡ rest = cc in
    sym whole ∙ same

-- a stream that gave more than the limit had more than the limit
pub too_long : (a b : Option (List ℕ)) (xs : List ℕ) (limit : ℕ) → Consumes a b xs → limit < length xs → WhereTold a (λ rest. limit < length rest)
too_long None b xs limit taken more rest e = cc
too_long (Some all) None xs limit taken more rest e = absurd taken
too_long (Some all) (Some left) xs limit taken more rest e =
    let same : rest ≡ xs ++ left = let back : all ≡ rest = cc in sym back ∙ taken in
    subst (λ l. limit < length l) (sym same) (omega (arith, length-append xs left))

-- the front of the rest goes over to what is done
pub moves_front : (all done rest : List ℕ) (n : ℕ) → all ≡ done ++ rest → all ≡ (done ++ take n rest) ++ take (length rest - n) (drop n rest)
moves_front all done rest n e =
    e ∙ ap (λ l. done ++ l) (sym (take-append-drop n rest)) ∙ sym (append_assoc done (take n rest) (drop n rest)) ∙ ap (λ l. (done ++ take n rest) ++ l) (sym (take_rest rest n))
