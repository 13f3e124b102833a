-- What the look of a form without descriptors shows, and where a walk is refused.
use Rattle.std.proofs.Common.{◌≡◌, ◌≢◌, ℕ, ◌-◌, ◌^◌, ◌⊎◌, List, [], Bool, true, false, cond, inl, inr, refl, nat_lt, not}
use Rattle.vmx_ends.specs.declared.made.RxMade.{RxMade}
use Rattle.vmx_genring.specs.Rings.{generation}
use Rattle.vmx_ends.specs.Words.{bit, IsMissed, missed_word}
use Rattle.vmx_ends.specs.Walk.{Stand, at_head}
use Rattle.vmx_ends.specs.Core.{head_from, goes, takes, misses, ended, outcome}

pub missed_is : (size p : ℕ) → IsMissed 31 size p (missed_word 31 size p)
missed_is size p = by_bit (generation size p)
  where
    by_bit : (b : Bool) → bit 31 (cond b 0 (2 ^ 31)) ≡ not b
    by_bit true = refl
    by_bit false = refl

pub missed63_is : (size p : ℕ) → IsMissed 63 size p (missed_word 63 size p)
missed63_is size p = by_bit (generation size p)
  where
    by_bit : (b : Bool) → bit 63 (cond b 0 (2 ^ 63)) ≡ not b
    by_bit true = refl
    by_bit false = refl

misses_is : {a b c d : ℕ} {x y : List (ℕ × ℕ)} → misses a b x ≡ misses c d y → (a ≡ c) × (b ≡ d)
misses_is e = (cc (e), cc (e))

not_misses : {a b c : ℕ} {ls : List (ℕ × ℕ)} {y : Stand} → takes c y ≢ misses a b ls
not_misses e = cc (e)

-- a walk misses the first position that is not published
pub missed14_is : (size p : ℕ) → IsMissed 14 size p (missed_word 14 size p)
missed14_is size p = by_bit (generation size p)
  where
    by_bit : (b : Bool) → bit 14 (cond b 0 (2 ^ 14)) ≡ not b
    by_bit true = refl
    by_bit false = refl

pub misses_at : (m : RxMade) (c1 c2 posted1 posted2 n ring p : ℕ) (looks : List (ℕ × ℕ)) → outcome m c1 c2 posted1 posted2 n ≡ misses ring p looks → ((1 ≡ ring) × (posted1 ≡ p)) ⊎ ((2 ≡ ring) × (posted2 ≡ p))
misses_at m c1 c2 posted1 posted2 n ring p looks = by_head (nat_lt h posted1)
  where
    h : ℕ
    h = head_from m m.size1 c1

    last : Stand
    last = goes m posted1 posted2 n (at_head h c2)

    by_end : (b : Bool) → cond b (misses 2 posted2 last.looks) (takes (h - c1) last) ≡ misses ring p looks → ((1 ≡ ring) × (posted1 ≡ p)) ⊎ ((2 ≡ ring) × (posted2 ≡ p))
    by_end true is = inr (misses_is is)
    by_end false is = absurd (not_misses is)

    by_head : (b : Bool) → cond b (ended (h - c1) posted2 last) (misses 1 posted1 []) ≡ misses ring p looks → ((1 ≡ ring) × (posted1 ≡ p)) ⊎ ((2 ≡ ring) × (posted2 ≡ p))
    by_head true is = by_end (nat_lt posted2 last.next2) is
    by_head false is = inl (misses_is is)
