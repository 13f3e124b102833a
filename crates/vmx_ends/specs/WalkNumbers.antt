-- The walk by numbers alone: the next positions of the two supplies.
use Rattle.std.specs.Prelude.{◌≡◌, ℕ, zero, suc, if◌then◌else◌, nat_lt}
use Rattle.vmx_ends.specs.declared.made.RxMade.{RxMade}
use Rattle.vmx_ends.specs.Receive.{is_body}
use Rattle.vmx_ends.specs.Core.{Outcome, takes, misses}
use Rattle.vmx_ends.specs.declared.walk.WalkEnd.{WalkEnd}
use Rattle.vmx_ends.specs.declared.walk.WalkEnd.TheVariants.{Takes, Misses}

abbrev pub next_of : RxMade → ℕ → ℕ → ℕ → ℕ × ℕ
next_of m posted1 one two = if is_body m one then (if nat_lt one posted1 then (suc one, two) else (one, suc two)) else (one, suc two)

abbrev pub ways : RxMade → ℕ → ℕ → ℕ → ℕ → ℕ → ℕ × ℕ
ways m posted1 posted2 zero one two = (one, two)
ways m posted1 posted2 (suc n) one two = let b = next_of m posted1 one two in if nat_lt posted2 b.1 then b else ways m posted1 posted2 n b.0 b.1

-- the plan is what the walk comes to
abbrev pub IsPlan : Outcome → WalkEnd → Type 0
IsPlan (takes passed end) (Takes p next1 next2) = (p ≡ passed) × (next1 ≡ end.next1) × (next2 ≡ end.next2)
IsPlan (takes passed end) (Misses r at) = ⊥
IsPlan (misses ring position looks) (Takes p next1 next2) = ⊥
IsPlan (misses ring position looks) (Misses r at) = (r ≡ ring) × (at ≡ position)
