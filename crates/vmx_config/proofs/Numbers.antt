-- The numbers that a table gives are those of its rows.
use Rattle.std.proofs.Common.{◌≡◌, ℕ, ◌%◌, ◌==◌, ◌&&◌, ◌≤◌, nat_le, Bool, true, false, if◌then◌else◌, refl, subst, Option, Some, None, Ok, Err}
use Rattle.std.specs.Prelude.{ℤ, pos, negsuc}
use Rattle.std.proofs.lemmas.Bool.{and_parts, leb-true, eqb-true}
use Rattle.toml.specs.Data.{Data, Members, get_member, as_integer}
use Rattle.vmx_config_rows.specs.declared.spot.Spot.{Spot}
use Rattle.vmx_config_rows.specs.declared.fault.ConfigFault.TheVariants.{Range}
use Rattle.vmx_config_rows.specs.Reading.{required, or_kind}
use Rattle.vmx_config_rows.specs.Table.{Row, ranged, number_in, number_at, optional_in, optional_at}
use Rattle.vmx_config.proofs.Steps.{steps}

-- a number within a row, on its steps
abbrev pub in_row : Row → ℕ → Bool
in_row r n = nat_le r.least n && nat_le n r.most && (n % r.step == 0)

abbrev pub default_in : Row → Option ℕ → Bool
default_in r None = true
default_in r (Some n) = in_row r n

pub record IsInRow (r : Row) (n : ℕ) : Type 0 where
  pub low : r.least ≤ n
  pub high : n ≤ r.most
  pub step : n % r.step ≡ 0

pub in_row_is : (r : Row) (n : ℕ) → in_row r n ≡ true → IsInRow r n
in_row_is r n e =
    let whole = and_parts (nat_le r.least n && nat_le n r.most) (n % r.step == 0) e in
    let ends = and_parts (nat_le r.least n) (nat_le n r.most) whole.0 in
    record { low = leb-true r.least n ends.0; high = leb-true n r.most ends.1; step = eqb-true (n % r.step) 0 whole.1 }

ranged_in : (spot : Spot) (r : Row) (z : ℤ) (n : ℕ) → ranged spot r z ≡ Ok n → in_row r n ≡ true
ranged_in spot r (pos m) n e = pick (in_row r m) refl e
  where
    pick : (b : Bool) → in_row r m ≡ b → (if b then Ok m else Err (Range spot r.key (pos m))) ≡ Ok n → in_row r n ≡ true
    pick true t e = let same : m ≡ n = cc in subst (λ (k : ℕ). in_row r k ≡ true) same t
    pick false t e = absurd cc
ranged_in spot r (negsuc m) n e = absurd cc

found_in : (spot : Spot) (r : Row) (d : Data) (n : ℕ) → number_in spot r (Some d) ≡ Ok n → in_row r n ≡ true
found_in spot r d n e = let z = steps (or_kind spot r.key (as_integer d)) (ranged spot r) n e in ranged_in spot r z.value n z.rest

by_default : (spot : Spot) (r : Row) (o : Option ℕ) (n : ℕ) → default_in r o ≡ true → required spot r.key o ≡ Ok n → in_row r n ≡ true
by_default spot r None n t e = absurd cc
by_default spot r (Some m) n t e = let same : m ≡ n = cc in subst (λ (k : ℕ). in_row r k ≡ true) same t

given_in : (spot : Spot) (r : Row) (o : Option Data) (n : ℕ) → default_in r r.default ≡ true → number_in spot r o ≡ Ok n → in_row r n ≡ true
given_in spot r None n t e = by_default spot r r.default n t e
given_in spot r (Some d) n t e = found_in spot r d n e

-- the number at a key, by the row
pub number_in_row : (spot : Spot) (r : Row) (ms : Members) (n : ℕ) → default_in r r.default ≡ true → number_at spot r ms ≡ Ok n → IsInRow r n
number_in_row spot r ms n t e = in_row_is r n (given_in spot r (get_member r.key ms) n t e)

abbrev pub MaybeInRow : Row → Option ℕ → Type 0
MaybeInRow r None = Unit {0}
MaybeInRow r (Some n) = IsInRow r n

maybe_in : (spot : Spot) (r : Row) (d : Option Data) (o : Option ℕ) → optional_in spot r d ≡ Ok o → MaybeInRow r o
maybe_in spot r None o e = let none : None ≡ o = cc in subst (MaybeInRow r) none tt
maybe_in spot r (Some d) o e =
    let n = steps (number_in spot r (Some d)) (λ m. Ok (Some m)) o e in
    let same : Some n.value ≡ o = (let rest = n.rest in cc) in
    subst (MaybeInRow r) same (in_row_is r n.value (found_in spot r d n.value n.read))

-- the number at a key that may be absent
pub optional_in_row : (spot : Spot) (r : Row) (ms : Members) (o : Option ℕ) → optional_at spot r ms ≡ Ok o → MaybeInRow r o
optional_in_row spot r ms o e = maybe_in spot r (get_member r.key ms) o e
