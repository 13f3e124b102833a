-- Reading a table key by key: a value, or the first fault.
use Rattle.std.specs.Prelude.{◌≡◌, ℕ, List, [], ◌∷◌, ◌++◌, Option, Some, None, Result, Ok, Err, Bool, not, find}
use Rattle.std.specs.List.{list_any}
use Rattle.std.specs.Str.{bytes_eq}
use Rattle.toml.specs.Data.{Members, no_members, member}
use Rattle.vmx_config_rows.specs.declared.spot.Spot.{Spot}
use Rattle.vmx_config_rows.specs.declared.fault.ConfigFault.{ConfigFault}
use Rattle.vmx_config_rows.specs.declared.fault.ConfigFault.TheVariants.{Unknown, Missing, Kind, Form, Memory}

-- the next reading, unless a fault came before
infixl 10 ◌>>=◌
abbrev pub ◌>>=◌ : {A B : Type 0} → Result A ConfigFault → (A → Result B ConfigFault) → Result B ConfigFault
(Ok x) >>= f = f x
(Err e) >>= f = Err e

-- the reading is this fault, or memory ran out
abbrev pub Fails : {Y : Type 0} → ConfigFault → Result Y ConfigFault → Type 0
Fails Memory read = Unit {0}
Fails f read = read ≡ Err f

-- what was answered, seen by view, is what reading gives, unless memory ran out
abbrev pub Gives : {X Y : Type 0} → (X → Y) → Result X ConfigFault → Result Y ConfigFault → Type 0
Gives view (Ok x) read = read ≡ Ok (view x)
Gives view (Err e) read = Fails e read

-- the fault, unless memory ran out
abbrev pub IsFault : ConfigFault → ConfigFault → Type 0
IsFault Memory e = Unit {0}
IsFault f e = f ≡ e

abbrev pub required : {A : Type 0} → Spot → List ℕ → Option A → Result A ConfigFault
required spot key None = Err (Missing spot key)
required spot key (Some x) = Ok x

abbrev pub or_kind : {A : Type 0} → Spot → List ℕ → Option A → Result A ConfigFault
or_kind spot key None = Err (Kind spot key)
or_kind spot key (Some x) = Ok x

abbrev pub or_form : {A : Type 0} → Spot → List ℕ → Option A → Result A ConfigFault
or_form spot key None = Err (Form spot key)
or_form spot key (Some x) = Ok x

abbrev pub is_known : List (List ℕ) → List ℕ → Bool
is_known known key = list_any (λ k. bytes_eq k key) known

abbrev pub keys_of : Members → List (List ℕ)
keys_of no_members = []
keys_of (member k d ms) = k ∷ keys_of ms

abbrev pub all_known : Spot → List ℕ → Option (List ℕ) → Result (Unit {0}) ConfigFault
all_known spot prefix None = Ok tt
all_known spot prefix (Some k) = Err (Unknown spot (prefix ++ k))

-- the first key that is none of the known ones, behind a prefix; the keys of members ascend
abbrev pub known_only : Spot → List ℕ → List (List ℕ) → Members → Result (Unit {0}) ConfigFault
known_only spot prefix known ms = all_known spot prefix (find (λ k. not (is_known known k)) (keys_of ms))
