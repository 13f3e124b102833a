-- What a reading that succeeds has read.
use Rattle.std.proofs.Common.{◌≡◌, ℕ, List, Bool, true, false, refl, Option, Some, None, Result, Ok, Err}
use Rattle.vmx_config_rows.specs.declared.spot.Spot.{Spot}
use Rattle.vmx_config_rows.specs.declared.fault.ConfigFault.{ConfigFault}
use Rattle.vmx_config_rows.specs.Reading.{◌>>=◌, required, or_kind, or_form}
use Rattle.vmx_config_rows.specs.Texts.{passing}

-- both steps of a reading succeed
pub record Steps {A B : Type 0} (first : Result A ConfigFault) (next : A → Result B ConfigFault) (y : B) : Type 0 where
  pub value : A
  pub read : first ≡ Ok value
  pub rest : next value ≡ Ok y

pub steps : {A B : Type 0} (first : Result A ConfigFault) (next : A → Result B ConfigFault) (y : B) → (first >>= next) ≡ Ok y → Steps first next y
steps (Ok a) next y e = record { value = a; read = refl; rest = e }
steps (Err f) next y e = absurd cc

pub required_some : {A : Type 0} (spot : Spot) (key : List ℕ) (o : Option A) (x : A) → required spot key o ≡ Ok x → o ≡ Some x
required_some spot key None x e = absurd cc
required_some spot key (Some y) x e = cc

pub kind_some : {A : Type 0} (spot : Spot) (key : List ℕ) (o : Option A) (x : A) → or_kind spot key o ≡ Ok x → o ≡ Some x
kind_some spot key None x e = absurd cc
kind_some spot key (Some y) x e = cc

pub form_some : {A : Type 0} (spot : Spot) (key : List ℕ) (o : Option A) (x : A) → or_form spot key o ≡ Ok x → o ≡ Some x
form_some spot key None x e = absurd cc
form_some spot key (Some y) x e = cc

pub passes : (b : Bool) (s t : List ℕ) → passing b s ≡ Some t → (b ≡ true) × (s ≡ t)
passes true s t e = (refl, cc)
passes false s t e = absurd cc

pub ok_same : {A : Type 0} (x y : A) → ◌≡◌ {A = Result A ConfigFault} (Ok x) (Ok y) → x ≡ y
ok_same x y e = cc
