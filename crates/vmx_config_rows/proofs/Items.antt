-- The keys of a table, and faults.
use Rattle.std.proofs.Common.{◌≡◌, ℕ, List, [], ◌∷◌, Bool, true, false, refl, Some, cond, map}
use Rattle.std.specs.Prelude.{String, string_bytes, find, option_map, Result, Err}
use Rattle.std.specs.declared.alloc.Global.{Global}
use Rattle.toml.specs.declared.value.Value.{Value}
use Rattle.toml.specs.View.{members_view}
use Rattle.vmx_config_rows.specs.Reading.{keys_of, IsFault, Fails}
use Rattle.vmx_config_rows.specs.declared.fault.ConfigFault.{ConfigFault}
use Rattle.vmx_config_rows.specs.declared.fault.ConfigFault.TheVariants.{Text, Unknown, Missing, Kind, Form, Range, Script, Twice, Total, Memory}

-- the first key that a test takes, by the keys of the map or of the members
pub find_view : (p : List ℕ → Bool) (es : List (String Global × Value)) → option_map string_bytes (find (λ k. p (string_bytes k)) (map (λ e. e.0) es)) ≡ find p (keys_of (members_view es))
find_view p [] = refl
find_view p (e ∷ es) = pick (p (string_bytes e.0)) (find_view p es)
  where
    pick : (b : Bool) → option_map string_bytes (find (λ k. p (string_bytes k)) (map (λ x. x.0) es)) ≡ find p (keys_of (members_view es))
        → option_map string_bytes (cond b (Some e.0) (find (λ k. p (string_bytes k)) (map (λ x. x.0) es))) ≡ cond b (Some (string_bytes e.0)) (find p (keys_of (members_view es)))
    pick true h = refl
    pick false h = h

-- a reading whose fault was made
pub fault_fails : {Y : Type 0} (e f : ConfigFault) (read : Result Y ConfigFault) → IsFault e f → read ≡ Err f → Fails e read
fault_fails Memory f read h r = tt
fault_fails Text f read h r = rw (h, r) refl
fault_fails (Unknown s k) f read h r = rw (h, r) refl
fault_fails (Missing s k) f read h r = rw (h, r) refl
fault_fails (Kind s k) f read h r = rw (h, r) refl
fault_fails (Form s k) f read h r = rw (h, r) refl
fault_fails (Range s k z) f read h r = rw (h, r) refl
fault_fails (Script s) f read h r = rw (h, r) refl
fault_fails (Twice g k) f read h r = rw (h, r) refl
fault_fails (Total n) f read h r = rw (h, r) refl
