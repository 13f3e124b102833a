-- How far the drivers of all guests are, where one guest is replaced or links are told.
use Rattle.std.proofs.Common.{◌≡◌, ℕ, zero, suc, List, [], ◌∷◌, map, set, refl, sym, ap, ◌∙◌, Some}
use Rattle.std.specs.Option.{option_map}
use Rattle.std.specs.List.{slice_get}
use Rattle.vmx_device_laws.proofs.PairingIn.{some_same}
use Rattle.vmx_driver_steps.specs.declared.progress.Progress.{Progress}
use Rattle.vmx_driver_steps.specs.Driver.{DriverView}
use Rattle.vmx_replay_worlds.specs.Guests.{GuestView}
use Rattle.vmx_replay_worlds.proofs.Lists.{get_set, get_map}
use Rattle.vmx_replay_chains.specs.Chains.{drivers_of}
use Rattle.vmx_replay_calls.specs.Results.{progress_of}
use Rattle.vmx_replay_calls.proofs.Steps.{IsNearGuest, AreNear}
use Rattle.vmx_replay_calls.proofs.Pairs.{pair_map}

pub progress_set : (rs : List GuestView) (n : ℕ) (r : GuestView) → progress_of (set rs n r) ≡ set (progress_of rs) n r.driver.at
progress_set [] n r = refl
progress_set (x ∷ rs) zero r = refl
progress_set (x ∷ rs) (suc n) r = ap (λ (ps : List Progress). x.driver.at ∷ ps) (progress_set rs n r)

-- with the same drivers
pub progress_same : (rs rs' : List GuestView) → drivers_of rs' ≡ drivers_of rs → progress_of rs' ≡ progress_of rs
progress_same rs rs' e = sym (by_drivers rs') ∙ ap (map (λ (v : DriverView). v.at)) e ∙ by_drivers rs
  where
    by_drivers : (rs : List GuestView) → map (λ (v : DriverView). v.at) (drivers_of rs) ≡ progress_of rs
    by_drivers [] = refl
    by_drivers (r ∷ rs) = ap (λ (ps : List Progress). r.driver.at ∷ ps) (by_drivers rs)

pub near_progress : (rs rs' : List GuestView) → AreNear rs rs' → progress_of rs' ≡ progress_of rs
near_progress rs rs' n = pair_map IsNearGuest (λ (r : GuestView). r.driver.at) (λ x y h. ap (λ (v : DriverView). v.at) h.driver) rs rs' n

-- of the guest at a port
pub progress_get : (rs : List GuestView) (n : ℕ) (r : GuestView) → slice_get rs n ≡ Some r → slice_get (progress_of rs) n ≡ Some r.driver.at
progress_get rs n r at = get_map (λ (x : GuestView). x.driver.at) rs n ∙ ap (option_map (λ (x : GuestView). x.driver.at)) at

pub progress_at : (rs rs' : List GuestView) (n : ℕ) (x r : GuestView) (g : Progress) → slice_get rs n ≡ Some x → slice_get rs' n ≡ Some r → progress_of rs' ≡ set (progress_of rs) n g → r.driver.at ≡ g
progress_at rs rs' n x r g at at' e = some_same (slice_get (progress_of rs') n) r.driver.at g (progress_get rs' n r at') (ap (λ (ps : List Progress). slice_get ps n) e ∙ get_set (progress_of rs) n x.driver.at g (progress_get rs n x at))
