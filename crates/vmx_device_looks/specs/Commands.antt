-- What a journal shows of a command that was answered.
use Rattle.std.specs.Prelude.{◌≡◌, ℕ, List, [], ◌∷◌, ◌++◌, length, Option, MatchOption}
use Rattle.vmx_shared_area.specs.declared.setup.Setup.{Setup}
use Rattle.vmx_device_state.specs.SetupView.{setup_view}
use Rattle.vmx_device_state.specs.DeviceState.{DeviceState, Idle, Active}

-- the setup in force is put last among the setups, and its index is shown; an idle device shows none
pub record ShowsState (setups : List Setup) (index : Option ℕ) (new : List Setup) (d : DeviceState) : Type 0 where
  pub shows : MatchOption index ((d ≡ Idle) × (new ≡ setups)) (λ n. (n ≡ length setups) × ((s : Setup) × (new ≡ setups ++ s ∷ []) × (d ≡ Active (setup_view s))))
