-- A number that no command has asks for no value.
use Rattle.std.proofs.Common.{◌≡◌, ℕ, List, Bool, true, false, refl}
use Rattle.std.specs.Prelude.{if◌then◌else◌}
use Rattle.vmx_layout.specs.Command.{IsNoCommand}
use Rattle.vmx_layout.specs.declared.command.Command.TheVariants.{GetLink, GetPermMacLo, GetPermMacHi, GetDidLo, GetDidHi, GetConfIntr}
use Rattle.vmx_device_state.specs.Answers.{get_answer}
use Rattle.vmx_device_state.specs.Numbers.{not_its}

skips : (b : Bool) (x y : ℕ) → b ≡ false → y ≡ 0 → (if b then x else y) ≡ 0
skips true x y e rest = absurd (cc e)
skips false x y e rest = rest

pub no_value : (mac : List ℕ) (n : ℕ) → IsNoCommand n → get_answer mac n ≡ 0
no_value mac n none =
    skips _ _ _ (not_its GetLink n none) (skips _ _ _ (not_its GetPermMacLo n none) (skips _ _ _ (not_its GetPermMacHi n none)
    (skips _ _ _ (not_its GetDidLo n none) (skips _ _ _ (not_its GetDidHi n none) (skips _ _ _ (not_its GetConfIntr n none) refl)))))
