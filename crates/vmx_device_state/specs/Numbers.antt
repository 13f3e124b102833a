-- A number that no command has orders nothing.
use Rattle.std.proofs.Common.{◌≡◌, ◌≢◌, ℕ, suc, ◌≤◌, ◌<◌, Bool, true, false, refl, sym, arith, nat_eq}
use Rattle.std.specs.Prelude.{if◌then◌else◌}
use Rattle.std.proofs.lemmas.Bool.Decides.{nat_tests}
use Rattle.vmx_layout.specs.Command.{number_of, IsNoCommand}
use Rattle.vmx_layout.specs.declared.command.Command.{Command}
use Rattle.vmx_layout.specs.declared.command.Command.TheVariants.{ActivateDev, QuiesceDev, ResetDev, UpdateRxMode, UpdateMacFilters, UpdateVlanFilters, UpdateRssidt, UpdateIml, UpdateFeature, GetQueueStatus, GetStats, GetLink, GetPermMacLo, GetPermMacHi, GetDidLo, GetDidHi, GetDevExtraInfo, GetConfIntr}
use Rattle.vmx_device_state.specs.Orders.{is_get, order_of}
use Rattle.vmx_device_state.specs.declared.order.Order.{Order}
use Rattle.vmx_device_state.specs.declared.order.Order.TheVariants.{Unknown}

skips : (b : Bool) (x y : Order) → b ≡ false → y ≡ Unknown → (if b then x else y) ≡ Unknown
skips true x y e rest = absurd (cc e)
skips false x y e rest = rest

-- a number that no command has is not this one's
pub not_its : (c : Command) (n : ℕ) → IsNoCommand n → nat_eq n (number_of c) ≡ false
not_its c n none = let other : n ≢ number_of c = λ e. none c (sym e) in grind (arith, nat_tests)

above : (c : Command) (n : ℕ) → IsNoCommand n → number_of c ≤ n → suc (number_of c) ≤ n
above c n none le = let other : number_of c ≢ n = none c in omega arith

-- no number stands between the first and the last GET but those of the nine
no_get : (n : ℕ) → IsNoCommand n → number_of GetQueueStatus ≤ n → number_of GetConfIntr < n
no_get n none le =
    above GetConfIntr n none (above GetDevExtraInfo n none (above GetDidHi n none (above GetDidLo n none (above GetPermMacHi n none
    (above GetPermMacLo n none (above GetLink n none (above GetStats n none (above GetQueueStatus n none le))))))))

not_get : (n : ℕ) → IsNoCommand n → is_get n ≡ false
not_get n none = let past : number_of GetQueueStatus ≤ n → number_of GetConfIntr < n = no_get n none in grind (arith, nat_tests)

-- it orders nothing
pub no_order : (n : ℕ) → IsNoCommand n → order_of n ≡ Unknown
no_order n none =
    skips _ _ _ (not_its ActivateDev n none) (skips _ _ _ (not_its QuiesceDev n none) (skips _ _ _ (not_its ResetDev n none)
    (skips _ _ _ (not_its UpdateRxMode n none) (skips _ _ _ (not_its UpdateMacFilters n none) (skips _ _ _ (not_its UpdateVlanFilters n none)
    (skips _ _ _ (not_its UpdateRssidt n none) (skips _ _ _ (not_its UpdateIml n none) (skips _ _ _ (not_its UpdateFeature n none)
    (skips _ _ _ (not_get n none) refl)))))))))
