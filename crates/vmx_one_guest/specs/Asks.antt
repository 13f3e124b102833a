-- What a driver asked of its device.
use Rattle.std.specs.Prelude.{◌≡◌, ℕ, List, IfSome}
use Rattle.vmx_regs.specs.declared.known.Calls.{Calls}

-- the command that is outstanding, if there is one, has this number and this image
abbrev pub Asks : Calls → ℕ → List ℕ → Type 0
Asks v number image = IfSome v.asked (λ c. (c.number ≡ number) × (c.image ≡ image))
