-- What a deed does to a guest's state.
use Rattle.std.specs.Prelude.{Bool, true, false, List, [], ◌∷◌}
use Rattle.vmx_model.specs.declared.deeds.Action.{Action}
use Rattle.vmx_model.specs.declared.deeds.Deed.{Deed}
use Rattle.vmx_model.specs.declared.deeds.Deed.TheVariants as deed

-- an activate or a reset begins an activation
abbrev pub begins : Deed → Bool
begins deed.Quiesce = false
begins deed.Activate = true
begins deed.Reset = true
begins (deed.Mode m) = false
begins (deed.Multicast t) = false
begins (deed.Vlans t) = false
begins (deed.Rss n t) = false

-- the deed that resets an active guest
abbrev pub is_reset : Deed → Bool
is_reset deed.Quiesce = false
is_reset deed.Activate = false
is_reset deed.Reset = true
is_reset (deed.Mode m) = false
is_reset (deed.Multicast t) = false
is_reset (deed.Vlans t) = false
is_reset (deed.Rss n t) = false

-- whether a guest is quiet after a deed
abbrev pub quiet_after : Bool → Deed → Bool
quiet_after quiet deed.Quiesce = true
quiet_after quiet deed.Activate = false
quiet_after quiet deed.Reset = quiet
quiet_after quiet (deed.Mode m) = quiet
quiet_after quiet (deed.Multicast t) = quiet
quiet_after quiet (deed.Vlans t) = quiet
quiet_after quiet (deed.Rss n t) = quiet

-- whether a guest is quiet after actions: the last quiesce has no later activate
abbrev pub is_quiet : Bool → List Action → Bool
is_quiet quiet [] = quiet
is_quiet quiet (a ∷ rest) = is_quiet (quiet_after quiet a.deed) rest
