-- What a command's number orders.
use Rattle.std.specs.Prelude.{ℕ, Bool, ◌==◌, ◌&&◌, nat_le, if◌then◌else◌}
use Rattle.vmx_layout.specs.Command.{number_of}
use Rattle.vmx_layout.specs.declared.command.Command.TheVariants.{ActivateDev, QuiesceDev, ResetDev, UpdateRxMode, UpdateMacFilters, UpdateVlanFilters, UpdateRssidt, UpdateIml, UpdateFeature, GetQueueStatus, GetConfIntr}
use Rattle.vmx_device_state.specs.declared.order.Order.{Order}
use Rattle.vmx_device_state.specs.declared.order.Order.TheVariants.{Activate, Stop, Update, Unknown, Get}
use Rattle.vmx_device_state.specs.declared.order.Part.TheVariants.{Mode, Macs, Vlans, Table, Levels, Features}

-- the nine GETs have the numbers from the first to the last
abbrev pub is_get : ℕ → Bool
is_get n = nat_le (number_of GetQueueStatus) n && nat_le n (number_of GetConfIntr)

abbrev pub order_of : ℕ → Order
order_of n =
    if n == number_of ActivateDev then Activate else
    if n == number_of QuiesceDev then Stop else
    if n == number_of ResetDev then Stop else
    if n == number_of UpdateRxMode then Update Mode else
    if n == number_of UpdateMacFilters then Update Macs else
    if n == number_of UpdateVlanFilters then Update Vlans else
    if n == number_of UpdateRssidt then Update Table else
    if n == number_of UpdateIml then Update Levels else
    if n == number_of UpdateFeature then Update Features else
    if is_get n then Get else Unknown
