-- Laws of deals: ends that come back are those that were held, in the same numbers; and an activation is where the device begins to hold ends.
use Rattle.std.proofs.Common.{◌≡◌, ◌≢◌, ℕ, Bool, true, false, refl, sym, ap, ◌∙◌, nat_eq}
use Rattle.std.specs.Prelude.{Option, Some, ◌==◌, ◌&&◌, if◌then◌else◌}
use Rattle.vmx_io.specs.declared.handed.HandedView.{HandedView}
use Rattle.vmx_layout.specs.Command.{number_of}
use Rattle.vmx_layout.specs.declared.command.Command.TheVariants.{ActivateDev, QuiesceDev, ResetDev, UpdateRxMode, UpdateMacFilters, UpdateVlanFilters, UpdateRssidt, UpdateIml, UpdateFeature}
use Rattle.vmx_device_state.specs.Orders.{is_get}
use Rattle.vmx_device_state.specs.Deals.{Held, held_as, Stops, Passes, is_begins, is_activating, deal_by, deal_of, AreEndsBack}
use Rattle.vmx_device_state.specs.declared.order.Order.{Order}
use Rattle.vmx_device_state.specs.declared.order.Order.TheVariants.{Activate, Stop, Update, Unknown, Get}
use Rattle.vmx_device_state.specs.declared.order.Part.TheVariants.{Mode, Macs, Vlans, Table, Levels, Features}

held_is : (v : HandedView) (h : Held) → Some (held_as v) ≡ Some h → held_as v ≡ h
held_is v h e = cc e

-- what a reply gives back is what was held: the same keys, as many transmit and as many receive ends, over given words or not
pub same_back : (held : Held) (given : Option HandedView) (back : HandedView) → AreEndsBack Stops (Some held) given (Some back) → held_as back ≡ held
same_back held given back is = held_is back held is.0

pub same_tx_back : (held : Held) (given : Option HandedView) (back : HandedView) → AreEndsBack Stops (Some held) given (Some back) → back.tx ≡ held.tx
same_tx_back held given back is = ap (λ (h : Held). h.tx) (same_back held given back is)

pub same_rx_back : (held : Held) (given : Option HandedView) (back : HandedView) → AreEndsBack Stops (Some held) given (Some back) → back.rx ≡ held.rx
same_rx_back held given back is = ap (λ (h : Held). h.rx) (same_back held given back is)

-- so a reply that gives back ends in other numbers than it took is none
pub other_tx_is_none : (held : Held) (given : Option HandedView) (back : HandedView) → back.tx ≢ held.tx → AreEndsBack Stops (Some held) given (Some back) → ⊥
other_tx_is_none held given back other is = other (same_tx_back held given back is)

pub other_rx_is_none : (held : Held) (given : Option HandedView) (back : HandedView) → back.rx ≢ held.rx → AreEndsBack Stops (Some held) given (Some back) → ⊥
other_rx_is_none held given back other is = other (same_rx_back held given back is)

not_begun : (b : Bool) (x y : Order) → is_begins (deal_by x) ≡ false → is_begins (deal_by y) ≡ false → is_begins (deal_by (if b then x else y)) ≡ false
not_begun true x y h k = h
not_begun false x y h k = k

by_value : (value : ℕ) (o : Order) → is_begins (if value == 0 then deal_by o else Passes) ≡ (is_begins (deal_by o) && nat_eq value 0)
by_value value o = step (value == 0) (is_begins (deal_by o)) refl refl
  where
    step : (b c : Bool) → (value == 0) ≡ b → is_begins (deal_by o) ≡ c → is_begins (if value == 0 then deal_by o else Passes) ≡ (c && nat_eq value 0)
    step true true e h = rw e (rw h refl)
    step true false e h = rw e h
    step false true e h = rw e refl
    step false false e h = rw e refl

-- the order of any number but that of ACTIVATE_DEV
abbrev other_order : ℕ → Order
other_order n =
    if n == number_of QuiesceDev then Stop else
    if n == number_of ResetDev then Stop else
    if n == number_of UpdateRxMode then Update Mode else
    if n == number_of UpdateMacFilters then Update Macs else
    if n == number_of UpdateVlanFilters then Update Vlans else
    if n == number_of UpdateRssidt then Update Table else
    if n == number_of UpdateIml then Update Levels else
    if n == number_of UpdateFeature then Update Features else
    if is_get n then Get else Unknown

other_begins : (n : ℕ) → is_begins (deal_by (other_order n)) ≡ false
other_begins n =
    not_begun (n == number_of QuiesceDev) Stop _ refl (not_begun (n == number_of ResetDev) Stop _ refl (not_begun (n == number_of UpdateRxMode) (Update Mode) _ refl
    (not_begun (n == number_of UpdateMacFilters) (Update Macs) _ refl (not_begun (n == number_of UpdateVlanFilters) (Update Vlans) _ refl (not_begun (n == number_of UpdateRssidt) (Update Table) _ refl
    (not_begun (n == number_of UpdateIml) (Update Levels) _ refl (not_begun (n == number_of UpdateFeature) (Update Features) _ refl (not_begun (is_get n) Get Unknown refl refl))))))))

-- an activation that was answered 0 is exactly where the device begins to hold ends
pub activating_begins : (number value : ℕ) → is_activating number value ≡ is_begins (deal_of number value)
activating_begins number value = step (number == number_of ActivateDev) refl
  where
    step : (b : Bool) → (number == number_of ActivateDev) ≡ b → is_activating number value ≡ is_begins (deal_of number value)
    step true e = ap (λ (c : Bool). c && nat_eq value 0) e ∙ sym (by_value value Activate) ∙ ap (λ (c : Bool). is_begins (if value == 0 then deal_by (if c then Activate else other_order number) else Passes)) (sym e)
    step false e = ap (λ (c : Bool). c && nat_eq value 0) e ∙ sym (by_value value (other_order number) ∙ ap (λ (b : Bool). b && nat_eq value 0) (other_begins number)) ∙ ap (λ (c : Bool). is_begins (if value == 0 then deal_by (if c then Activate else other_order number) else Passes)) (sym e)
