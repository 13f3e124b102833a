-- What a device answers, by vmx_device_state's order of a command: every number but a GET's is a set command's, and has the set command's answer.
use Rattle.std.proofs.Common.{◌≡◌, ◌≢◌, ℕ, List, Bool, true, false, not, refl, sym, ap, ◌∙◌, if◌then◌else◌, inl, inr}
use Rattle.std.specs.Prelude.{◌==◌, is_some, unwrap_or, Option, Some, None}
use Rattle.std.proofs.lemmas.Bool.Decides.{eqb_tells}
use Rattle.vmx_layout.specs.Command.{number_of}
use Rattle.vmx_layout.specs.declared.command.Command.TheVariants.{ActivateDev, QuiesceDev, ResetDev, UpdateRxMode, UpdateMacFilters, UpdateVlanFilters, UpdateRssidt, UpdateIml, UpdateFeature}
use Rattle.vmx_device_state.specs.Orders.{is_get, order_of}
use Rattle.vmx_device_state.specs.DeviceState.{DeviceState, answer_by, set_answer, counts_of}
use Rattle.vmx_device_state.specs.declared.order.Order.{Order}
use Rattle.vmx_device_state.specs.declared.order.Order.TheVariants.{Activate, Stop, Update, Unknown, Get}
use Rattle.vmx_device_state.specs.declared.order.Part.TheVariants.{Mode, Macs, Vlans, Table, Levels, Features}
use Rattle.vmx_device_state.specs.declared.turn.Turn.{Turn}
use Rattle.vmx_device_state.specs.declared.turn.EndCounts.{EndCounts}
use Rattle.vmx_model.specs.Plan.{is_set}
use Rattle.vmx_device_state.specs.Answers.{get_answer}
use Rattle.vmx_model.specs.Answers.{answer_to}

-- an order that sets something, or is of no command
abbrev pub is_set_order : Order → Bool
is_set_order Activate = true
is_set_order Stop = true
is_set_order (Update part) = true
is_set_order Unknown = true
is_set_order Get = false

-- one number in front of others
first_of_two : (n k : ℕ) (here other : Order) → is_set_order here ≡ true → is_set k ≡ true → is_set_order other ≡ is_set n → is_set_order (if n == k then here else other) ≡ is_set n
first_of_two n k here other sets is rest = elim (eqb_tells n k) [
  | inl e ↦ rw e.0 (sets ∙ sym (ap is_set e.1 ∙ is))
  | inr e ↦ rw e.0 rest
]

last_of_two : (b : Bool) → is_set_order (if b then Get else Unknown) ≡ not b
last_of_two true = refl
last_of_two false = refl

-- a number is a set command's where its order is no GET
pub set_by_order : (n : ℕ) → is_set_order (order_of n) ≡ is_set n
set_by_order n =
    first_of_two n (number_of ActivateDev) Activate _ refl refl
    (first_of_two n (number_of QuiesceDev) Stop _ refl refl
    (first_of_two n (number_of ResetDev) Stop _ refl refl
    (first_of_two n (number_of UpdateRxMode) (Update Mode) _ refl refl
    (first_of_two n (number_of UpdateMacFilters) (Update Macs) _ refl refl
    (first_of_two n (number_of UpdateVlanFilters) (Update Vlans) _ refl refl
    (first_of_two n (number_of UpdateRssidt) (Update Table) _ refl refl
    (first_of_two n (number_of UpdateIml) (Update Levels) _ refl refl
    (first_of_two n (number_of UpdateFeature) (Update Features) _ refl refl
    (last_of_two (is_get n))))))))))

set_order : (o : Order) → o ≢ Get → is_set_order o ≡ true
set_order Activate other = refl
set_order Stop other = refl
set_order (Update part) other = refl
set_order Unknown other = refl
set_order Get other = absurd (other refl)

pub sets : (n : ℕ) → order_of n ≢ Get → is_set n ≡ true
sets n other = sym (set_by_order n) ∙ set_order (order_of n) other

answered : (o : Order) (d : DeviceState) (image : List ℕ) (ends : Option EndCounts) → is_some (answer_by o d image ends) ≡ is_set_order o
answered Activate d image ends = refl
answered Stop d image ends = refl
answered (Update part) d image ends = refl
answered Unknown d image ends = refl
answered Get d image ends = refl

-- just the set commands have an answer by the device's state
pub set_is_answered : (d : DeviceState) (n : ℕ) (image : List ℕ) (ends : Option EndCounts) → is_some (set_answer d n image ends) ≡ is_set n
set_is_answered d n image ends = answered (order_of n) d image ends ∙ set_by_order n

-- and any other is answered as a GET
pub get_is_answered : (mac : List ℕ) (d : DeviceState) (t : Turn) → is_set t.command.number ≡ false → answer_to mac d t ≡ get_answer mac t.command.number
get_is_answered mac d t e = step (set_answer d t.command.number t.command.image (counts_of t.command.ends)) (set_is_answered d t.command.number t.command.image (counts_of t.command.ends) ∙ e)
  where
    step : (o : Option ℕ) → is_some o ≡ false → unwrap_or o (get_answer mac t.command.number) ≡ get_answer mac t.command.number
    step None h = refl
    step (Some x) h = absurd (cc h)
