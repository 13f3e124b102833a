-- What an answer does to the queue ends in the bags, by the order of its command and its value.
use Rattle.std.specs.Prelude.{◌≡◌, ℕ, Bool, true, false, nat_eq, List, [], ◌∷◌, ◌==◌, ◌&&◌, if◌then◌else◌, Option, Some, None, option_map, IfSome}
use Rattle.vmx_io.specs.declared.handed.HandedView.{HandedView}
use Rattle.vmx_layout.specs.Command.{number_of}
use Rattle.vmx_layout.specs.declared.command.Command.TheVariants.{ActivateDev}
use Rattle.vmx_device_state.specs.Orders.{order_of}
use Rattle.vmx_device_state.specs.declared.order.Order.{Order}
use Rattle.vmx_device_state.specs.declared.order.Order.TheVariants.{Activate, Stop, Update, Unknown, Get}
use Rattle.vmx_device_state.specs.declared.turn.Turn.{Turn}

-- Queue ends that are held: their keys, how many transmit and receive ends they are, and whether some end stands over given words.
pub record Held : Type 0 where
  pub keys : List (List ℕ)
  pub tx : ℕ
  pub rx : ℕ
  pub given : Bool

abbrev pub held_as : HandedView → Held
held_as v = record { keys = v.keys; tx = v.tx; rx = v.rx; given = v.given }

-- the ends in a bag, as they are held
abbrev pub held_of : Option HandedView → Option Held
held_of ends = option_map held_as ends

-- What an answer does to ends: the device begins to hold those of the command, gives back those that it holds, or passes on those of the command.
pub data Deal : Type 0 where
  Begins : Deal
  Stops : Deal
  Passes : Deal

abbrev pub deal_by : Order → Deal
deal_by Activate = Begins
deal_by Stop = Stops
deal_by (Update part) = Passes
deal_by Unknown = Passes
deal_by Get = Passes

abbrev pub deal_of : ℕ → ℕ → Deal
deal_of number value = if value == 0 then deal_by (order_of number) else Passes

-- whether the device begins to hold ends
abbrev pub is_begins : Deal → Bool
is_begins Begins = true
is_begins Stops = false
is_begins Passes = false

-- whether a command and its answer are an activation that was answered 0
abbrev pub is_activating : ℕ → ℕ → Bool
is_activating number value = nat_eq number (number_of ActivateDev) && nat_eq value 0

-- the ends that the device holds after an answer
abbrev pub held_by : Deal → Option Held → Option Held → Option Held
held_by Begins held given = given
held_by Stops held given = None
held_by Passes held given = held

abbrev pub held_after_turn : Option Held → Turn → Option Held
held_after_turn held t = held_by (deal_of t.command.number t.answer.value) held (held_of t.command.ends)

abbrev pub held_from : Option Held → List Turn → Option Held
held_from held [] = held
held_from held (t ∷ ts) = held_from (held_after_turn held t) ts

-- the ends that the device holds after a list of turns
abbrev pub held_after : List Turn → Option Held
held_after past = held_from None past

abbrev pub IsWhole : Option HandedView → Type 0
IsWhole ends = IfSome ends (λ v. v.whole ≡ true)

-- The ends in the bag of an answer, by those that the device holds and those of the command: none; those held, whole; or those of the command as they came.
abbrev pub AreEndsBack : Deal → Option Held → Option HandedView → Option HandedView → Type 0
AreEndsBack Begins held given back = back ≡ None
AreEndsBack Stops None given back = back ≡ given
AreEndsBack Stops (Some held) given back = (held_of back ≡ Some held) × IsWhole back
AreEndsBack Passes held given back = back ≡ given
