-- A machine behind the device's side, as the tests have one: what it does with a command, and where it stands after a list of turns.
use Rattle.std.specs.Prelude.{◌≡◌, List, Option, Some, None, IfSome}
use Rattle.vmx_io.specs.declared.handed.HandedView.{HandedView}
use Rattle.vmx_layout.specs.Command.{number_of}
use Rattle.vmx_layout.specs.declared.command.Command.TheVariants.{QuiesceDev}
use Rattle.vmx_device_state.specs.DeviceState.{DeviceState, set_answer, after_answer, state_after, counts_of}
use Rattle.vmx_device_state.specs.declared.turn.CommandView.{CommandView}
use Rattle.vmx_device_state.specs.declared.turn.AnswerView.{AnswerView}
use Rattle.vmx_device_state.specs.declared.turn.Turn.{Turn}
use Rattle.vmx_regs.specs.Turns.{held_of, held_by, deal_of, held_after, IsWhole, AreEndsBack}

-- a machine's state, and the ends that it holds
pub record MachineView : Type 0 where
  pub state : DeviceState
  pub ends : Option HandedView

abbrev pub machine : DeviceState → Option HandedView → MachineView
machine state ends = record { state = state; ends = ends }

-- The machine answered a command: by its state, which goes on as the answer says; and of the ends it holds and gives back what the answer says.
pub record Applied (old : MachineView) (c : CommandView) (a : AnswerView) (new : MachineView) : Type 0 where
  pub value : IfSome (set_answer old.state c.number c.image (counts_of c.ends)) (λ n. a.value ≡ n)
  pub state : new.state ≡ after_answer old.state c.number c.image a.value
  pub held : held_of new.ends ≡ held_by (deal_of c.number a.value) (held_of old.ends) (held_of c.ends)
  pub ends : AreEndsBack (deal_of c.number a.value) (held_of old.ends) c.ends a.ends
  pub whole : IsWhole new.ends

-- the machine stands where a list of turns leads
pub record Tracks (m : MachineView) (past : List Turn) : Type 0 where
  pub state : state_after past ≡ m.state
  pub held : held_after past ≡ held_of m.ends
  pub whole : IsWhole m.ends

-- a quiesce whose bag has no ends
abbrev pub IsQuiesce : Option CommandView → Type 0
IsQuiesce None = ⊥
IsQuiesce (Some c) = (c.number ≡ number_of QuiesceDev) × (c.ends ≡ None)
