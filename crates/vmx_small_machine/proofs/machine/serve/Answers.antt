use Rattle.std.proofs.Common.{◌≡◌, List, [], ◌∷◌, ◌++◌, sym, ap, ◌∙◌}
use Rattle.vmx_device_state.specs.DeviceState.{Idle, after_turn, state_after}
use Rattle.vmx_device_state.specs.Laws.{state_snoc}
use Rattle.vmx_device_state.specs.declared.turn.Turn.{Turn}
use Rattle.vmx_regs.specs.Turns.{command_of, answer_of, held_after, held_after_turn}
use Rattle.vmx_regs.specs.Rule.{turn_of}
use Rattle.vmx_regs.specs.Lawful.{held_snoc}
use Rattle.vmx_regs.specs.Ends.{device_view, replying}
use Rattle.vmx_small_machine.proofs.machine.serve.Goals as goal

pub returns-in-Command-clause-tracks : goal.returns-in-Command-clause-tracks
returns-in-Command-clause-tracks g c =
    let was : List Turn = (device_view c.args.regs.now).served in let bag = c.apply-value.result.1 in let value = c.apply-value.result.0 in
    let turn : Turn = turn_of (command_of g.E.Handed.handed c.in-Command.number c.in-Command.bag) (answer_of g.E.Handed.handed value bag) in
    let now : (device_view c.reply.new.self).served ≡ was ++ turn ∷ [] = ap (λ v. v.served) c.reply.ensures.view ∙ ap (λ v. (replying g.E.Handed.handed v value bag).served) c.in-Command.ensures.answer.0 in record {
      state = ap state_after now ∙ state_snoc Idle was turn ∙ ap (λ d. after_turn d turn) c.requires.tracks.state ∙ sym c.apply-value.ensures.applied.state;
      held = ap held_after now ∙ held_snoc _ was turn ∙ ap (λ h. held_after_turn h turn) c.requires.tracks.held ∙ sym c.apply-value.ensures.applied.held;
      whole = c.apply-value.ensures.applied.whole;
    }
