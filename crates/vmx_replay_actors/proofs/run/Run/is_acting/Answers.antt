use Rattle.std.proofs.Common.{◌≡◌, sym, ap, ◌∙◌}
use Rattle.vmx_replay_due.specs.Standing.{is_action}
use Rattle.vmx_replay_chains.specs.Chains.{due_at}
use Rattle.vmx_replay_chains.specs.Views.{guest_view, guest_views}
use Rattle.vmx_replay_chains.proofs.Ons.{due_here}
use Rattle.vmx_replay_actors.proofs.Calls.{call_acting, port_in, port_of}
use Rattle.vmx_replay_actors.proofs.run.Run.is_acting.Goals as goal

pub returns : goal.returns
returns g c =
    let gs = c.self.inside.guests in
    let lt = port_in guest_view gs _ c.args.port c.self.invariant.settled.rests (port_of _ _ _ _ _ c.self.invariant _ c.self.view_is _ c.requires.port) in
    let due : c.due.result ≡ due_at c.args.port (guest_views gs) = c.due.ensures.due ∙ sym (due_here guest_view gs c.args.port c.at.result.now lt c.at.ensures.value) in
    record { acting = c.is_action.ensures.action ∙ ap (is_action c.args.number) due ∙ call_acting _ _ _ _ _ c.self.invariant _ c.self.view_is _ c.requires.port _ c.requires.passed }
