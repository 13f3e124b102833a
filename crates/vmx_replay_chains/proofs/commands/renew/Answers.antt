use Rattle.std.proofs.Common.{◌≡◌, Bool, true, false, refl, sym, ap, ◌∙◌, subst}
use Rattle.vmx_replay_chains.specs.Views.{guest_view, guest_views}
use Rattle.vmx_replay_chains.specs.Chains.{RenewsBy, due_at, is_activating}
use Rattle.vmx_replay_chains.proofs.Ons.{port_below, due_here}
use Rattle.vmx_replay_chains.proofs.commands.renew.Goals as goal

pub at-requires : goal.at-requires
at-requires g c = record { within = port_below guest_view c.args.guests.now c.args.port _ _ c.requires.pair }

pub returns-in_ok-activate : goal.returns-in_ok-activate
returns-in_ok-activate g c =
    let gs = c.args.guests.now in let port = c.args.port in let lt = port_below guest_view gs port _ _ c.requires.pair in
    let due : due_at port (guest_views gs) ≡ c.due.result = due_here guest_view gs port c.at.result.now lt c.at.ensures.value ∙ sym c.due.ensures.due in
    let on : is_activating (due_at port (guest_views gs)) ≡ true = ap is_activating due ∙ sym c.is_activating.ensures.activating ∙ c.if-is_activating.true in
    record { renews = subst (λ (b : Bool). RenewsBy b port (guest_views gs) (guest_views c.activate.new.guests)) (sym on) c.in_ok-activate.ensures.renews; paired = c.in_ok-activate.ensures.paired }

pub returns-else-is_activating : goal.returns-else-is_activating
returns-else-is_activating g c =
    let gs = c.args.guests.now in let port = c.args.port in let lt = port_below guest_view gs port _ _ c.requires.pair in
    let due : due_at port (guest_views gs) ≡ c.due.result = due_here guest_view gs port c.at.result.now lt c.at.ensures.value ∙ sym c.due.ensures.due in
    let off : is_activating (due_at port (guest_views gs)) ≡ false = ap is_activating due ∙ sym c.is_activating.ensures.activating ∙ c.if-is_activating.false in
    record { renews = subst (λ (b : Bool). RenewsBy b port (guest_views gs) (guest_views gs)) (sym off) refl; paired = λ all. all }
