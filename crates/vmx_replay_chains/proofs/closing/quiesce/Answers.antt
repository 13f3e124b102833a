use Rattle.std.proofs.Common.{◌≡◌, Bool, true, false, refl, sym, ap, ◌∙◌, subst}
use Rattle.vmx_replay_chains.specs.Views.{guest_view, guest_views}
use Rattle.vmx_replay_chains.specs.Chains.{QuiescesBy, due_at, is_closing}
use Rattle.vmx_replay_chains.proofs.Ons.{port_below, due_here}
use Rattle.vmx_replay_chains.proofs.closing.quiesce.Goals as goal

pub at-requires : goal.at-requires
at-requires g c = record { within = port_below guest_view c.args.guests.now c.args.port _ _ c.requires.pair }

pub returns-in_ok-follow : goal.returns-in_ok-follow
returns-in_ok-follow g c =
    let gs = c.args.guests.now in let port = c.args.port in let lt = port_below guest_view gs port _ _ c.requires.pair in
    let due : due_at port (guest_views gs) ≡ c.due.result = due_here guest_view gs port c.at.result.now lt c.at.ensures.value ∙ sym c.due.ensures.due in
    let on : is_closing (due_at port (guest_views gs)) ≡ true = ap is_closing due ∙ sym c.is_closing.ensures.closing ∙ c.if-is_closing.true in
    record { quiesces = subst (λ (b : Bool). QuiescesBy b port (guest_views gs) (guest_views c.follow.new.guests)) (sym on) c.in_ok-follow.ensures.follows; paired = c.in_ok-follow.ensures.paired }

pub returns-else-is_closing : goal.returns-else-is_closing
returns-else-is_closing g c =
    let gs = c.args.guests.now in let port = c.args.port in let lt = port_below guest_view gs port _ _ c.requires.pair in
    let due : due_at port (guest_views gs) ≡ c.due.result = due_here guest_view gs port c.at.result.now lt c.at.ensures.value ∙ sym c.due.ensures.due in
    let off : is_closing (due_at port (guest_views gs)) ≡ false = ap is_closing due ∙ sym c.is_closing.ensures.closing ∙ c.if-is_closing.false in
    record { quiesces = subst (λ (b : Bool). QuiescesBy b port (guest_views gs) (guest_views gs)) (sym off) refl; paired = λ all. all }
