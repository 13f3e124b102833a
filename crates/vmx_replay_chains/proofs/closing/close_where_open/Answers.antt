use Rattle.std.proofs.Common.{◌≡◌, Bool, true, false, refl, sym, ◌∙◌, subst}
use Rattle.vmx_replay_chains.specs.Views.{guest_view, guest_views}
use Rattle.vmx_replay_chains.specs.Chains.{ClosesBy, is_over_on}
use Rattle.vmx_replay_chains.proofs.Ons.{port_below, over_here}
use Rattle.vmx_replay_chains.proofs.closing.close_where_open.Goals as goal

pub at-requires : goal.at-requires
at-requires g c = record { within = port_below guest_view c.args.guests.now c.args.port _ _ c.requires.pair }

pub returns-in_ok-close : goal.returns-in_ok-close
returns-in_ok-close g c =
    let gs = c.args.guests.now in let port = c.args.port in let lt = port_below guest_view gs port _ _ c.requires.pair in
    let off : is_over_on port (guest_views gs) ≡ false = over_here guest_view gs port c.at.result.now lt c.at.ensures.value ∙ sym c.is_over.ensures.over ∙ c.if-not-is_over.true in
    record { closes = subst (λ (b : Bool). ClosesBy b port (guest_views gs) (guest_views c.close.new.guests)) (sym off) c.in_ok-close.ensures.closes; paired = c.in_ok-close.ensures.paired }

pub returns-else-not-is_over : goal.returns-else-not-is_over
returns-else-not-is_over g c =
    let gs = c.args.guests.now in let port = c.args.port in let lt = port_below guest_view gs port _ _ c.requires.pair in
    let on : is_over_on port (guest_views gs) ≡ true = over_here guest_view gs port c.at.result.now lt c.at.ensures.value ∙ sym c.is_over.ensures.over ∙ c.if-not-is_over.false in
    record { closes = subst (λ (b : Bool). ClosesBy b port (guest_views gs) (guest_views gs)) (sym on) refl; paired = λ all. all }
