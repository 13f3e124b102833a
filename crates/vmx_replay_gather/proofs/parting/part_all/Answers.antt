use Rattle.std.proofs.Common.{ap, subst}
use Rattle.vmx_replay_chains.specs.Views.{guest_view}
use Rattle.vmx_replay_gather.specs.Ending.{EndedView, HaveEnded}
use Rattle.vmx_replay_gather.proofs.Parted.{may_part, parted_none}
use Rattle.vmx_replay_gather.proofs.parting.part_all.Goals as goal

pub loop-next-init : goal.loop-next-init
loop-next-init g c =
    let v = c.args.ended in
    parted_none guest_view v.guests c.ended.inside.guests c.new-guests.result c.new-out.result c.new-input.result (ap (λ (x : EndedView). x.guests) c.ended.view_is)
    (may_part v.plan v.guests (subst (λ (x : EndedView). HaveEnded x.plan x.guests) c.ended.view_is c.ended.invariant)) c.new-guests.ensures.empty c.new-out.ensures.empty c.new-input.ensures.empty
