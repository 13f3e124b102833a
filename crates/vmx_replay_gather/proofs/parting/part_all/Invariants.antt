use Rattle.std.proofs.Common.{length, map}
use Rattle.vmx_replay_chains.specs.Views.{guest_views}
use Rattle.vmx_replay_start.specs.Linking.{outs_view, ins_view}
use Rattle.vmx_replay_gather.proofs.Parted.{PartedSo}
use Rattle.vmx_replay_gather.proofs.parting.part_all.Given as goal

abbrev pub invariant-loop-next : goal.invariant-loop-next
invariant-loop-next g l = PartedSo l.fn.ended.guests (guest_views l.left) l.guests (outs_view l.out) (map ins_view l.input)

abbrev pub decreases-loop-next : goal.decreases-loop-next
decreases-loop-next g l = length l.left
