use Rattle.std.proofs.Common.{rules}
use Rattle.vmx_rx_ends.proofs.Begins.{begins, wide_some}
use Rattle.vmx_rx_ring.proofs.Parts.{parts}
use Rattle.vmx_rx_ends.proofs.life.make_ends.Goals as goal

pub split_seat-other-requires : goal.split_seat-other-requires
split_seat-other-requires g c = (search rules, wide_some g.C.TellsVisible.counted c.args.shape _ c.requires.shape (search rules), parts g.C.TellsVisible.counted _ _ (search rules) (search rules) (search rules) (search rules))

pub new-requires : goal.new-requires
new-requires g c = begins g.C.TellsVisible.counted c.args.shape c.as_slice.result.now c.in_ok-buffers.buffers.items c.requires.shape (search rules) (search rules) (search rules)
