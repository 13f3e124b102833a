use Rattle.std.proofs.Common.{rules}
use Rattle.vmx_lists.proofs.TxCounts.{piece_some}
use Rattle.vmx_lists.proofs.TxParts.{begins, cut}
use Rattle.vmx_lists.proofs.tx.life.make.Goals as goal

pub split_seat-other-requires : goal.split_seat-other-requires
split_seat-other-requires c = (search rules, search rules, cut _ _ (search rules) (search rules) (search rules) (search rules))

pub new-requires : goal.new-requires
new-requires c = begins c.args.made c.in_ok-parcels.parcels.items c.requires.size.0 (piece_some c.args.made c.requires.piece.0) (search rules) c.requires.full
