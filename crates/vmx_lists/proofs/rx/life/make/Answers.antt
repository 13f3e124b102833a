use Rattle.std.proofs.Common.{rules}
use Rattle.vmx_lists.proofs.RxParts.{begins, parts}
use Rattle.vmx_lists.proofs.rx.life.make.Goals as goal

pub split_seat-other-requires : goal.split_seat-other-requires
split_seat-other-requires c = (search rules, search rules, parts _ _ (search rules) (search rules) (search rules) (search rules))

pub new-requires : goal.new-requires
new-requires c = begins c.args.shape c.in_ok-parcels.parcels.items c.requires.sizes.0 (search rules)
