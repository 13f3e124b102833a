use Rattle.std.proofs.Common.{rules}
use Rattle.vmx_lists.proofs.RxParts.{gives_driver}
use Rattle.vmx_lists.proofs.rx.driver.ListRxDriverRxDriver.note.Goals as goal

pub split_seat-requires : goal.split_seat-requires
split_seat-requires c = let me = c.args.self.now in (search rules, search rules, gives_driver _ _ me.rests.0 me.rests.1 me.rests.2)
