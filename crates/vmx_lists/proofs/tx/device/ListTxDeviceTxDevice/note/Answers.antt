use Rattle.std.proofs.Common.{rules}
use Rattle.vmx_lists.proofs.TxParts.{gives_device}
use Rattle.vmx_lists.proofs.tx.device.ListTxDeviceTxDevice.note.Goals as goal

pub split_seat-requires : goal.split_seat-requires
split_seat-requires c = let me = c.args.self.now in (search rules, search rules, gives_device _ _ me.rests.0 me.rests.1)
