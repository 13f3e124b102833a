use Rattle.std.proofs.Common.{rules, ap, refl, ℕ, ◌+◌}
use Rattle.vmx_lists.proofs.TxSteps.{device_stores}
use Rattle.vmx_lists.proofs.tx.device.ListTxDeviceTxDevice.complete.Goals as goal

pub store-requires : goal.store-requires
store-requires c = let me = c.args.self.now in (search rules, search rules, device_stores _ _ _ _ _ me.rests.0 me.rests.1 me.rests.2 c.requires.taken refl (ap (λ (z : ℕ). z + 1) me.counts.1))
