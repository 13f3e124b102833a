use Rattle.std.proofs.Common.{true≢false, sym}
use Rattle.vmx_tx_counted.proofs.ends.device.RingTxDeviceTxDevice.take.Goals as goal

pub returns-clause-grows : goal.returns-clause-grows
returns-clause-grows c = (c.take.ensures.grows.0, c.take.ensures.grows.1, (λ e. absurd (true≢false (sym e))))
