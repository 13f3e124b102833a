use Rattle.std.proofs.Common.{◌≡◌, length, map}
use Rattle.vmx_driver_ends.specs.PassUpTo.{PassUpTo}
use Rattle.vmx_driver_ends.proofs.ends.pass_all_tx.Given as goal

abbrev pub invariant-loop-q : goal.invariant-loop-q
invariant-loop-q g l = let d = g.F.TxDriver.TxDriver.view in let e = g.F.TxDevice.TxDevice.view in record {
  count : length l.tx ≡ length l.fn.tx;
  others : length l.held ≡ length l.tx;
  passed : PassUpTo l.q (map d l.fn.tx) (map e l.fn.held) (map d l.tx) (map e l.held);
}
