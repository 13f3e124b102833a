use Rattle.std.proofs.Common.{◌≡◌, length, map}
use Rattle.vmx_driver_ends.specs.PassUpToRx.{PassUpToRx}
use Rattle.vmx_driver_ends.proofs.ends.pass_all_rx.Given as goal

abbrev pub invariant-loop-q : goal.invariant-loop-q
invariant-loop-q g l = let d = g.F.RxDriver.RxDriver.view in let e = g.F.RxDevice.RxDevice.view in record {
  count : length l.rx ≡ length l.fn.rx;
  others : length l.held ≡ length l.rx;
  passed : PassUpToRx l.q (map d l.fn.rx) (map e l.fn.held) (map d l.rx) (map e l.held);
}
