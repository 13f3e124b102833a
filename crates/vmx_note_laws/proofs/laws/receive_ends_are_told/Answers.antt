use Rattle.vmx_note_laws.specs.Queues.{IsBehindRx, IsToldRx, PassesRx, GoesOnRxDriver, GoesOnRxDevice}
use Rattle.vmx_note_laws.proofs.Each.{each_passes, each_goes_on}
use Rattle.vmx_note_laws.proofs.Queues.{both_rx, passes_told_rx, goes_on_rx}
use Rattle.vmx_note_laws.proofs.laws.receive_ends_are_told.Goals as goal

pub returns : goal.returns
returns c = record {
  both = both_rx;
  passes = each_passes IsBehindRx IsToldRx PassesRx passes_told_rx;
  on = each_goes_on IsToldRx IsBehindRx GoesOnRxDriver GoesOnRxDevice goes_on_rx;
}
