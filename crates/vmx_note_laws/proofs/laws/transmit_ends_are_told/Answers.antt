use Rattle.vmx_note_laws.specs.Queues.{AreOneTx, IsToldTx, PassesTx}
use Rattle.vmx_note_laws.proofs.Each.{each_passes}
use Rattle.vmx_note_laws.proofs.Queues.{both_tx, passes_told_tx}
use Rattle.vmx_note_laws.proofs.laws.transmit_ends_are_told.Goals as goal

pub returns : goal.returns
returns c = record { both = both_tx; passes = each_passes AreOneTx IsToldTx PassesTx passes_told_tx }
