use Rattle.vmx_note_laws.proofs.Registers.{passes_told, passes_same}
use Rattle.vmx_note_laws.proofs.laws.registers_are_told.Goals as goal

pub returns : goal.returns
returns c = record { passes = passes_told; same = passes_same }
