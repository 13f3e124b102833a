use Rattle.vmx_note_laws.proofs.Links.{passes_told_link}
use Rattle.vmx_note_laws.proofs.laws.link_ends_are_told.Goals as goal

pub returns : goal.returns
returns c = record { passes = passes_told_link }
